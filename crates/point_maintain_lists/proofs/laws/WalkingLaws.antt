-- How the walk of one list goes on, entry by entry: what was kept so far is laid, and the rest is still where it was. Assumes nothing.
use Rattle.basics.specs.Words.{ℕ, suc, ◌+◌, ◌-◌, ◌<◌, ◌≤◌, ◌≡◌, sym, ap, ◌∙◌, List, [], ◌∷◌, ◌++◌, append-nil, append_assoc, length, set, length-append, arith}
use lib.Ieee.{Float}
use Rattle.storage.specs.Meaning.Entries.{Entry, entry, entries_of}
use Rattle.storage.specs.Inner.Pooled.{Columns}
use Rattle.point_tables.proofs.laws.EntryLaws.{entries-length}
use Rattle.point_tables.specs.Inner.Entry.{entry_at}
use Rattle.point_maintain.specs.Meaning.Walk.{Fate, stays, leaves, staying, rest}
use Rattle.point_maintain.specs.Inner.Kept.{kept}
use Rattle.point_maintain.proofs.laws.KeptLaws.{kept_step}
use Rattle.point_maintain_lists.specs.Inner.Runs.{run}
use Rattle.point_maintain_lists.proofs.laws.Runs.{run_led_by}
use Rattle.point_maintain_lists.proofs.laws.RunLaws.{run-held, run-close}
use Rattle.point_maintain_lists.specs.Inner.Laid.{Room, Laid, list_at}
use Rattle.point_maintain_lists.proofs.laws.LaidLaws.{laid_next, laid-rows, laid-spots, laid-entry, laid_start}

-- one entry more, or the last into the gap: n entries are left, the first of them stands at p, the others behind place i
module _ (f : Entry → Fate) (at : ℕ → Entry) (p i : ℕ) where
  pub held_stays : (n : ℕ) (x : Entry) → f (at p) ≡ stays x → kept f (run_led_by at p i (suc n)) ≡ x ∷ kept f (run_led_by at (suc i) (suc i) n)
  held_stays n x e =
      kept_step f (at p) (run at (suc i) n)
      ∙ ap (λ (g : Fate). staying g ++ kept f (rest g (run at (suc i) n))) e
      ∙ ap (λ (l : List Entry). x ∷ kept f l) (sym (run-held at (suc i) n))

  pub held-leaves : (n : ℕ) (m : List Entry) → f (at p) ≡ leaves m → kept f (run_led_by at p i (suc n)) ≡ kept f (run_led_by at (i + n) i n)
  held-leaves n m e =
      kept_step f (at p) (run at (suc i) n)
      ∙ ap (λ (g : Fate). staying g ++ kept f (rest g (run at (suc i) n))) e
      ∙ ap (kept f) (run-close at i n)

-- the walk of the list at from..to of the columns P and S, laid from place w₀ on: it looks at place p, and has come to place i and to w
pub record Walking (f : Entry → Fate) (P : List (List ℕ)) (S : List (List Float)) (from to w₀ p i end w : ℕ) (pool : List (List ℕ)) (spots : List (List Float)) : Type 0 where
  pub so_far : List Entry
  pub goes_on : so_far ++ kept f (run_led_by (entry_at P S) p i (end - i)) ≡ kept f (list_at P S from to)
  pub columns : Columns (entries_of P S w₀ ++ so_far) P S pool spots
  pub count : w ≡ w₀ + length so_far
  pub low : w ≤ i
  pub begun : from ≤ i
  pub onward : i ≤ p
  pub before : i ≤ end
  pub within : end ≤ to
  pub inside : i < end → p < to

module _ {f : Entry → Fate} {P : List (List ℕ)} {S : List (List Float)} {from to w₀ : ℕ} (room : Room P S from to w₀) where
  pub walking_start : Walking f P S from to w₀ from from to w₀ P S
  walking_start =
      record {
        so_far = [];
        goes_on = ap (kept f) (run-held (entry_at P S) from (to - from));
        columns = rw (append-nil (entries_of P S w₀)) (laid_start P S w₀ (omega (arith, room)) (omega (arith, room)));
        count = omega arith;
        low = room.low;
        begun = omega arith;
        onward = omega arith;
        before = room.ends;
        within = omega arith;
        inside = λ h. h;
      }

  module _ {p i end w : ℕ} {pool : List (List ℕ)} {spots : List (List Float)} (k : Walking f P S from to w₀ p i end w pool spots) where
    laid-length : length (entries_of P S w₀ ++ k.so_far) ≡ w
    laid-length = length-append (entries_of P S w₀) k.so_far ∙ omega (arith, entries-length P S w₀ (omega (arith, room, k)) (omega (arith, room, k)), k.count)

    pub walking_rows : length pool ≡ length P
    walking_rows = laid-rows k.columns (omega (arith, laid-length, room, k))

    pub walking_spots : length spots ≡ length S
    walking_spots = laid-spots k.columns (omega (arith, laid-length, room, k))

    -- what is looked at is where it was
    pub walking_entry : entry_at pool spots p ≡ entry_at P S p
    walking_entry = laid-entry k.columns p (omega (arith, laid-length, k))

    module _ (h : i < end) where
      more : end - i ≡ suc (end - i - 1)
      more = omega arith

      pub walking_stays : (row : List ℕ) (spot : List Float) → f (entry_at pool spots p) ≡ stays (entry row spot) → Walking f P S from to w₀ (i + 1) (i + 1) end (w + 1) (set pool w row) (set spots w spot)
      walking_stays row spot e =
          let x : Entry = entry row spot in
          let q : f (entry_at P S p) ≡ stays x = ap f (sym walking_entry) ∙ e in
          let one : end - i - 1 ≡ end - (i + 1) = omega arith in
          let s : suc i ≡ i + 1 = omega arith in
          record {
            so_far = k.so_far ++ (x ∷ []);
            goes_on = append_assoc k.so_far (x ∷ []) _
                ∙ ap (λ (l : List Entry). k.so_far ++ l)
                (sym (ap (λ (n : ℕ). kept f (run_led_by (entry_at P S) p i n)) more ∙ held_stays f (entry_at P S) p i (end - i - 1) x q ∙ (λ z. x ∷ kept f (run_led_by (entry_at P S) (s z) (s z) (one z)))))
                ∙ k.goes_on;
            columns = rw (append_assoc (entries_of P S w₀) k.so_far (x ∷ [])) at
                (laid_next k.columns row spot w (sym laid-length) (omega (arith, room, k)) (omega (arith, room, k)));
            count = ap (λ (n : ℕ). n + 1) k.count ∙ omega (arith, length-append k.so_far (x ∷ []));
            low = omega (arith, k);
            begun = omega (arith, k);
            onward = omega arith;
            before = omega arith;
            within = k.within;
            inside = λ g. omega (arith, g, k);
          }

      pub walking_leaves : (m : List Entry) → f (entry_at pool spots p) ≡ leaves m → Walking f P S from to w₀ (end - 1) i (end - 1) w pool spots
      walking_leaves m e =
          let q : f (entry_at P S p) ≡ leaves m = ap f (sym walking_entry) ∙ e in
          let one : end - i - 1 ≡ end - 1 - i = omega arith in
          let s : i + (end - i - 1) ≡ end - 1 = omega arith in
          record {
            so_far = k.so_far;
            goes_on = ap (λ (l : List Entry). k.so_far ++ l)
                (sym (ap (λ (n : ℕ). kept f (run_led_by (entry_at P S) p i n)) more ∙ held-leaves f (entry_at P S) p i (end - i - 1) m q ∙ (λ z. kept f (run_led_by (entry_at P S) (s z) i (one z)))))
                ∙ k.goes_on;
            columns = k.columns;
            count = k.count;
            low = k.low;
            begun = k.begun;
            onward = omega arith;
            before = omega arith;
            within = omega (arith, k);
            inside = λ g. omega (arith, g, k);
          }

    -- nothing is left
    pub walking_done : end ≤ i → Laid (kept f (list_at P S from to)) P S w₀ to w pool spots
    unfolding kept
    walking_done h =
        let none : end - i ≡ 0 = omega arith in
        let all : k.so_far ≡ kept f (list_at P S from to) = sym (append-nil k.so_far) ∙ ap (λ (n : ℕ). k.so_far ++ kept f (run_led_by (entry_at P S) p i n)) (sym none) ∙ k.goes_on in
        record {
          count = k.count ∙ ap (λ (l : List Entry). w₀ + length l) all;
          low = omega (arith, k);
          columns = rw (← all) k.columns;
        }
