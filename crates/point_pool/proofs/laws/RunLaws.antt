-- Laws of a run of entries: it is passed as a whole with the row of its list, and where all is right the next row is that of the next entry.
-- Assumes nothing.
use Rattle.basics.specs.Words.{ℕ, zero, suc, ◌+◌, ◌-◌, ◌<◌, ◌≤◌, ◌≡◌, refl, sym, ap, ◌∙◌, subst, List, ⊎_elim, ℤ, pos, negsuc, arith}
use lib.Signed.{mag}
use lib.Ieee.{Float}
use Rattle.cells.specs.declared.Cell.{Cell}
use Rattle.cells.specs.Inner.Numbers.{Near}
use Rattle.cells.proofs.laws.Numbers.{near_fits}
use Rattle.cells.proofs.laws.CellRuleLaws.{cell-near}
use Rattle.cells.proofs.laws.ReachLaws.{position_reached}
use Rattle.cells.specs.Meaning.Key.{upward, key_of}
use Rattle.cells.specs.Inner.Key.{cell_of_key}
use Rattle.cells.proofs.laws.KeyLaws.{cell-key, key-cell}
use Rattle.storage.specs.Meaning.Packed.{first, second}
use Rattle.point_records.specs.Meaning.Columns.{record_at}
use Rattle.point_pool.proofs.laws.Pass.{Step, stays, steps, Turn}
use Rattle.point_pool.specs.Inner.Pass.{Marked, Here, Run, Passes}
use Rattle.point_pool.proofs.laws.PassLaws.{below_or, Met, met_next, met-short, Passed, passed-more}

-- ---- the key of a cell near 0 is not 0
upward-some : (z : ℤ) → mag z ≤ 4194304 → 0 < upward z
upward-some (pos n) h = omega arith
upward-some (negsuc n) h = omega arith

key-some : (c : Cell) → Near c → 0 < key_of c
unfolding key_of
key-some c n = omega (arith, upward-some c.x n.x)

module _ (nums : List (List ℕ)) (reals : List (List Float)) (ints : List (List ℤ)) (pool : List (List ℕ)) (spots : List (List Float)) (cells : List (List ℕ)) (size : ℕ) where
  abbrev In : ℕ → ℕ → Type 0
  In r j = Here nums reals ints pool spots size (first cells r) (second cells r) j

  -- ---- a run is passed
  turn_of : (rows r i c m : ℕ) → In r i → r ≡ m - 1 → Step cells rows c (first pool i) m → Turn nums reals ints pool spots cells size rows i c m
  turn_of rows r i c m h e s =
      let w = h.right in
      record {
        fits = record { inside = w.inside; occupied = w.occupied; is_key = h.is_key ∙ sym (key-cell (first cells r)) ∙ ap key_of (sym w.is_cell); at = w.at; number-x = w.number-x; number-y = w.number-y };
        whole = w.whole;
        step = s;
        marked = subst (Marked nums cells (second pool i)) e w.marked;
      }

  module _ (used rows j r e : ℕ) (v : Passed nums reals ints pool spots cells size rows j r) (up : 0 < r → first cells (r - 1) < first cells r) (l : r < rows) (k : second cells r ≤ 1) (u : Run nums reals ints pool spots size used (first cells r) (second cells r) j e) where
    one_more : (n : ℕ) → j + 1 + n ≤ e → Passed nums reals ints pool spots cells size rows (j + 1 + n) (r + 1)
    one_more zero h =
        let i = u.each j (omega arith) (omega arith) in
        subst (λ (a : ℕ). Passed nums reals ints pool spots cells size rows a (r + 1)) (go j)
        (passed-more nums reals ints pool spots cells size rows j r (r + 1) v
        (turn_of rows r j r (r + 1) i (omega arith) (steps refl (λ p. subst (λ (a : ℕ). first cells (r - 1) < a) (sym i.is_key) (up p)) l (sym i.is_key) k)) i.fresh)
      where
        go : (j : ℕ) → j + 1 ≡ j + 1 + 0
        go j = omega arith
    one_more (suc n) h =
        let i = u.each (j + 1 + n) (omega arith) (omega arith) in
        let f : r + 1 - 1 ≡ r = omega arith in
        subst (λ (a : ℕ). Passed nums reals ints pool spots cells size rows a (r + 1)) (go j n)
        (passed-more nums reals ints pool spots cells size rows (j + 1 + n) (r + 1) (r + 1) (one_more n (omega arith))
        (turn_of rows r (j + 1 + n) (r + 1) (r + 1) i (omega arith) (stays refl (omega arith) (ap (first cells) f ∙ sym i.is_key))) i.fresh)
      where
        go : (j n : ℕ) → j + 1 + n + 1 ≡ j + 1 + suc n
        go j n = omega arith

    pub passed-run : j < e → Passed nums reals ints pool spots cells size rows e (r + 1)
    passed-run h = subst (λ (a : ℕ). Passed nums reals ints pool spots cells size rows a (r + 1)) (go j e h) (one_more (e - (j + 1)) (omega arith))
      where
        go : (j e : ℕ) → j < e → j + 1 + (e - (j + 1)) ≡ e
        go j e h = omega arith

  -- ---- where all is right, an entry is right in the list of its row
  module _ (used rows : ℕ) (t : Passes nums reals ints pool spots cells size used rows) where
    cell_is_near : (j : ℕ) → j < used → Near (record_at nums reals ints (second pool j)).cell
    cell_is_near j h =
        let o = (t.whole j h).occupied in
        let r = record_at nums reals ints (second pool j) in
        subst Near o.in_cell (cell-near size r.position (position_reached r.position o.within_domain))

    -- no row has the key 0
    pub row-some : (r : ℕ) → r < rows → 0 < first cells r
    row-some r l = let (j, h, e) = t.packed.has_list r l in subst (λ (k : ℕ). 0 < k) (sym (t.each j h).is_key ∙ e) (key-some (record_at nums reals ints (second pool j)).cell (cell_is_near j h))

    pub in_of : (j : ℕ) → j < used → (r : ℕ) → r < rows → first cells r ≡ first pool j → In r j
    in_of j h r l e =
        let f = t.each j h in
        record {
          is_key = sym e;
          right = record {
            inside = f.inside;
            occupied = f.occupied;
            is_cell = sym (ap cell_of_key (e ∙ f.is_key) ∙ cell-key (record_at nums reals ints (second pool j)).cell (near_fits _ (cell_is_near j h)));
            at = f.at;
            number-x = f.number-x;
            number-y = f.number-y;
            whole = t.whole j h;
            marked = t.marked j h r l e;
          };
          fresh = λ i g. t.once i j h g;
        }

    module _ (j r : ℕ) (v : Passed nums reals ints pool spots cells size rows j r) (stop : 0 < r → j < used → In (r - 1) j → ⊥) where
      -- the next row is that of the next entry
      pub next_row : j < used → (r < rows) × (first cells r ≡ first pool j)
      next_row h = go (met_next pool cells used rows t.packed j r h v.met).1
        where
          go : {m : ℕ} → Step cells rows r (first pool j) m → (r < rows) × (first cells r ≡ first pool j)
          go (stays e p q) = absurd (stop p h (in_of j h (r - 1) (omega (arith, v.met.most)) q))
          go (steps e p l q k) = (l, q)

      -- a row that is left has an entry that is left
      pub next-entry : j ≤ used → r < rows → (j < used) × In r j
      next-entry g l = ⊎_elim (λ h. (h, in_of j h r l (next_row h).1)) (λ h. absurd (met-short pool cells used rows t.packed r (λ e. omega arith) (subst (λ (a : ℕ). Met pool cells rows a r) (go g h) v.met))) (below_or j used)
        where
          go : j ≤ used → used ≤ j → j ≡ used
          go a b = omega arith
