-- How the pass goes on, list by list: what the lists passed keep is laid, and the lists ahead are where they were. Assumes nothing.
use Rattle.basics.specs.Words.{ℕ, ◌+◌, ◌-◌, ◌<◌, ◌≤◌, ◌≡◌, refl, sym, ap, ◌∙◌, Bool, List, [], ◌++◌, length, get_or, length-append, take_all, eqb, arith}
use lib.Ieee.{Float}
use Rattle.storage.specs.Meaning.Packed.{first, second}
use Rattle.storage.specs.Inner.Pooled.{Columns}
use Rattle.point_tables.specs.Meaning.Tables.{Tables, used_of, rows_of}
use Rattle.point_tables.specs.Meaning.Holds.{Holds}
use Rattle.point_maintain.specs.Meaning.Maintain.{cell_keys}
use Rattle.point_maintain.specs.Inner.Closed.{joined, kept_under, kept_entries}
use Rattle.point_maintain.proofs.laws.SweepLaws.{list_under}
use Rattle.storage.specs.Inner.Run.{ListEnd}
use Rattle.point_maintain_lists.proofs.laws.RunLaws.{run-same, stretch_one}
use Rattle.point_maintain_lists.specs.Inner.Laid.{Room, Slotted, Laid, list_at, kept_if}
use Rattle.point_maintain_lists.proofs.laws.LaidLaws.{laid-rows, laid-spots, laid-row, laid-entry, laid-entries, laid_over}
use Rattle.point_maintain_lists.proofs.laws.ListLaws.{passed, kept_to, list_of, keys_length, next-joined, list_stretch, list_run, kept_here}
use Rattle.point_tables.proofs.laws.HoldsLaws.{used_in_pool, used_in_spots}
use Rattle.point_tables.specs.Inner.Entry.{entry_at}

-- the first r lists were gone over: they end at place from, and what they keep ends at place w
pub record Sweeping (t : Tables) (r from w : ℕ) (pool : List (List ℕ)) (spots : List (List Float)) : Type 0 where
  pub rows : r ≤ rows_of t
  pub low : w ≤ from
  pub within : from ≤ used_of t
  pub ends : from ≡ length (passed t r)
  pub count : w ≡ length (kept_to t r)
  pub columns : Columns (kept_to t r) t.pool t.spots pool spots

pub sweeping_start : (t : Tables) → Sweeping t 0 0 0 t.pool t.spots
sweeping_start t = record { rows = omega arith; low = omega arith; within = omega arith; ends = refl; count = refl; columns = record { in_rows = refl; in_spots = refl } }

module _ {t : Tables} (h : Holds t) {r from w : ℕ} {pool : List (List ℕ)} {spots : List (List Float)} (k : Sweeping t r from w pool spots) where
  pub sweeping_rows : length pool ≡ length t.pool
  sweeping_rows = laid-rows k.columns (omega (arith, k, used_in_pool t h))

  pub sweeping_spots : length spots ≡ length t.spots
  sweeping_spots = laid-spots k.columns (omega (arith, k, used_in_spots t h))

  -- the lists ahead are where they were
  ahead : (j : ℕ) → from ≤ j → get_or pool j [] ≡ get_or t.pool j []
  ahead j g = laid-row k.columns j (omega (arith, k))

  -- ---- the next list, up to where its key goes
  module _ (l : r < rows_of t) {to : ℕ} (s : ListEnd pool from (used_of t) (first t.cells r) to) where
    as_before : ListEnd t.pool (length (passed t r)) (used_of t) (first t.cells r) to
    as_before =
        let here : ListEnd t.pool from (used_of t) (first t.cells r) to =
        record {
          onward = s.onward;
          within = s.within;
          same = λ j a b. ap (λ (row : List ℕ). get_or row 0 0) (sym (ahead j a)) ∙ s.same j a b;
          stops = λ a e. s.stops a (ap (λ (row : List ℕ). get_or row 0 0) (ahead to s.onward) ∙ e);
        }
        in
        rw k.ends at here

    list_ends : to ≡ length (passed t r) + length (list_of t r)
    list_ends = stretch_one t.pool (length (passed t r)) (used_of t) (first t.cells r) to (length (passed t r) + length (list_of t r)) as_before (list_stretch t h r l)

    list_there : list_at pool spots from to ≡ list_of t r
    list_there =
        run-same (entry_at pool spots) (entry_at t.pool t.spots) from (to - from) (λ j a b. laid-entry k.columns j (omega (arith, a, k)))
        ∙ (λ z. list_at t.pool t.spots (k.ends z) (list_ends z))
        ∙ list_run t h r l

    pub sweeping_room : Room pool spots from to w
    sweeping_room = record { low = k.low; ends = s.onward; in_pool = omega (arith, s, sweeping_rows, used_in_pool t h); in_spots = omega (arith, s, sweeping_spots, used_in_spots t h) }

    pub sweeping_slots : Slotted t.nums t.reals pool from to
    sweeping_slots =
        record {
          inside = λ j a b. rw (ahead j a) (h.lists.each j (omega (arith, b, s))).inside;
          as_many = h.sized.of_reals;
        }

    -- the list is gone over
    pub sweeping_turn : (dirty : Bool) → dirty ≡ eqb (second t.cells r) 1 → {w' : ℕ} {pool' : List (List ℕ)} {spots' : List (List Float)}
        → Laid (kept_if dirty t.nums t.reals (list_at pool spots from to)) pool spots w to w' pool' spots' → Sweeping t (r + 1) to w' pool' spots'
    sweeping_turn dirty e m =
        let part : kept_if dirty t.nums t.reals (list_at pool spots from to) ≡ kept_under t (first t.cells r) = ap (kept_if dirty t.nums t.reals) list_there ∙ kept_here t h r l dirty e in
        let laid : Columns (kept_to t r) t.pool t.spots pool spots = k.columns in
        let next : kept_to t (r + 1) ≡ kept_to t r ++ kept_under t (first t.cells r) = next-joined t h r l (kept_under t) in
        record {
          rows = omega arith;
          low = m.low;
          within = s.within;
          ends = list_ends ∙ sym (ap length (next-joined t h r l (list_under t)) ∙ length-append (passed t r) (list_of t r));
          count = m.count ∙ (λ z. k.count z + length (part z)) ∙ sym (ap length next ∙ length-append (kept_to t r) (kept_under t (first t.cells r)));
          columns = rw next
              (laid_over laid (kept_under t (first t.cells r))
              (rw (part, laid-entries laid w k.count) at m.columns));
        }

  -- ---- all the lists
  pub sweeping_done : rows_of t ≤ r → (w ≡ length (kept_entries t)) × Columns (kept_entries t) t.pool t.spots pool spots
  unfolding kept_entries
  sweeping_done g =
      let all : kept_to t r ≡ joined (kept_under t) (cell_keys t) = ap (joined (kept_under t)) (take_all r (cell_keys t) (omega (arith, keys_length t h))) in
      (k.count ∙ ap length all, rw all at k.columns)
