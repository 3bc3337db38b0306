-- The head words of the map with other counts: size, bits and length stay. Assumes nothing.
use Rattle.basics.specs.Words.{ℕ, ◌+◌, ◌/◌, ◌≤◌, ◌≡◌, ◌∙◌, List, length, get_or, set, length-set, get_or-set_same, get_or-set_other, arith}
use Rattle.slots.specs.Meaning.Map.{head, usable}
use Rattle.slots.specs.Meaning.Slot.{SlotsHold}
use Rattle.point_tables.specs.Meaning.Tables.{counting}

module _ (m : List ℕ) (used rows : ℕ) (h : head ≤ length m) where
  pub counted-used : get_or (counting m used rows) 1 0 ≡ used
  counted-used = get_or-set_other (set m 1 used) 2 1 rows 0 (λ e. omega arith) ∙ get_or-set_same m 1 used 0 (omega arith)

  pub counted-rows : get_or (counting m used rows) 2 0 ≡ rows
  counted-rows = get_or-set_same (set m 1 used) 2 rows 0 (rw length-set (omega arith))

  pub counted-size : get_or (counting m used rows) 0 0 ≡ get_or m 0 0
  counted-size = get_or-set_other (set m 1 used) 2 0 rows 0 (λ e. omega arith) ∙ get_or-set_other m 1 0 used 0 (λ e. omega arith)

  pub counted-usable : (s : ℕ) → usable (counting m used rows) s ≡ usable m s
  counted-usable s = rw (get_or-set_other (set m 1 used) 2 (head + s / 64) rows 0 (λ e. omega arith), get_or-set_other m 1 (head + s / 64) used 0 (λ e. omega arith))

  pub counted-length : length (counting m used rows) ≡ length m
  counted-length = simp length-set

  -- the slots hold as before: their bits are the same
  pub counted-slots : (nums : List (List ℕ)) → SlotsHold nums m → SlotsHold nums (counting m used rows)
  counted-slots nums s = record { each = λ i l. rw (counted-usable i) (s.each i l); past = λ i l g. counted-usable i ∙ s.past i l g }
