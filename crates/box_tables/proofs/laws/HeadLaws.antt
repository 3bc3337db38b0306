-- The map with another number of entries in use: size, bits and length stay. Assumes nothing.
use Rattle.basics.specs.Words.{ℕ, ◌+◌, ◌/◌, ◌≤◌, ◌≡◌, ◌∙◌, List, length, get_or, length-set, get_or-set_same, get_or-set_other, arith}
use Rattle.slots.specs.Meaning.Map.{head, usable}
use Rattle.slots.specs.Meaning.Slot.{SlotsHold}
use Rattle.box_tables.specs.Meaning.Tables.{counting}

module _ (m : List ℕ) (used : ℕ) where
  pub counted-used : head ≤ length m → get_or (counting m used) 1 0 ≡ used
  counted-used h = get_or-set_same m 1 used 0 (omega arith)

  pub counted-size : get_or (counting m used) 0 0 ≡ get_or m 0 0
  counted-size = get_or-set_other m 1 0 used 0 (λ e. omega arith)

  pub counted-length : length (counting m used) ≡ length m
  counted-length = length-set m 1 used

  counted-usable : (s : ℕ) → usable (counting m used) s ≡ usable m s
  counted-usable s = rw (get_or-set_other m 1 (head + s / 64) used 0 (λ e. omega arith))

  -- the slots hold as before: their bits are the same
  pub counted-slots : (nums : List (List ℕ)) → SlotsHold nums m → SlotsHold nums (counting m used)
  counted-slots nums s = record { each = λ i l. rw (counted-usable i) (s.each i l); past = λ i l g. counted-usable i ∙ s.past i l g }
