-- How many slots are live, and how a call that changes one row changes that. Assumes nothing.
use Rattle.basics.specs.Words.{ℕ, zero, suc, ◌+◌, ◌<◌, ◌≡◌, refl, ap, List, length, get_or, set, length-set, eqb, arith, eq-eqb, ne_eqb}
use Rattle.basics.specs.Inner.Counting.{one, count_below}
use Rattle.slots.specs.Meaning.Slot.{live, phase_at}
use Rattle.slots.proofs.laws.Slot.{in_phase}
use Rattle.slots.proofs.laws.CountLaws.{in_phase_set}
use Rattle.box_tables.specs.Meaning.Tables.{Tables, slots_of}
use Rattle.slot_walks.proofs.laws.Live.{live_at}

unfoldable pub live_count : Tables → ℕ
live_count t = count_below (live_at t.nums) (slots_of t)

in_phase_lem : (nums : List (List ℕ)) (k : ℕ) → count_below (live_at nums) k ≡ in_phase live nums k
unfolding count_below in_phase
in_phase_lem nums zero = refl
in_phase_lem nums (suc k) = ap (λ (n : ℕ). n + one (live_at nums k)) (in_phase_lem nums k)

-- the row of slot s becomes another
module _ (t : Tables) (s : ℕ) (inside : s < slots_of t) (row : List ℕ) (u : Tables) (e : u.nums ≡ set t.nums s row) where
  row_count : live_count u + one (live_at t.nums s) ≡ live_count t + one (eqb (get_or row 1 0) live)
  unfolding live_count
  row_count =
      rw (e, length-set t.nums s row, in_phase_lem (set t.nums s row) (length t.nums), in_phase_lem t.nums (length t.nums))
      (in_phase_set live t.nums s row inside (length t.nums) inside)

module _ (t : Tables) (s : ℕ) (inside : s < slots_of t) where
  -- a slot that was not live comes alive
  pub live_more : (phase_at t.nums s ≡ live → ⊥) → (row : List ℕ) → get_or row 1 0 ≡ live → (u : Tables) → u.nums ≡ set t.nums s row → live_count u ≡ live_count t + 1
  live_more n row l u e = omega (arith, row_count t s inside row u e, ap one (ne_eqb (phase_at t.nums s) live n), ap one (eq-eqb (get_or row 1 0) live l))

  -- a live slot is so no more
  pub live_less : phase_at t.nums s ≡ live → (row : List ℕ) → (get_or row 1 0 ≡ live → ⊥) → (u : Tables) → u.nums ≡ set t.nums s row → live_count u + 1 ≡ live_count t
  live_less p row n u e = omega (arith, row_count t s inside row u e, ap one (eq-eqb (phase_at t.nums s) live p), ap one (ne_eqb (get_or row 1 0) live n))
