-- The counts come from the tags of the live rows and their positions, and are at most the number of slots. Assumes nothing.
use Rattle.basics.specs.Words.{ℕ, zero, suc, ◌+◌, ◌≤◌, ◌≡◌, refl, ap, ap₂, Bool, true, false, List, [], get_or, eqb, ℤ, arith}
use lib.Ieee.{Float}
use Rattle.basics.specs.Meaning.Refusals.{pick}
use Rattle.geometry.specs.declared.Position.{Position}
use Rattle.cells.specs.declared.Cell.{Cell}
use Rattle.slots.specs.Meaning.Slot.{live, phase_at}
use Rattle.point_records.specs.declared.State.{State}
use Rattle.point_records.specs.declared.State.TheVariants.{Unchanged, NewPos, Relocate, Removed}
use Rattle.point_records.specs.declared.Record.{Record}
use Rattle.point_records.specs.Meaning.Columns.{pick_state, state_of, position_in, record_of}
use Rattle.point_records.specs.Meaning.Word.{tag_in}
use Rattle.point_records.specs.Meaning.States.{is_removed}
use Rattle.point_tables.specs.Meaning.Tables.{Tables, record_on}
use Rattle.point_maintain.specs.Meaning.Moved.{moves_from, has_moved}
use Rattle.point_maintain.specs.Meaning.Maintain.{count_records, count_states}
use Rattle.point_maintain_slots.specs.Inner.Counts.{columns, moved_in, removed_in}

-- ---- a test of a state that finds the same in two positions and two cells
pub by_tag : (test : State → Bool) (p q : Position) (c d : Cell) → test (NewPos p) ≡ test (NewPos q) → test (Relocate p c) ≡ test (Relocate q d)
    → (tag : ℕ) → test (state_of tag p c) ≡ test (state_of tag q d)
by_tag test p q c d e f tag = go (eqb tag 0) (eqb tag 1) (eqb tag 2)
  where
    go : (x y z : Bool) → test (pick_state x Unchanged (pick_state y (NewPos p) (pick_state z (Relocate p c) Removed))) ≡ test (pick_state x Unchanged (pick_state y (NewPos q) (pick_state z (Relocate q d) Removed)))
    go true y z = refl
    go false true z = e
    go false false true = f
    go false false false = refl

-- ---- a test of position and state that looks at no cell
module _ (test : Position → State → Bool) (blind : (p q : Position) (c d : Cell) → test p (Relocate q c) ≡ test p (Relocate q d)) where
  by_rows_lem : (row : List ℕ) (q : List Float) (z y : List ℤ) → test (position_in q) (record_of row q z).state ≡ test (position_in q) (record_of row q y).state
  by_rows_lem row q z y = by_tag (test (position_in q)) _ _ _ _ refl (blind (position_in q) _ _ _) (tag_in row)

  counts-columns : (t : Tables) (n : ℕ) → count_records (λ r. test r.position r.state) (columns t.nums t.reals) n ≡ count_records (λ r. test r.position r.state) t n
  counts-columns t zero = refl
  counts-columns t (suc n) =
      ap₂ ◌+◌ (counts-columns t n) (ap (λ (b : Bool). pick (eqb (phase_at t.nums n) live) (pick b 1 0) 0) (by_rows_lem (get_or t.nums n []) (get_or t.reals n []) [] (get_or t.ints n [])))

-- the counts of the two columns are those of the tables
module _ (t : Tables) (n : ℕ) where
  pub moved-columns : moved_in (columns t.nums t.reals) n ≡ count_records has_moved t n
  moved-columns = counts-columns moves_from (λ p q c d. refl) t n

  pub removed-columns : removed_in (columns t.nums t.reals) n ≡ count_states is_removed t n
  removed-columns = counts-columns (λ p s. is_removed s) (λ p q c d. refl) t n

-- one slot counts at most once
pub count_most : (test : Record → Bool) (t : Tables) (n : ℕ) → count_records test t n ≤ n
count_most test t zero = omega arith
count_most test t (suc n) = omega (arith, count_most test t n, one (eqb (phase_at t.nums n) live) (test (record_on t n)))
  where
    one : (a b : Bool) → pick a (pick b 1 0) 0 ≤ 1
    one true true = omega arith
    one true false = omega arith
    one false b = omega arith
