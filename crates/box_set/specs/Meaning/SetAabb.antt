-- `set_aabb`: if both corner cells stay, only the record changes; otherwise the box leaves all its old cells and is then appended to all its
-- new ones. Assumes nothing.
use Rattle.std.specs.Prelude.{◌+◌, ◌≡◌, ◌∷◌}
use Rattle.basics.specs.Words.{ℕ, Bool, List, [], length, set, leb}
use Rattle.basics.specs.Meaning.Says.{Decided, said}
use Rattle.basics.proofs.laws.Says.{d_and, d_eqz}
use Rattle.basics.specs.Meaning.Refusals.{Refusal, unless, first_of, pick, by_tests}
use Rattle.geometry.specs.Meaning.Domain.{aabb_in_domain}
use Rattle.geometry.specs.declared.Aabb.{Aabb}
use Rattle.cells.specs.declared.Cell.{Cell}
use Rattle.slots.specs.declared.Handle.{Handle}
use Rattle.slots.specs.Meaning.Slot.{handle_test}
use Rattle.storage.specs.Meaning.Keyed.{written}
use Rattle.box_tables.specs.Meaning.Tables.{Tables, tables, size_of, used_of, counting, aabb_on, low_cell, high_cell, covers, corners_of}
use Rattle.box_tables.specs.Meaning.Decide.{holds}
use Rattle.box_tables.specs.Meaning.Outcome.{Outcome, outcome}
use Rattle.box_insert.specs.Meaning.Insert.{entered_by, few_cells}
use Rattle.box_remove.specs.Meaning.Remove.{entries_without}

-- a cell stays: both its numbers do
abbrev pub Same : Cell → Cell → Type 0
Same a b = (a.x ≡ b.x) × (a.y ≡ b.y)

pub d_same : (a b : Cell) → Decided (Same a b)
d_same a b = d_and (d_eqz a.x b.x) (d_eqz a.y b.y)

-- both corner cells, a and b, stay
pub d_stay : (a b c d : Cell) → Decided (Same a c × Same b d)
d_stay a b c d = d_and (d_same a c) (d_same b d)

abbrev pub cells_stay : ℕ → Aabb → Aabb → Bool
cells_stay size old new = said (d_stay (low_cell size old) (high_cell size old) (low_cell size new) (high_cell size new))

-- only the record changes
unfoldable pub box_recorded : Tables → ℕ → Aabb → Tables
box_recorded t s b = tables t.nums (set t.reals s (corners_of b)) t.map t.pool

-- the entries after it has left its old cells and entered its new ones: its mark is that of the new box
abbrev pub entries_moved : Tables → ℕ → Aabb → List (List ℕ)
entries_moved t s b = entered_by (size_of t) s b (entries_without t s)

-- leaving writes the rows in use after it, then entering does: what stands behind them stays
unfoldable pub box_moved : Tables → ℕ → Aabb → Tables
box_moved t s b =
    tables t.nums (set t.reals s (corners_of b)) (counting t.map (length (entries_moved t s b)))
    (written (entries_moved t s b) (written (entries_without t s) t.pool))

unfoldable pub with_other_box : Tables → ℕ → Aabb → Tables
unfolding box_recorded box_moved
with_other_box t s b = pick (cells_stay (size_of t) (aabb_on t s) b) (box_recorded t s b) (box_moved t s b)

-- entries in use, less the box's old ones, plus its new ones, are within the pool
abbrev pub has_room_for : Tables → ℕ → Aabb → Bool
has_room_for t s b = leb (used_of t + covers (size_of t) b) (length t.pool + covers (size_of t) (aabb_on t s))

abbrev pub set_aabb_tests : Tables → Handle → Aabb → List Refusal
set_aabb_tests t h b =
    unless (holds t) 3
    ∷ unless (aabb_in_domain b) 6
    ∷ handle_test t.nums h
    ∷ unless (few_cells (size_of t) b) 7
    ∷ unless (has_room_for t h.slot b) 8
    ∷ []

unfoldable pub set_aabb_answer : Tables → Handle → Aabb → ℕ
set_aabb_answer t h b = first_of (set_aabb_tests t h b)

unfoldable pub set_aabb_of : Tables → Handle → Aabb → Outcome ℕ
unfolding set_aabb_answer with_other_box
set_aabb_of t h b = by_tests (set_aabb_tests t h b) (outcome 0 (with_other_box t h.slot b)) (λ a. outcome a t)
