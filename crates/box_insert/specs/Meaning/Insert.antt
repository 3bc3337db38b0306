-- `insert`: the lowest usable slot takes the box, which goes to the end of the list of every cell that it covers. Assumes nothing.
use Rattle.std.specs.Prelude.{◌+◌, ◌∷◌, Option}
use Rattle.basics.specs.Words.{ℕ, Bool, List, [], length, set, leb}
use Rattle.basics.specs.Meaning.Limits.{most_cells}
use Rattle.basics.specs.Meaning.Refusals.{Refusal, unless, first_of, by_tests}
use Rattle.geometry.specs.Meaning.Domain.{aabb_in_domain}
use Rattle.geometry.specs.declared.Aabb.{Aabb}
use Rattle.slots.specs.Meaning.Map.{taken, lowest_usable, is_some, slot_in}
use Rattle.slots.specs.Meaning.Slot.{live, version_at}
use Rattle.storage.specs.Meaning.Keyed.{written}
use Rattle.box_cover.specs.Meaning.Coverage.{entered_all}
use Rattle.box_tables.specs.Meaning.Tables.{Tables, tables, size_of, used_of, counting, slots_of, entries_in, low_cell, high_cell, covers, item_for}
use Rattle.box_tables.specs.Meaning.Tables.{corners_of}
use Rattle.box_tables.specs.Meaning.Decide.{holds}
use Rattle.box_tables.specs.Meaning.Outcome.{Outcome, outcome}
use Rattle.replies.specs.declared.Inserted.{Inserted}
use Rattle.replies.specs.Meaning.Replies.{inserted}

abbrev pub usable_slot : Tables → Option ℕ
usable_slot t = lowest_usable t.map (slots_of t)

-- box b of slot s appended to the list of every cell that it covers
abbrev pub entered_by : ℕ → ℕ → Aabb → List (List ℕ) → List (List ℕ)
entered_by size s b rows = entered_all (low_cell size b) (high_cell size b) (item_for size s b) rows

abbrev pub entries_with : Tables → ℕ → Aabb → List (List ℕ)
entries_with t s b = entered_by (size_of t) s b (entries_in t)

-- the slot keeps its version
unfoldable pub put : Tables → ℕ → Aabb → ℕ → Tables
put t s b d =
    tables (set t.nums s (version_at t.nums s ∷ live ∷ d ∷ 0 ∷ [])) (set t.reals s (corners_of b))
    (counting (taken t.map s) (used_of t + covers (size_of t) b))
    (written (entries_with t s b) t.pool)

-- whether the box covers few enough cells, and whether the pool has room for its entries
abbrev pub few_cells : ℕ → Aabb → Bool
few_cells size b = leb (covers size b) most_cells

abbrev pub has_room : Tables → Aabb → Bool
has_room t b = leb (used_of t + covers (size_of t) b) (length t.pool)

-- its tests, by the verdict of the check, whether the box is in the domain and of few cells, the slot, and whether there is room
abbrev pub insert_tests_by : Bool → Bool → Bool → Option ℕ → Bool → List Refusal
insert_tests_by held inside few u room = unless held 3 ∷ unless inside 6 ∷ unless few 7 ∷ unless (is_some u) 4 ∷ unless room 8 ∷ []

abbrev pub insert_tests : Tables → Aabb → List Refusal
insert_tests t b = insert_tests_by (holds t) (aabb_in_domain b) (few_cells (size_of t) b) (usable_slot t) (has_room t b)

unfoldable pub insert_answer : Tables → Aabb → ℕ
insert_answer t b = first_of (insert_tests t b)

unfoldable pub insert_of : Tables → Aabb → ℕ → Outcome Inserted
unfolding insert_answer put
insert_of t b d =
    let s = slot_in (usable_slot t) in
    by_tests (insert_tests t b) (outcome (inserted 0 s (version_at t.nums s)) (put t s b d)) (λ a. outcome (inserted a 0 0) t)
