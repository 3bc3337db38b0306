-- `maintain` lets every slot go onward: an object that is settled keeps version and phase, and a removed one's slot is emptied.
-- Assumes nothing.
use Rattle.basics.specs.Words.{ℕ, zero, suc, refl, List, [], ◌∷◌, length}
use Rattle.slots.proofs.laws.OnwardLaws.{Onward, onward-none, onward_then, onward-same, onward-emptied}
use Rattle.storage.specs.Meaning.Entries.{Entry}
use Rattle.storage.proofs.laws.FilterLaws.{by_test}
use Rattle.point_records.specs.declared.State.{State}
use Rattle.point_records.specs.declared.State.TheVariants.{Unchanged, NewPos, Relocate, Removed}
use Rattle.point_tables.specs.Meaning.Tables.{Tables, record_on, entries_in, cell_rows, slot_of}
use Rattle.point_tables.specs.Meaning.Decide.{holds}
use Rattle.point_maintain.specs.Meaning.Walk.{settled_by, settled, fate, rest, walk}
use Rattle.point_maintain.specs.Meaning.Maintain.{is_dirty, Sweep, visit, sweep, swept, maintained_by, cell_keys, maintained, maintain_of}
use Rattle.storage.specs.Meaning.Keyed.{under}
use Rattle.storage.specs.Meaning.Entries.{entry_key}

settled-onward : (t : Tables) (s : ℕ) → Onward t.nums (settled t s).nums
unfolding settled
settled-onward t s = go (record_on t s).state
  where
    go : (x : State) → Onward t.nums (settled_by t s x).nums
    go Unchanged = onward-none t.nums
    go (NewPos p) = onward-same t.nums s _ refl refl
    go (Relocate p c) = onward-same t.nums s _ refl refl
    go Removed = onward-emptied t.nums s

walk-onward : (n : ℕ) (t : Tables) (es : List Entry) → Onward t.nums (walk n t es).records.nums
unfolding walk
walk-onward zero t es = onward-none t.nums
walk-onward (suc n) t [] = onward-none t.nums
walk-onward (suc n) t (e ∷ es) = onward_then (settled-onward t (slot_of e)) (walk-onward n (settled t (slot_of e)) (rest (fate t e) es))

visit-onward : (rows : List (List ℕ)) (w : Sweep) (k : ℕ) → Onward w.records.nums (visit rows w k).records.nums
unfolding visit
visit-onward rows w k =
    let l = under entry_key k w.entries in
    by_test (is_dirty rows k) (λ e. rw e (walk-onward (length l) w.records l)) (λ e. rw e (onward-none w.records.nums))

sweep-onward : (rows : List (List ℕ)) (w : Sweep) (ks : List ℕ) → Onward w.records.nums (sweep rows w ks).records.nums
unfolding sweep
sweep-onward rows w [] = onward-none w.records.nums
sweep-onward rows w (k ∷ ks) = onward_then (visit-onward rows w k) (sweep-onward rows (visit rows w k) ks)

pub maintain-onward : (t : Tables) → Onward t.nums (maintain_of t).after.nums
unfolding maintain_of maintained maintained_by swept
maintain-onward t =
    by_test (holds t)
    (λ e. rw e (sweep-onward (cell_rows t) (record { records = t; entries = entries_in t; moving = [] }) (cell_keys t)))
    (λ e. rw e (onward-none t.nums))
