-- A history: the calls that change the tables of a box grid, one after the other, accepted or refused. The calls that only read change
-- nothing. Assumes nothing.
use Rattle.std.specs.Prelude.{◌+◌, ◌∷◌, Float}
use Rattle.basics.specs.Words.{ℕ, List, [], eqb}
use Rattle.basics.specs.Meaning.Refusals.{pick}
use Rattle.geometry.specs.declared.Aabb.{Aabb}
use Rattle.slots.specs.declared.Handle.{Handle}
use Rattle.box_tables.specs.Meaning.Tables.{Tables}
use Rattle.box_insert.specs.Meaning.Insert.{insert_of}
use Rattle.box_set.specs.Meaning.SetAabb.{set_aabb_of}
use Rattle.box_remove.specs.Meaning.Remove.{remove_of}
use Rattle.box_clear.specs.Meaning.Clear.{clear_of}

-- a call with all that it is handed besides the tables
pub data Op : Type 0 where
  insert : Aabb → ℕ → Op
  set_aabb : Handle → Aabb → Op
  remove : Handle → Op
  clear : List (List Float) → List ℕ → Op

-- the tables after a call, and after a history
unfoldable pub after : Tables → Op → Tables
after t (insert b d) = (insert_of t b d).after
after t (set_aabb h b) = (set_aabb_of t h b).after
after t (remove h) = (remove_of t h).after
after t (clear boxes objs) = (clear_of t boxes objs).after

unfoldable pub after_all : Tables → List Op → Tables
unfolding after
after_all t [] = t
after_all t (o ∷ os) = after_all (after t o) os

-- what counts if the answer is 0
abbrev pub accepted : ℕ → ℕ → ℕ
accepted answer n = pick (eqb answer 0) n 0

-- ---- objects put in by an accepted insert, and objects taken out, by remove and clear, as the calls report them
unfoldable pub put_in : Tables → Op → ℕ
put_in t (insert b d) = accepted (insert_of t b d).result.answer 1
put_in t (set_aabb h b) = 0
put_in t (remove h) = 0
put_in t (clear boxes objs) = 0

unfoldable pub objects_taken_out : Tables → Op → ℕ
objects_taken_out t (insert b d) = 0
objects_taken_out t (set_aabb h b) = 0
objects_taken_out t (remove h) = accepted (remove_of t h).result.answer 1
objects_taken_out t (clear boxes objs) = accepted (clear_of t boxes objs).result.returned.answer (clear_of t boxes objs).result.returned.count

unfoldable pub all_in : Tables → List Op → ℕ
unfolding put_in after
all_in t [] = 0
all_in t (o ∷ os) = put_in t o + all_in (after t o) os

unfoldable pub all_out : Tables → List Op → ℕ
unfolding objects_taken_out after
all_out t [] = 0
all_out t (o ∷ os) = objects_taken_out t o + all_out (after t o) os
