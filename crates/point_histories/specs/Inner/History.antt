-- A history: the calls that change the tables of a point grid, one after the other, accepted or refused. The calls that only read change
-- nothing. Assumes nothing.
use Rattle.std.specs.Prelude.{◌+◌, ◌∷◌, Float}
use Rattle.basics.specs.Words.{ℕ, List, [], eqb}
use Rattle.basics.specs.Meaning.Refusals.{pick}
use Rattle.geometry.specs.declared.Position.{Position}
use Rattle.slots.specs.declared.Handle.{Handle}
use Rattle.point_tables.specs.Meaning.Tables.{Tables}
use Rattle.point_insert.specs.Meaning.Insert.{insert_of}
use Rattle.point_deferred.specs.Meaning.Moves.{set_position_of, remove_of}
use Rattle.point_batch.specs.Meaning.Batch.{batch_of}
use Rattle.point_remove.specs.Meaning.RemoveMaintain.{remove_maintain_of}
use Rattle.point_clear.specs.Meaning.Clear.{clear_of}
use Rattle.point_maintain.specs.Meaning.Maintain.{maintain_of}

-- a call with all that it is handed besides the tables, its tracker last
pub data Op : Type 0 where
  insert : Position → ℕ → ℕ → Op
  set_position : Handle → Position → ℕ → Op
  remove : Handle → ℕ → Op
  batch : List ℕ → List (List ℕ) → List (List Float) → List (List ℕ) → Op
  maintain : Op
  remove_maintain : Handle → ℕ → Op
  clear : List (List Float) → List (List ℕ) → Op

-- the tables after a call, and after a history
unfoldable pub after : Tables → Op → Tables
after t (insert p d k) = (insert_of t p d k).after
after t (set_position h p k) = (set_position_of t h p k).after
after t (remove h k) = (remove_of t h k).after
after t (batch kinds handles positions out) = (batch_of t kinds handles positions out).after
after t maintain = (maintain_of t).after
after t (remove_maintain h k) = (remove_maintain_of t h k).after
after t (clear places objs) = (clear_of t places objs).after

unfoldable pub after_all : Tables → List Op → Tables
unfolding after
after_all t [] = t
after_all t (o ∷ os) = after_all (after t o) os

-- what counts if the answer is 0
abbrev pub accepted : ℕ → ℕ → ℕ
accepted answer n = pick (eqb answer 0) n 0

-- ---- objects put in by an accepted insert, and objects taken out, by maintain, remove_maintain and clear, as the calls report them
unfoldable pub put_in : Tables → Op → ℕ
put_in t (insert p d k) = accepted (insert_of t p d k).result.answer 1
put_in t (set_position h p k) = 0
put_in t (remove h k) = 0
put_in t (batch kinds handles positions out) = 0
put_in t maintain = 0
put_in t (remove_maintain h k) = 0
put_in t (clear places objs) = 0

unfoldable pub objects_taken_out : Tables → Op → ℕ
objects_taken_out t (insert p d k) = 0
objects_taken_out t (set_position h p k) = 0
objects_taken_out t (remove h k) = 0
objects_taken_out t (batch kinds handles positions out) = 0
objects_taken_out t maintain = (maintain_of t).result.removed
objects_taken_out t (remove_maintain h k) = accepted (remove_maintain_of t h k).result.answer 1
objects_taken_out t (clear places objs) = accepted (clear_of t places objs).result.returned.answer (clear_of t places objs).result.returned.count

unfoldable pub all_in : Tables → List Op → ℕ
unfolding put_in after
all_in t [] = 0
all_in t (o ∷ os) = put_in t o + all_in (after t o) os

unfoldable pub all_out : Tables → List Op → ℕ
unfolding objects_taken_out after
all_out t [] = 0
all_out t (o ∷ os) = objects_taken_out t o + all_out (after t o) os
