-- What a row of deferred calls asked for the point of a handle, told by the calls and their replies alone: only a call that was answered 0
-- counts. Assumes nothing.
use Rattle.std.specs.Prelude.{◌&&◌, ◌||◌, ◌∷◌}
use Rattle.basics.specs.Words.{Bool, false, not, List, [], eqb}
use Rattle.basics.specs.Meaning.Refusals.{pick}
use Rattle.geometry.specs.declared.Position.{Position}
use Rattle.slots.specs.declared.Handle.{Handle}
use Rattle.replies.specs.declared.Reply.{Reply}
use Rattle.point_deferred.specs.Meaning.Calls.{Call}

abbrev pub same_handle : Handle → Handle → Bool
same_handle g h = eqb g.slot h.slot && eqb g.version h.version

-- an accepted call with the handle h
abbrev pub accepted_for : Handle → Call → Reply → Bool
accepted_for h c r = eqb r.answer 0 && same_handle c.handle h

-- kind 0 is `set_position`, any other `remove`
abbrev pub moves_it : Handle → Call → Reply → Bool
moves_it h c r = accepted_for h c r && eqb c.kind 0

abbrev pub removes_it : Handle → Call → Reply → Bool
removes_it h c r = accepted_for h c r && not (eqb c.kind 0)

-- whether some accepted `remove` has the handle h
unfoldable pub removed_by : Handle → List Call → List Reply → Bool
removed_by h [] rs = false
removed_by h (c ∷ cs) [] = false
removed_by h (c ∷ cs) (r ∷ rs) = removes_it h c r || removed_by h cs rs

-- the position of the last accepted `set_position` with the handle h, and p if there is none
unfoldable pub last_at : Handle → List Call → List Reply → Position → Position
last_at h [] rs p = p
last_at h (c ∷ cs) [] p = p
last_at h (c ∷ cs) (r ∷ rs) p = last_at h cs rs (pick (moves_it h c r) c.at p)
