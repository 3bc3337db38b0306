-- Deferred calls one after the other, each of which names its tracker: kind 0 is `set_position`, any other `remove`. Assumes nothing.
use Rattle.std.specs.Prelude.{◌∷◌}
use Rattle.basics.specs.Words.{ℕ, List, [], eqb}
use Rattle.basics.specs.Meaning.Refusals.{pick}
use Rattle.geometry.specs.declared.Position.{Position}
use Rattle.slots.specs.declared.Handle.{Handle}
use Rattle.point_tables.specs.Meaning.Tables.{Tables}
use Rattle.point_tables.specs.Meaning.Outcome.{Outcome}
use Rattle.replies.specs.declared.Reply.{Reply}
use Rattle.point_deferred.specs.Meaning.Moves.{set_position_of, remove_of}

pub record Call : Type 0 where
  pub kind : ℕ
  pub handle : Handle
  pub at : Position
  pub tracker : ℕ

-- one call, and calls one after the other
unfoldable pub call_of : Tables → Call → Outcome Reply
call_of t c = pick (eqb c.kind 0) (set_position_of t c.handle c.at c.tracker) (remove_of t c.handle c.tracker)

unfoldable pub tables_after : Tables → List Call → Tables
unfolding call_of
tables_after t [] = t
tables_after t (c ∷ cs) = tables_after (call_of t c).after cs

unfoldable pub replies : Tables → List Call → List Reply
unfolding call_of
replies t [] = []
replies t (c ∷ cs) = (call_of t c).result ∷ replies (call_of t c).after cs
