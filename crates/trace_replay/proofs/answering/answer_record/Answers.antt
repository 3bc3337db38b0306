-- `trace_replay::answer_record`: the request that was read is performed, and what it says is put. Assumes nothing.
use Rattle.basics.specs.Words.{sym, subst, take}
use lib.Ieee.{of_bits}
use Rattle.trace_decimals.specs.Meaning.Written.{buffer}
use Rattle.trace_telling.specs.Inner.InRange.{InRange}
use Rattle.trace_telling.proofs.laws.InRange.{read_in_range}
use Rattle.trace_replay.proofs.laws.ReplayLaws.{can_tell, is_replayed}
use Rattle.trace_replay.proofs.answering.answer_record.Goals as goal

pub answer-said-requires : goal.answer-said-requires
answer-said-requires c = subst InRange (sym c.read-request.ensures) (read_in_range (take c.args.len c.args.line.now))

pub put_record-requires : goal.put_record-requires
unfolding of_bits
put_record-requires c = (can_tell _ (take c.args.len c.args.line.now) c.read-request.ensures c.answer-said.ensures, c.requires)

pub returns-clause-replays : goal.returns-clause-replays
unfolding of_bits
returns-clause-replays c =
    is_replayed _ (take c.args.len c.args.line.now) c.read-request.ensures c.answer-said.ensures (buffer c.args.out.now c.args.at) c.put_record.ensures.put_is
