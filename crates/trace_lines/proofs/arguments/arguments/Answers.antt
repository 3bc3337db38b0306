-- What is asked for is taken, one after the other. Assumes nothing.
use Rattle.basics.specs.Words.{arith}
use Rattle.std.proofs.lemmas.Int.{to_z-of_z}
use Rattle.trace_lines.specs.Meaning.Requests.{arguments_of}
use Rattle.trace_lines.proofs.laws.CursorLaws.{field_at, no_field}
use Rattle.trace_lines.proofs.arguments.arguments.Goals as goal

pub returns-then-b-at : goal.returns-then-b-at
unfolding arguments_of
returns-then-b-at c = grind (arith, to_z-of_z, no_field)

pub returns : goal.returns
unfolding arguments_of
returns c = grind (arith, field_at)
