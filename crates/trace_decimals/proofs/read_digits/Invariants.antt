-- `trace_decimals::read_digits`: what is left, read on from v, is what the whole reads as. Assumes nothing.
use Rattle.basics.specs.Words.{◌≤◌, ◌≡◌, drop}
use Rattle.trace_decimals.specs.Meaning.Fields.{digits_from}
use Rattle.trace_decimals.proofs.read_digits.Given as goal

abbrev pub invariant-loop-c : goal.invariant-loop-c
invariant-loop-c l = (l.v ≤ l.most) × (digits_from l.most l.v (drop l.c-index l.b) ≡ digits_from l.most 0 l.b)
