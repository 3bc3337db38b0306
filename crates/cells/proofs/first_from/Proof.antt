-- `cells::first_from` meets its contract. Assumes nothing.
use Rattle.basics.specs.Words.{sym, subst, lit≤, arith, rules}
use lib.Ieee.{Float}
use Rattle.cells.proofs.laws.Patterns.{number_pattern}
use Rattle.cells.specs.Inner.Span.{FirstFrom}
use Rattle.cells.proofs.laws.SpanLaws.{first-zero, first-whole}
use Rattle.cells.proofs.first_from.Statement.{statement}
use Rattle.cells.proofs.first_from.Tie as tie

float-from-bits-result : tie.Need-float_from_bits-result
float-from-bits-result c = number_pattern 1 (lit≤ tt)

returns : tie.Need-returns-then-n-eq0
returns c = first-zero c.before.args.n c.if-n-eq0.true

returns-2 : tie.Need-returns
returns-2 c = let d = c.before in subst (λ (x : Float). FirstFrom d.before.args.n x) (sym c.exactly.ensures) (first-whole d.before.args.n (omega (arith, d.if-n-eq0.false)) d.before.requires)

pub first_from_spec : {M : Type 1} → statement M
first_from_spec = tie.close (tie.spec float-from-bits-result returns (λ c κs. search rules) returns-2)
