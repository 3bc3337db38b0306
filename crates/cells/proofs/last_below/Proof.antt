-- `cells::last_below` meets its contract. Assumes nothing.
use Rattle.basics.specs.Words.{◌-◌, ◌<◌, sym, subst, not, T, arith, rules}
use lib.Ieee.{Float, binary32, to_bits, of_bits, is_nan}
use Rattle.cells.specs.Inner.Span.{LastBelow}
use Rattle.cells.proofs.laws.SpanLaws.{last_far, last-near, whole_pattern, whole-number}
use Rattle.cells.proofs.laws.Patterns.{number_pattern}
use Rattle.cells.proofs.last_below.Statement.{statement}
use Rattle.cells.proofs.last_below.Tie as tie

returns : tie.Need-returns-then-n-gt1048576
returns c = last_far c.before.args.n c.if-n-gt1048576.true

-- the pattern of n is above 0 and below infinity's
pattern : (c : tie.After-exactly-v) → (0 < to_bits binary32 c.exactly-v.result) × (to_bits binary32 c.exactly-v.result < 2139095040)
pattern c = let d = c.before in subst (λ (x : Float). (0 < to_bits binary32 x) × (to_bits binary32 x < 2139095040)) (sym c.exactly-v.ensures) (whole_pattern d.before.args.n d.before.requires d.if-n-gt1048576.false)

float-to-bits-result : tie.Need-float_to_bits-result
float-to-bits-result c = let d = c.before in subst (λ (x : Float). T (not (is_nan x))) (sym c.exactly-v.ensures) (whole-number d.before.args.n d.before.requires d.if-n-gt1048576.false)

float-from-bits-result : tie.Need-float_from_bits-result
float-from-bits-result c = number_pattern _ (omega (arith, (pattern c).1))

returns-2 : tie.Need-returns
returns-2 c = let d = c.before in subst (λ (x : Float). LastBelow d.before.args.n (of_bits binary32 (to_bits binary32 x - 1))) (sym c.exactly-v.ensures) (last-near d.before.args.n d.before.requires d.if-n-gt1048576.false)

pub last_below_spec : {M : Type 1} → statement M
last_below_spec = tie.close (tie.spec returns (λ c κs. search rules) float-to-bits-result (λ c. (pattern c).0) float-from-bits-result returns-2)
