-- Assumes nothing.
use Rattle.basics.specs.Words.{◌≡◌, ◌*◌, arith, rules}
use Rattle.cells.specs.Meaning.Range.{cells_in}
use Rattle.cells.proofs.laws.RangeKeyLaws.{near-cells}
use Rattle.cells.proofs.cells_in.Goals as goal

pub overflow_mul-result : goal.overflow_mul-result
unfolding cells_in
overflow_mul-result c =
    let e : c.count_from.result * c.count_from-2.result ≡ cells_in c.args.a c.args.b = search rules in
    record { fits = omega (arith, e, near-cells c.args.a c.args.b c.requires.0 c.requires.1) }
