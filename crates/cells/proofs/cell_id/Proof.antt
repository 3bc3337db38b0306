-- `cells::cell_id` meets its contract. Assumes nothing.
use Rattle.basics.specs.Words.{◌≡◌, sym, ap, ◌∙◌, subst, ℤ, pos, ◌-ℤ◌, rules}
use lib.Signed.{quot_z}
use mir.Syntax.{w32}
use mir.Val.{SFits, to_z, of_z}
use mir.ValLaws.{to_z-of_z}
use Rattle.cells.proofs.Quotient.{asks, quotient, under-fits, cell-under, cell_over}
use Rattle.cells.proofs.cell_id.Statement.{statement}
use Rattle.cells.proofs.cell_id.Tie as tie

div-q : tie.Need-nonzero_div-q
div-q c = asks c.whole.result c.before.args.size (record { sfits = c.whole.type_inv }) c.before.ranges.size c.before.requires.0

-- the quotient in `q`
read : (c : tie.After-whole) → to_z w32 (of_z w32 (quot_z (to_z w32 (of_z w32 c.whole.result)) (to_z w32 (of_z w32 c.before.args.size)))) ≡ quot_z c.whole.result c.before.args.size
read c = quotient c.whole.result c.before.args.size (record { sfits = c.whole.type_inv }) c.before.ranges.size c.before.requires.0

less : (c : tie.Then-x) → SFits w32 (quot_z c.before.whole.result c.before.before.args.size -ℤ pos 1)
less c = under-fits c.before.whole.result c.before.before.args.size c.before.before.args.x c.before.whole.ensures c.before.before.requires.0 c.before.before.requires.1 c.if-x.true

sub-result : tie.Need-overflow_sub-result
sub-result c = subst (λ (z : ℤ). SFits w32 (z -ℤ pos 1)) (sym (read c.before)) (less c)

returns : tie.Need-returns-then-x
returns c =
    ap (λ (z : ℤ). to_z w32 (of_z w32 (z -ℤ pos 1))) (read c.before)
    ∙ to_z-of_z w32 (quot_z c.before.whole.result c.before.before.args.size -ℤ pos 1) (less c)
    ∙ cell-under c.before.whole.result c.before.before.args.size c.before.before.args.x c.before.whole.ensures c.if-x.true

returns-2 : tie.Need-returns-else-x
returns-2 c = read c.before ∙ cell_over c.before.whole.result c.before.before.args.size c.before.before.args.x c.before.whole.ensures c.if-x.false

pub cell_id_spec : {M : Type 1} → statement M
cell_id_spec = tie.close (tie.spec (λ c κs. search rules) div-q sub-result returns returns-2)
