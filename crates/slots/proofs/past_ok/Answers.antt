-- Assumes nothing.
use Rattle.basics.specs.Words.{◌+◌, ◌/◌}
use Rattle.basics.proofs.laws.Says.{says_via, eqb_says}
use Rattle.slots.specs.Meaning.Map.{head}
use Rattle.slots.proofs.laws.MapLaws.{past-none, past_all}
use Rattle.slots.proofs.past_ok.Goals as goal

pub returns-else-n-eq0 : goal.returns-else-n-eq0
returns-else-n-eq0 c =
    says_via (past-none c.args.map.now c.args.n c.if-n-eq0.false) (past_all c.args.map.now c.args.n c.if-n-eq0.false (c.type_inv.map (head + c.args.n / 64)).fits) (eqb_says _ _)
