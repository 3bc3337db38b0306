-- Found, and not named, what the tests said: so the edit that asks no tracker fails at that fact. Assumes nothing.
use Rattle.basics.specs.Words.{rules}
use Rattle.point_remove.proofs.Answers.{object, done}
use Rattle.point_remove.proofs.take.Goals as goal

pub take_out-requires : goal.take_out-requires
take_out-requires c = object _ _ _ _ _ _ _ c.args.h c.args.tracker (cc) (search rules)

pub returns : goal.returns
returns c = done _ _ _ _ _ _ _ _ _ (cc) (search rules) _ _ c.take_out.ensures
