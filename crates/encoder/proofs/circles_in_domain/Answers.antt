-- Assumes nothing.
use Rattle.basics.specs.Words.{◌∙◌, rules}
use borrow.Author.Tests.{tests}
use Rattle.std.proofs.lemmas.Iterator.{YieldsList-from_slice}
use Rattle.std.proofs.lemmas.Iterator.Search.{all_from_yields_List}
use Rattle.encoder.specs.Meaning.FillMap.{circle_in_domain}
use Rattle.encoder.proofs.laws.EveryLaws.{every_is}
use Rattle.encoder.proofs.circles_in_domain.Goals as goal

pub returns : goal.returns
returns c = all_from_yields_List circle_in_domain _ _ _ c.all.ensures.ran (YieldsList-from_slice c.args.circles.now cc) (λ x b q k. search (rules, tests)) ∙ every_is circle_in_domain c.args.circles.now
