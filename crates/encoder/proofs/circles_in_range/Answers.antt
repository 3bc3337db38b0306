-- Assumes nothing.
use Rattle.basics.specs.Words.{◌≡◌, ap, ◌∙◌, true, rules}
use borrow.Author.Tests.{tests}
use Rattle.std.proofs.lemmas.Iterator.{YieldsList-from_slice}
use Rattle.std.proofs.lemmas.Iterator.Adapters.{serves_from_places}
use Rattle.std.proofs.lemmas.Iterator.Search.{all_from_yields_List}
use Rattle.encoder.specs.Meaning.FillMap.{circle_in_domain, circle_in_range}
use Rattle.encoder.proofs.laws.EveryLaws.{every_is, every_at}
use Rattle.encoder.proofs.circles_in_range.Goals as goal

-- each circle is in the domain
pub all-requires-clause-callable : goal.all-requires-clause-callable
all-requires-clause-callable c =
    serves_from_places (YieldsList-from_slice c.args.circles.now cc) (λ x q k. search rules) (λ x k h e. let at : circle_in_domain x.now ≡ true = ap circle_in_domain e ∙ every_at circle_in_domain x.now c.args.circles.now k h c.requires in search rules)

pub returns : goal.returns
returns c = all_from_yields_List circle_in_range _ _ _ c.all.ensures.ran (YieldsList-from_slice c.args.circles.now cc) (λ x b q k. search (rules, tests)) ∙ every_is circle_in_range c.args.circles.now
