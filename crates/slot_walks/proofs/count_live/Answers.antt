-- Assumes nothing.
use Rattle.std.specs.Prelude.{count_by}
use Rattle.basics.specs.Words.{◌≡◌, ◌∙◌, rules}
use Rattle.slot_walks.specs.Meaning.Live.{row_live}
use Rattle.slot_walks.proofs.laws.LiveLaws.{live-counted}
use Rattle.slot_walks.proofs.count_live.Goals as goal

pub returns : goal.returns
returns c =
    let e : c.sum.result ≡ count_by row_live c.args.nums.now = search rules in
    e ∙ live-counted c.args.nums.now 0
