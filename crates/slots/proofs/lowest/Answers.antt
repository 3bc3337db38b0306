-- Assumes nothing.
use Rattle.basics.specs.Words.{◌+◌, sym, refl, arith}
use Rattle.slots.specs.Meaning.Map.{head}
use Rattle.slots.proofs.laws.LowestLaws.{lowest_in_word, lowest_past_words}
use Rattle.slots.proofs.lowest.Goals as goal

pub returns-then-x-ne0 : goal.returns-then-x-ne0
returns-then-x-ne0 c =
    sym (lowest_in_word c.args.map.now c.args.n c.loop-w.w c.requires.2 c.loop-w.invariant _ (omega arith) (omega (arith, c.if-x-ne0.true)) (c.type_inv.map (head + c.loop-w.w)).fits refl)

pub returns : goal.returns
returns c = sym (lowest_past_words c.args.map.now c.args.n c.loop-w.w c.requires.2 c.loop-w.invariant (omega arith))
