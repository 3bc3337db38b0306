-- Assumes nothing.
use Rattle.basics.specs.Words.{◌+◌, ◌*◌, ◌≡◌, suc, get_or, refl, ap, ◌∙◌, arith}
use lib.Count.{ones-le}
use Rattle.slots.specs.Meaning.Map.{head, words_for}
use Rattle.slots.specs.Inner.Map.{usable_below}
use Rattle.slots.proofs.laws.CountLaws.{usable-most, word_more}
use Rattle.slots.proofs.count_usable.Goals as goal

pub overflow_add-count-in-loop-w : goal.overflow_add-count-in-loop-w
overflow_add-count-in-loop-w c =
    let m = c.args.map.now in
    omega (arith, c.loop-w.invariant, usable-most m (c.loop-w.w * 64), ones-le 64 (get_or m (head + c.loop-w.w) 0) (c.type_inv.map (head + c.loop-w.w)).fits)

pub loop-w-init : goal.loop-w-init
unfolding usable_below
loop-w-init c = refl

pub loop-w-preserved : goal.loop-w-preserved
loop-w-preserved c =
    let m = c.args.map.now in
    let w = c.loop-w.w in
    let e : (w + 1) * 64 ≡ suc w * 64 = omega arith in
    omega (arith, c.loop-w.invariant, ap (usable_below m) e, word_more m w (c.type_inv.map (head + w)).fits)

pub returns : goal.returns
returns c =
    let e : c.loop-w.w ≡ words_for c.args.n = omega arith in
    c.loop-w.invariant ∙ ap (λ v. usable_below c.args.map.now (v * 64)) e
