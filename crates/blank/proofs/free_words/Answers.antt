-- Assumes nothing.
use Rattle.basics.specs.Words.{◌+◌, ◌∙◌, refl, sym, paste-zero, length-set, arith}
use Rattle.slots.specs.Meaning.Map.{words_for}
use Rattle.blank.specs.Meaning.Blank.{free_words}
use Rattle.blank.proofs.laws.FreeWordLaws.{free-length, free_at}
use Rattle.blank.proofs.Fill.{fill_step, fill_end}
use Rattle.blank.proofs.free_words.Goals as goal

pub loop-w-init : goal.loop-w-init
loop-w-init c = (refl, paste-zero c.args.map.now 3 (free_words (words_for c.args.n) c.args.n))

pub loop-w-preserved : goal.loop-w-preserved
loop-w-preserved c =
    let l = c.loop-w in
    let n = c.args.n in
    let full = free-length (words_for n) n in (
      length-set l.map (3 + l.w) _ ∙ l.invariant.0,
      fill_step c.args.map.now 3 (free_words (words_for n) n) 0 _ l.map (3 + l.w) l.w refl (c.free_word.ensures ∙ sym (free_at (words_for n) n l.w (omega arith))) (omega arith) (omega arith) l.invariant.1,
    )

pub returns : goal.returns
returns c =
    let full = free-length (words_for c.args.n) c.args.n in
    fill_end c.args.map.now 3 (free_words (words_for c.args.n) c.args.n) c.loop-w.map c.loop-w.w (omega arith) (omega arith) c.loop-w.invariant.1
