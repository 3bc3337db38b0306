-- `blank::free_words`: the first w words are written. Assumes nothing.
use Rattle.basics.specs.Words.{◌≡◌, length, paste}
use Rattle.slots.specs.Meaning.Map.{words_for}
use Rattle.blank.specs.Meaning.Blank.{free_words}
use Rattle.blank.proofs.free_words.Given as goal

abbrev pub invariant-loop-w : goal.invariant-loop-w
invariant-loop-w l = (length l.map ≡ length l.fn.map) × (l.map ≡ paste l.fn.map 3 (free_words (words_for l.n) l.n) l.w)
