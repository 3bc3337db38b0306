-- What a word asks for, part by part of the table. Assumes nothing.
use Rattle.basics.specs.Words.{◌≡◌, false, true, arith, [], ◌∷◌}
use Rattle.std.proofs.lemmas.Bool.Decides.{nat_tests}
use Rattle.trace_lines.specs.Meaning.Words.{same_bytes, row_says, asked_by}
use Rattle.trace_lines.proofs.laws.WordLaws.{same_reads}
use Rattle.trace_lines.proofs.asked.Goals as goal

pub returns-in-cell : goal.returns-in-cell
unfolding asked_by row_says
returns-in-cell c =
    let e : same_bytes c.args.word.now (99 ∷ 101 ∷ 108 ∷ 108 ∷ []) ≡ true = grind (arith, nat_tests, same_reads) in
    rw e

pub returns-in_default : goal.returns-in_default
unfolding asked_by row_says
returns-in_default c =
    let e : same_bytes c.args.word.now (99 ∷ 101 ∷ 108 ∷ 108 ∷ []) ≡ false = grind (arith, nat_tests, same_reads) in
    rw e (cc (c.point_changes.ensures, c.point_searches.ensures, c.box_lines.ensures))
