-- The text by the sign. Assumes nothing.
use Rattle.basics.specs.Words.{arith, [], ◌∷◌}
use Rattle.std.proofs.lemmas.Int.{to_z-of_z}
use Rattle.trace_decimals.specs.Meaning.Text.{signed_text}
use Rattle.trace_decimals.proofs.laws.WrittenLaws.{next_is, put-put}
use Rattle.trace_decimals.proofs.put_count.Goals as goal
use Rattle.trace_decimals.proofs.put_count.Goals.{then-k-lt0, else-k-lt0}

pub put_number-requires : goal.put_number-requires
put_number-requires c =
    elim c.if-k-lt0.branch [
      | then-k-lt0 w ↦ omega (arith, next_is _ _ (45 ∷ []) w.put_byte-next.ensures)
      | else-k-lt0 w ↦ omega arith
    ]

pub returns : goal.returns
unfolding signed_text
returns c = grind (arith, to_z-of_z, put-put)
