-- Assumes nothing.
use Rattle.basics.specs.Words.{◌≤◌, ◌≡◌, ap, ◌∙◌, sym, subst, ◌∷◌, length, ℤ, arith}
use mir.Syntax.{w32}
use mir.Val.{SFits, to_z, of_z}
use Rattle.std.proofs.lemmas.Int.{to_z-of_z}
use Rattle.trace_decimals.proofs.laws.WrittenLaws.{next_is}
use Rattle.trace_decimals.specs.Meaning.Text.{signed_text}
use Rattle.trace_sixteenths.specs.Meaning.Sixteenth.{sixteenths_of}
use Rattle.trace_printing.proofs.laws.Lengths.{count_fits, coordinate_length}
use Rattle.trace_printing.proofs.laws.Puts.{puts_is, puts_then, puts_as}
use Rattle.trace_printing.proofs.put_coordinate.Goals as goal

pub put_count-requires : goal.put_count-requires
put_count-requires c = omega (arith, next_is _ _ _ c.put_byte-next.ensures)

pub returns : goal.returns
returns c =
    let k : to_z w32 (of_z w32 c.sixteenths-k.result) ≡ sixteenths_of c.args.x =
    to_z-of_z w32 _ (subst (SFits w32) (sym c.sixteenths-k.ensures) (count_fits c.args.x)) ∙ c.sixteenths-k.ensures
    in
    let short : length (signed_text (to_z w32 (of_z w32 c.sixteenths-k.result))) ≤ 11 = rw k (coordinate_length c.args.x) in
    puts_as
    (puts_then (puts_is 1 c.put_byte-next.ensures (omega arith)) (omega arith) (puts_is 11 c.put_count.ensures short))
    (ap (λ (z : ℤ). 44 ∷ signed_text z) k)
    (omega arith)
