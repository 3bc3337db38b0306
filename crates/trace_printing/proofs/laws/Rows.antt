-- Rows of the worked trace, as bytes. Assumes nothing.
use Rattle.basics.specs.Words.{◌≡◌, refl, [], ◌∷◌, pos, negsuc, arith}
use Rattle.trace_sixteenths.specs.Meaning.Sixteenth.{sixteenth}
use Rattle.trace_sixteenths.proofs.laws.SixteenthLaws.{count-back}
use Rattle.trace_decimals.specs.Meaning.Text.{decimal, signed_text}
use Rattle.trace_printing.specs.declared.Said.TheVariants.{Refused, One, Two, Points}
use Rattle.trace_printing.specs.Meaning.Said.{record_text}

-- 12
refused : record_text (Refused 12) [] [] [] [] ≡ 49 ∷ 50 ∷ 13 ∷ 10 ∷ []
unfolding record_text decimal
refused = refl

-- 0,7
removed : record_text (One 7) [] [] [] [] ≡ 48 ∷ 44 ∷ 55 ∷ 13 ∷ 10 ∷ []
unfolding record_text decimal
removed = refl

-- 0,0,1
inserted : record_text (Two 0 1) [] [] [] [] ≡ 48 ∷ 44 ∷ 48 ∷ 44 ∷ 49 ∷ 13 ∷ 10 ∷ []
unfolding record_text decimal
inserted = refl

-- 0,1,0,1,-160,0,7,3
found : record_text (Points 1) ((0 ∷ 1 ∷ []) ∷ []) ((sixteenth (negsuc 159) ∷ sixteenth (pos 0) ∷ []) ∷ []) [] ((7 ∷ 3 ∷ []) ∷ []) ≡ 48 ∷ 44 ∷ 49 ∷ 44 ∷ 48 ∷ 44 ∷ 49 ∷ 44 ∷ 45 ∷ 49 ∷ 54 ∷ 48 ∷ 44 ∷ 48 ∷ 44 ∷ 55 ∷ 44 ∷ 51 ∷ 13 ∷ 10 ∷ []
unfolding record_text signed_text
found = simp (count-back (negsuc 159) (omega arith), count-back (pos 0) (omega arith))
