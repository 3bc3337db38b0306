-- What an answer says: a refusal its number alone, and after 0 what there is to tell. Assumes nothing.
use Rattle.basics.specs.Words.{ℕ, eqb}
use Rattle.basics.specs.Meaning.Refusals.{pick}
use Rattle.trace_printing.specs.declared.Said.{Said}
use Rattle.trace_printing.specs.declared.Said.TheVariants.{Refused, Done, One, Two, Points, Boxes}

abbrev pub tells : ℕ → Said → Said
tells answer said = pick (eqb answer 0) said (Refused answer)

abbrev pub done_or : ℕ → Said
done_or answer = tells answer Done

abbrev pub one_or : ℕ → ℕ → Said
one_or answer x = tells answer (One x)

abbrev pub two_or : ℕ → ℕ → ℕ → Said
two_or answer x y = tells answer (Two x y)

abbrev pub points_or : ℕ → ℕ → Said
points_or answer n = tells answer (Points n)

abbrev pub boxes_or : ℕ → ℕ → Said
boxes_or answer n = tells answer (Boxes n)
