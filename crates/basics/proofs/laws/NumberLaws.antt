-- No refusal has the number 0. Assumes nothing.
use Rattle.basics.specs.Words.{◌≡◌, arith}
use Rattle.basics.specs.declared.Refusal.{Refusal}
use Rattle.basics.specs.declared.Refusal.TheVariants.{Removed, CellSize, Tables, NoUsableSlot, OutsideDomain, TooManyCells, PoolFull, OutputTooShort, NeverIssued, Gone, NoTracker, OtherTracker}
use Rattle.basics.specs.Meaning.Answers.{number_of}

pub not_zero : (why : Refusal) → number_of why ≡ 0 → ⊥
not_zero Removed e = omega (arith, e)
not_zero CellSize e = omega (arith, e)
not_zero Tables e = omega (arith, e)
not_zero NoUsableSlot e = omega (arith, e)
not_zero OutsideDomain e = omega (arith, e)
not_zero TooManyCells e = omega (arith, e)
not_zero PoolFull e = omega (arith, e)
not_zero OutputTooShort e = omega (arith, e)
not_zero NeverIssued e = omega (arith, e)
not_zero Gone e = omega (arith, e)
not_zero NoTracker e = omega (arith, e)
not_zero OtherTracker e = omega (arith, e)
