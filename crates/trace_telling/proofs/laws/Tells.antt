-- What an answer says: a refusal its number alone, and after 0 what there is to tell. Assumes nothing.
-- Here: the laws.
use Rattle.basics.specs.Words.{ℕ, Bool, true, false, eqb}
use Rattle.basics.specs.Meaning.Refusals.{pick}
use Rattle.trace_printing.specs.Inner.Said.{Told}
use Rattle.trace_printing.specs.declared.Said.{Said}
use Rattle.trace_printing.specs.declared.Said.TheVariants.{Refused}
use Rattle.trace_telling.specs.Meaning.Tells.{tells}

-- a refusal has no findings to tell
module _ (handles places boxes objs : ℕ) where
  pub told_tells : (answer : ℕ) (said : Said) → Told said handles places boxes objs → Told (tells answer said) handles places boxes objs
  told_tells answer said h = go (eqb answer 0)
    where
      go : (b : Bool) → Told (pick b said (Refused answer)) handles places boxes objs
      go true = h
      go false = tt
