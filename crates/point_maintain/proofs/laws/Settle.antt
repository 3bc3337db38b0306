-- Slots settled one after the other: those of a list, those below n that pass a test, and every live one. Assumes nothing.
-- Here: the laws.
use Rattle.basics.specs.Words.{ℕ, ◌≡◌, refl, Bool, true, false, List, [], ◌∷◌, eqb}
use Rattle.basics.specs.Meaning.Refusals.{pick}
use Rattle.point_tables.specs.Meaning.Tables.{Tables}
use Rattle.point_maintain.specs.Meaning.Walk.{settled}

-- whether k stands in a list of numbers, and no number stands there twice
abbrev pub among : ℕ → List ℕ → Bool
among k [] = false
among k (j ∷ l) = pick (eqb j k) true (among k l)

abbrev pub Distinct : List ℕ → Type 0
Distinct [] = Unit {0}
Distinct (k ∷ l) = (among k l ≡ false) × Distinct l

-- the first of two, if the other is the same where the test fails
pub picked : {A : Type 0} (b : Bool) {x y : A} → (b ≡ false → y ≡ x) → pick b x y ≡ x
picked true f = refl
picked false f = f refl

unfoldable pub settled_over : Tables → List ℕ → Tables
settled_over t [] = t
settled_over t (s ∷ ss) = settled_over (settled t s) ss
