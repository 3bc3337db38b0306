-- Building, by its two tests: the lengths of the tables, and the size of the cells. Assumes nothing.
use Rattle.basics.specs.Words.{ℕ, ◌≡◌, refl, Bool, true, false, List, [], ◌∷◌, arith, ne_eqb}
use Rattle.basics.specs.Meaning.Refusals.{Refusal, unless, first_of, by_tests}
use Rattle.basics.specs.Meaning.Outcome.{Outcome, outcome}

abbrev tests : Bool → Bool → List Refusal
tests a b = unless a 3 ∷ unless b 2 ∷ []

pub build_sized : (a b : Bool) → first_of (tests a b) ≡ 0 → a ≡ true
build_sized true b e = refl
build_sized false b e = absurd (omega arith)

-- the tables t as they were, or built as u
module _ {T : Type 0} (t u : T) where
  abbrev built_by : Bool → Bool → Outcome T ℕ
  built_by a b = by_tests (tests a b) (outcome 0 u) (λ n. outcome n t)

  module _ (a b : Bool) (n : ℕ) (e : n ≡ first_of (tests a b)) where
    pub build_refused : (n ≡ 0 → ⊥) → outcome n t ≡ built_by a b
    build_refused h = rw (← e, ne_eqb n 0 h)

    pub build_done : n ≡ 0 → outcome 0 u ≡ built_by a b
    build_done h = rw (← e, h)

  pub build_leaves : (a b : Bool) → ((built_by a b).result ≡ 0 → ⊥) → (built_by a b).after ≡ t
  build_leaves true true n = absurd (n refl)
  build_leaves true false n = refl
  build_leaves false b n = refl

  pub build_gives : (P : T → Type 0) (a b : Bool) → (a ≡ true → b ≡ true → P u) → (built_by a b).result ≡ 0 → P (built_by a b).after
  build_gives P true true f e = f refl refl
  build_gives P true false f e = absurd (omega arith)
  build_gives P false b f e = absurd (omega arith)
