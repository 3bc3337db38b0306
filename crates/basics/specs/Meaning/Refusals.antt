-- The answer of a call: the first refusal that applies, out of a list in the order of document 01; else 0. Assumes nothing.
use Rattle.std.specs.Prelude.{◌&&◌, ◌||◌, ◌∷◌}
use Rattle.basics.specs.Words.{ℕ, Bool, true, false, not, List, [], eqb}

-- a test that must pass, and the answer number if it does not
pub record Refusal : Type 0 where
  pub passes : Bool
  pub number : ℕ

abbrev pub unless : Bool → ℕ → Refusal
unless b n = record { passes = b; number = n }

abbrev pub or_else : Bool → ℕ → ℕ → ℕ
or_else true n m = m
or_else false n m = n

abbrev pub first_of : List Refusal → ℕ
first_of [] = 0
first_of (r ∷ rs) = or_else r.passes r.number (first_of rs)

-- one of two by a test
abbrev pub pick : {A : Type 0} → Bool → A → A → A
pick true a b = a
pick false a b = b

-- what a call gives: what it does if its tests pass, else what it says to the first that does not
abbrev pub by_tests : {R : Type 0} → List Refusal → R → (ℕ → R) → R
by_tests rs done refused = pick (eqb (first_of rs) 0) done (refused (first_of rs))

-- ---- the order of the answers, document 01's with 02's in it; 10, which comes before them all, is the program's alone
abbrev pub order : List ℕ
order = 3 ∷ 2 ∷ 6 ∷ 13 ∷ 11 ∷ 12 ∷ 14 ∷ 1 ∷ 7 ∷ 4 ∷ 8 ∷ 9 ∷ []

-- whether a number applies: one of the call's tests has it and does not pass
abbrev pub applies : List Refusal → ℕ → Bool
applies [] n = false
applies (r ∷ rs) n = (eqb r.number n && not r.passes) || applies rs n

abbrev pub first_in : List ℕ → List Refusal → ℕ
first_in [] rs = 0
first_in (n ∷ ns) rs = pick (applies rs n) n (first_in ns rs)

-- the first that applies, in that order, whatever the order of the tests
unfoldable pub first_that : List Refusal → ℕ
first_that rs = first_in order rs
