-- What a call gives by its tests, where its work is a `Result`: done if none refuses, else what it says to the number of the refusal. Assumes nothing.
use Rattle.basics.specs.Words.{ℕ, ◌≡◌, List, ne_eqb}
use Rattle.basics.specs.declared.Refusal.{Refusal as Why}
use Rattle.basics.proofs.laws.NumberLaws.{not_zero}
use Rattle.basics.specs.Meaning.Answers.{number_of}
use Rattle.basics.specs.Meaning.Refusals.{Refusal, first_of, by_tests}

module _ {R : Type 0} (tests : List Refusal) (done : R) (refused : ℕ → R) where
  pub all_pass : 0 ≡ first_of tests → done ≡ by_tests tests done refused
  all_pass e = rw (← e)

  pub one_refuses : (why : Why) → number_of why ≡ first_of tests → refused (number_of why) ≡ by_tests tests done refused
  one_refuses why e = rw (← e, ne_eqb (number_of why) 0 (not_zero why))
