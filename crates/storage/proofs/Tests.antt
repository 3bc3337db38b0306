-- What a test that failed tells. Assumes nothing.
use Rattle.basics.specs.Words.{◌≡◌, sym, ◌∙◌, Bool, false}
use Rattle.basics.specs.Meaning.Says.{Says}
use Rattle.basics.proofs.laws.Says.{apart}

pub denied : {P : Type 0} {b : Bool} → Says b P → b ≡ false → P → ⊥
denied s e p = apart (sym e ∙ s.no p)
