-- Whether all of a list pass: where all do, each does; and the word of the library says the same. Assumes nothing.
use Rattle.basics.specs.Words.{ℕ, zero, suc, ◌<◌, ◌≡◌, refl, ap, Bool, true, ◌&&◌, List, [], ◌∷◌, length, get_or, not-suc-le-zero, le_of_suc-le-suc}
use Rattle.std.specs.List.{list_all}
use Rattle.basics.proofs.laws.Says.{both_true}
use Rattle.encoder.specs.Meaning.FillMap.{every}

pub every_is : {A : Type 0} (test : A → Bool) (l : List A) → list_all test l ≡ every test l
every_is test [] = refl
every_is test (x ∷ l) = ap (λ (b : Bool). test x && b) (every_is test l)

pub every_at : {A : Type 0} (test : A → Bool) (d : A) (l : List A) (k : ℕ) → k < length l → every test l ≡ true → test (get_or l k d) ≡ true
every_at test d [] k h e = absurd (not-suc-le-zero h)
every_at test d (x ∷ l) zero h e = (both_true (test x) (every test l) e).0
every_at test d (x ∷ l) (suc k) h e = every_at test d l k (le_of_suc-le-suc h) (both_true (test x) (every test l) e).1
