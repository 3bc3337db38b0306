-- Laws of `append1` and `append_all`: each comes at the end of the list of its key, which in a sorted list is before the first greater
-- key. Assumes nothing.
-- Here: what only inner contracts cite.
use Rattle.std.specs.Prelude.{◌∷◌}
use Rattle.basics.specs.Words.{ℕ, List, [], ltb}
use Rattle.basics.specs.Meaning.Refusals.{pick}

module _ {A : Type 0} (key : A → ℕ) where
  -- before the first element of a greater key
  abbrev pub insert1 : List A → A → List A
  insert1 [] e = e ∷ []
  insert1 (x ∷ l) e = pick (ltb (key e) (key x)) (e ∷ x ∷ l) (x ∷ insert1 l e)
