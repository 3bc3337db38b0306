-- The row of a cell with another list, or marked; and appending keeps the map well-formed and each list under its key. Assumes nothing.
use Rattle.basics.specs.Words.{ℕ, ◌≡◌, true, List, [], ◌∷◌, ◌++◌}
use Rattle.storage.specs.Inner.Store.{Row, Listed, WellFormed, row_at, append}
use Rattle.storage.proofs.laws.Tables.{Keyed}
use Rattle.storage.proofs.laws.FilterLaws.{all_append}
use Rattle.storage.proofs.laws.StoreLaws.{put_formed, put_keyed, row_at_keyed}

module _ {A : Type 0} where
  -- the row of cell k with the list es
  abbrev pub with_list : ℕ → List A → List (Listed A) → Row A
  with_list k es s = record { dirty = (row_at s k).dirty; entries = es }

  abbrev pub as_dirty : ℕ → List (Listed A) → Row A
  as_dirty k s = record { dirty = true; entries = (row_at s k).entries }

  module _ (k : ℕ) (s : List (Listed A)) (f : WellFormed s) where
    pub append_formed : (e : A) → WellFormed (append k e s)
    unfolding append
    append_formed e = put_formed k (with_list k ((row_at s k).entries ++ (e ∷ [])) s) s f

    pub append_keyed : (key : A → ℕ) (e : A) → key e ≡ k → Keyed key s → Keyed key (append k e s)
    unfolding append
    append_keyed key e q a =
        put_keyed k (with_list k ((row_at s k).entries ++ (e ∷ [])) s) key (all_append (λ x. key x ≡ k) (row_at s k).entries (e ∷ []) (row_at_keyed key s a k) (q, tt)) s a
