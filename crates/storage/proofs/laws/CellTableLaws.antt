-- Marking in the table of rows at a place: where the row of a cell stands. Assumes nothing.
use Rattle.basics.specs.Words.{ℕ, suc, ◌<◌, ◌≡◌, refl, sym, ◌∙◌, ap, List, [], ◌∷◌, ◌++◌, map, length, get_or, set, take, drop, split_at, set_split}
use Rattle.storage.specs.Meaning.Keyed.{All, on_list}
use Rattle.storage.specs.Meaning.Entries.{row_key}
use Rattle.storage.specs.Meaning.CellTable.{marked}
use Rattle.storage.specs.Inner.Tables.{Rising}
use Rattle.storage.proofs.laws.FilterLaws.{all_back}
use Rattle.storage.proofs.laws.KeyedLaws.{on_list_parts}

-- ---- a list in which no key stands twice
module _ {A : Type 0} (key : A → ℕ) where
  pub rising-left : (a : List A) (x : A) (c : List A) → Rising key (a ++ (x ∷ c)) → All (λ y. key y < key x) a
  rising-left [] x c r = tt
  rising-left (y ∷ a) x c r = ((all_back (λ z. key y < key z) a (x ∷ c) r.0).0, rising-left a x c r.1)

  pub rising-right : (a : List A) (x : A) (c : List A) → Rising key (a ++ (x ∷ c)) → All (λ y. key x < key y) c
  rising-right [] x c r = r.0
  rising-right (y ∷ a) x c r = rising-right a x c r.1

  -- the list of a key is the one element that has it
  pub on_list-place : (f : List A → List A) (a : List A) (x : A) (c : List A) → Rising key (a ++ (x ∷ c))
      → on_list key (key x) f (a ++ (x ∷ c)) ≡ a ++ (f (x ∷ []) ++ c)
  on_list-place f a x c r = on_list_parts key (key x) f a (x ∷ []) c (rising-left a x c r) (refl, tt) (rising-right a x c r)

-- ---- the row of the cell stands between a and c
module _ (k : ℕ) (a : List (List ℕ)) (r : List ℕ) (c : List (List ℕ)) (own : row_key r ≡ k) (t : Rising row_key (a ++ (r ∷ c))) where
  pub marked-here : marked k (a ++ (r ∷ c)) ≡ a ++ ((k ∷ 1 ∷ []) ∷ c)
  unfolding marked
  marked-here = ap (λ j. on_list row_key j (map (λ q. k ∷ 1 ∷ [])) (a ++ (r ∷ c))) (sym own) ∙ on_list-place row_key (map (λ q. k ∷ 1 ∷ [])) a r c t

-- marking is one store
pub marked-set : (k : ℕ) (t : List (List ℕ)) (i : ℕ) → i < length t → row_key (get_or t i []) ≡ k → Rising row_key t → marked k t ≡ set t i (k ∷ 1 ∷ [])
marked-set k t i h e r =
    ap (marked k) (split_at t i [] h)
    ∙ marked-here k (take i t) (get_or t i []) (drop (suc i) t) e (rw (← split_at t i [] h) r)
    ∙ sym (set_split t i (k ∷ 1 ∷ []) h)
