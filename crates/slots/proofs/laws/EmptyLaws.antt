-- What emptying a slot leaves as it was: lengths, the head words and every other row. Assumes nothing.
use Rattle.basics.specs.Words.{ℕ, ◌<◌, ◌≡◌, refl, Bool, true, false, List, [], length, get_or, length-set, get_or-set_same, get_or-set_other, eqb}
use Rattle.basics.specs.Meaning.Refusals.{pick}
use Rattle.slots.specs.Meaning.Map.{head, given_back}
use Rattle.slots.specs.Meaning.Slot.{last_version, version_at, emptied_row, emptied_nums, emptied_map}
use Rattle.slots.proofs.laws.MapLaws.{given-back-length, given-back-head}

module _ (nums : List (List ℕ)) (s : ℕ) where
  pub emptied-length : length (emptied_nums nums s) ≡ length nums
  unfolding emptied_nums
  emptied-length = length-set nums s (emptied_row (get_or nums s []))

  pub emptied-same : s < length nums → get_or (emptied_nums nums s) s [] ≡ emptied_row (get_or nums s [])
  unfolding emptied_nums
  emptied-same i = get_or-set_same nums s (emptied_row (get_or nums s [])) [] i

  pub emptied_other : (t : ℕ) → (t ≡ s → ⊥) → get_or (emptied_nums nums s) t [] ≡ get_or nums t []
  unfolding emptied_nums
  emptied_other t n = get_or-set_other nums s t (emptied_row (get_or nums s [])) [] n

-- what holds of the map as it was and of the map with the slot given back holds of the map after
module _ (nums : List (List ℕ)) (map : List ℕ) (s : ℕ) where
  either : (P : List ℕ → Type 0) → P map → P (given_back map s) → P (emptied_map nums map s)
  unfolding emptied_map
  either P p q = go (eqb (version_at nums s) last_version)
    where
      go : (b : Bool) → P (pick b map (given_back map s))
      go true = p
      go false = q

  pub emptied-map-length : length (emptied_map nums map s) ≡ length map
  emptied-map-length = either (λ m. length m ≡ length map) refl (given-back-length map s)

  pub emptied-map-head : (k : ℕ) → k < head → get_or (emptied_map nums map s) k 0 ≡ get_or map k 0
  emptied-map-head k h = either (λ m. get_or m k 0 ≡ get_or map k 0) refl (given-back-head map s k h)
