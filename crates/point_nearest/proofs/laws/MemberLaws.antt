-- The closest of a list is one of the list, and there is one unless the list is empty; one list after another. Assumes nothing.
use Rattle.basics.specs.Words.{◌≡◌, refl, Bool, true, false, List, [], ◌∷◌, ◌++◌, Memᴰ, Memᴰ-head, Memᴰ-tail, Memᴰ-cases_cons}
use Rattle.basics.specs.Words.{Memᴰ-not_nil, ◌⊎◌, inl, inr, ⊎_elim}
use Rattle.basics.specs.Meaning.Refusals.{pick}
use Rattle.geometry.specs.declared.Position.{Position}
use Rattle.storage.specs.Meaning.Entries.{Entry}
use Rattle.point_nearest.specs.Meaning.Nearest.{closer_than, closer_of, closest_from}

module _ (c : Position) where
  one_of : (b : Bool) (d e x : Entry) → Memᴰ x (pick b (e ∷ []) (d ∷ [])) → (x ≡ d) ⊎ (x ≡ e)
  one_of true d e x m = ⊎_elim (λ q. inr q) (λ n. absurd (Memᴰ-not_nil n)) (Memᴰ-cases_cons m)
  one_of false d e x m = ⊎_elim (λ q. inl q) (λ n. absurd (Memᴰ-not_nil n)) (Memᴰ-cases_cons m)

  closer_member : (b : List Entry) (e x : Entry) → Memᴰ x (closer_of c b e) → Memᴰ x b ⊎ (x ≡ e)
  closer_member [] e x m = ⊎_elim (λ q. inr q) (λ n. inl n) (Memᴰ-cases_cons m)
  closer_member (d ∷ ds) e x m = ⊎_elim (λ q. inl (Memᴰ-head q)) (λ q. inr q) (one_of (closer_than c d e) d e x m)

  from_member : (b es : List Entry) (x : Entry) → Memᴰ x (closest_from c b es) → Memᴰ x b ⊎ Memᴰ x es
  unfolding closest_from
  from_member b [] x m = inl m
  from_member b (e ∷ es) x m =
      ⊎_elim
      (λ n. ⊎_elim (λ k. inl k) (λ q. inr (Memᴰ-head q)) (closer_member b e x n))
      (λ n. inr (Memᴰ-tail n))
      (from_member (closer_of c b e) es x m)

  pub closest_append : (b xs ys : List Entry) → closest_from c b (xs ++ ys) ≡ closest_from c (closest_from c b xs) ys
  unfolding closest_from
  closest_append b [] ys = refl
  closest_append b (x ∷ xs) ys = closest_append (closer_of c b x) xs ys

  pub closest_one : (b : List Entry) (e : Entry) → closest_from c b (e ∷ []) ≡ closer_of c b e
  unfolding closest_from
  closest_one b e = refl

  pub closest_none : (b : List Entry) → closest_from c b [] ≡ b
  unfolding closest_from
  closest_none b = refl

pub closest_member : (c : Position) (es : List Entry) (e : Entry) → Memᴰ e (closest_from c [] es) → Memᴰ e es
closest_member c es e m = ⊎_elim (λ n. absurd (Memᴰ-not_nil n)) (λ n. n) (from_member c [] es e m)
