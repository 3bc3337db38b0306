-- Rows written one after the other into a table, from place 0 on, each made of a number. Assumes nothing.
use Rattle.basics.specs.Words.{ℕ, ◌+◌, ◌<◌, ◌≤◌, ◌≡◌, refl, sym, ap, ◌∙◌, List, [], ◌∷◌, ◌++◌, map, map-append, length, get_or, set, take, length-append}
use Rattle.basics.specs.Words.{length-map, take-suc, add-one, arith}
use Rattle.storage.specs.Meaning.Keyed.{written}
use Rattle.storage.proofs.laws.WrittenLaws.{written_next, length-written}

-- of n rows k are written: the table o has become `now`, with what f makes of the numbers js in the first places and the rest as it was
pub record Rows {A : Type 0} (f : ℕ → A) (js : List ℕ) (n : ℕ) (o now : List A) (k : ℕ) : Type 0 where
  pub count : k ≡ length js
  pub within : k ≤ n
  pub first : now ≡ written (map f js) o

module _ {A : Type 0} {f : ℕ → A} {n : ℕ} {o : List A} where
  pub rows_none : Rows f [] n o o 0
  rows_none = record { count = refl; within = omega arith; first = refl }

  module _ {js : List ℕ} {now : List A} {k : ℕ} (r : Rows f js n o now k) where
    pub rows-kept : n ≤ length o → length now ≡ length o
    rows-kept h = ap length r.first ∙ length-written (map f js) o (omega (arith, r.count, r.within, length-map js f))

    pub rows-room : n ≤ length o → k < n → k < length now
    rows-room h m = omega (arith, rows-kept h)

    module _ {ls : List ℕ} {last : List A} {m : ℕ} where
      -- a number i more
      pub rows_next : (i : ℕ) → n ≤ length o → k < n → ls ≡ js ++ (i ∷ []) → last ≡ set now k (f i) → m ≡ k + 1 → Rows f ls n o last m
      rows_next i h l e w c =
          let d : k ≡ length (map f js) = r.count ∙ sym (length-map js f) in
          record {
            count = omega (arith, r.count, ap length e ∙ length-append js (i ∷ []));
            within = omega arith;
            first =
                w
                ∙ (λ z. set (r.first z) (d z) (f i))
                ∙ written_next (f i) (map f js) o (f i) (omega arith)
                ∙ ap (λ (l : List A). written l o) (sym (ap (map f) e ∙ map-append f js (i ∷ [])));
          }

      pub rows_same : ls ≡ js → last ≡ now → m ≡ k → Rows f ls n o last m
      rows_same e w c =
          record { count = c ∙ r.count ∙ ap length (sym e); within = omega (arith, r.within); first = w ∙ r.first ∙ ap (λ (l : List ℕ). written (map f l) o) (sym e) }

-- ---- the numbers are the first of an array js
module _ {A : Type 0} {f : ℕ → A} (js : List ℕ) {n : ℕ} {o now : List A} {k : ℕ} (r : Rows f (take k js) n o now k) where
  pub put_next : {x : A} {last : List A} → n ≤ length js → n ≤ length o → k < n → last ≡ set now k x → x ≡ f (get_or js k 0) → Rows f (take (k + 1) js) n o last (k + 1)
  put_next h l m w e = rows_next r (get_or js k 0) l m (rw (add-one, take-suc js k 0 (omega arith))) (w ∙ ap (set now k) e) refl

  pub put-done : n ≤ k → now ≡ written (map f (take n js)) o
  put-done h = let e : k ≡ n = omega (arith, r.within) in r.first ∙ ap (λ (m : ℕ). written (map f (take m js)) o) e
