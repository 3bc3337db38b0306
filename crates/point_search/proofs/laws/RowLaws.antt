-- Rows of the places that pass, written one behind the other: place after place of a stretch, and stretch after stretch. Assumes nothing.
use Rattle.basics.specs.Words.{ℕ, ◌+◌, ◌-◌, ◌<◌, ◌≤◌, ◌≡◌, sym, ap, ◌∙◌, Bool, true, false, List, [], ◌∷◌, ◌++◌, append-nil, append_assoc, map, map-append}
use Rattle.basics.specs.Words.{length, set, take, drop, length-append, length-map, length-take-le, take-append_seam, drop-append-add, drop-drop, arith}
use Rattle.storage.specs.Meaning.Keyed.{written}
use Rattle.storage.proofs.laws.WrittenLaws.{length-written, written_next}
use Rattle.storage.proofs.laws.PlaceLaws.{written_same}
use Rattle.point_search.specs.Inner.Places.{places_in}
use Rattle.point_search.proofs.laws.PlacesLaws.{passed, passed-more, passed-same, places-length}

-- ---- of a stretch up to j, behind the first n of a table o
module _ {A : Type 0} (f : ℕ → A) (test : ℕ → Bool) (from n : ℕ) (o : List A) (size : n ≤ length o) where
  abbrev pub rows_to : ℕ → List A
  rows_to j = take n o ++ map f (passed test from j)

  rows-length : (j : ℕ) → length (rows_to j) ≡ n + length (passed test from j)
  rows-length j =
      length-append (take n o) (map f (passed test from j)) ∙ omega (arith, length-take-le n o size, length-map (passed test from j) f)

  pub rows_none : o ≡ written (rows_to from) o
  unfolding places_in
  rows_none =
      let e : from - from ≡ 0 = omega arith in
      sym
      (ap (λ (m : ℕ). written (take n o ++ map f (places_in test from m)) o) e
      ∙ ap (λ (l : List A). written l o) (append-nil (take n o))
      ∙ written_same o n size)

  pub rows-kept : (j : ℕ) (now : List A) → now ≡ written (rows_to j) o → n + (j - from) ≤ length o → length now ≡ length o
  rows-kept j now w r = ap length w ∙ length-written (rows_to j) o (omega (arith, rows-length j, places-length test from (j - from)))

  module _ (j k : ℕ) (now : List A) (after : from ≤ j) (ek : k ≡ n + length (passed test from j)) (w : now ≡ written (rows_to j) o) where
    pub rows_taken : (x : A) → test j ≡ true → x ≡ f j → n + (j - from) < length o → set now k x ≡ written (rows_to (j + 1)) o
    rows_taken x e ex r =
        (λ z. set (w z) ((ek ∙ sym (rows-length j)) z) (ex z))
        ∙ written_next (f 0) (rows_to j) o (f j) (omega (arith, rows-length j, places-length test from (j - from)))
        ∙ ap (λ (l : List A). written l o)
        (append_assoc (take n o) (map f (passed test from j)) (f j ∷ [])
        ∙ ap (λ (l : List A). take n o ++ l) (sym (ap (map f) (passed-more test from j after e) ∙ map-append f (passed test from j) (j ∷ []))))

    pub rows-passed : test j ≡ false → now ≡ written (rows_to (j + 1)) o
    rows-passed e = w ∙ ap (λ (l : List ℕ). written (take n o ++ map f l) o) (sym (passed-same test from j after e))

-- ---- written again, behind what was written before
written_again : {A : Type 0} (p l o : List A) → written (take (length p) (written p o) ++ l) (written p o) ≡ written (p ++ l) o
written_again p l o =
    ap (λ q. written (q ++ l) (written p o)) (take-append_seam p (drop (length p) o))
    ∙ ap (λ n. (p ++ l) ++ drop n (written p o)) (length-append p l)
    ∙ ap (λ q. (p ++ l) ++ q) (drop-append-add p (drop (length p) o) (length l) ∙ drop-drop (length l) (length p) o)
    ∙ ap (λ n. (p ++ l) ++ drop n o) (sym (length-append p l))

-- a stretch l behind the places js
pub rows_behind : {A : Type 0} (f : ℕ → A) (js l more : List ℕ) (ps o last : List A) (n : ℕ) → n ≡ length js → ps ≡ written (map f js) o → more ≡ js ++ l
    → last ≡ written (take n ps ++ map f l) ps → last ≡ written (map f more) o
rows_behind f js l more ps o last n en ep em el =
    el
    ∙ (λ z. written (take ((en ∙ sym (length-map js f)) z) (ep z) ++ map f l) (ep z))
    ∙ written_again (map f js) (map f l) o
    ∙ ap (λ k. written k o) (sym (ap (map f) em ∙ map-append f js l))
