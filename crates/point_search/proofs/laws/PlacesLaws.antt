-- Places that pass a test: stretch by stretch, how many, which; and the entries at them are a filter of all. Assumes nothing.
use Rattle.basics.specs.Words.{ℕ, zero, suc, ◌+◌, ◌-◌, ◌<◌, ◌≤◌, ◌≡◌, refl, sym, ap, ap₂, ◌∙◌, Bool, true, false, List, [], ◌∷◌, ◌++◌, append-nil, append_assoc}
use Rattle.basics.specs.Words.{map, map-append, length, get_or, take, length-append, take-suc, length-take-le, arith}
use lib.Ieee.{Float}
use Rattle.basics.specs.Meaning.Refusals.{pick}
use Rattle.storage.specs.Meaning.Keyed.{All, filter}
use Rattle.storage.specs.Meaning.Entries.{Entry, entry, zipped, entries_of}
use Rattle.storage.proofs.laws.FilterLaws.{by_test, all_map, all_append, filter-append}
use Rattle.point_search.specs.Inner.Places.{places_in}
use Rattle.point_tables.specs.Inner.Entry.{entry_at}

-- one place, if it passes
abbrev one : Bool → ℕ → List ℕ
one b j = pick b (j ∷ []) []

module _ (test : ℕ → Bool) (from : ℕ) where
  pub places-append : (n m : ℕ) → places_in test from (n + m) ≡ places_in test from n ++ places_in test (from + n) m
  unfolding places_in
  places-append n zero =
      let e : n + 0 ≡ n = omega arith in
      ap (places_in test from) e ∙ sym (append-nil (places_in test from n))
  places-append n (suc m) =
      let e : n + suc m ≡ suc (n + m) = omega arith in
      let f : from + (n + m) ≡ from + n + m = omega arith in
      ap (places_in test from) e
      ∙ ap₂ {C = List ℕ} (λ (l : List ℕ) (k : ℕ). l ++ one (test k) k) (places-append n m) f
      ∙ append_assoc (places_in test from n) (places_in test (from + n) m) (one (test (from + n + m)) (from + n + m))

  pub places-none : (n : ℕ) → ((j : ℕ) → from ≤ j → j < from + n → test j ≡ false) → places_in test from n ≡ []
  unfolding places_in
  places-none zero h = refl
  places-none (suc n) h = rw (places-none n (λ j a b. h j a (omega arith)), h (from + n) (omega arith) (omega arith))

  pub places_same : (other : ℕ → Bool) (n : ℕ) → ((j : ℕ) → from ≤ j → j < from + n → test j ≡ other j) → places_in test from n ≡ places_in other from n
  unfolding places_in
  places_same other zero h = refl
  places_same other (suc n) h = rw (places_same other n (λ j a b. h j a (omega arith)), h (from + n) (omega arith) (omega arith))

  short : (b : Bool) (j : ℕ) → length (one b j) ≤ 1
  short true j = omega arith
  short false j = omega arith

  pub places-length : (n : ℕ) → length (places_in test from n) ≤ n
  unfolding places_in
  places-length zero = omega arith
  places-length (suc n) = omega (arith, places-length n, short (test (from + n)) (from + n), length-append (places_in test from n) (one (test (from + n)) (from + n)))

  -- they are places of the stretch
  pub places-inside : (n : ℕ) → All (λ j. j < from + n) (places_in test from n)
  unfolding places_in
  places-inside zero = tt
  places-inside (suc n) =
      all_append (λ j. j < from + suc n) (places_in test from n) (one (test (from + n)) (from + n))
      (all_map (λ j. j < from + n) (λ j. j < from + suc n) (λ j h. omega arith) (places_in test from n) (places-inside n))
      (by_test (test (from + n)) (λ e. rw e (omega arith, tt)) (λ e. rw e tt))

  -- one place more
  pub place-taken : (n : ℕ) → test (from + n) ≡ true → places_in test from (suc n) ≡ places_in test from n ++ ((from + n) ∷ [])
  unfolding places_in
  place-taken n e = rw e

  pub place-passed : (n : ℕ) → test (from + n) ≡ false → places_in test from (suc n) ≡ places_in test from n
  unfolding places_in
  place-passed n e = rw e (append-nil (places_in test from n))

-- those up to the end of a stretch: the ones before it, and what another test says in it
pub places_stretch : (test other : ℕ → Bool) (i from to : ℕ) → i ≤ from → from ≤ to
    → ((j : ℕ) → i ≤ j → j < from → test j ≡ false) → ((j : ℕ) → from ≤ j → j < to → test j ≡ other j)
    → places_in test 0 to ≡ places_in test 0 i ++ places_in other from (to - from)
places_stretch test other i from to h k none all =
    let e : to ≡ from + (to - from) = omega arith in
    let f : from ≡ i + (from - i) = omega arith in
    let z : 0 + from ≡ from = omega arith in
    let y : 0 + i ≡ i = omega arith in
    ap (places_in test 0) e
    ∙ places-append test 0 from (to - from)
    ∙ ap₂ {C = List ℕ} (λ (l m : List ℕ). l ++ m)
    (ap (places_in test 0) f ∙ places-append test 0 i (from - i) ∙ ap (λ (n : ℕ). places_in test 0 i ++ places_in test n (from - i)) y
    ∙ ap (λ (l : List ℕ). places_in test 0 i ++ l) (places-none test i (from - i) (λ j p q. none j p (omega arith))) ∙ append-nil (places_in test 0 i))
    (ap (λ (n : ℕ). places_in test n (to - from)) z ∙ places_same test from other (to - from) (λ j p q. all j p (omega arith)))

-- those of the stretch up to j
module _ (test : ℕ → Bool) (from : ℕ) where
  abbrev pub passed : ℕ → List ℕ
  passed j = places_in test from (j - from)

  module _ (j : ℕ) (after : from ≤ j) where
    back : from + (j - from) ≡ j
    back = omega arith

    next : j + 1 - from ≡ suc (j - from)
    next = omega arith

    pub passed-more : test j ≡ true → passed (j + 1) ≡ passed j ++ (j ∷ [])
    passed-more e =
        ap (places_in test from) next ∙ place-taken test from (j - from) (ap test back ∙ e) ∙ ap (λ (m : ℕ). places_in test from (j - from) ++ (m ∷ [])) back

    pub passed-same : test j ≡ false → passed (j + 1) ≡ passed j
    passed-same e = ap (places_in test from) next ∙ place-passed test from (j - from) (ap test back ∙ e)

from_zero_lem : (test : ℕ → Bool) (n : ℕ) → places_in test 0 (suc n) ≡ places_in test 0 n ++ one (test n) n
unfolding places_in
from_zero_lem test n = let e : 0 + n ≡ n = omega arith in ap (λ (k : ℕ). places_in test 0 n ++ one (test k) k) e

-- ---- the entries of two columns
zipped-append : (a b : List (List ℕ)) (c d : List (List Float)) → length a ≡ length c → zipped (a ++ b) (c ++ d) ≡ zipped a c ++ zipped b d
zipped-append [] b [] d h = refl
zipped-append [] b (y ∷ c) d h = absurd (omega arith)
zipped-append (x ∷ a) b [] d h = absurd (omega arith)
zipped-append (x ∷ a) b (y ∷ c) d h = ap (λ (m : List Entry). entry x y ∷ m) (zipped-append a b c d (omega arith))

module _ (pool : List (List ℕ)) (spots : List (List Float)) where
  pub entries_next : (n : ℕ) → n < length pool → n < length spots → entries_of pool spots (suc n) ≡ entries_of pool spots n ++ (entry_at pool spots n ∷ [])
  entries_next n h k =
      ap₂ {C = List Entry} zipped (take-suc pool n [] h) (take-suc spots n [] k)
      ∙ zipped-append (take n pool) (get_or pool n [] ∷ []) (take n spots) (get_or spots n [] ∷ []) (omega (arith, length-take-le n pool (omega arith), length-take-le n spots (omega arith)))

  -- the entries at the places that pass are those that pass
  pub places-entries : (test : Entry → Bool) (n : ℕ) → n ≤ length pool → n ≤ length spots
      → map (entry_at pool spots) (places_in (λ j. test (entry_at pool spots j)) 0 n) ≡ filter test (entries_of pool spots n)
  unfolding places_in
  places-entries test zero h k = refl
  places-entries test (suc n) h k =
      ap (map (entry_at pool spots)) (from_zero_lem (λ j. test (entry_at pool spots j)) n)
      ∙ map-append (entry_at pool spots) (places_in (λ j. test (entry_at pool spots j)) 0 n) (one (test (entry_at pool spots n)) n)
      ∙ ap₂ {C = List Entry} (λ (l m : List Entry). l ++ m) (places-entries test n (omega arith) (omega arith)) (by_test (test (entry_at pool spots n)) (λ e. rw e) (λ e. rw e))
      ∙ sym (filter-append test (entries_of pool spots n) (entry_at pool spots n ∷ []))
      ∙ ap (filter test) (sym (entries_next n (omega arith) (omega arith)))
