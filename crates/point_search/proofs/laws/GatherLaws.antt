-- Collecting places, one after the other and stretch after stretch. Assumes nothing.
use Rattle.basics.specs.Words.{ℕ, ◌+◌, ◌-◌, ◌<◌, ◌≤◌, ◌≡◌, sym, ap, ◌∙◌, Bool, true, false, List, [], ◌∷◌, ◌++◌, append-nil, append_assoc, length, set, take}
use Rattle.basics.specs.Words.{length-append, length-take-le, arith}
use Rattle.storage.specs.Meaning.Keyed.{written}
use Rattle.storage.proofs.laws.WrittenLaws.{written_next}
use Rattle.storage.proofs.laws.PlaceLaws.{written_same}
use Rattle.point_search.specs.Inner.Places.{places_in}
use Rattle.point_search.proofs.laws.PlacesLaws.{places-length, passed-more, passed-same}

-- the first n of o, and behind them the places of a stretch up to j that pass
abbrev pub up_to : (ℕ → Bool) → ℕ → ℕ → List ℕ → ℕ → List ℕ
up_to test from n o j = take n o ++ places_in test from (j - from)

module _ (test : ℕ → Bool) (from n : ℕ) (o : List ℕ) (size : n ≤ length o) where
  pub up-length : (j : ℕ) → length (up_to test from n o j) ≡ n + length (places_in test from (j - from))
  up-length j = length-append (take n o) (places_in test from (j - from)) ∙ ap (λ (m : ℕ). m + length (places_in test from (j - from))) (length-take-le n o size)

  pub up-most : (j : ℕ) → length (up_to test from n o j) ≤ n + (j - from)
  up-most j = omega (arith, up-length j, places-length test from (j - from))

  pub up_start : length (up_to test from n o from) ≡ n
  up_start = let e : from - from ≡ 0 = omega arith in omega (arith, up-length from, up-most from)

  pub up_none : written (up_to test from n o from) o ≡ o
  unfolding places_in
  up_none =
      let e : from - from ≡ 0 = omega arith in
      ap (λ (m : ℕ). written (take n o ++ places_in test from m) o) e
      ∙ ap (λ (l : List ℕ). written l o) (append-nil (take n o))
      ∙ written_same o n size

  module _ (j : ℕ) (after : from ≤ j) where
    -- a place that passes
    pub up-taken : test j ≡ true → up_to test from n o (j + 1) ≡ up_to test from n o j ++ (j ∷ [])
    up-taken e = ap (λ (l : List ℕ). take n o ++ l) (passed-more test from j after e) ∙ sym (append_assoc (take n o) (places_in test from (j - from)) (j ∷ []))

    pub up-count : test j ≡ true → length (up_to test from n o j) + 1 ≡ length (up_to test from n o (j + 1))
    up-count e = sym (ap length (up-taken e) ∙ length-append (up_to test from n o j) (j ∷ []))

    -- a place that does not
    pub up-passed : test j ≡ false → up_to test from n o (j + 1) ≡ up_to test from n o j
    up-passed e = ap (λ (l : List ℕ). take n o ++ l) (passed-same test from j after e)

    pub up_room : n + (j - from) < length o → length (up_to test from n o j) < length o
    up_room r = omega (arith, up-length j, places-length test from (j - from))

    pub up-written : n + (j - from) < length o → test j ≡ true → set (written (up_to test from n o j) o) (length (up_to test from n o j)) j ≡ written (up_to test from n o (j + 1)) o
    up-written r e = written_next 0 (up_to test from n o j) o j (up_room r) ∙ ap (λ (l : List ℕ). written l o) (sym (up-taken e))
