-- Places collected as far as an array has room for them: stretch after stretch of a run, and run after run. Assumes nothing.
use Rattle.basics.specs.Words.{ℕ, ◌+◌, ◌-◌, ◌<◌, ◌≤◌, ◌≡◌, refl, sym, ap, ◌∙◌, Bool, List, ◌++◌, append-nil, append_assoc, length, get_or, take, length-append}
use Rattle.basics.specs.Words.{length-take, length-take-le, arith}
use lib.Ieee.{Float}
use Rattle.cells.specs.declared.Cell.{Cell}
use Rattle.cells.specs.Inner.Numbers.{Near}
use Rattle.cells.specs.Meaning.Key.{key_of}
use Rattle.cells.specs.Inner.Key.{column_of, line_of}
use Rattle.storage.specs.declared.Run.{Run}
use Rattle.storage.specs.Meaning.Keyed.{written}
use Rattle.storage.specs.Inner.Run.{NextRun}
use Rattle.storage.proofs.laws.FilterLaws.{all_map}
use Rattle.storage.proofs.laws.WrittenLaws.{length-written}
use Rattle.storage.proofs.laws.KeepsLaws.{written-take}
use Rattle.storage.proofs.laws.PlaceLaws.{written_same}
use Rattle.point_search.specs.declared.Test.{Test}
use Rattle.point_search.specs.Inner.Places.{places_in, spot_passes, places_of}
use Rattle.point_search.specs.Inner.Begun.{Gathered, Begun}
use Rattle.point_search.proofs.laws.PlacesLaws.{places-append, places-length}
use Rattle.point_search.proofs.laws.StretchLaws.{places-most, places-run}
use Rattle.point_search.proofs.laws.FillLaws.{places-used, array_each}

-- ---- of a run from `from` on, behind the first n of o
module _ (test : ℕ → Bool) (from n : ℕ) (o : List ℕ) (size : n ≤ length o) where
  pub stretch_none : take n o ≡ take n o ++ places_in test from (from - from)
  unfolding places_in
  stretch_none =
      let e : from - from ≡ 0 = omega arith in
      sym (ap (λ (m : ℕ). take n o ++ places_in test from m) e ∙ append-nil (take n o))

  module _ (j k : ℕ) (ps : List ℕ) (ek : k ≡ n + length (places_in test from (j - from))) (ep : take k ps ≡ take n o ++ places_in test from (j - from)) where
    whole : length (take k ps) ≡ k
    whole = ap length ep ∙ length-append (take n o) (places_in test from (j - from)) ∙ omega (arith, length-take-le n o size)

    -- one stretch more
    module _ (end r : ℕ) (last : List ℕ) (after : from ≤ j) (on : j ≤ end) (er : r ≡ k + length (places_in test j (end - j)))
        (el : last ≡ written (take k ps ++ places_in test j (end - j)) ps) where
      joined : places_in test from (end - from) ≡ places_in test from (j - from) ++ places_in test j (end - j)
      joined =
          let e : end - from ≡ (j - from) + (end - j) = omega arith in
          let f : from + (j - from) ≡ j = omega arith in
          ap (places_in test from) e
          ∙ places-append test from (j - from) (end - j)
          ∙ ap (λ (m : ℕ). places_in test from (j - from) ++ places_in test m (end - j)) f

      long : length (take k ps ++ places_in test j (end - j)) ≡ r
      long = length-append (take k ps) (places_in test j (end - j)) ∙ omega (arith, whole)

      pub stretch_kept : k + (end - j) ≤ length ps → length last ≡ length ps
      stretch_kept h = ap length el ∙ length-written (take k ps ++ places_in test j (end - j)) ps (omega (arith, long, places-length test j (end - j)))

      pub stretch_count : r ≡ n + length (places_in test from (end - from))
      stretch_count = omega (arith, ap length joined ∙ length-append (places_in test from (j - from)) (places_in test j (end - j)))

      pub stretch_first : take r last ≡ take n o ++ places_in test from (end - from)
      stretch_first =
          ap (take r) el
          ∙ written-take (take k ps ++ places_in test j (end - j)) ps r (sym long)
          ∙ ap (λ (l : List ℕ). l ++ places_in test j (end - j)) ep
          ∙ append_assoc (take n o) (places_in test from (j - from)) (places_in test j (end - j))
          ∙ ap (λ (l : List ℕ). take n o ++ l) (sym joined)

-- ---- of the range
cut : (pool : List (List ℕ)) (used i x0 y0 x1 y1 p : ℕ) (r : Run) → NextRun pool used i x0 y0 x1 y1 r → r.from ≤ p → p ≤ r.to → (r.from < used → r.from < p)
    → NextRun pool used i x0 y0 x1 y1 (record { from = r.from; to = p })
cut pool used i x0 y0 x1 y1 p r n f t m =
    record { onward = n.onward; ends = f; within = omega (arith, n.within); more = m; passed = n.passed; taken = λ j g l. n.taken j g (omega arith) }

module _ (a b : Cell) (test : Test) (pool : List (List ℕ)) (spots : List (List Float)) where
  pub begun-none : (xs : List ℕ) → Begun a b test pool spots 0 0 xs
  unfolding places_of places_in
  begun-none xs = record { counted = refl; collected = refl }

  module _ (n i : ℕ) (xs : List ℕ) (h : Begun a b test pool spots n i xs) where
    pub begun-few : n ≤ i
    begun-few = omega (arith, h.counted, places-most a b test pool spots i)

    pub begun-room : n ≤ length xs
    begun-room = omega (arith, ap length h.collected, h.counted, length-take n xs)

    begun-written : xs ≡ written (places_of a b test pool spots i) xs
    begun-written = sym (written_same xs n begun-room) ∙ ap (λ (l : List ℕ). written l xs) h.collected

    -- what holds of every place below i holds of those collected
    pub begun-each : (P : ℕ → Type 0) → ((j : ℕ) → j < i → P j) → (k : ℕ) → k < n → P (get_or xs k 0)
    begun-each P f =
        array_each (places_of a b test pool spots i) xs xs n h.counted begun-written P
        (all_map (λ j. j < i) P f (places_of a b test pool spots i) (places-used a b test pool spots i))

    -- a run more, as far as there was room for it
    pub begun-run : (used low high number place : ℕ) (r : Run) (ys : List ℕ) → Near a → Near b → low ≡ key_of a → high ≡ key_of b
        → NextRun pool used i (column_of low) (line_of low) (column_of high) (line_of high) r
        → Gathered (spot_passes test spots) r.from r.to n xs number place ys → n < length xs
        → Begun a b test pool spots number place ys
    begun-run used low high number place r ys na nb el eh next g m =
        let e = places-run a b na nb test pool spots used i low high (record { from = r.from; to = place }) el eh
        (cut pool used i (column_of low) (line_of low) (column_of high) (line_of high) place r next g.onward g.within (λ q. g.moved m (next.more q))) in
        let stretch = places_in (spot_passes test spots) r.from (place - r.from) in
        record {
          counted = omega (arith, g.counted, h.counted, ap length e ∙ length-append (places_of a b test pool spots i) stretch);
          collected = g.collected ∙ ap (λ (l : List ℕ). l ++ stretch) h.collected ∙ sym e;
        }
