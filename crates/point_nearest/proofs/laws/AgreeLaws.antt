-- The best that the rings come to is the closest of what the circle reports. Assumes nothing.
use Rattle.basics.specs.Words.{ℕ, zero, suc, ◌+◌, ◌<◌, ◌≤◌, ◌≡◌, refl, sym, ap, ◌∙◌, subst, Bool, true, false, ◌&&◌, ◌||◌, List, [], ◌∷◌, ◌++◌, length, ltb}
use Rattle.basics.specs.Words.{arith, ltb-true, ltb-false, le-ltb, ne_eqb}
use lib.Ieee.{Float, binary32, lt, eq, mul}
use Rattle.basics.specs.Meaning.Refusals.{pick}
use Rattle.geometry.specs.declared.Position.{Position}
use Rattle.geometry.specs.Meaning.Circle.{in_circle}
use Rattle.storage.specs.Meaning.Keyed.{filter}
use Rattle.storage.specs.Meaning.Entries.{Entry, entries_of}
use Rattle.storage.specs.Meaning.Packed.{second}
use Rattle.storage.proofs.laws.FilterLaws.{by_test, filter-append}
use Rattle.point_records.specs.Inner.Listed.{spot_at}
use Rattle.point_tables.specs.Inner.Entry.{entry_at}
use Rattle.point_search.specs.Meaning.Searches.{position_of}
use Rattle.point_search.specs.Inner.Places.{places_in}
use Rattle.point_search.proofs.laws.PlacesLaws.{entries_next, place-taken}
use Rattle.point_rings.specs.declared.Best.{Best}
use Rattle.point_rings.specs.Inner.Look.{distance_at, no_best, best_at, closer, better, looked, best_of, every}
use Rattle.point_rings.specs.Inner.Rings.{Walkable}
use Rattle.point_rings.proofs.laws.FarLaws.{Ground, ground_lt, ground_eq, ground_distance, ground_radius}
use Rattle.point_rings.proofs.laws.LookLaws.{picked, not_picked, looked-append, looked-one, looked-none}
use Rattle.point_nearest.specs.Meaning.Nearest.{closer_than, closer_of, closest_from}
use Rattle.point_nearest.proofs.laws.MemberLaws.{closest_append, closest_one, closest_none}

module _ (size : ℕ) (c : Position) (r : Float) (pool : List (List ℕ)) (spots : List (List Float)) (used : ℕ) (w : Walkable size c r pool spots used) where
  -- the entries of the circle below place n
  abbrev inside : Entry → Bool
  inside e = in_circle (position_of e) c r

  abbrev up_to : ℕ → List Entry
  up_to n = filter inside (entries_of pool spots n)

  -- b is the best where l is the closest: none, or the entry at one place
  abbrev pub Agree : Best → List Entry → Type 0
  Agree b [] = b ≡ no_best r
  Agree b (e ∷ es) = (j : ℕ) × (es ≡ []) × (j < used) × (b ≡ best_at c pool spots j) × (e ≡ entry_at pool spots j) × (lt (distance_at c spots j) (mul binary32 r r) ≡ true)

  -- ---- what is not in the circle is not better, whatever the best
  module _ (n : ℕ) (ln : n < used) where
    gn : (k : ℕ) × Ground (distance_at c spots n) k
    gn = ground_distance (spot_at spots n) c (w.placed n ln) w.centred

    gr : (k : ℕ) × Ground (mul binary32 r r) k
    gr = ground_radius r w.round

    no_slot : (a : Bool) → (a && ltb (second pool n) 0) ≡ false
    no_slot true = le-ltb (second pool n) 0 (omega arith)
    no_slot false = refl

    -- better than none is in the circle
    pub closer-none : closer (distance_at c spots n) (second pool n) (no_best r) ≡ lt (distance_at c spots n) (mul binary32 r r)
    closer-none = ap (λ (x : Bool). lt (distance_at c spots n) (mul binary32 r r) || x) (no_slot (eq (distance_at c spots n) (mul binary32 r r))) ∙ or-false (lt (distance_at c spots n) (mul binary32 r r))
      where
        or-false : (a : Bool) → (a || false) ≡ a
        or-false true = refl
        or-false false = refl

    outside_not : lt (distance_at c spots n) (mul binary32 r r) ≡ false → (j : ℕ) → j < used → lt (distance_at c spots j) (mul binary32 r r) ≡ true
        → closer (distance_at c spots n) (second pool n) (best_at c pool spots j) ≡ false
    outside_not e j lj f =
        let (m, g) = gn in
        let (k, h) = gr in
        let (i, o) = ground_distance (spot_at spots j) c (w.placed j lj) w.centred in
        let p : k ≤ m = ltb-false m k (sym (ground_lt (distance_at c spots n) (mul binary32 r r) m k g h) ∙ e) in
        let q : i < k = ltb-true i k (sym (ground_lt (distance_at c spots j) (mul binary32 r r) i k o h) ∙ f) in
        (λ z.
        (ground_lt (distance_at c spots n) (distance_at c spots j) m i g o ∙ le-ltb m i (omega arith)) z
        || ((ground_eq (distance_at c spots n) (distance_at c spots j) m i g o ∙ ne_eqb m i (λ s. omega (arith, s, p, q))) z && ltb (second pool n) (second pool j)))

  -- ---- one entry more
  agree_in : (b : Best) (l : List Entry) (n : ℕ) → n < used → Agree b l → lt (distance_at c spots n) (mul binary32 r r) ≡ true → Agree (better c pool spots b n) (closer_of c l (entry_at pool spots n))
  unfolding better
  agree_in b [] n ln a e =
      (n, refl, ln, picked _ (best_at c pool spots n) b (ap (closer (distance_at c spots n) (second pool n)) a ∙ closer-none n ln ∙ e), refl, e)
  agree_in b (d ∷ ds) n ln a e =
      let (j, s, lj, eb, ed, f) = a in
      let same : closer (distance_at c spots n) (second pool n) b ≡ closer_than c d (entry_at pool spots n) = ap (closer (distance_at c spots n) (second pool n)) eb ∙ ap (λ (x : Entry). closer_than c x (entry_at pool spots n)) (sym ed) in
      by_test (closer_than c d (entry_at pool spots n))
      (λ t.
      subst (Agree (pick (closer (distance_at c spots n) (second pool n) b) (best_at c pool spots n) b)) (sym (picked (closer_than c d (entry_at pool spots n)) (entry_at pool spots n ∷ []) (d ∷ []) t))
      (n, refl, ln, picked _ (best_at c pool spots n) b (same ∙ t), refl, e))
      (λ t.
      subst (Agree (pick (closer (distance_at c spots n) (second pool n) b) (best_at c pool spots n) b)) (sym (not_picked (closer_than c d (entry_at pool spots n)) (entry_at pool spots n ∷ []) (d ∷ []) t))
      (j, refl, lj, not_picked _ (best_at c pool spots n) b (same ∙ t) ∙ eb, ed, f))

  agree_out : (b : Best) (l : List Entry) (n : ℕ) → n < used → Agree b l → lt (distance_at c spots n) (mul binary32 r r) ≡ false → Agree (better c pool spots b n) l
  unfolding better
  agree_out b [] n ln a e = not_picked _ (best_at c pool spots n) b (ap (closer (distance_at c spots n) (second pool n)) a ∙ closer-none n ln ∙ e) ∙ a
  agree_out b (d ∷ ds) n ln a e =
      let (j, s, lj, eb, ed, f) = a in
      (j, s, lj, not_picked _ (best_at c pool spots n) b (ap (closer (distance_at c spots n) (second pool n)) eb ∙ outside_not n ln e j lj f) ∙ eb, ed, f)

  -- ---- all entries below n
  in_pool : (n : ℕ) → suc n ≤ used → n < length pool
  in_pool n l = omega (arith, w.stocked.in_pool)

  in_spots : (n : ℕ) → suc n ≤ used → n < length spots
  in_spots n l = omega (arith, w.stocked.in_spots)

  one_more : (n : ℕ) → suc n ≤ used → up_to (suc n) ≡ up_to n ++ filter inside (entry_at pool spots n ∷ [])
  one_more n l = ap (filter inside) (entries_next pool spots n (in_pool n l) (in_spots n l)) ∙ filter-append inside (entries_of pool spots n) (entry_at pool spots n ∷ [])

  best-more : (n : ℕ) → looked c pool spots (places_in every 0 (suc n)) (no_best r) ≡ better c pool spots (looked c pool spots (places_in every 0 n) (no_best r)) n
  best-more n =
      let z : 0 + n ≡ n = omega arith in
      ap (λ (l : List ℕ). looked c pool spots l (no_best r)) (place-taken every 0 n refl ∙ ap (λ (k : ℕ). places_in every 0 n ++ (k ∷ [])) z)
      ∙ looked-append c pool spots (places_in every 0 n) (n ∷ []) (no_best r)
      ∙ looked-one c pool spots n (looked c pool spots (places_in every 0 n) (no_best r))

  -- the circle's test of the entry at place n
  in_it : (n : ℕ) {b : Bool} → inside (entry_at pool spots n) ≡ b → lt (distance_at c spots n) (mul binary32 r r) ≡ b
  unfolding in_circle
  in_it n t = t

  agree_to : (n : ℕ) → n ≤ used → Agree (looked c pool spots (places_in every 0 n) (no_best r)) (closest_from c [] (up_to n))
  unfolding places_in
  agree_to zero l = subst (Agree (looked c pool spots [] (no_best r))) (sym (closest_none c [])) (looked-none c pool spots (no_best r))
  agree_to (suc n) l =
      let h = agree_to n (omega arith) in
      let b = looked c pool spots (places_in every 0 n) (no_best r) in
      let e = entry_at pool spots n in
      let cl = closest_from c [] (up_to n) in
      subst (λ (x : Best). Agree x (closest_from c [] (up_to (suc n)))) (sym (best-more n))
      (subst (Agree (better c pool spots b n)) (sym (ap (closest_from c []) (one_more n l) ∙ closest_append c [] (up_to n) (filter inside (e ∷ []))))
      (by_test (inside e)
      (λ t.
      subst (λ (x : List Entry). Agree (better c pool spots b n) (closest_from c cl x)) (sym (kept e t))
      (subst (Agree (better c pool spots b n)) (sym (closest_one c cl e)) (agree_in b cl n l h (in_it n t))))
      (λ t.
      subst (λ (x : List Entry). Agree (better c pool spots b n) (closest_from c cl x)) (sym (dropped e t))
      (subst (Agree (better c pool spots b n)) (sym (closest_none c cl)) (agree_out b cl n l h (in_it n t))))))
    where
      kept : (e : Entry) → inside e ≡ true → filter inside (e ∷ []) ≡ e ∷ []
      kept e t = rw t

      dropped : (e : Entry) → inside e ≡ false → filter inside (e ∷ []) ≡ []
      dropped e t = rw t

  -- what the walk comes to
  pub agree : Agree (best_of c r pool spots used every) (closest_from c [] (up_to used))
  agree = agree_to used (omega arith)
