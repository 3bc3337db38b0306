-- From what looking came to to what the two calls come to. Assumes nothing.
use Rattle.basics.specs.Words.{ℕ, ◌<◌, ◌≤◌, ◌≡◌, sym, ap, ◌∙◌, subst, List, map, length, get_or, take, length-take-le, get_or-take, T, arith}
use lib.Ieee.{Float}
use Rattle.geometry.specs.declared.Aabb.{Aabb}
use Rattle.geometry.specs.Meaning.Domain.{aabb_in_domain}
use Rattle.geometry.specs.Meaning.Intersects.{intersects}
use Rattle.storage.specs.Meaning.Keyed.{All, filter, written}
use Rattle.storage.proofs.laws.FilterLaws.{all_at}
use Rattle.box_tables.specs.Meaning.Tables.{Tables, slots_of, aabb_on, obj_on}
use Rattle.box_tables.specs.Meaning.Decide.{holds_says}
use Rattle.replies.specs.declared.Count.{Count}
use Rattle.box_search.specs.Meaning.Search.{broad, narrow, box_row}
use Rattle.box_query.specs.Meaning.Queries.{handles_of, broad_of, findings, room_of, query_of}
use Rattle.box_search.specs.Inner.Put.{Found}
use Rattle.box_query.specs.Inner.Look.{early_of, Looked}
use Rattle.box_query.proofs.laws.AnswerLaws.{early_passed, broad_early, broad_9, broad_0, query_early, query_9, query_0}
use Rattle.box_search.proofs.laws.BroadLaws.{query-filter, broad_all, narrow_all}
use Rattle.replies.specs.Meaning.Replies.{count}
use Rattle.slot_walks.specs.Meaning.Live.{handle_at}

-- the first n of an array of 256 are the slots ss
module _ (rows : ℕ) (ss found : List ℕ) (n : ℕ) (size : length found ≡ 256) (most : n ≤ 256) (e : take n found ≡ ss) where
  number_of : n ≡ length ss
  number_of = sym (length-take-le n found (omega arith)) ∙ ap length e

  found_of : All (λ s. s < rows) ss → Found rows found n
  found_of a =
      record {
        size = size;
        most = most;
        each = λ k l. subst (λ (s : ℕ). s < rows) (ap (λ (l : List ℕ). get_or l k 0) (sym e) ∙ get_or-take n found k 0 l) (all_at (λ s. s < rows) 0 ss k (omega (arith, number_of)) a);
      }

module _ (t : Tables) (q : Aabb) (r : Count) (found : List ℕ) (w : Looked t q r found) where
  -- ---- a refusal
  early : (r.answer ≡ 0 → ⊥) → early_of t q ≡ 0 → ⊥
  early h e = h (w.answered ∙ e)

  same_refusal : (r.answer ≡ 0 → ⊥) → r ≡ count (early_of t q) 0
  same_refusal h = λ z. count (w.answered z) (w.none h z)

  pub broad-refused : (handles : List (List ℕ)) → (r.answer ≡ 0 → ⊥) → handles_of r handles ≡ broad_of t q handles
  broad-refused handles h = ap (λ (c : Count). handles_of c handles) (same_refusal h) ∙ broad_early t q handles (early h)

  pub query-refused : (handles : List (List ℕ)) (boxes : List (List Float)) (objs : List ℕ) → (r.answer ≡ 0 → ⊥) → findings r handles boxes objs ≡ query_of t q handles boxes objs
  query-refused handles boxes objs h = ap (λ (c : Count). findings c handles boxes objs) (same_refusal h) ∙ query_early t q handles boxes objs (early h)

  -- ---- no refusal yet
  module _ (o : r.answer ≡ 0) where
    passed : early_of t q ≡ 0
    passed = sym w.answered ∙ o

    below : All (λ s. s < slots_of t) (broad t q) × All (λ s. s < slots_of t) (narrow t q)
    below =
        let p = early_passed t q passed in
        let h = (holds_says t).yes p.0 in
        let d : T (aabb_in_domain q) = subst T (sym p.1) tt in
        (broad_all t h q d, narrow_all t h q d)

    pub looked-found : Found (slots_of t) found r.count
    looked-found = found_of (slots_of t) (broad t q) found r.count w.size w.most (w.slots o) below.0

    -- a row of coordinates for each slot
    pub looked-rows : length t.reals ≡ slots_of t
    looked-rows = ((holds_says t).yes (early_passed t q passed).0).sized.of_reals

    pub looked-boxes : (n : ℕ) → n ≡ r.count → Found (length t.reals) found n
    looked-boxes n e = rw (e, looked-rows) looked-found

    looked-number : r.count ≡ length (broad t q)
    looked-number = number_of (slots_of t) (broad t q) found r.count w.size w.most (w.slots o)

    -- ---- `query_broad`
    module _ (handles : List (List ℕ)) (n : ℕ) (en : n ≡ r.count) where
      pub broad-short : length handles < n → handles_of (count 9 r.count) handles ≡ broad_of t q handles
      broad-short l = ap (λ (k : ℕ). handles_of (count 9 k) handles) looked-number ∙ broad_9 t q handles passed (omega (arith, looked-number))

      pub broad-done : (out : List (List ℕ)) → n ≤ length handles → out ≡ written (map (handle_at t.nums) (take n found)) handles → handles_of r out ≡ broad_of t q handles
      broad-done out l e =
          (λ z. handles_of (count (o z) (looked-number z)) (e z))
          ∙ ap (λ (ss : List ℕ). handles_of (count 0 (length (broad t q))) (written (map (handle_at t.nums) ss) handles)) (ap (λ (k : ℕ). take k found) en ∙ w.slots o)
          ∙ broad_0 t q handles passed (omega (arith, looked-number))

    -- ---- `query`: the first n of `kept` are those that q intersects
    module _ (m n : ℕ) (kept : List ℕ) (em : m ≡ r.count) (few : n ≤ m) (size : length kept ≡ 256)
        (ek : take n kept ≡ filter (λ s. intersects q (aabb_on t s)) (take m found)) where
      kept-narrow : take n kept ≡ narrow t q
      kept-narrow = ek ∙ ap (filter (λ s. intersects q (aabb_on t s))) (ap (λ (k : ℕ). take k found) em ∙ w.slots o) ∙ sym (query-filter t q)

      kept-most : n ≤ 256
      kept-most = omega (arith, w.most)

      pub kept-found : Found (slots_of t) kept n
      kept-found = found_of (slots_of t) (narrow t q) kept n size kept-most kept-narrow below.1

      kept-number : n ≡ length (narrow t q)
      kept-number = number_of (slots_of t) (narrow t q) kept n size kept-most kept-narrow

      module _ (handles : List (List ℕ)) (boxes : List (List Float)) (objs : List ℕ) (room : ℕ) (er : room ≡ room_of handles boxes objs) where
        pub query-short : room < n → findings (count 9 n) handles boxes objs ≡ query_of t q handles boxes objs
        query-short l = ap (λ (k : ℕ). findings (count 9 k) handles boxes objs) kept-number ∙ query_9 t q handles boxes objs passed (omega (arith, kept-number))

        pub query-done : (hs : List (List ℕ)) (bs : List (List Float)) (os : List ℕ) → n ≤ room → hs ≡ written (map (handle_at t.nums) (take n kept)) handles
            → bs ≡ written (map (box_row t.reals) (take n kept)) boxes → os ≡ written (map (obj_on t) (take n kept)) objs → findings (count 0 n) hs bs os ≡ query_of t q handles boxes objs
        query-done hs bs os l eh eb eo =
            (λ z. findings (count 0 (kept-number z)) (eh z) (eb z) (eo z))
            ∙ ap (λ (ss : List ℕ). findings (count 0 (length (narrow t q))) (written (map (handle_at t.nums) ss) handles) (written (map (box_row t.reals) ss) boxes) (written (map (obj_on t) ss) objs)) kept-narrow
            ∙ query_0 t q handles boxes objs passed (omega (arith, kept-number))
