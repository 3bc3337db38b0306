-- What `nearest` gives, of the points that the circle reports: the outcome of a scan; the least squared distance, on equal distance the lowest slot;
-- none exactly if there is none. Assumes nothing.
use Rattle.basics.specs.Words.{ℕ, ◌≤◌, ◌≡◌, refl, sym, ap, ◌∙◌, subst, ap₂, Bool, true, false, ◌&&◌, ◌||◌, List, [], ◌∷◌, cons≢nil, inl, inr, T, ltb, eqb}
use Rattle.basics.specs.Words.{arith, ltb-false, eq-eqb, ne_eqb}
use lib.Ieee.{Float, lt, eq}
use Rattle.basics.specs.Meaning.Refusals.{pick, first_of}
use Rattle.basics.proofs.laws.Says.{d_eq, apart}
use Rattle.geometry.specs.declared.Position.{Position}
use Rattle.geometry.specs.Meaning.Domain.{position_in_domain, radius_in_domain}
use Rattle.geometry.specs.Meaning.Circle.{distance_squared, in_circle}
use Rattle.storage.specs.Meaning.Keyed.{All}
use Rattle.storage.specs.Meaning.Entries.{Entry}
use Rattle.storage.specs.Meaning.Packed.{second}
use Rattle.storage.proofs.laws.FilterLaws.{by_test, filter_all, all_map}
use Rattle.point_tables.specs.Meaning.Tables.{Tables, size_of, used_of, entries_in, slot_of}
use Rattle.point_tables.specs.Meaning.Holds.{Holds}
use Rattle.point_tables.specs.Inner.Entry.{entry_at}
use Rattle.point_tables.proofs.laws.EntryLaws.{all_entries}
use Rattle.point_search.specs.Meaning.Searches.{position_of}
use Rattle.point_search.proofs.laws.FoundLaws.{in_pool, in_spots}
use Rattle.point_search.proofs.laws.ScanLaws.{circle_scan}
use Rattle.point_query.specs.Meaning.Queries.{around_finds}
use Rattle.point_rings.specs.Inner.Look.{distance_at, closer}
use Rattle.point_rings.proofs.laws.LookLaws.{picked, not_picked}
use Rattle.point_rings.proofs.laws.RingLaws.{best-least}
use Rattle.replies.specs.declared.Nearest.{Nearest}
use Rattle.point_nearest.specs.Meaning.Nearest.{closer_than, closest_from, nearest_reply, no_finding, nearest_report, nearest_tests, nearest_of}
use Rattle.point_nearest.specs.Inner.Scan.{scan_of}
use Rattle.point_nearest.proofs.laws.AgreeLaws.{Agree}
use Rattle.point_nearest.proofs.laws.AnswerLaws.{nearest-refused, nearest-done, passed_tests, accepted, walkable, best, agreed, closest_scan}

-- ---- none of a list only where the list has none
some_left : (c : Position) (d : Entry) (ds es : List Entry) → closest_from c (d ∷ ds) es ≡ [] → ⊥
unfolding closest_from
some_left c d ds [] e = cons≢nil e
some_left c d ds (x ∷ es) e =
    by_test (closer_than c d x)
    (λ t. some_left c x [] es (sym (ap (λ (l : List Entry). closest_from c l es) (picked (closer_than c d x) (x ∷ []) (d ∷ []) t)) ∙ e))
    (λ t. some_left c d [] es (sym (ap (λ (l : List Entry). closest_from c l es) (not_picked (closer_than c d x) (x ∷ []) (d ∷ []) t)) ∙ e))

none_left : (c : Position) (es : List Entry) → closest_from c [] es ≡ [] → es ≡ []
unfolding closest_from
none_left c [] e = refl
none_left c (x ∷ es) e = absurd (some_left c x [] es e)

-- ---- for any tables: none or one
pub at_most_one : (t : Tables) (c : Position) (r : Float) → (nearest_of t c r).count ≤ 1
unfolding nearest_of
at_most_one t c r = go (eqb a 0) (closest_from c [] (around_finds t c r))
  where
    a : ℕ
    a = first_of (nearest_tests t c r)

    go : (x : Bool) (es : List Entry) → (pick x (nearest_report t es) (nearest_reply a 0 no_finding)).count ≤ 1
    go true [] = omega arith
    go true (e ∷ es) = omega arith
    go false es = omega arith

-- ---- for any tables: the outcome of a scan of all entries
pub near_scan : (t : Tables) (c : Position) (r : Float) → nearest_of t c r ≡ scan_of t c r
unfolding scan_of
near_scan t c r =
    elim (d_eq (first_of (nearest_tests t c r)) 0) [
      | inl e ↦
          let z = sym e in
          let (h, dc, dr) = passed_tests t c r z in
          sym (nearest-done t c r z) ∙ ap (nearest_report t) (closest_scan t h c r dc dr) ∙ sym (picked (eqb (first_of (nearest_tests t c r)) 0) _ _ (eq-eqb (first_of (nearest_tests t c r)) 0 e))
      | inr n ↦ sym (nearest-refused t c r (first_of (nearest_tests t c r)) refl n) ∙ sym (not_picked (eqb (first_of (nearest_tests t c r)) 0) _ _ (ne_eqb (first_of (nearest_tests t c r)) 0 n))
    ]

-- ---- where it is not refused
module _ (t : Tables) (c : Position) (r : Float) (a : (nearest_of t c r).answer ≡ 0) where
  abbrev reported : List Entry
  reported = around_finds t c r

  report : nearest_of t c r ≡ nearest_report t (closest_from c [] reported)
  report = sym (nearest-done t c r (accepted t c r a))

  -- count 0 exactly if the circle reports nothing
  count_of : (l : List Entry) → (nearest_report t l).count ≡ 0 → l ≡ []
  count_of [] e = refl
  count_of (x ∷ l) e = absurd (omega (arith, e))

  pub near_none : ((nearest_of t c r).count ≡ 0 → reported ≡ []) × (reported ≡ [] → (nearest_of t c r).count ≡ 0)
  unfolding closest_from
  near_none = (
    λ e. none_left c reported (count_of (closest_from c [] reported) (ap (λ (x : Nearest). x.count) (sym report) ∙ e)),
    λ e. ap (λ (x : Nearest). x.count) (report ∙ ap (λ (l : List Entry). nearest_report t (closest_from c [] l)) e),
  )

  -- the squared distance of what is returned
  abbrev nearest_at : Float
  nearest_at = distance_squared (nearest_of t c r).position c

  -- no reported point is nearer, and of those as near none has a lower slot
  abbrev NotBetter : Float → ℕ → Entry → Type 0
  NotBetter d s e = (lt (distance_squared (position_of e) c) d ≡ false) × (eq (distance_squared (position_of e) c) d ≡ true → s ≤ slot_of e)

  parted : (p q : Bool) (m n : ℕ) → (p || (q && ltb m n)) ≡ false → (p ≡ false) × (q ≡ true → n ≤ m)
  parted true q m n e = absurd (apart (sym e))
  parted false true m n e = (refl, λ z. ltb-false m n e)
  parted false false m n e = (refl, λ z. absurd (apart z))

  module _ (h : Holds t) (dc : T (position_in_domain c)) (dr : T (radius_in_domain r)) where
    all_not_better : (l : List Entry) → closest_from c [] reported ≡ l → Agree (size_of t) c r t.pool t.spots (used_of t) (walkable t h c r dc dr) (best t h c r dc dr) l
        → All (NotBetter nearest_at (nearest_of t c r).handle.slot) reported
    all_not_better [] e g = subst (All (NotBetter nearest_at (nearest_of t c r).handle.slot)) (sym (none_left c reported e)) tt
    all_not_better (x ∷ l) e g =
        let (j, s, lj, eb, ex, f) = g in
        let here : nearest_of t c r ≡ nearest_report t (entry_at t.pool t.spots j ∷ []) = report ∙ ap (nearest_report t) (e ∙ ap₂ {C = List Entry} (λ (y : Entry) (m : List Entry). y ∷ m) ex s) in
        subst (All (NotBetter nearest_at (nearest_of t c r).handle.slot)) (sym (circle_scan t h c r dc dr))
        (filter_all (λ y. in_circle (position_of y) c r) (NotBetter nearest_at (nearest_of t c r).handle.slot) (entries_in t)
        (all_entries t.pool t.spots (used_of t) (in_pool t h) (in_spots t h) (NotBetter nearest_at (nearest_of t c r).handle.slot)
        (λ k lk.
        subst (λ (n : Nearest). NotBetter (distance_squared n.position c) n.handle.slot (entry_at t.pool t.spots k)) (sym here)
        (parted (lt (distance_at c t.spots k) (distance_at c t.spots j)) (eq (distance_at c t.spots k) (distance_at c t.spots j)) (second t.pool k) (second t.pool j)
        (sym (ap (closer (distance_at c t.spots k) (second t.pool k)) eb) ∙ best-least (size_of t) c r t.pool t.spots (used_of t) (walkable t h c r dc dr) k lk)))))

  not_better : All (NotBetter nearest_at (nearest_of t c r).handle.slot) reported
  not_better =
      let (h, dc, dr) = passed_tests t c r (accepted t c r a) in
      all_not_better h dc dr (closest_from c [] reported) refl (subst (Agree (size_of t) c r t.pool t.spots (used_of t) (walkable t h c r dc dr) (best t h c r dc dr)) (sym (closest_scan t h c r dc dr)) (agreed t h c r dc dr))

  -- no point that the circle reports is nearer
  pub near-least : All (λ e. lt (distance_squared (position_of e) c) (distance_squared (nearest_of t c r).position c) ≡ false) reported
  near-least = all_map (NotBetter nearest_at (nearest_of t c r).handle.slot) (λ e. lt (distance_squared (position_of e) c) nearest_at ≡ false) (λ e n. n.0) reported not_better

  -- and of those that are as near none has a lower slot
  pub near_lowest_slot : All (λ e. eq (distance_squared (position_of e) c) (distance_squared (nearest_of t c r).position c) ≡ true → (nearest_of t c r).handle.slot ≤ slot_of e) reported
  near_lowest_slot = all_map (NotBetter nearest_at (nearest_of t c r).handle.slot) (λ e. eq (distance_squared (position_of e) c) nearest_at ≡ true → (nearest_of t c r).handle.slot ≤ slot_of e) (λ e n. n.1) reported not_better
