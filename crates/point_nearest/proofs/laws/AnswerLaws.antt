-- What `nearest` answers: the refusals of its range, and else what is told of the best entry. Assumes nothing.
use Rattle.basics.specs.Words.{ℕ, ◌<◌, ◌≡◌, refl, sym, ap, ◌∙◌, subst, ◌&&◌, List, [], ◌∷◌, inl, inr, T, eqb, arith, eq-eqb, ne_eqb}
use lib.Ieee.{Float}
use Rattle.basics.specs.Meaning.Refusals.{first_of}
use Rattle.basics.proofs.laws.Says.{d_lt, d_eq, both_true, says_t}
use Rattle.geometry.specs.declared.Position.{Position}
use Rattle.geometry.specs.Meaning.Domain.{position_in_domain, radius_in_domain}
use Rattle.geometry.specs.Meaning.Circle.{in_circle, corner_below, corner_above}
use Rattle.storage.specs.Meaning.Keyed.{filter}
use Rattle.storage.specs.Meaning.Entries.{Entry}
use Rattle.storage.specs.Meaning.Packed.{second}
use Rattle.point_tables.specs.Meaning.Tables.{Tables, size_of, used_of, entries_in}
use Rattle.point_tables.specs.Meaning.Holds.{Holds}
use Rattle.point_tables.specs.Meaning.Decide.{holds_says}
use Rattle.point_search.specs.Meaning.Searches.{position_of, finding_on}
use Rattle.point_search.proofs.laws.FindLaws.{range_passed}
use Rattle.point_search.proofs.laws.FoundLaws.{stands}
use Rattle.point_search.proofs.laws.FillLaws.{stocked, findable}
use Rattle.point_search.proofs.laws.ScanLaws.{circle_scan}
use Rattle.point_query.specs.Meaning.Queries.{around_finds}
use Rattle.point_rings.specs.declared.Best.{Best}
use Rattle.point_rings.specs.Inner.Look.{best_of, every}
use Rattle.point_rings.specs.Inner.Rings.{Walkable}
use Rattle.point_rings.proofs.laws.LookLaws.{picked, not_picked}
use Rattle.replies.specs.declared.Nearest.{Nearest}
use Rattle.point_nearest.specs.Meaning.Nearest.{closest_from, nearest_reply, no_finding, nearest_report, nearest_tests, nearest_of}
use Rattle.point_nearest.specs.Inner.Told.{told_of, Tellable}
use Rattle.point_nearest.proofs.laws.AgreeLaws.{Agree, agree}

-- ---- refused, or done
module _ (t : Tables) (c : Position) (r : Float) where
  pub nearest-refused : (w : ℕ) → w ≡ first_of (nearest_tests t c r) → (w ≡ 0 → ⊥) → nearest_reply w 0 no_finding ≡ nearest_of t c r
  unfolding nearest_of
  nearest-refused w e n =
      ap (λ (k : ℕ). nearest_reply k 0 no_finding) e
      ∙ sym (not_picked (eqb (first_of (nearest_tests t c r)) 0) _ (nearest_reply (first_of (nearest_tests t c r)) 0 no_finding) (ne_eqb (first_of (nearest_tests t c r)) 0 (λ z. n (e ∙ z))))

  pub nearest-done : 0 ≡ first_of (nearest_tests t c r) → nearest_report t (closest_from c [] (around_finds t c r)) ≡ nearest_of t c r
  unfolding nearest_of
  nearest-done e = sym (picked (eqb (first_of (nearest_tests t c r)) 0) _ _ (eq-eqb (first_of (nearest_tests t c r)) 0 (sym e)))

  -- ---- where the tests pass the tables hold a grid, and the numbers are in the domain
  pub passed_tests : 0 ≡ first_of (nearest_tests t c r) → Holds t × T (position_in_domain c) × T (radius_in_domain r)
  passed_tests e =
      let p = range_passed t (position_in_domain c && radius_in_domain r) (corner_below c r) (corner_above c r) e in
      let (x, y) = both_true (position_in_domain c) (radius_in_domain r) p.1 in
      ((holds_says t).yes p.0, (says_t (position_in_domain c)).yes x, (says_t (radius_in_domain r)).yes y)

  pub accepted : (nearest_of t c r).answer ≡ 0 → 0 ≡ first_of (nearest_tests t c r)
  accepted a = elim (d_eq (first_of (nearest_tests t c r)) 0) [ inl e ↦ sym e | inr n ↦ absurd (n (ap (λ (x : Nearest). x.answer) (nearest-refused (first_of (nearest_tests t c r)) refl n) ∙ a)) ]

-- ---- tables that hold a grid can be looked at ring by ring
module _ (t : Tables) (h : Holds t) (c : Position) (r : Float) (dc : T (position_in_domain c)) (dr : T (radius_in_domain r)) where
  once : (i j : ℕ) → i < used_of t → j < used_of t → second t.pool i ≡ second t.pool j → i ≡ j
  once i j li lj e =
      elim (d_lt i j) [
        | inl g ↦ absurd (h.lists.once i j lj g e)
        | inr g ↦ elim (d_lt j i) [ inl k ↦ absurd (h.lists.once j i li k (sym e)) | inr k ↦ omega (arith, g, k) ]
      ]

  pub walkable : Walkable (size_of t) c r t.pool t.spots (used_of t)
  walkable = record {
    stocked = stocked t h;
    sized = h.counted.size;
    centred = dc;
    round = dr;
    few = λ j l. omega (arith, (h.lists.each j l).inside, h.sized.most);
    once = once;
    placed = λ j l. (stands t h j l).within_domain;
    listed = λ j l. (stands t h j l).key;
  }

  abbrev pub best : Best
  best = best_of c r t.pool t.spots (used_of t) every

  -- the scan of all entries
  abbrev pub scanned : List Entry
  scanned = closest_from c [] (filter (λ e. in_circle (position_of e) c r) (entries_in t))

  pub agreed : Agree (size_of t) c r t.pool t.spots (used_of t) walkable best scanned
  agreed = agree (size_of t) c r t.pool t.spots (used_of t) walkable

  pub closest_scan : closest_from c [] (around_finds t c r) ≡ scanned
  closest_scan = ap (closest_from c []) (circle_scan t h c r dc dr)

  -- ---- what is told of the best
  told_by : (b : Best) (l : List Entry) → Agree (size_of t) c r t.pool t.spots (used_of t) walkable b l → told_of t.nums t.pool t.spots b ≡ nearest_report t l
  told_by b [] a = ap (told_of t.nums t.pool t.spots) a
  told_by b (e ∷ es) a =
      let (j, s, lj, eb, ee, f) = a in
      ap (told_of t.nums t.pool t.spots) eb ∙ ap (λ (x : Entry). nearest_reply 0 1 (finding_on t x)) (sym ee)

  pub told_is : told_of t.nums t.pool t.spots best ≡ nearest_report t (closest_from c [] (around_finds t c r))
  told_is = told_by best scanned agreed ∙ ap (nearest_report t) (sym closest_scan)

  tellable_by : (b : Best) (l : List Entry) → Agree (size_of t) c r t.pool t.spots (used_of t) walkable b l → Tellable t.nums t.pool t.spots b
  tellable_by b [] a = subst (Tellable t.nums t.pool t.spots) (sym a) (h.sized.most, tt)
  tellable_by b (e ∷ es) a =
      let (j, s, lj, eb, ee, f) = a in
      subst (Tellable t.nums t.pool t.spots) (sym eb) (h.sized.most, findable t h j lj)

  pub tellable : Tellable t.nums t.pool t.spots best
  tellable = tellable_by best scanned agreed
