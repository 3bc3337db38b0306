-- What a query writes of an object, or `nearest` returns, is what `get` says of it. Assumes nothing.
use Rattle.basics.specs.Words.{ℕ, ◌<◌, ◌≡◌, sym, ap, ◌∙◌, refl, subst, Bool, true, false, ◌&&◌, List, [], ◌∷◌, Memᴰ, Memᴰ-head, get_or, eqb, arith, eqb-true}
use lib.Ieee.{Float}
use Rattle.basics.specs.Meaning.Refusals.{first_of, pick}
use Rattle.geometry.specs.declared.Position.{Position}
use Rattle.geometry.specs.Meaning.Domain.{position_in_domain, radius_in_domain}
use Rattle.geometry.specs.Meaning.Rectangle.{lower_corner, upper_corner}
use Rattle.geometry.specs.Meaning.Circle.{corner_below, corner_above}
use Rattle.cells.specs.Inner.CellRule.{Reached}
use Rattle.slots.specs.declared.Handle.{Handle}
use Rattle.replies.specs.declared.Nearest.{Nearest}
use Rattle.storage.specs.Meaning.Entries.{Entry}
use Rattle.box_search.proofs.laws.StandsLaws.{all_member}
use Rattle.point_records.specs.Meaning.Columns.{position_in}
use Rattle.point_records.specs.Meaning.Word.{tracker_at}
use Rattle.point_tables.specs.Meaning.Tables.{Tables, record_on, slot_of}
use Rattle.point_tables.specs.Meaning.Holds.{Holds}
use Rattle.point_tables.specs.Meaning.Decide.{holds, holds_says}
use Rattle.point_batch.specs.Meaning.Batch.{handle_of}
use Rattle.point_get.specs.Meaning.{got, get_of}
use Rattle.point_get.proofs.laws.ReadsLaws.{get_0}
use Rattle.point_search.specs.declared.Test.{Test}
use Rattle.point_search.specs.declared.Test.TheVariants.{Any, Circle, Rectangle}
use Rattle.point_search.specs.Meaning.Searches.{position_of, found, finding_on, Outputs, Findings, search_of}
use Rattle.point_search.proofs.laws.FoundLaws.{Standing}
use Rattle.point_search.proofs.laws.OnceLaws.{standing-good, found-standing}
use Rattle.point_query.specs.Meaning.Queries.{query_of, around_finds, around_of, aabb_of}
use Rattle.point_query.proofs.laws.CornerLaws.{query_reached, around_reached, aabb_reached}
use Rattle.point_nearest.specs.Meaning.Nearest.{nearest_reply, no_finding, nearest_report, nearest_tests, closest_from, nearest_of}
use Rattle.point_nearest.proofs.laws.MemberLaws.{closest_member}
use Rattle.whereabouts.specs.Meaning.Report.{ReportedAt}
use Rattle.point_search.proofs.laws.FindLaws.{range_passed, search_held, search_ok, search_done}
use Rattle.whereabouts.proofs.laws.ShownLaws.{entry_of, reported, Stands, shows_entry, shown_stands}
use Rattle.demands.specs.Meaning.Queries.{Query, of_cells, of_circle, of_rectangle, queried, got_at, place_at}

-- what place j reports of a good handle is what `get` says of it
reported_got : (t : Tables) (f : Findings) (j : ℕ) (g : Handle) (p : Position) (d k : ℕ) → holds t ≡ true → ReportedAt f j g p d k → Stands t g p d k → got_at t f j ≡ place_at f j
reported_got t f j g p d k h w s =
    ap (λ (row : List ℕ). get_of t (handle_of row)) w.handle
    ∙ sym (get_0 t g h s.good-handle)
    ∙ (λ z. got 0 (sym s.recorded z) (sym s.has_data z) (sym s.has_tracker z))
    ∙ sym (λ z. got 0 (position_in (w.place z)) (get_or (w.obj z) 0 0) (get_or (w.obj z) 1 0))

-- a search whose corners the cell rule may be asked of, and which is not refused
module _ (t : Tables) (ok : Bool) (ll ur : Position) (test : Test) (o : Outputs) (reached : ok ≡ true → Reached ll × Reached ur) where
  abbrev f : Findings
  f = search_of t ok ll ur test o

  search_got : f.returned.answer ≡ 0 → (j : ℕ) → j < f.returned.count → got_at t f j ≡ place_at f j
  search_got a j l =
      let es = found t ll ur test in
      let held = search_held t ok ll ur test o a in
      let h : Holds t = (holds_says t).yes held in
      let (rl, ru) = reached (search_ok t ok ll ur test o a) in
      let done = search_done t ok ll ur test o a in
      let e = finding_on t (entry_of es j) in
      let w = shows_entry t es o f done j l in
      reported_got t f j e.handle e.position e.obj e.tracker held
      (reported t es o f done j e.handle e.position e.obj e.tracker w)
      (shown_stands t es h (found-standing t h ll ur rl ru test) j e.handle e.position e.obj e.tracker w)

-- each filled place of an accepted query: `get` of its handle answers 0, with the position, the data and the tracker beside it
pub finding_is_get : (t : Tables) (q : Query) (o : Outputs) → (queried t q o).returned.answer ≡ 0 → (j : ℕ) → j < (queried t q o).returned.count
    → got_at t (queried t q o) j ≡ place_at (queried t q o) j
unfolding queried query_of around_of aabb_of
finding_is_get t (of_cells ll ur) o =
    search_got t (position_in_domain ll && position_in_domain ur) ll ur Any o (query_reached (position_in_domain ll) (position_in_domain ur) ll ur refl refl)
finding_is_get t (of_circle c r) o =
    search_got t (position_in_domain c && radius_in_domain r) (corner_below c r) (corner_above c r) (Circle c r) o
    (around_reached (position_in_domain c) (radius_in_domain r) c r (corner_below c r) (corner_above c r) refl refl refl refl)
finding_is_get t (of_rectangle a b) o =
    let low = lower_corner a b in
    let high = upper_corner a b in
    search_got t (position_in_domain a && position_in_domain b) low high (Rectangle low high) o
    (aabb_reached (position_in_domain a) (position_in_domain b) a b low high refl refl refl refl)

-- ---- `nearest`: count 1 says that its tests pass, and that one of the closest is returned
module _ (t : Tables) where
  abbrev given : Bool → ℕ → List Entry → Nearest
  given b n near = pick b (nearest_report t near) (nearest_reply n 0 no_finding)

  one-given : (b : Bool) (n : ℕ) → eqb n 0 ≡ b → (near : List Entry) → (given b n near).count ≡ 1
      → (n ≡ 0) × (e : Entry) × Memᴰ e near × (given b n near ≡ nearest_reply 0 1 (finding_on t e))
  one-given true n q [] k = absurd (omega arith)
  one-given true n q (e ∷ near) k = (eqb-true n 0 q, e, Memᴰ-head refl, refl)
  one-given false n q near k = absurd (omega arith)

  -- a point that stands in tables that hold a grid: `get` of its handle says what is returned of it
  standing-got : Holds t → (e : Entry) → Standing t e → get_of t (finding_on t e).handle ≡ got 0 (position_of e) (record_on t (slot_of e)).obj (tracker_at t.nums (slot_of e))
  standing-got h e s =
      sym (get_0 t (finding_on t e).handle ((holds_says t).no h) (standing-good t h e s)) ∙ (λ z. got 0 (sym s.recorded z) (record_on t (slot_of e)).obj (tracker_at t.nums (slot_of e)))

-- what `nearest` returns with count 1, which only answer 0 has: `get` of its handle answers 0, with the position, the data and the tracker beside it
pub nearest_is_get : (t : Tables) (c : Position) (r : Float) → (nearest_of t c r).count ≡ 1
    → get_of t (nearest_of t c r).handle ≡ got 0 (nearest_of t c r).position (nearest_of t c r).obj (nearest_of t c r).tracker
unfolding nearest_of
nearest_is_get t c r k =
    let ok = position_in_domain c && radius_in_domain r in
    let low = corner_below c r in
    let high = corner_above c r in
    let es = around_finds t c r in
    let first = first_of (nearest_tests t c r) in
    let (z, e, m, q) = one-given t (eqb first 0) first refl (closest_from c [] es) k in
    let (held, fine, few) = range_passed t ok low high (sym z) in
    let h : Holds t = (holds_says t).yes held in
    let (rl, ru) = around_reached (position_in_domain c) (radius_in_domain r) c r low high refl refl refl refl fine in
    let s = all_member (Standing t) es (found-standing t h low high rl ru (Circle c r)) e (closest_member c es e m) in
    subst (λ (n : Nearest). get_of t n.handle ≡ got 0 n.position n.obj n.tracker) (sym q) (standing-got t h e s)
