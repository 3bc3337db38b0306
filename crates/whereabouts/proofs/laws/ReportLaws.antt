-- Right after the next maintain a circle that is not refused reports, once each, exactly the points that are due. Assumes nothing.
use Rattle.basics.specs.Words.{ℕ, zero, suc, ◌<◌, ◌≡◌, sym, ap, ◌∙◌, subst, true, ◌&&◌, List, [], ◌∷◌, Memᴰ, Memᴰ-cases_cons, Memᴰ-not_nil}
use Rattle.basics.specs.Words.{⊎_elim, length, get_or, T, not-suc-le-zero, le_of_suc-le-suc, arith}
use lib.Ieee.{Float}
use lib.Ieee.Fits.{and_l, and_r}
use Rattle.basics.proofs.laws.Says.{d_lt}
use Rattle.geometry.specs.declared.Position.{Position}
use Rattle.geometry.specs.Meaning.Domain.{position_in_domain, radius_in_domain}
use Rattle.geometry.specs.Meaning.Circle.{in_circle, corner_below, corner_above}
use Rattle.cells.specs.Inner.CellRule.{Reached}
use Rattle.cells.specs.Meaning.CellRule.{cell_at}
use Rattle.cells.proofs.laws.Range.{in_range}
use Rattle.cells.proofs.laws.ReachLaws.{low_reached, high_reached}
use Rattle.cells.proofs.laws.Cover.{circle_cover}
use Rattle.slots.specs.declared.Handle.{Handle}
use Rattle.slots.specs.Meaning.Slot.{version_at}
use Rattle.storage.specs.Meaning.Keyed.{All}
use Rattle.storage.specs.Meaning.Entries.{Entry}
use Rattle.storage.proofs.laws.FilterLaws.{all_at, filter_passes}
use Rattle.point_records.specs.Meaning.Word.{tracker_at}
use Rattle.point_tables.specs.Meaning.Tables.{Tables, size_of, record_on, entries_in, slot_of}
use Rattle.point_tables.specs.Meaning.Holds.{Holds}
use Rattle.point_deferred.specs.Meaning.Calls.{Call}
use Rattle.point_deferred.proofs.laws.MovesLaws.{Named, named}
use Rattle.point_search.specs.declared.Test.TheVariants.{Circle}
use Rattle.point_search.specs.Meaning.Searches.{position_of, found, finding_on, Outputs, Findings, report_of}
use Rattle.point_query.specs.Meaning.Queries.{around_of}
use Rattle.point_search.proofs.laws.FoundLaws.{Standing}
use Rattle.point_search.proofs.laws.OnceLaws.{Once, found-once, found-standing, finds}
use Rattle.point_search.proofs.laws.ScanLaws.{circle_scan}
use Rattle.whereabouts.proofs.laws.StandsLaws.{Settled, next-holds, stands, stands_at_lem}
use Rattle.whereabouts.specs.Meaning.Stands.{next_maintain}
use Rattle.whereabouts.specs.Meaning.Report.{ReportedAt, Reports, Due}
use Rattle.point_search.proofs.laws.FindLaws.{search_ok, search_done}
use Rattle.whereabouts.proofs.laws.ShownLaws.{no_entry, entry_of, Shown, shown, reported, Stands, shown_stands}

-- ---- places of a list
member_at : {A : Type 0} (x d : A) (l : List A) → Memᴰ x l → (j : ℕ) × (j < length l) × (get_or l j d ≡ x)
member_at x d [] m = absurd (Memᴰ-not_nil m)
member_at x d (y ∷ l) m =
    ⊎_elim
    (λ e. (0, omega arith, sym e))
    (λ k. let (j, h, q) = member_at x d l k in (suc j, omega arith, q))
    (Memᴰ-cases_cons m)

once_at : (d : Entry) (es : List Entry) → Once es → (i j : ℕ) → j < length es → i < j → slot_of (get_or es i d) ≡ slot_of (get_or es j d) → ⊥
once_at d [] o i j h g = absurd (not-suc-le-zero h)
once_at d (e ∷ es) o i zero h g = absurd (not-suc-le-zero g)
once_at d (e ∷ es) o zero (suc j) h g = all_at (λ x. slot_of e ≡ slot_of x → ⊥) d es j (le_of_suc-le-suc h) o.0
once_at d (e ∷ es) o (suc i) (suc j) h g = once_at d es o.1 i j (le_of_suc-le-suc h) (le_of_suc-le-suc g)

-- ---- a circle that is not refused, in tables that hold a grid
module _ (m : Tables) (h : Holds m) (c : Position) (r : Float) (o : Outputs) (a : (around_of m c r o).returned.answer ≡ 0) where
  abbrev low : Position
  low = corner_below c r

  abbrev high : Position
  high = corner_above c r

  abbrev es : List Entry
  es = found m low high (Circle c r)

  both : T (position_in_domain c && radius_in_domain r)
  unfolding around_of
  both = subst T (sym (search_ok m (position_in_domain c && radius_in_domain r) low high (Circle c r) o a)) tt

  dc : T (position_in_domain c)
  dc = and_l (position_in_domain c) (radius_in_domain r) both

  dr : T (radius_in_domain r)
  dr = and_r (position_in_domain c) (radius_in_domain r) both

  rl : Reached low
  rl = low_reached c r dc dr

  ru : Reached high
  ru = high_reached c r dc dr

  is_done : around_of m c r o ≡ report_of (finding_on m) es o
  unfolding around_of
  is_done = search_done m (position_in_domain c && radius_in_domain r) low high (Circle c r) o a

  all_near : All (λ e. in_circle (position_of e) c r ≡ true) es
  all_near = rw (circle_scan m h c r dc dr) (filter_passes (λ e. in_circle (position_of e) c r) (entries_in m))

  -- what place j of its outputs shows
  abbrev at : ℕ → Entry
  at = entry_of es

  abbrev Shows : ℕ → Handle → Position → ℕ → ℕ → Type 0
  Shows = Shown m es

  stood : All (Standing m) es
  stood = found-standing m h low high rl ru (Circle c r)

  -- what is shown stands in the tables, and is in the circle
  record Sound (g : Handle) (p : Position) (d k : ℕ) : Type 0 where
    stands_there : Stands m g p d k
    near : in_circle p c r ≡ true

  sound : (j : ℕ) (g : Handle) (p : Position) (d k : ℕ) → Shows j g p d k → Sound g p d k
  sound j g p d k w =
      record {
        stands_there = shown_stands m es h stood j g p d k w;
        near = sym (ap (λ (q : Position). in_circle q c r) w.place) ∙ all_at (λ e. in_circle (position_of e) c r ≡ true) no_entry es j w.filled all_near;
      }

  -- and every such handle is shown
  module _ (g : Handle) (p : Position) (d k : ℕ) (s : Sound g p d k) where
    abbrev n : Named m g
    n = named m g s.stands_there.good-handle

    abbrev q : Position
    q = (record_on m g.slot).position

    q_near : in_circle q c r ≡ true
    q_near = ap (λ (x : Position). in_circle x c r) (sym s.stands_there.recorded) ∙ s.near

    q_covered : in_range (cell_at (size_of m) low) (cell_at (size_of m) high) (cell_at (size_of m) q) ≡ true
    q_covered =
        let inside = (h.records g.slot n.inside n.occupied).occupied.within_domain in
        circle_cover (size_of m) h.counted.size.0 q c r inside dc dr q_near

    shown_at : (j : ℕ) → j < length es → slot_of (at j) ≡ g.slot → Shows j g p d k
    shown_at j l v =
        let w = all_at (Standing m) no_entry es j l stood in
        record {
          filled = l;
          slot = v;
          version = ap (version_at m.nums) v ∙ n.version;
          place = w.recorded ∙ ap (λ (i : ℕ). (record_on m i).position) v ∙ sym s.stands_there.recorded;
          obj = ap (λ (i : ℕ). (record_on m i).obj) v ∙ sym s.stands_there.has_data;
          tracker = ap (tracker_at m.nums) v ∙ sym s.stands_there.has_tracker;
        }

    complete : (j : ℕ) × Shows j g p d k
    complete =
        let (e, b, w) = finds m h low high rl ru (Circle c r) g.slot n.inside n.occupied q_near q_covered in
        let (j, l, z) = member_at e no_entry es b in
        (j, shown_at j l (ap slot_of z ∙ w))

  -- no slot at two places
  once : (i j : ℕ) → i < length es → j < length es → slot_of (at i) ≡ slot_of (at j) → i ≡ j
  once i j x y e =
      let f = found-once m h low high rl ru (Circle c r) in
      ⊎_elim (λ l. absurd (once_at no_entry es f i j y l e))
      (λ q. ⊎_elim (λ l. absurd (once_at no_entry es f j i x l (sym e))) (λ w. omega (arith, q, w)) (d_lt j i))
      (d_lt i j)

-- ---- the demand: t is the grid right after a maintain, cs are the calls since, and the circle is asked right after the next maintain
module _ (t : Tables) (s : Settled t) (cs : List Call) (c : Position) (r : Float) (o : Outputs) (a : (around_of (next_maintain t cs).after c r o).returned.answer ≡ 0) where
  abbrev m' : Tables
  m' = (next_maintain t cs).after

  hm : Holds m'
  hm = next-holds t s cs

  abbrev o' : Findings
  o' = around_of m' c r o

  seen : (j : ℕ) (g : Handle) (p : Position) (d k : ℕ) → ReportedAt o' j g p d k → Shows m' hm c r o a j g p d k
  seen = shown m' (es m' hm c r o a) o o' (is_done m' hm c r o a)

  -- exactly the points that are due
  pub circle_reports : (g : Handle) (p : Position) (d k : ℕ) → (Reports o' g p d k → Due t cs c r g p d k) × (Due t cs c r g p d k → Reports o' g p d k)
  circle_reports g p d k = (
    λ (j, w).
        let v = sound m' hm c r o a j g p d k (seen j g p d k w) in
        let b = v.stands_there in
        let (x, y) = (stands t s cs g).yes b.good-handle in
        let (was, at, own) = stands_at_lem t s cs g x y in
        record { was-live = x; not_removed = y; at_last = b.recorded ∙ at; has_data = b.has_data ∙ was; has_tracker = b.has_tracker ∙ own; near = v.near },
    λ u.
        let x = (stands t s cs g).no (u.was-live, u.not_removed) in
        let (was, at, own) = stands_at_lem t s cs g u.was-live u.not_removed in
        let b : Stands m' g p d k = record { good-handle = x; recorded = u.at_last ∙ sym at; has_data = u.has_data ∙ sym was; has_tracker = u.has_tracker ∙ sym own } in
        let (j, w) = complete m' hm c r o a g p d k (record { stands_there = b; near = u.near }) in
        (j, reported m' (es m' hm c r o a) o o' (is_done m' hm c r o a) j g p d k w),
  )

  -- once each
  pub reports_once : (i j : ℕ) (g h : Handle) (p q : Position) (d e k l : ℕ) → ReportedAt o' i g p d k → ReportedAt o' j h q e l → g.slot ≡ h.slot → i ≡ j
  reports_once i j g h p q d e k l x y f =
      let v = seen i g p d k x in
      let w = seen j h q e l y in
      once m' hm c r o a i j v.filled w.filled (v.slot ∙ f ∙ sym w.slot)
