-- The user's demands on the point grid. Demand 2 is each call's own promise, read beside 01 and the Rust: docs/PROMISES.md. Assumes nothing.
-- Here: the laws.
use Rattle.basics.specs.Words.{ℕ, ◌≡◌, refl, ap, ◌∙◌, Bool, true, false, not, ◌&&◌, ◌||◌, List, [], ◌∷◌, ◌++◌, ⊎_elim, eqb}
use lib.Ieee.{Float}
use Rattle.basics.proofs.laws.Says.{d_eq}
use Rattle.basics.specs.Meaning.Refusals.{applies, first_that}
use Rattle.basics.proofs.laws.RefusalLaws.{three_first}
use Rattle.geometry.specs.declared.Position.{Position}
use Rattle.geometry.specs.Meaning.Circle.{in_circle}
use Rattle.slots.specs.declared.Handle.{Handle}
use Rattle.storage.specs.Meaning.Keyed.{All}
use Rattle.point_tables.specs.Meaning.Tables.{Tables, record_on}
use Rattle.point_tables.specs.Meaning.Holds.{Holds}
use Rattle.point_tables.specs.Meaning.Decide.{sized_says, holds, holds_says}
use Rattle.point_insert.specs.Meaning.New.{new_of}
use Rattle.point_insert.proofs.laws.NewLaws.{new-holds, new-refused}
use Rattle.point_insert.proofs.laws.InsertLaws.{insert-holds}
use Rattle.point_deferred.proofs.laws.MovesKeeps.{set-position_keeps, remove_keeps}
use Rattle.point_batch.proofs.laws.BatchAnswerLaws.{batch_keeps}
use Rattle.point_remove.proofs.laws.RemoveLaws.{remove-holds}
use Rattle.point_clear.proofs.laws.ClearLaws.{clear-holds}
use Rattle.point_maintain.proofs.laws.MaintainLaws.{maintain_keeps}
use Rattle.point_deferred.specs.Meaning.Calls.{Call, call_of, tables_after}
use Rattle.point_batch.specs.Meaning.Batch.{even}
use Rattle.point_maintain.specs.Meaning.Maintain.{maintain_of}
use Rattle.point_search.specs.Meaning.Searches.{Outputs, Findings}
use Rattle.point_query.specs.Meaning.Queries.{around_of}
use Rattle.trackers.specs.Meaning.Merges.{SameOrders, Alike, batch_for, SameBatch}
use Rattle.trackers.proofs.laws.MergeLaws.{any_merge}
use Rattle.trackers.proofs.laws.BatchMergeLaws.{any_merge_batch}
use Rattle.whereabouts.specs.Meaning.Report.{ReportedAt, Reports, Due}
use Rattle.whereabouts.proofs.laws.StandsLaws.{maintain-settles, next-accepted}
use Rattle.whereabouts.specs.Meaning.Stands.{next_maintain}
use Rattle.whereabouts.proofs.laws.ReportLaws.{circle_reports, reports_once}
use Rattle.whereabouts.specs.Meaning.Moved.{Other}
use Rattle.whereabouts.proofs.laws.MovedLaws.{moved-found}
use Rattle.demands.proofs.laws.Tested.{first-answer, first-refused, handle_no_three}
use Rattle.demands.specs.Meaning.PointCalls.{PointCall, new, insert, set_position, remove, batch, maintain, remove_maintain, clear}
use Rattle.demands.specs.Meaning.PointCalls.{get, len, handles, query, query_around, query_aabb, nearest}
use Rattle.demands.specs.Meaning.PointCalls.{leaves, refusals, refused_with, uneven}
use Rattle.demands.proofs.laws.PointSteps.{step}
use Rattle.demands.specs.Meaning.Demands.{after_calls}

-- ---- demand 1: no call traps, whatever tables, handles and numbers it is handed: no public call has a `requires`, so that its theorem is of
-- any of them. Bad input gets the refusal that document 01 lists,
pub demand_1_answer : (t : Tables) (c : PointCall) → (leaves t c).answer ≡ first_that (refusals t c)
demand_1_answer t c = first-answer (step t c) (λ n. refl)

-- and a refused call leaves the tables and the outputs as they were, and returns zeros; 9 also returns the number found
pub demand_1_refused : (t : Tables) (c : PointCall) → (first_that (refusals t c) ≡ 0 → ⊥) → leaves t c ≡ refused_with t c (first_that (refusals t c))
demand_1_refused t c n = first-refused (step t c) n

-- ---- on tables that hold a grid no call but an uneven batch answers 3, `new` included: they have the right lengths
holding_three : (t : Tables) (c : PointCall) → Holds t → applies (refusals t c) 3 ≡ uneven c
unfolding refusals uneven
holding_three t (new size) h = rw ((sized_says t).no h.sized)
holding_three t (insert p d k) h = rw ((holds_says t).no h)
holding_three t (set_position g p k) h = rw ((holds_says t).no h, handle_no_three t.nums g)
holding_three t (remove g k) h = rw ((holds_says t).no h, handle_no_three t.nums g)
holding_three t (batch ks hs ps out) h = rw ((holds_says t).no h) (go (even ks hs ps))
  where
    go : (b : Bool) → (not (b && true) || false) ≡ not b
    go true = refl
    go false = refl
holding_three t maintain h = rw ((holds_says t).no h)
holding_three t (remove_maintain g k) h = rw ((holds_says t).no h, handle_no_three t.nums g)
holding_three t (clear ps os) h = rw ((holds_says t).no h)
holding_three t (get g) h = rw ((holds_says t).no h, handle_no_three t.nums g)
holding_three t len h = rw ((holds_says t).no h)
holding_three t (handles out) h = rw ((holds_says t).no h)
holding_three t (query ll ur o) h = rw ((holds_says t).no h)
holding_three t (query_around c r o) h = rw ((holds_says t).no h)
holding_three t (query_aabb a b o) h = rw ((holds_says t).no h)
holding_three t (nearest c r) h = rw ((holds_says t).no h)

pub never_three : (t : Tables) (c : PointCall) → Holds t → eqb (leaves t c).answer 3 ≡ uneven c
never_three t c h = ap (λ (a : ℕ). eqb a 3) (demand_1_answer t c) ∙ three_first (refusals t c) ∙ holding_three t c h

-- ---- demand 3, first half: on any tables, for any handles, two lists in which each tracker number has the same calls in the same order give
-- each call the same answer and data and leave the same tables
pub demand_3_merges : (t : Tables) (m n : List Call) → SameOrders m n → Alike t m n
demand_3_merges = any_merge

-- the same of the lists as two batches
pub demand_3_batches : (t : Tables) (m n : List Call) → SameOrders m n → (out : List (List ℕ)) → SameBatch m n (batch_for t m out) (batch_for t n out)
demand_3_batches t m n p out = any_merge_batch t out m n p

-- ---- second half: t is the grid right after an accepted maintain. After any such list m the next maintain is accepted, and a circle that is
-- not refused reports, once each, exactly the points live before and not removed, each at its last accepted position (or unmoved), that are
-- strictly nearer than the radius
module _ (before : Tables) (a : (maintain_of before).result.answer ≡ 0) where
  abbrev t : Tables
  t = (maintain_of before).after

  pub demand_3_maintain : (m : List Call) → (next_maintain t m).result.answer ≡ 0
  demand_3_maintain m = next-accepted t (maintain-settles before a) m

  -- what the circle leaves after the calls cs and the next maintain
  abbrev report_after : List Call → Position → Float → Outputs → Findings
  report_after cs centre radius o = around_of (next_maintain t cs).after centre radius o

  module _ (m : List Call) (centre : Position) (radius : Float) (o : Outputs) where
    abbrev report : Findings
    report = report_after m centre radius o

    module _ (b : report.returned.answer ≡ 0) where
      -- with its data and its tracker
      pub demand_3_exactly : (g : Handle) (at : Position) (obj tracker : ℕ)
          → (Reports report g at obj tracker → Due t m centre radius g at obj tracker) × (Due t m centre radius g at obj tracker → Reports report g at obj tracker)
      demand_3_exactly = circle_reports t (maintain-settles before a) m centre radius o b

      pub demand_3_once : (i j : ℕ) (g h : Handle) (x y : Position) (d e k l : ℕ) → ReportedAt report i g x d k → ReportedAt report j h y e l → g.slot ≡ h.slot → i ≡ j
      demand_3_once = reports_once t (maintain-settles before a) m centre radius o b

  -- ---- the historic failure: a point that an accepted set_position moved last, by any distance within the domain, and that lies strictly
  -- inside the circle, is in the report, with its data and its tracker. The calls are xs, then c, then ys, and none of ys has its handle.
  pub no_hand_is_lost : (xs : List Call) (c : Call) (ys : List Call)
      → c.kind ≡ 0 → (call_of (tables_after t xs) c).result.answer ≡ 0 → All (Other c.handle) ys
      → (centre : Position) (radius : Float) (o : Outputs) → (report_after (xs ++ (c ∷ ys)) centre radius o).returned.answer ≡ 0
      → in_circle c.at centre radius ≡ true → Reports (report_after (xs ++ (c ∷ ys)) centre radius o) c.handle c.at (record_on t c.handle.slot).obj c.tracker
  no_hand_is_lost xs c ys k e last centre radius o b n = moved-found t (maintain-settles before a) xs c ys k e last centre radius o b n

-- ---- tables built and changed only by these calls always hold a grid and are never refused as not holding one: on tables of any content that
-- `new` accepts, any history of public calls, accepted or refused, in which the grid may be built anew
new_keeps : (t : Tables) (size : ℕ) → Holds t → Holds (new_of t size).after
new_keeps t size h = ⊎_elim (new-holds t size) (λ n. rw (new-refused t size n) h) (d_eq (new_of t size).result 0)

pub keeps_a_grid : (t : Tables) (c : PointCall) → Holds t → Holds (leaves t c).after
unfolding leaves
keeps_a_grid t (new size) h = new_keeps t size h
keeps_a_grid t (insert p d k) h = insert-holds t p d k h
keeps_a_grid t (set_position g p k) h = set-position_keeps t g p k h
keeps_a_grid t (remove g k) h = remove_keeps t g k h
keeps_a_grid t (batch ks hs ps out) h = batch_keeps t ks hs ps out h
keeps_a_grid t maintain h = maintain_keeps t h
keeps_a_grid t (remove_maintain g k) h = remove-holds t g k h
keeps_a_grid t (clear ps os) h = clear-holds t ps os h
keeps_a_grid t (get g) h = h
keeps_a_grid t len h = h
keeps_a_grid t (handles out) h = h
keeps_a_grid t (query ll ur o) h = h
keeps_a_grid t (query_around c r o) h = h
keeps_a_grid t (query_aabb a b o) h = h
keeps_a_grid t (nearest c r) h = h

all_keep : (t : Tables) (cs : List PointCall) → Holds t → Holds (after_calls t cs)
unfolding after_calls
all_keep t [] h = h
all_keep t (c ∷ cs) h = all_keep (leaves t c).after cs (keeps_a_grid t c h)

module _ (t : Tables) (size : ℕ) (accepts : (new_of t size).result ≡ 0) (cs : List PointCall) where
  kept : Holds (after_calls (new_of t size).after cs)
  kept = all_keep (new_of t size).after cs (new-holds t size accepts)

  pub always_a_grid : holds (after_calls (new_of t size).after cs) ≡ true
  always_a_grid = (holds_says (after_calls (new_of t size).after cs)).no kept

  pub never_refused_as_none : (c : PointCall) → eqb (leaves (after_calls (new_of t size).after cs) c).answer 3 ≡ uneven c
  never_refused_as_none c = never_three (after_calls (new_of t size).after cs) c kept
