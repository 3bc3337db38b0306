-- Each call of the point grid makes its tests one after the other: it is done if they pass, and else leaves what a call refused with the
-- first number leaves. Assumes nothing.
use Rattle.basics.specs.Words.{ℕ, ◌≡◌, refl, subst, Bool, ◌&&◌, List, [], ◌∷◌, length, length-map, eqb}
use Rattle.basics.specs.Meaning.Refusals.{pick}
use Rattle.replies.specs.Meaning.Replies.{count, inserted, reply}
use Rattle.geometry.specs.declared.Position.{Position}
use Rattle.geometry.specs.Meaning.Domain.{position_in_domain, radius_in_domain}
use Rattle.geometry.specs.Meaning.Rectangle.{lower_corner, upper_corner}
use Rattle.slot_walks.specs.Meaning.Live.{handle_at, live_from}
use Rattle.storage.specs.Meaning.Entries.{Entry}
use Rattle.point_tables.specs.Meaning.Tables.{Tables}
use Rattle.point_tables.specs.Meaning.Outcome.{outcome}
use Rattle.point_insert.specs.Meaning.New.{new_of}
use Rattle.point_insert.specs.Meaning.Insert.{insert_of}
use Rattle.point_deferred.specs.Meaning.Moves.{set_position_of, remove_of}
use Rattle.point_batch.specs.Meaning.Batch.{batched, batch_of}
use Rattle.point_maintain.specs.Meaning.Maintain.{maintained_counts, maintain_of}
use Rattle.point_remove.specs.Meaning.RemoveMaintain.{remove_maintain_of}
use Rattle.point_clear.specs.Meaning.Clear.{wrote, live_slots, clear_of}
use Rattle.point_get.specs.Meaning.{got, listing, live_handles, get_of, len_of, handles_tests, handles_of}
use Rattle.geometry.specs.Meaning.Zero.{zero-position}
use Rattle.point_search.specs.declared.Test.{Test}
use Rattle.point_search.specs.declared.Test.TheVariants.{Any, Circle, Rectangle}
use Rattle.point_search.specs.Meaning.Searches.{found, Outputs as Columns, room, findings, search_tests, search_of}
use Rattle.point_query.specs.Meaning.Queries.{query_of, around_finds, around_of, aabb_of}
use Rattle.point_nearest.specs.Meaning.Nearest.{closest_from, nearest_reply, no_finding, nearest_report, nearest_of}
use Rattle.geometry.specs.Meaning.Circle.{corner_below, corner_above}
use Rattle.demands.proofs.laws.Tested.{Tested, tested, handle_in_turn, no_nine, at_nine}
use Rattle.demands.specs.Meaning.Left.{outputs, none, refused}
use Rattle.demands.specs.Meaning.PointCalls.{PointCall, new, insert, set_position, remove, batch, maintain, remove_maintain, clear}
use Rattle.demands.specs.Meaning.PointCalls.{get, len, handles, query, query_around, query_aabb, nearest}
use Rattle.demands.specs.Meaning.PointCalls.{of_number, of_inserted, of_reply, of_batched, of_maintained, of_written, of_got, of_count, of_listing}
use Rattle.demands.specs.Meaning.PointCalls.{of_columns, of_findings, of_nearest}
use Rattle.demands.specs.Meaning.PointCalls.{Leaves, leaves, refusals, number_found, refused_with}

-- the three queries are one search
module _ (t : Tables) (ok : Bool) (ll ur : Position) (test : Test) (o : Columns) where
  abbrev finds : ℕ
  finds = length (found t ll ur test)

  abbrev refusal : ℕ → Leaves
  refusal = refused zero-position finds t (of_columns o)

  search : Tested (search_tests t ok ll ur test (room o)) refusal (of_findings t (search_of t ok ll ur test o))
  unfolding search_of
  search = tested (of_findings t) _ (λ a. findings (count a (pick (eqb a 9) finds 0)) o) refl (at_nine zero-position t (of_columns o) finds) _ refl

-- `handles` has a row for each object: as many as `clear` has
module _ (t : Tables) (out : List (List ℕ)) where
  abbrev listed_by : ℕ → Type 0
  listed_by n = Tested (handles_tests t out) (refused zero-position n t (outputs out [] [])) (of_listing t (handles_of t out))

  listed : listed_by (length (live_handles t))
  unfolding handles_of
  listed =
      let n = length (live_handles t) in
      tested (of_listing t) _ (λ a. listing (count a (pick (eqb a 9) n 0)) out) refl (at_nine zero-position t (outputs out [] []) n) _ refl

  as_many : length (live_handles t) ≡ length (live_slots t)
  unfolding live_handles live_slots
  as_many = length-map (live_from 0 t.nums) (handle_at t.nums)

-- `nearest` answers 0 where its tests pass, with a point and with none
report_accepted : (t : Tables) (near : List Entry) → (nearest_report t near).answer ≡ 0
report_accepted t [] = refl
report_accepted t (e ∷ near) = refl

pub step : (t : Tables) (c : PointCall) → Tested (refusals t c) (refused_with t c) (leaves t c)
unfolding leaves refusals number_found
step t (new size) = unfold new_of in tested of_number _ (λ a. outcome a t) refl (no_nine zero-position t none) _ refl
step t (insert p d k) = unfold insert_of in tested of_inserted _ (λ a. outcome (inserted a 0 0) t) refl (no_nine zero-position t none) _ refl
step t (set_position h p k) = unfold set_position_of in tested of_reply _ (λ a. outcome (reply a 0) t) refl (no_nine zero-position t none) _ (handle_in_turn (3 ∷ 6 ∷ 13 ∷ []) (14 ∷ 1 ∷ []) refl refl t.nums h)
step t (remove h k) = unfold remove_of in tested of_reply _ (λ a. outcome (reply a 0) t) refl (no_nine zero-position t none) _ (handle_in_turn (3 ∷ 13 ∷ []) (14 ∷ []) refl refl t.nums h)
step t (batch ks hs ps out) =
    unfold batch_of in
    let n = length ks in
    tested of_batched _ (λ a. outcome (batched a (pick (eqb a 9) n 0) out) t) refl (at_nine zero-position t (outputs out [] []) n) _ refl
step t maintain = unfold maintain_of in tested of_maintained _ (λ a. outcome (maintained_counts a 0 0) t) refl (no_nine zero-position t none) _ refl
step t (remove_maintain h k) =
    unfold remove_maintain_of in tested of_reply _ (λ a. outcome (reply a 0) t) refl (no_nine zero-position t none) _ (handle_in_turn (3 ∷ 13 ∷ []) (14 ∷ []) refl refl t.nums h)
step t (clear ps os) =
    unfold clear_of in
    let n = length (live_slots t) in
    tested of_written _ (λ a. outcome (wrote (count a (pick (eqb a 9) n 0)) ps os) t) refl (at_nine zero-position t (outputs [] ps os) n) _ refl
step t (get h) = unfold get_of in tested (of_got t) _ (λ a. got a zero-position 0 0) refl (no_nine zero-position t none) _ (handle_in_turn (3 ∷ []) [] refl refl t.nums h)
step t len = unfold len_of in tested (of_count t) _ (λ a. count a 0) refl (no_nine zero-position t none) _ refl
step t (handles out) = subst (listed_by t out) (as_many t out) (listed t out)
step t (query ll ur o) = unfold query_of in search t (position_in_domain ll && position_in_domain ur) ll ur Any o
step t (query_around c r o) =
    unfold around_of in search t (position_in_domain c && radius_in_domain r) (corner_below c r) (corner_above c r) (Circle c r) o
step t (query_aabb a b o) =
    unfold aabb_of in
    search t (position_in_domain a && position_in_domain b) (lower_corner a b) (upper_corner a b) (Rectangle (lower_corner a b) (upper_corner a b)) o
step t (nearest c r) =
    unfold nearest_of in
    let near = closest_from c [] (around_finds t c r) in
    tested (of_nearest t) (nearest_report t near) (λ a. nearest_reply a 0 no_finding) (report_accepted t near) (no_nine zero-position t none) _ refl
