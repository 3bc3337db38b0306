-- Each call of the box grid makes its tests one after the other: it is done if they pass, and else leaves what a call refused with the first
-- number leaves. Assumes nothing.
use Rattle.basics.specs.Words.{refl, [], ◌∷◌, length, eqb}
use Rattle.basics.specs.Meaning.Refusals.{pick}
use Rattle.replies.specs.Meaning.Replies.{count, inserted, reply}
use Rattle.box_tables.specs.Meaning.Tables.{Tables}
use Rattle.box_tables.specs.Meaning.Outcome.{outcome}
use Rattle.box_insert.specs.Meaning.New.{new_of}
use Rattle.box_insert.specs.Meaning.Insert.{insert_of}
use Rattle.box_remove.specs.Meaning.Remove.{remove_of}
use Rattle.box_set.specs.Meaning.SetAabb.{set_aabb_of}
use Rattle.box_get.specs.Meaning.Live.{live_slots}
use Rattle.box_get.specs.Meaning.Reads.{got, listing, get_of, len_of, handles_of}
use Rattle.geometry.specs.Meaning.Zero.{zero-aabb}
use Rattle.box_clear.specs.Meaning.Clear.{wrote, clear_of}
use Rattle.box_query.specs.Meaning.Queries
use Rattle.box_search.specs.Meaning.Search.{broad, narrow}
use Rattle.box_query.specs.Meaning.Queries.{findings, broad_of, query_of}
use Rattle.demands.proofs.laws.Tested.{Tested, tested, handle_in_turn, no_nine, at_nine}
use Rattle.demands.specs.Meaning.Left.{outputs, none}
use Rattle.demands.specs.Meaning.BoxCalls.{BoxCall, new, insert, set_aabb, remove, clear, get, len, handles, query_broad, query}
use Rattle.demands.specs.Meaning.BoxCalls.{of_number, of_inserted, of_reply, of_written, of_got, of_count, of_listing, of_handles, of_findings}
use Rattle.demands.specs.Meaning.BoxCalls.{leaves, refusals, number_found, refused_with}

pub step : (t : Tables) (c : BoxCall) → Tested (refusals t c) (refused_with t c) (leaves t c)
unfolding leaves refusals number_found
step t (new size) = unfold new_of in tested of_number _ (λ a. outcome a t) refl (no_nine zero-aabb t none) _ refl
step t (insert b d) = unfold insert_of in tested of_inserted _ (λ a. outcome (inserted a 0 0) t) refl (no_nine zero-aabb t none) _ refl
step t (set_aabb h b) = unfold set_aabb_of in tested of_number _ (λ a. outcome a t) refl (no_nine zero-aabb t none) _ (handle_in_turn (3 ∷ 6 ∷ []) (7 ∷ 8 ∷ []) refl refl t.nums h)
step t (remove h) = unfold remove_of in tested of_reply _ (λ a. outcome (reply a 0) t) refl (no_nine zero-aabb t none) _ (handle_in_turn (3 ∷ []) [] refl refl t.nums h)
step t (clear bs os) =
    unfold clear_of in
    let n = length (live_slots t) in
    tested of_written _ (λ a. outcome (wrote (count a (pick (eqb a 9) n 0)) bs os) t) refl (at_nine zero-aabb t (outputs [] bs os) n) _ refl
step t (get h) = unfold get_of in tested (of_got t) _ (λ a. got a zero-aabb 0) refl (no_nine zero-aabb t none) _ (handle_in_turn (3 ∷ []) [] refl refl t.nums h)
step t len = unfold len_of in tested (of_count t) _ (λ a. count a 0) refl (no_nine zero-aabb t none) _ refl
step t (handles out) =
    unfold handles_of in
    let n = length (live_slots t) in
    tested (of_listing t) _ (λ a. listing (count a (pick (eqb a 9) n 0)) out) refl (at_nine zero-aabb t (outputs out [] []) n) _ refl
step t (query_broad q hs) =
    unfold broad_of in
    let n = length (broad t q) in
    tested (of_handles t) _ (λ a. Queries.handles_of (count a (pick (eqb a 9) n 0)) hs) refl (at_nine zero-aabb t (outputs hs [] []) n) _ refl
step t (query q hs bs os) =
    unfold query_of in
    let n = length (narrow t q) in
    tested (of_findings t) _ (λ a. findings (count a (pick (eqb a 9) n 0)) hs bs os) refl (at_nine zero-aabb t (outputs hs bs os) n) _ refl
