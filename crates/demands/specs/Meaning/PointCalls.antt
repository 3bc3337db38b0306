-- Every public call of the point grid with all that it is handed besides the tables, what it leaves, which refusals apply to it, and what
-- it leaves if it is refused. Assumes nothing.
use Rattle.basics.specs.Words.{ℕ, Bool, false, not, List, [], length}
use Rattle.std.specs.Prelude.{Float}
use Rattle.geometry.specs.declared.Position.{Position}
use Rattle.slots.specs.declared.Handle.{Handle}
use Rattle.point_tables.specs.Meaning.Tables.{Tables}
use Rattle.point_tables.specs.Meaning.Outcome.{Outcome}
use Rattle.replies.specs.declared.Inserted.{Inserted}
use Rattle.replies.specs.declared.Reply.{Reply}
use Rattle.replies.specs.declared.Count.{Count}
use Rattle.replies.specs.declared.Nearest.{Nearest}
use Rattle.point_insert.specs.Meaning.New.{new_tests, new_of}
use Rattle.point_insert.specs.Meaning.Insert.{insert_tests, insert_of}
use Rattle.point_deferred.specs.Meaning.Moves.{set_position_tests, set_position_of, remove_tests, remove_of}
use Rattle.point_batch.specs.Meaning.Batch.{Batched, even, batch_tests, batch_of}
use Rattle.point_maintain.specs.declared.Maintained.{Maintained}
use Rattle.point_maintain.specs.Meaning.Maintain.{maintain_tests, maintain_of}
use Rattle.point_remove.specs.Meaning.RemoveMaintain.{remove_maintain_tests, remove_maintain_of}
use Rattle.point_clear.specs.Meaning.Clear.{Written, live_slots, clear_tests, clear_of}
use Rattle.point_get.specs.declared.Got.{Got}
use Rattle.point_get.specs.Meaning.{Listing, get_tests, get_of, len_tests, len_of, handles_tests, handles_of}
use Rattle.geometry.specs.Meaning.Zero.{zero-position}
use Rattle.point_search.specs.Meaning.Searches.{Outputs as Columns, Findings}
use Rattle.point_query.specs.Meaning.Queries.{query_finds, query_tests, query_of, around_finds, around_tests, around_of, aabb_finds, aabb_tests, aabb_of}
use Rattle.point_nearest.specs.Meaning.Nearest.{nearest_tests, nearest_of}
use Rattle.basics.specs.Meaning.Refusals.{Refusal}
use Rattle.demands.specs.Meaning.Left.{Outputs, outputs, none, zeros, the_count, the_handle, the_data, the_changes, the_object, the_finding, Left}
use Rattle.demands.specs.Meaning.Left.{left, refused}

pub data PointCall : Type 0 where
  new : ℕ → PointCall
  insert : Position → ℕ → ℕ → PointCall
  set_position : Handle → Position → ℕ → PointCall
  remove : Handle → ℕ → PointCall
  batch : List ℕ → List (List ℕ) → List (List Float) → List (List ℕ) → PointCall
  maintain : PointCall
  remove_maintain : Handle → ℕ → PointCall
  clear : List (List Float) → List (List ℕ) → PointCall
  get : Handle → PointCall
  len : PointCall
  handles : List (List ℕ) → PointCall
  query : Position → Position → Columns → PointCall
  query_around : Position → Float → Columns → PointCall
  query_aabb : Position → Position → Columns → PointCall
  nearest : Position → Float → PointCall

-- the outputs of a query
abbrev pub of_columns : Columns → Outputs (List ℕ)
of_columns o = outputs o.handles o.places o.objs

-- the outputs as they are lent
abbrev pub lent_to : PointCall → Outputs (List ℕ)
lent_to (new size) = none
lent_to (insert p d k) = none
lent_to (set_position h p k) = none
lent_to (remove h k) = none
lent_to (batch ks hs ps out) = outputs out [] []
lent_to maintain = none
lent_to (remove_maintain h k) = none
lent_to (clear ps os) = outputs [] ps os
lent_to (get h) = none
lent_to len = none
lent_to (handles out) = outputs out [] []
lent_to (query ll ur o) = of_columns o
lent_to (query_around c r o) = of_columns o
lent_to (query_aabb a b o) = of_columns o
lent_to (nearest c r) = none

-- ---- what is left, by the kind of what a call gives
abbrev pub Leaves : Type 0
Leaves = Left Tables Position (List ℕ)

abbrev pub of_number : Outcome ℕ → Leaves
of_number o = left o.result (zeros zero-position) o.after none

abbrev pub of_inserted : Outcome Inserted → Leaves
of_inserted o = left o.result.answer (the_handle zero-position o.result.handle) o.after none

abbrev pub of_reply : Outcome Reply → Leaves
of_reply o = left o.result.answer (the_data zero-position o.result.obj) o.after none

abbrev pub of_batched : Outcome Batched → Leaves
of_batched o = left o.result.answer (the_count zero-position o.result.count) o.after (outputs o.result.out [] [])

abbrev pub of_maintained : Outcome Maintained → Leaves
of_maintained o = left o.result.answer (the_changes zero-position o.result.moved o.result.removed) o.after none

abbrev pub of_written : Outcome Written → Leaves
of_written o =
    let w = o.result in left w.returned.answer (the_count zero-position w.returned.count) o.after (outputs [] w.places w.objs)

-- the calls that only read: the tables are lent to them by `&`
abbrev pub of_got : Tables → Got → Leaves
of_got t g = left g.answer (the_object g.position g.obj g.tracker) t none

abbrev pub of_count : Tables → Count → Leaves
of_count t c = left c.answer (the_count zero-position c.count) t none

abbrev pub of_listing : Tables → Listing → Leaves
of_listing t l = left l.returned.answer (the_count zero-position l.returned.count) t (outputs l.out [] [])

abbrev pub of_findings : Tables → Findings → Leaves
of_findings t f = left f.returned.answer (the_count zero-position f.returned.count) t (of_columns f.outputs)

abbrev pub of_nearest : Tables → Nearest → Leaves
of_nearest t n = left n.answer (the_finding n.count n.handle n.position n.obj n.tracker) t none

unfoldable pub leaves : Tables → PointCall → Leaves
leaves t (new size) = of_number (new_of t size)
leaves t (insert p d k) = of_inserted (insert_of t p d k)
leaves t (set_position h p k) = of_reply (set_position_of t h p k)
leaves t (remove h k) = of_reply (remove_of t h k)
leaves t (batch ks hs ps out) = of_batched (batch_of t ks hs ps out)
leaves t maintain = of_maintained (maintain_of t)
leaves t (remove_maintain h k) = of_reply (remove_maintain_of t h k)
leaves t (clear ps os) = of_written (clear_of t ps os)
leaves t (get h) = of_got t (get_of t h)
leaves t len = of_count t (len_of t)
leaves t (handles out) = of_listing t (handles_of t out)
leaves t (query ll ur o) = of_findings t (query_of t ll ur o)
leaves t (query_around c r o) = of_findings t (around_of t c r o)
leaves t (query_aabb a b o) = of_findings t (aabb_of t a b o)
leaves t (nearest c r) = of_nearest t (nearest_of t c r)

-- ---- document 01's refusals of each call: its tests, which stand beside its outcome
unfoldable pub refusals : Tables → PointCall → List Refusal
refusals t (new size) = new_tests t size
refusals t (insert p d k) = insert_tests t p k
refusals t (set_position h p k) = set_position_tests t h p k
refusals t (remove h k) = remove_tests t h k
refusals t (batch ks hs ps out) = batch_tests t ks hs ps out
refusals t maintain = maintain_tests t
refusals t (remove_maintain h k) = remove_maintain_tests t h k
refusals t (clear ps os) = clear_tests t ps os
refusals t (get h) = get_tests t h
refusals t len = len_tests t
refusals t (handles out) = handles_tests t out
refusals t (query ll ur o) = query_tests t ll ur o
refusals t (query_around c r o) = around_tests t c r o
refusals t (query_aabb a b o) = aabb_tests t a b o
refusals t (nearest c r) = nearest_tests t c r

-- ---- the number found: the findings, for `clear` and `handles` the objects, for a batch its calls; of the others none answers 9
unfoldable pub number_found : Tables → PointCall → ℕ
number_found t (new size) = 0
number_found t (insert p d k) = 0
number_found t (set_position h p k) = 0
number_found t (remove h k) = 0
number_found t (batch ks hs ps out) = length ks
number_found t maintain = 0
number_found t (remove_maintain h k) = 0
number_found t (clear ps os) = length (live_slots t)
number_found t (get h) = 0
number_found t len = 0
number_found t (handles out) = length (live_slots t)
number_found t (query ll ur o) = length (query_finds t ll ur)
number_found t (query_around c r o) = length (around_finds t c r)
number_found t (query_aabb a b o) = length (aabb_finds t a b)
number_found t (nearest c r) = 0

-- what a call leaves if it is refused with number n
abbrev pub refused_with : Tables → PointCall → ℕ → Leaves
refused_with t c n = refused zero-position (number_found t c) t (lent_to c) n

-- ---- whether a call is a batch whose lists differ in length
unfoldable pub uneven : PointCall → Bool
uneven (new size) = false
uneven (insert p d k) = false
uneven (set_position h p k) = false
uneven (remove h k) = false
uneven (batch ks hs ps out) = not (even ks hs ps)
uneven maintain = false
uneven (remove_maintain h k) = false
uneven (clear ps os) = false
uneven (get h) = false
uneven len = false
uneven (handles out) = false
uneven (query ll ur o) = false
uneven (query_around c r o) = false
uneven (query_aabb a b o) = false
uneven (nearest c r) = false
