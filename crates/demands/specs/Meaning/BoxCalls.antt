-- Every public call of the box grid with all that it is handed besides the tables, what it leaves, which refusals apply to it, and what it
-- leaves if it is refused. Assumes nothing.
use Rattle.basics.specs.Words.{ℕ, List, [], length}
use Rattle.std.specs.Prelude.{Float}
use Rattle.geometry.specs.declared.Aabb.{Aabb}
use Rattle.slots.specs.declared.Handle.{Handle}
use Rattle.replies.specs.declared.Inserted.{Inserted}
use Rattle.replies.specs.declared.Reply.{Reply}
use Rattle.replies.specs.declared.Count.{Count}
use Rattle.box_tables.specs.Meaning.Tables.{Tables}
use Rattle.box_tables.specs.Meaning.Outcome.{Outcome}
use Rattle.box_insert.specs.Meaning.New.{new_tests, new_of}
use Rattle.box_insert.specs.Meaning.Insert.{insert_tests, insert_of}
use Rattle.box_set.specs.Meaning.SetAabb.{set_aabb_tests, set_aabb_of}
use Rattle.box_remove.specs.Meaning.Remove.{remove_tests, remove_of}
use Rattle.box_get.specs.declared.Got.{Got}
use Rattle.box_get.specs.Meaning.Live.{live_slots}
use Rattle.box_get.specs.Meaning.Reads.{Listing, get_tests, get_of, len_tests, len_of, handles_tests, handles_of}
use Rattle.geometry.specs.Meaning.Zero.{zero-aabb}
use Rattle.box_clear.specs.Meaning.Clear.{Written, clear_tests, clear_of}
use Rattle.box_search.specs.Meaning.Search.{broad, narrow}
use Rattle.box_query.specs.Meaning.Queries.{Handles, Findings, broad_tests, broad_of, query_tests, query_of}
use Rattle.basics.specs.Meaning.Refusals.{Refusal}
use Rattle.demands.specs.Meaning.Left.{Outputs, outputs, none, zeros, the_count, the_handle, the_data, the_object, Left, left, refused}

pub data BoxCall : Type 0 where
  new : ℕ → BoxCall
  insert : Aabb → ℕ → BoxCall
  set_aabb : Handle → Aabb → BoxCall
  remove : Handle → BoxCall
  clear : List (List Float) → List ℕ → BoxCall
  get : Handle → BoxCall
  len : BoxCall
  handles : List (List ℕ) → BoxCall
  query_broad : Aabb → List (List ℕ) → BoxCall
  query : Aabb → List (List ℕ) → List (List Float) → List ℕ → BoxCall

-- the outputs as they are lent: the boxes of `clear` and `query` are places of four numbers
abbrev pub lent_to : BoxCall → Outputs ℕ
lent_to (new size) = none
lent_to (insert b d) = none
lent_to (set_aabb h b) = none
lent_to (remove h) = none
lent_to (clear bs os) = outputs [] bs os
lent_to (get h) = none
lent_to len = none
lent_to (handles out) = outputs out [] []
lent_to (query_broad q hs) = outputs hs [] []
lent_to (query q hs bs os) = outputs hs bs os

-- ---- what is left, by the kind of what a call gives
abbrev pub Leaves : Type 0
Leaves = Left Tables Aabb ℕ

abbrev pub of_number : Outcome ℕ → Leaves
of_number o = left o.result (zeros zero-aabb) o.after none

abbrev pub of_inserted : Outcome Inserted → Leaves
of_inserted o = left o.result.answer (the_handle zero-aabb o.result.handle) o.after none

abbrev pub of_reply : Outcome Reply → Leaves
of_reply o = left o.result.answer (the_data zero-aabb o.result.obj) o.after none

abbrev pub of_written : Outcome Written → Leaves
of_written o = let w = o.result in left w.returned.answer (the_count zero-aabb w.returned.count) o.after (outputs [] w.boxes w.objs)

-- the calls that only read: the tables are lent to them by `&`
abbrev pub of_got : Tables → Got → Leaves
of_got t g = left g.answer (the_object g.aabb g.obj 0) t none

abbrev pub of_count : Tables → Count → Leaves
of_count t c = left c.answer (the_count zero-aabb c.count) t none

abbrev pub of_listing : Tables → Listing → Leaves
of_listing t l = left l.returned.answer (the_count zero-aabb l.returned.count) t (outputs l.out [] [])

abbrev pub of_handles : Tables → Handles → Leaves
of_handles t f = left f.returned.answer (the_count zero-aabb f.returned.count) t (outputs f.handles [] [])

abbrev pub of_findings : Tables → Findings → Leaves
of_findings t f = left f.returned.answer (the_count zero-aabb f.returned.count) t (outputs f.handles f.boxes f.objs)

unfoldable pub leaves : Tables → BoxCall → Leaves
leaves t (new size) = of_number (new_of t size)
leaves t (insert b d) = of_inserted (insert_of t b d)
leaves t (set_aabb h b) = of_number (set_aabb_of t h b)
leaves t (remove h) = of_reply (remove_of t h)
leaves t (clear bs os) = of_written (clear_of t bs os)
leaves t (get h) = of_got t (get_of t h)
leaves t len = of_count t (len_of t)
leaves t (handles out) = of_listing t (handles_of t out)
leaves t (query_broad q hs) = of_handles t (broad_of t q hs)
leaves t (query q hs bs os) = of_findings t (query_of t q hs bs os)

-- ---- document 01's refusals of each call: its tests, which stand beside its outcome
unfoldable pub refusals : Tables → BoxCall → List Refusal
refusals t (new size) = new_tests t size
refusals t (insert b d) = insert_tests t b
refusals t (set_aabb h b) = set_aabb_tests t h b
refusals t (remove h) = remove_tests t h
refusals t (clear bs os) = clear_tests t bs os
refusals t (get h) = get_tests t h
refusals t len = len_tests t
refusals t (handles out) = handles_tests t out
refusals t (query_broad q hs) = broad_tests t q hs
refusals t (query q hs bs os) = query_tests t q hs bs os

-- ---- the number found: the findings, for `clear` and `handles` the objects; of the others none answers 9
unfoldable pub number_found : Tables → BoxCall → ℕ
number_found t (new size) = 0
number_found t (insert b d) = 0
number_found t (set_aabb h b) = 0
number_found t (remove h) = 0
number_found t (clear bs os) = length (live_slots t)
number_found t (get h) = 0
number_found t len = 0
number_found t (handles out) = length (live_slots t)
number_found t (query_broad q hs) = length (broad t q)
number_found t (query q hs bs os) = length (narrow t q)

-- what a call leaves if it is refused with number n
abbrev pub refused_with : Tables → BoxCall → ℕ → Leaves
refused_with t c n = refused zero-aabb (number_found t c) t (lent_to c) n
