-- A history on records is a history on columns: the same answers, and at the end the records are the grid of the columns. Assumes nothing.
use Rattle.basics.specs.Words.{ℕ, ◌≡◌, refl, sym, ap, ◌∙◌, List, [], ◌∷◌, length, length-set, eqb}
use Rattle.geometry.specs.declared.Position.{Position}
use Rattle.slots.specs.declared.Handle.{Handle}
use Rattle.storage.proofs.laws.FilterLaws.{by_test}
use Rattle.point_records.specs.declared.Record.{Record}
use Rattle.point_records.specs.Meaning.Columns.{nums_of}
use Rattle.point_records.specs.declared.State.TheVariants.{Removed}
use Rattle.point_records.specs.Meaning.States.{aimed}
use Rattle.point_tables.specs.Meaning.Tables.{Tables, size_of, slots_of, record_on}
use Rattle.point_tables.specs.Meaning.Holds.{Holds}
use Rattle.point_tables.specs.Meaning.Outcome.{Outcome}
use Rattle.replies.specs.Meaning.Replies.{count, reply, inserted}
use Rattle.point_deferred.specs.Meaning.Moves.{set_position_answer, set_position_of, remove_answer, remove_of}
use Rattle.point_deferred.proofs.laws.PendedLaws.{nums-long}
use Rattle.point_deferred.proofs.laws.MovesKeeps.{set-position_keeps, remove_keeps}
use Rattle.point_insert.specs.Meaning.Insert.{put, insert_answer, insert_of, new_record, usable_slot}
use Rattle.point_insert.proofs.laws.InsertLaws.{insert-holds}
use Rattle.point_maintain.specs.Meaning.Maintain.{maintained_counts, maintain_of}
use Rattle.point_maintain.proofs.laws.MaintainLaws.{maintain-done, maintain_keeps}
use Rattle.point_maintain.proofs.laws.MaintainedLaws.{maintained-slots}
use Rattle.point_get.specs.Meaning.{got, get_of, len_of}
use Rattle.geometry.specs.Meaning.Zero.{zero-position}
use Rattle.point_search.specs.Meaning.Searches.{findings}
use Rattle.point_query.specs.Meaning.Queries.{around_of}
use Rattle.slots.specs.Meaning.Map.{slot_in}
use Rattle.point_maintain.specs.declared.Maintained.{Maintained}
use Rattle.records.specs.Meaning.Spread.{besides, records_in}
use Rattle.records.proofs.laws.SpreadLaws.{gathered-length}
use Rattle.records.proofs.laws.AlikeLaws.{alike_itself}
use Rattle.records.proofs.laws.AgainLaws.{alike_again}
use Rattle.record_histories.specs.Inner.RecordHistory.{RecordCall, insert, set_position, remove, maintain, get, len, around, entered, replied}
use Rattle.record_histories.specs.Inner.RecordHistory.{settled, got as gotten, counted, found, on_columns, on_table, record_answers, table_after}
use Rattle.record_histories.specs.Inner.RecordHistory.{besides_after, SameGrid}
use Rattle.record_histories.proofs.laws.RecordHistory.{column_answers, columns_after}
use Rattle.record_histories.proofs.laws.MovesLaws.{set-position_respects, remove_respects}
use Rattle.record_histories.proofs.laws.InsertLaws.{insert_respects}
use Rattle.record_histories.proofs.laws.MaintainLaws.{maintain_respects}
use Rattle.record_histories.proofs.laws.ReadsLaws.{get_reads, len_reads, around_reads}
use Rattle.record_histories.proofs.laws.CallLaws.{call_same, call-after, read_same, read-after}

-- ---- the number of slots stays
set-slots : (t : Tables) (h : Handle) (p : Position) (k : ℕ) → slots_of (set_position_of t h p k).after ≡ slots_of t
unfolding set_position_of
set-slots t h p k = by_test (eqb (set_position_answer t h p k) 0) (λ e. rw e (nums-long t h.slot (aimed (size_of t) (record_on t h.slot).cell p))) (λ e. rw e)

remove-slots : (t : Tables) (h : Handle) (k : ℕ) → slots_of (remove_of t h k).after ≡ slots_of t
unfolding remove_of
remove-slots t h k = by_test (eqb (remove_answer t h k) 0) (λ e. rw e (nums-long t h.slot Removed)) (λ e. rw e)

insert-slots : (t : Tables) (p : Position) (d k : ℕ) → slots_of (insert_of t p d k).after ≡ slots_of t
unfolding insert_of put
insert-slots t p d k =
    let s = slot_in (usable_slot t) in
    by_test (eqb (insert_answer t p k) 0) (λ e. rw e (length-set t.nums s (nums_of (new_record t s p d k)))) (λ e. rw e)

maintain-slots : (t : Tables) → Holds t → slots_of (maintain_of t).after ≡ slots_of t
maintain-slots t h = ap (λ (o : Outcome Maintained). slots_of o.after) (maintain-done t h) ∙ maintained-slots t h

-- ---- one call
module _ (rs : List Record) (t u : Tables) (g : SameGrid rs t u) where
  pub same_answer : (c : RecordCall) → (on_table c rs t).result ≡ (on_columns c u).result
  unfolding on_table on_columns
  same_answer (insert p d k) = ap entered (call_same rs t u g (λ w. insert_of w p d k) (inserted 3 0 0) (insert_respects p d k) (λ w x. insert-holds w p d k x) (λ w x. insert-slots w p d k))
  same_answer (set_position h p k) = ap replied (call_same rs t u g (λ w. set_position_of w h p k) (reply 3 0) (set-position_respects h p k) (λ w x. set-position_keeps w h p k x) (λ w x. set-slots w h p k))
  same_answer (remove h k) = ap replied (call_same rs t u g (λ w. remove_of w h k) (reply 3 0) (remove_respects h k) (λ w x. remove_keeps w h k x) (λ w x. remove-slots w h k))
  same_answer maintain = ap settled (call_same rs t u g maintain_of (maintained_counts 3 0 0) maintain_respects maintain_keeps maintain-slots)
  same_answer (get h) = ap gotten (read_same rs t u g (λ w. get_of w h) (got 3 zero-position 0 0) (get_reads h))
  same_answer len = ap counted (read_same rs t u g len_of (count 3 0) len_reads)
  same_answer (around c r o) = ap found (read_same rs t u g (λ w. around_of w c r o) (findings (count 3 0) o) (around_reads c r o))

  pub same_after : (c : RecordCall) → SameGrid (on_table c rs t).records (on_table c rs t).after (on_columns c u).after
  unfolding on_table on_columns
  same_after (insert p d k) = call-after rs t u g (λ w. insert_of w p d k) (inserted 3 0 0) (insert_respects p d k) (λ w x. insert-holds w p d k x) (λ w x. insert-slots w p d k)
  same_after (set_position h p k) = call-after rs t u g (λ w. set_position_of w h p k) (reply 3 0) (set-position_respects h p k) (λ w x. set-position_keeps w h p k x) (λ w x. set-slots w h p k)
  same_after (remove h k) = call-after rs t u g (λ w. remove_of w h k) (reply 3 0) (remove_respects h k) (λ w x. remove_keeps w h k x) (λ w x. remove-slots w h k)
  same_after maintain = call-after rs t u g maintain_of (maintained_counts 3 0 0) maintain_respects maintain_keeps maintain-slots
  same_after (get h) = read-after rs t u g
  same_after len = read-after rs t u g
  same_after (around c r o) = read-after rs t u g

-- ---- a history
pub history_answers : (cs : List RecordCall) (rs : List Record) (t u : Tables) → SameGrid rs t u → record_answers cs rs t ≡ column_answers cs u
unfolding record_answers column_answers
history_answers [] rs t u g = refl
history_answers (c ∷ cs) rs t u g =
    let r = on_table c rs t in
    cc (same_answer rs t u g c, history_answers cs r.records r.after (on_columns c u).after (same_after rs t u g c))

pub history_after : (cs : List RecordCall) (rs : List Record) (t u : Tables) → SameGrid rs t u → SameGrid (table_after cs rs t) (besides_after cs rs t) (columns_after cs u)
unfolding table_after besides_after columns_after
history_after [] rs t u g = g
history_after (c ∷ cs) rs t u g =
    let r = on_table c rs t in
    history_after cs r.records r.after (on_columns c u).after (same_after rs t u g c)

-- ---- where a history starts: records gathered out of tables that hold a grid, and records whose columns hold one
pub gathered_grid : (u : Tables) (rs : List Record) → Holds u → slots_of u ≡ length rs → SameGrid (records_in u rs) u u
gathered_grid u rs h e = record { holds = h; many = e ∙ sym (gathered-length u.nums u.reals u.ints rs); alike = alike_again u rs h e }

pub spread_grid : (rs : List Record) (t : Tables) → Holds (besides rs t) → slots_of (besides rs t) ≡ length rs → SameGrid rs t (besides rs t)
spread_grid rs t h e = record { holds = h; many = e; alike = alike_itself (besides rs t) }
