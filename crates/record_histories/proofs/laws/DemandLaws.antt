-- Demand 3 on a table of records: after deferred calls and maintain a circle reports what it reports on columns, so exactly the points that
-- are due, each once. Assumes nothing.
use Rattle.basics.specs.Words.{ℕ, ◌≡◌, refl, sym, ap, subst, ◌∙◌, List, [], ◌∷◌, eqb}
use lib.Ieee.{Float}
use Rattle.geometry.specs.declared.Position.{Position}
use Rattle.slots.specs.declared.Handle.{Handle}
use Rattle.replies.specs.Meaning.Replies.{count}
use Rattle.storage.proofs.laws.FilterLaws.{by_test}
use Rattle.point_records.specs.declared.Record.{Record}
use Rattle.point_tables.specs.Meaning.Tables.{Tables}
use Rattle.point_deferred.specs.Meaning.Calls.{Call as Deferred, call_of, tables_after}
use Rattle.point_search.specs.Meaning.Searches.{Outputs, Findings, findings}
use Rattle.point_query.specs.Meaning.Queries.{around_of}
use Rattle.whereabouts.specs.Meaning.Report.{ReportedAt, Reports, Due}
use Rattle.whereabouts.proofs.laws.StandsLaws.{Settled}
use Rattle.whereabouts.specs.Meaning.Stands.{next_maintain}
use Rattle.whereabouts.proofs.laws.ReportLaws.{circle_reports, reports_once}
use Rattle.record_histories.specs.Inner.RecordHistory.{on_columns, table_after, besides_after, SameGrid}
use Rattle.record_histories.proofs.laws.RecordHistory.{columns_after}
use Rattle.record_histories.specs.Inner.RecordReport.{deferred, frame, report_after}
use Rattle.record_histories.proofs.laws.ReadsLaws.{around_reads}
use Rattle.record_histories.proofs.laws.CallLaws.{read_same}
use Rattle.record_histories.proofs.laws.HistoryLaws.{history_after}

deferred_is : (u : Tables) (c : Deferred) → (on_columns (deferred c) u).after ≡ (call_of u c).after
unfolding on_columns call_of
deferred_is u c = by_test (eqb c.kind 0) (λ e. rw e) (λ e. rw e)

frame_is : (cs : List Deferred) (u : Tables) → columns_after (frame cs) u ≡ (next_maintain u cs).after
unfolding columns_after on_columns tables_after
frame_is [] u = refl
frame_is (c ∷ cs) u = ap (columns_after (frame cs)) (deferred_is u c) ∙ frame_is cs (call_of u c).after

-- the records rs beside t are the grid of u; the calls cs, maintain, and a circle
module _ (rs : List Record) (t u : Tables) (g : SameGrid rs t u) (cs : List Deferred) (centre : Position) (radius : Float) (o : Outputs) where
  abbrev report : Findings
  report = report_after rs t cs centre radius o

  after_frame : SameGrid (table_after (frame cs) rs t) (besides_after (frame cs) rs t) (next_maintain u cs).after
  after_frame = subst (SameGrid (table_after (frame cs) rs t) (besides_after (frame cs) rs t)) (frame_is cs u) (history_after (frame cs) rs t u g)

  pub same_report : report ≡ around_of (next_maintain u cs).after centre radius o
  same_report =
      read_same (table_after (frame cs) rs t) (besides_after (frame cs) rs t) (next_maintain u cs).after after_frame
      (λ w. around_of w centre radius o) (findings (count 3 0) o) (around_reads centre radius o)

  module _ (s : Settled u) (a : report.returned.answer ≡ 0) where
    answered : (around_of (next_maintain u cs).after centre radius o).returned.answer ≡ 0
    answered = ap (λ (f : Findings). f.returned.answer) (sym same_report) ∙ a

    pub demand_3_records : (h : Handle) (p : Position) (d k : ℕ) → (Reports report h p d k → Due u cs centre radius h p d k) × (Due u cs centre radius h p d k → Reports report h p d k)
    demand_3_records h p d k = rw same_report (circle_reports u s cs centre radius o answered h p d k)

    pub demand_3_records-once : (i j : ℕ) (g h : Handle) (p q : Position) (d e k l : ℕ) → ReportedAt report i g p d k → ReportedAt report j h q e l → g.slot ≡ h.slot → i ≡ j
    demand_3_records-once = rw same_report (reports_once u s cs centre radius o answered)
