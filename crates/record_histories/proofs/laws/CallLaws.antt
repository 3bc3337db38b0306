-- One call on records that are the grid of some tables, beside the same call on these tables: the same answer, and the records after it are
-- the grid of the tables after it. Assumes nothing.
use Rattle.basics.specs.Words.{◌≡◌, refl, sym, ap, subst, ◌∙◌, List, [], ◌∷◌, length}
use Rattle.point_records.specs.declared.Record.{Record}
use Rattle.point_records.specs.Meaning.Columns.{nums_of, reals_of, ints_of}
use Rattle.point_tables.specs.Meaning.Tables.{Tables, slots_of}
use Rattle.point_tables.specs.Meaning.Holds.{Holds}
use Rattle.point_tables.specs.Meaning.Outcome.{Outcome, outcome}
use Rattle.records.specs.Meaning.Spread.{laid, besides, records_in}
use Rattle.records.specs.Meaning.Seen.{fitted, on_records, read_records}
use Rattle.records.proofs.laws.Alike.{Respects, Reads}
use Rattle.records.proofs.laws.SpreadLaws.{laid-length, gathered-length}
use Rattle.records.proofs.laws.SeenLaws.{rows_same}
use Rattle.records.proofs.laws.AlikeLaws.{alike_then, holds-alike}
use Rattle.records.proofs.laws.AgainLaws.{spread_worded, alike_again}
use Rattle.record_histories.specs.Inner.RecordHistory.{SameGrid}

module _ (rs : List Record) (t u : Tables) (g : SameGrid rs t u) where
  abbrev b : Tables
  b = besides rs t

  rows : length rs ≡ slots_of b
  rows = sym g.many ∙ g.alike.of_nums

  pub spread_holds : Holds b
  spread_holds = holds-alike u b g.alike (spread_worded rs t.nums (sym (laid-length nums_of rs t.nums) ∙ sym rows)) g.holds

  -- ---- a call that changes the tables, keeps them holding a grid, and keeps the number of slots
  module _ {R : Type 0} (call : Tables → Outcome R) (refused : R) (respects : Respects call) (keeps : (w : Tables) → Holds w → Holds (call w).after) (slots : (w : Tables) → Holds w → slots_of (call w).after ≡ slots_of w) where
    fits : call b ≡ fitted call refused (length rs) b
    fits = rows_same (length rs) (slots_of b) (call b) (outcome refused b) rows

    pub call_same : (on_records call refused rs t).result ≡ (call u).result
    call_same = ap (λ (o : Outcome R). o.result) (sym fits) ∙ sym (respects u b g.holds spread_holds g.alike).0

    after_b : SameGrid (records_in (call b).after rs) (call b).after (call u).after
    after_b =
        let w = (call b).after in
        record {
          holds = keeps u g.holds;
          many = slots u g.holds ∙ g.many ∙ sym (gathered-length w.nums w.reals w.ints rs);
          alike = alike_then (call u).after w (besides (records_in w rs) w) (respects u b g.holds spread_holds g.alike).1 (alike_again w rs (keeps b spread_holds) (slots b spread_holds ∙ sym rows));
        }

    pub call-after : SameGrid (on_records call refused rs t).records (on_records call refused rs t).after (call u).after
    call-after = subst (λ (o : Outcome R). SameGrid (records_in o.after rs) o.after (call u).after) fits after_b

  -- ---- a call that reads
  module _ {R : Type 0} (call : Tables → R) (refused : R) (reads : Reads call) where
    pub read_same : (read_records call refused rs t).result ≡ call u
    read_same = sym (rows_same (length rs) (slots_of b) (call b) refused rows) ∙ sym (reads u b g.holds spread_holds g.alike)

-- what is spread again is as it was
laid_again : {X : Type 0} (row : Record → X) (rs : List Record) (old : List X) → laid row rs (laid row rs old) ≡ laid row rs old
laid_again row [] old = refl
laid_again row (r ∷ rs) [] = refl
laid_again {X} row (r ∷ rs) (o ∷ os) = ap (λ (us : List X). row r ∷ us) (laid_again row rs os)

pub read-after : (rs : List Record) (t u : Tables) → SameGrid rs t u → SameGrid rs (besides rs t) u
read-after rs t u g =
    record {
      holds = g.holds;
      many = g.many;
      alike = rw (laid_again nums_of rs t.nums, laid_again reals_of rs t.reals, laid_again ints_of rs t.ints) g.alike;
    }
