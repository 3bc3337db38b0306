-- What is seen of a call on a table of records: the records spread, the core's outcome, the records gathered again. Assumes nothing.
use Rattle.std.specs.Prelude.{◌≡◌}
use Rattle.basics.specs.Words.{ℕ, List, length, eqb}
use Rattle.basics.specs.Meaning.Refusals.{pick}
use Rattle.point_records.specs.declared.Record.{Record}
use Rattle.point_tables.specs.Meaning.Tables.{Tables, slots_of}
use Rattle.point_tables.specs.Meaning.Outcome.{Outcome, outcome}
use Rattle.records.specs.Meaning.Spread.{besides, records_in}

-- what a call returns, the records after it, and the other tables with the columns
pub record Seen (R : Type 0) : Type 0 where
  pub result : R
  pub records : List Record
  pub after : Tables

abbrev pub seen : {R : Type 0} → R → List Record → Tables → Seen R
seen r rs t = record { result = r; records = rs; after = t }

-- the promise of a call: what is seen of it, with the records and the tables t' after it, is what `call` shows of records and tables before it
abbrev pub Shows : {R : Type 0} → (List Record → Tables → Seen R) → R → List Record → Tables → List Record → Tables → Type 0
Shows call r records t records' t' = seen r records' t' ≡ call records t

-- the outcome of a core call, with the records gathered
abbrev pub back : {R : Type 0} → List Record → Outcome R → Seen R
back rs o = seen o.result (records_in o.after rs) o.after

-- what is said of columns of n rows, and else what is refused
abbrev pub sized : {X : Type 0} → ℕ → Tables → X → X → X
sized n t x refused = pick (eqb n (slots_of t)) x refused

-- ---- a call of the core that may change the tables, on columns of n rows, and on records
abbrev pub fitted : {R : Type 0} → (Tables → Outcome R) → R → ℕ → Tables → Outcome R
fitted call refused n t = sized n t (call t) (outcome refused t)

abbrev pub on_records : {R : Type 0} → (Tables → Outcome R) → R → List Record → Tables → Seen R
on_records call refused rs t = back rs (fitted call refused (length rs) (besides rs t))

-- ---- a call that reads: the records are as they were, and the columns are theirs
abbrev pub read_records : {R : Type 0} → (Tables → R) → R → List Record → Tables → Outcome R
read_records call refused rs t = outcome (sized (length rs) (besides rs t) (call (besides rs t)) refused) (besides rs t)
