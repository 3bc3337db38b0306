-- A history: calls one after the other, on the tables of a point grid, and on a table of records beside tables whose columns are scratch.
-- Assumes nothing.
-- Here: the laws.
use Rattle.basics.specs.Words.{List, [], ◌∷◌}
use Rattle.point_tables.specs.Meaning.Tables.{Tables}
use Rattle.record_histories.specs.Inner.RecordHistory.{RecordCall, Given, on_columns}

-- ---- one call after the other: what they give back, and the tables after them
unfoldable pub column_answers : List RecordCall → Tables → List Given
column_answers [] t = []
column_answers (c ∷ cs) t = (on_columns c t).result ∷ column_answers cs (on_columns c t).after

unfoldable pub columns_after : List RecordCall → Tables → Tables
columns_after [] t = t
columns_after (c ∷ cs) t = columns_after cs (on_columns c t).after
