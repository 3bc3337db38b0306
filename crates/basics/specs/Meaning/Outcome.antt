-- The outcome of a call on lent tables: what it returns, and the tables after it. A promise is one equation between the outcome seen and
-- the outcome defined, so that it determines everything. Assumes nothing.

pub record Outcome (T : Type 0) (R : Type 0) : Type 0 where
  pub result : R
  pub after : T

abbrev pub outcome : {T : Type 0} {R : Type 0} → R → T → Outcome T R
outcome r t = record { result = r; after = t }
