-- What a call makes of the tables that it is lent. Assumes nothing.
use Rattle.std.specs.Prelude.{◌≡◌}
use Rattle.point_tables.specs.Meaning.Tables.{Tables}
use Rattle.point_tables.specs.Meaning.Outcome.{Outcome, outcome}

-- what is returned and the tables after the call, t', are what `call` gives of the tables before it, t
abbrev pub Gives : {R : Type 0} → (Tables → Outcome R) → R → Tables → Tables → Type 0
Gives call r t t' = outcome r t' ≡ call t
