-- What a query makes of the outputs that it is lent. Assumes nothing.
use Rattle.std.specs.Prelude.{◌≡◌}
use Rattle.point_tables.specs.Meaning.Tables.{Tables}
use Rattle.replies.specs.declared.Count.{Count}
use Rattle.point_search.specs.Meaning.Searches.{Outputs, Findings, findings}

-- what is returned and the outputs after the call, o', are what `query` gives of the tables t and the outputs before it, o
abbrev pub Finds : (Tables → Outputs → Findings) → Count → Tables → Outputs → Outputs → Type 0
Finds query r t o o' = findings r o' ≡ query t o
