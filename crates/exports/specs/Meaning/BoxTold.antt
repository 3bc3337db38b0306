-- What the calls of the box grid tell, with the lent outputs after them. Assumes nothing.
use Rattle.basics.specs.Words.{ℕ, List}
use Rattle.std.specs.Prelude.{Float}
use Rattle.box_clear.specs.Meaning.Clear.{Written, wrote}
use Rattle.box_query.specs.Meaning.Queries.{Findings, findings}
use Rattle.exports.specs.declared.Count.{Count}
use Rattle.exports.specs.Meaning.Told.{told_count}

abbrev pub told_written : Count → List (List Float) → List ℕ → Written
told_written r boxes objs = wrote (told_count r) boxes objs

abbrev pub told_findings : Count → List (List ℕ) → List (List Float) → List ℕ → Findings
told_findings r found boxes objs = findings (told_count r) found boxes objs
