-- The promise of an answer to a request. Assumes nothing.
use Rattle.std.specs.Prelude.{◌≡◌}
use Rattle.trace_lines.specs.declared.Request.{Request}
use Rattle.trace_printing.specs.declared.Said.{Said}
use Rattle.trace_answers.specs.Meaning.State.{State, answered}
use Rattle.trace_answers.specs.Meaning.Answer.{answer_of}

-- what is said, and the grids and the outputs after it, s', are those of `answer_of`
abbrev pub Answers : Request → Said → State → State → Type 0
Answers r said s s' = answered said s' ≡ answer_of s r
