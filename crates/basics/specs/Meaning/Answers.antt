-- The numbers of the refusals, as C and the trace have them; 0 where nothing is refused. Assumes nothing.
use Rattle.std.specs.Prelude.{Result, Ok, Err}
use Rattle.basics.specs.Words.{ℕ}
use Rattle.basics.specs.declared.Refusal.{Refusal}
use Rattle.basics.specs.declared.Refusal.TheVariants.{Removed, CellSize, Tables, NoUsableSlot, OutsideDomain, TooManyCells, PoolFull, OutputTooShort, NeverIssued, Gone, NoTracker, OtherTracker}

abbrev pub number_of : Refusal → ℕ
number_of Removed = 1
number_of CellSize = 2
number_of Tables = 3
number_of NoUsableSlot = 4
number_of OutsideDomain = 6
number_of TooManyCells = 7
number_of PoolFull = 8
number_of OutputTooShort = 9
number_of NeverIssued = 11
number_of Gone = 12
number_of NoTracker = 13
number_of OtherTracker = 14

-- the answer of a call that gives this
abbrev pub answer_of : {A : Type 0} → Result A Refusal → ℕ
answer_of (Ok _) = 0
answer_of (Err why) = number_of why
