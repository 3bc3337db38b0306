-- What the program writes is decided by the records of its input, wherever the blocks end: of a record that is too long its first bytes are
-- enough, and at each turn of the program an answer and what is left to be written are what was left before it. Assumes nothing.
use Rattle.basics.specs.Words.{ℕ, ◌≡◌, refl, ap, ◌∙◌, List, [], ◌∷◌, ◌++◌, map, take, drop, arith}
use Rattle.trace_splits.specs.Inner.Records.{records_of}
use Rattle.trace_splits.specs.Meaning.Sofar.{Sofar, begun}
use Rattle.trace_splits.proofs.laws.Sofar.{records_from}
use Rattle.trace_splits.proofs.laws.SplitLaws.{splits_records}
use Rattle.trace_lines.proofs.laws.InputLaws.{cut_read}
use Rattle.trace_answers.specs.Meaning.State.{Answered}
use Rattle.trace_answers.specs.Meaning.Answer.{answer_of}
use Rattle.trace_blocks.specs.Meaning.Next.{Next, next_of}
use Rattle.trace_blocks.proofs.laws.NextLaws.{none_lost, block_used}
use Rattle.trace_replay.specs.Meaning.Replay.{Grids, fresh_state, answer_to, answer_text, grids_of}
use Rattle.trace_replay.specs.Inner.Replay.{trace_of}

cut_answer : (g : Grids) (r : List ℕ) → answer_to g (take 129 r) ≡ answer_to g r
unfolding answer_to
cut_answer g r = ap (answer_of (fresh_state g)) (cut_read r)

cut_trace : (g : Grids) (rs : List (List ℕ)) → trace_of g (map (take 129) rs) ≡ trace_of g rs
cut_trace g [] = refl
cut_trace g (r ∷ rs) = ap (λ (a : Answered). answer_text a ++ trace_of (grids_of a) (map (take 129) rs)) (cut_answer g r) ∙ ap (λ (t : List ℕ). answer_text (answer_to g r) ++ t) (cut_trace (grids_of (answer_to g r)) rs)

-- split byte by byte in a line of 130 bytes, the input has the same trace
pub trace_of_input : (g : Grids) (input : List ℕ) → trace_of g (records_from 130 begun input) ≡ trace_of g (records_of input)
trace_of_input g input = ap (trace_of g) (splits_records 130 (omega arith) input) ∙ cut_trace g (records_of input)

-- ---- what is still to be written, at each turn of the program: g are the grids, s the bytes so far, at the place in the block l, rest the input
-- that is not read yet
module _ (g : Grids) (s : Sofar) (at : ℕ) (l rest : List ℕ) where
  abbrev left : Grids → Sofar → List ℕ → List ℕ
  left h t bytes = trace_of h (records_from 130 t bytes)

  abbrev walk : Next
  walk = next_of 130 s at (drop at l)

  -- a record ends in the block: its answer, and then what is left behind it
  pub record_turn : (r : List ℕ) → walk.out ≡ r ∷ [] → left g s (drop at l ++ rest) ≡ answer_text (answer_to g r) ++ left (grids_of (answer_to g r)) walk.next (drop walk.place l ++ rest)
  record_turn r e = ap (trace_of g) (none_lost 130 l rest s at ∙ ap (λ (o : List (List ℕ)). o ++ records_from 130 walk.next (drop walk.place l ++ rest)) e)

  -- none does: the next block goes on with the bytes so far
  pub block_turn : walk.out ≡ [] → left g s (drop at l ++ rest) ≡ left g walk.next rest
  block_turn e =
      ap (trace_of g)
      (none_lost 130 l rest s at
      ∙ ap (λ (o : List (List ℕ)). o ++ records_from 130 walk.next (drop walk.place l ++ rest)) e
      ∙ ap (λ (b : List ℕ). records_from 130 walk.next (b ++ rest)) (block_used 130 l s at e))
