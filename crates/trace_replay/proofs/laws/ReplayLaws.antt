-- What the code of a record did is what the record asks for. Assumes nothing.
use Rattle.basics.specs.Words.{ℕ, ◌≡◌, refl, sym, ap, subst, ◌∙◌, List, arith}
use Rattle.replies.specs.declared.Count.{Count}
use Rattle.point_search.specs.Meaning.Searches.{outputs}
use Rattle.point_nearest.specs.Meaning.Nearest.{nearest_of}
use Rattle.trace_sixteenths.specs.Meaning.Sixteenth.{sixteenth}
use Rattle.trace_decimals.specs.Meaning.Written.{Buffer, put_text}
use Rattle.trace_printing.specs.declared.Said.{Said}
use Rattle.trace_printing.specs.Meaning.Said.{record_text}
use Rattle.trace_lines.specs.declared.Line.TheVariants.{PointSearch}
use Rattle.trace_lines.specs.declared.PointSearch.TheVariants.{Near}
use Rattle.trace_lines.specs.declared.Request.{Request}
use Rattle.trace_lines.specs.Meaning.Requests.{request_of}
use Rattle.trace_telling.specs.Meaning.Places.{place_of}
use Rattle.trace_telling.specs.Meaning.Tells.{points_or}
use Rattle.trace_points.specs.Meaning.Searches.{findings_of}
use Rattle.trace_points.proofs.laws.NearLaws.{says_nearest}
use Rattle.trace_answers.specs.Meaning.State.{State, Answered, answered}
use Rattle.trace_answers.proofs.laws.ToldLaws.{IsTold, told}
use Rattle.trace_answers.specs.Meaning.Answer.{by_line, answer_of}
use Rattle.trace_replay.specs.Meaning.Replay.{Grids, grids, fresh_state, answer_to, answer_text, grids_of, replayed, replay_of}

module _ (g : Grids) (bytes : List ℕ) {q : Request} (read : q ≡ request_of bytes) {s : Said} {after : State} (done : answered s after ≡ answer_of (fresh_state g) q) where
  pub can_tell : IsTold (answered s after)
  can_tell = subst IsTold (sym done) (told (fresh_state g) (omega arith) (omega arith) q)

  pub is_replayed : (w : Buffer) {v : Buffer} → v ≡ put_text w (record_text s after.handles after.places after.corners after.objs) → replayed (grids after.points after.boxes) v ≡ replay_of g bytes w
  unfolding answer_to
  is_replayed w e =
      ap (replayed (grids after.points after.boxes)) e
      ∙ ap (λ (a : Answered). replayed (grids_of a) (put_text w (answer_text a))) (done ∙ ap (answer_of (fresh_state g)) read)

-- the outputs have a place for what `near` finds, so that it says what `nearest` returned and never 9
pub near_says : (g : Grids) (r : Request) → r.line ≡ PointSearch Near → let n = nearest_of g.points (place_of r.p) (sixteenth r.far) in (answer_of (fresh_state g) r).tells ≡ points_or n.answer n.count
unfolding by_line findings_of
near_says g r e =
    let n = nearest_of g.points (place_of r.p) (sixteenth r.far) in
    let s = fresh_state g in
    rw e (ap (λ (c : Count). points_or c.answer c.count) (says_nearest n (outputs s.handles s.places s.objs) refl))
