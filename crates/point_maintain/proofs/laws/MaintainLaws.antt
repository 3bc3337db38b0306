-- The outcome of `maintain`: its counts, and that tables that hold a grid are followed by tables that do. Assumes nothing.
use Rattle.basics.specs.Words.{ℕ, ◌+◌, ◌≡◌, sym, ◌∙◌, ap, arith}
use Rattle.basics.proofs.laws.Says.{apart}
use Rattle.storage.proofs.laws.FilterLaws.{by_test}
use Rattle.point_records.specs.Meaning.Word.{tracker_at}
use Rattle.point_records.specs.Meaning.States.{is_removed}
use Rattle.point_tables.specs.Meaning.Tables.{Tables, used_of, slots_of}
use Rattle.point_tables.specs.Meaning.Holds.{Holds}
use Rattle.point_tables.specs.Meaning.Decide.{holds, holds_says}
use Rattle.point_tables.specs.Meaning.Outcome.{Outcome, outcome}
use Rattle.point_maintain.specs.declared.Maintained.{Maintained}
use Rattle.point_maintain.specs.Meaning.Maintain.{count_records, count_states, maintained_counts, maintained, maintain_of}
use Rattle.point_maintain.specs.Meaning.Moved.{has_moved}
use Rattle.point_maintain.proofs.laws.MaintainKeeps.{maintained_keeps}
use Rattle.point_maintain.proofs.laws.CountsLaws.{maintained-count}
use Rattle.point_maintain.proofs.laws.MaintainedLaws.{maintained-tracker}

module _ (t : Tables) where
  -- on tables that hold a grid: done, with the counts of the records before
  pub maintain-done : Holds t → maintain_of t ≡ outcome (maintained_counts 0 (count_records has_moved t (slots_of t)) (count_states is_removed t (slots_of t))) (maintained t)
  unfolding maintain_of
  maintain-done h = rw ((holds_says t).no h)

  -- on others: 3, with zeros, and nothing changes
  pub maintain-refused : (Holds t → ⊥) → maintain_of t ≡ outcome (maintained_counts 3 0 0) t
  unfolding maintain_of
  maintain-refused n = by_test (holds t) (λ e. absurd (n ((holds_says t).yes e))) (λ e. rw e)

  pub maintain-accepted : (maintain_of t).result.answer ≡ 0 → Holds t
  maintain-accepted a =
      by_test (holds t)
      (λ e. (holds_says t).yes e)
      (λ e. absurd (omega (arith, ap (λ (o : Outcome Maintained). o.result.answer) (maintain-refused (λ h. apart (sym e ∙ (holds_says t).no h))))))

  pub maintain_keeps : Holds t → Holds (maintain_of t).after
  maintain_keeps h = rw (maintain-done h) (maintained_keeps t h)

  -- every slot has the tracker that it had, and so has an object that is still there
  pub maintain-tracker : (s : ℕ) → tracker_at (maintain_of t).after.nums s ≡ tracker_at t.nums s
  maintain-tracker s = by_test (holds t) (λ e. done ((holds_says t).yes e)) (λ e. rw (maintain-refused (λ h. apart (sym e ∙ (holds_says t).no h))))
    where
      done : Holds t → tracker_at (maintain_of t).after.nums s ≡ tracker_at t.nums s
      done h = rw (maintain-done h) (maintained-tracker t h s)

  -- the objects after and those that it says it removed are the objects before
  pub maintain-length : Holds t → used_of (maintain_of t).after + (maintain_of t).result.removed ≡ used_of t
  maintain-length h = rw (maintain-done h) (maintained-count t h)
