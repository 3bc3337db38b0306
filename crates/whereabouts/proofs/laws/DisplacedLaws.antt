-- Of a frame's calls the next maintain counts the points that are displaced in the end, whatever was sent meanwhile. Assumes nothing.
use Rattle.basics.specs.Words.{ℕ, zero, suc, ◌+◌, ◌≤◌, ◌<◌, ◌≡◌, refl, sym, ap, ap₂, ◌∙◌, Bool, true, not, ◌&&◌, List, eqb, eqb-true, arith}
use Rattle.basics.proofs.laws.Says.{apart, not_said}
use Rattle.basics.specs.Meaning.Refusals.{pick}
use Rattle.geometry.specs.declared.Position.{Position}
use Rattle.slots.specs.declared.Handle.{Handle}
use Rattle.slots.specs.Meaning.Slot.{live, version_at, good}
use Rattle.slots.proofs.laws.HandleLaws.{good_says}
use Rattle.storage.proofs.laws.FilterLaws.{by_test}
use Rattle.point_records.specs.Meaning.Occupied.{InDomain}
use Rattle.point_tables.specs.Meaning.Tables.{Tables, slots_of, record_on}
use Rattle.point_tables.specs.Meaning.Holds.{Holds}
use Rattle.point_tables.specs.Inner.Count.{is_live}
use Rattle.point_tables.specs.Meaning.Outcome.{Outcome}
use Rattle.point_deferred.specs.Meaning.Calls.{Call, tables_after, replies}
use Rattle.point_deferred.proofs.laws.MovesLaws.{Named}
use Rattle.point_deferred.proofs.laws.MovesKeeps.{calls_keep}
use Rattle.point_maintain.specs.declared.Maintained.{Maintained}
use Rattle.point_maintain.specs.Meaning.Moved.{differs, has_moved}
use Rattle.point_maintain.proofs.laws.MovedLaws.{removed_unmoved, moved_if_headed}
use Rattle.point_maintain.specs.Meaning.Maintain.{count_records}
use Rattle.point_maintain.proofs.laws.MaintainLaws.{maintain-done}
use Rattle.whereabouts.specs.Meaning.Whereabouts.{removed_by, last_at}
use Rattle.whereabouts.specs.Inner.Displaced.{displaced, count_displaced}
use Rattle.whereabouts.specs.Meaning.Stands.{next_maintain}
use Rattle.whereabouts.proofs.laws.CallLaws.{calls_kept, calls_slots}
use Rattle.whereabouts.proofs.laws.StandsLaws.{Settled, removed_is, headed_is}

module _ (t : Tables) (s : Settled t) (cs : List Call) where
  abbrev u : Tables
  u = tables_after t cs

  u_holds : Holds u
  u_holds = calls_keep t cs s.holds

  -- ---- slot by slot
  module _ (i : ℕ) (l : i < slots_of t) where
    abbrev g : Handle
    g = record { slot = i; version = version_at t.nums i }

    abbrev was : Position
    was = (record_on t i).position

    abbrev gone : Bool
    gone = removed_by g cs (replies t cs)

    good_is : good t.nums i (version_at t.nums i) ≡ is_live t i
    good_is =
        by_test (is_live t i)
        (λ e. (good_says t.nums i (version_at t.nums i)).no (l, eqb-true _ _ e, refl) ∙ sym e)
        (λ e. not_said (good_says t.nums i (version_at t.nums i)) (λ k. apart (sym e ∙ ap (λ (n : ℕ). eqb n live) k.1)) ∙ sym e)

    live_is : is_live u i ≡ is_live t i
    live_is = ap (λ (n : ℕ). eqb n live) (calls_kept (λ r. r.phase) (λ r st. refl) t s.holds cs i)

    position_is : (record_on u i).position ≡ was
    position_is = calls_kept (λ r. r.position) (λ r st. refl) t s.holds cs i

    module _ (e : is_live t i ≡ true) where
      n : Named t g
      n = record { inside = l; occupied = eqb-true _ _ e; version = refl }

      within_domain : InDomain (record_on u i).position
      within_domain = (u_holds.records i (rw (calls_slots t cs) l) (eqb-true _ _ (live_is ∙ e))).occupied.within_domain

      of_live : has_moved (record_on u i) ≡ (not gone && differs (last_at g cs (replies t cs) was) was)
      of_live =
          by_test gone
          (λ k. rw k (removed_unmoved (record_on u i) (removed_is t s cs g n ∙ k)))
          (λ k. rw k (moved_if_headed (record_on u i) within_domain (removed_is t s cs g n ∙ k) ∙ (λ z. differs (headed_is t s cs g n k z) (position_is z))))

    of_slot : ◌≡◌ {A = ℕ} (pick (is_live u i) (pick (has_moved (record_on u i)) 1 0) 0) (pick (displaced t cs g) 1 0)
    of_slot = by_test (is_live t i) (λ e. rw (live_is, good_is, e, of_live e)) (λ e. rw (live_is, good_is, e))

  counted : (n : ℕ) → n ≤ slots_of t → count_records has_moved u n ≡ count_displaced t cs n
  counted zero l = refl
  counted (suc n) l = ap₂ ◌+◌ (counted n (omega arith)) (of_slot n (omega arith))

  -- the first count of the next maintain
  pub counts-displaced : (next_maintain t cs).result.moved ≡ count_displaced t cs (slots_of t)
  counts-displaced =
      ap (λ (o : Outcome Maintained). o.result.moved) (maintain-done u u_holds) ∙ ap (count_records has_moved u) (calls_slots t cs) ∙ counted (slots_of t) (omega arith)
