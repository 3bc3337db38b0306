-- Handles over any history of the point grid's calls: one that is gone stays gone until the grid is built anew, one that an accepted insert
-- returned is good or gone, and one that a deferred remove took is gone after the next maintain. Assumes nothing.
use Rattle.basics.specs.Words.{ℕ, ◌≡◌, refl, sym, ◌∙◌, Bool, true, false, ◌||◌, List, [], ◌∷◌}
use Rattle.basics.proofs.laws.Says.{apart, not_said}
use Rattle.geometry.specs.declared.Position.{Position}
use Rattle.slots.specs.declared.Handle.{Handle}
use Rattle.slots.specs.Meaning.Slot.{gone, handle_refusal}
use Rattle.slots.proofs.laws.HandleLaws.{issued_no_11}
use Rattle.slots.proofs.laws.OnwardLaws.{Onward, onward-none, Lasting, lasting_none, lasting_then, onward_lasting, onward_then}
use Rattle.storage.specs.Meaning.Keyed.{All}
use Rattle.storage.proofs.laws.FilterLaws.{by_test}
use Rattle.point_tables.specs.Meaning.Tables.{Tables}
use Rattle.point_tables.specs.Meaning.Decide.{holds, holds_says}
use Rattle.point_insert.specs.Meaning.Insert.{insert_of}
use Rattle.point_deferred.specs.Meaning.Moves.{set_position_of, remove_of}
use Rattle.point_batch.specs.Meaning.Batch.{even, batch_of}
use Rattle.point_maintain.specs.Meaning.Maintain.{maintain_of}
use Rattle.point_remove.specs.Meaning.RemoveMaintain.{remove_maintain_of}
use Rattle.point_remove.proofs.laws.RemoveLaws.{is_good}
use Rattle.point_clear.specs.Meaning.Clear.{clear_of}
use Rattle.point_histories.specs.Inner.History as Changes
use Rattle.point_histories.proofs.laws.OnwardLaws.{calls_onward, after-onward, insert-good}
use Rattle.point_deferred.specs.Meaning.Calls.{Call, tables_after, replies}
use Rattle.point_deferred.proofs.laws.MovesKeeps.{calls_keep}
use Rattle.point_maintain.proofs.laws.MaintainLaws.{maintain_keeps}
use Rattle.point_maintain.proofs.laws.OnwardLaws.{maintain-onward}
use Rattle.whereabouts.specs.Meaning.Whereabouts.{removed_by}
use Rattle.whereabouts.specs.Meaning.Stands.{next_maintain}
use Rattle.whereabouts.proofs.laws.StandsLaws.{maintain-settles, stands}
use Rattle.demands.specs.Meaning.PointCalls.{PointCall, new, insert, set_position, remove, batch, maintain, remove_maintain, clear}
use Rattle.demands.specs.Meaning.PointCalls.{get, len, handles, query, query_around, query_aabb, nearest, leaves}
use Rattle.demands.specs.Meaning.Demands.{after_calls}
use Rattle.demands.proofs.laws.Demands.{keeps_a_grid}

-- any call but building
abbrev pub NotBuilding : PointCall → Type 0
NotBuilding c = (size : ℕ) → c ≡ new size → ⊥

abbrev pub is_gone : Tables → Handle → Bool
is_gone t h = gone t.nums h.slot h.version

-- ---- such a call lets every slot go onward, and on tables that hold no grid it changes nothing
onward : (t : Tables) (c : PointCall) → NotBuilding c → Onward t.nums (leaves t c).after.nums
unfolding leaves Changes.after
onward t (new size) b = absurd (b size refl)
onward t (insert p d k) b = after-onward t (Changes.insert p d k)
onward t (set_position g p k) b = after-onward t (Changes.set_position g p k)
onward t (remove g k) b = after-onward t (Changes.remove g k)
onward t (batch ks hs ps out) b = after-onward t (Changes.batch ks hs ps out)
onward t maintain b = after-onward t Changes.maintain
onward t (remove_maintain g k) b = after-onward t (Changes.remove_maintain g k)
onward t (clear ps os) b = after-onward t (Changes.clear ps os)
onward t (get g) b = onward-none t.nums
onward t len b = onward-none t.nums
onward t (handles out) b = onward-none t.nums
onward t (query ll ur o) b = onward-none t.nums
onward t (query_around c r o) b = onward-none t.nums
onward t (query_aabb p q o) b = onward-none t.nums
onward t (nearest c r) b = onward-none t.nums

unheld_stays : (t : Tables) (c : PointCall) → NotBuilding c → holds t ≡ false → (leaves t c).after ≡ t
unfolding leaves
unheld_stays t (new size) b e = absurd (b size refl)
unheld_stays t (insert p d k) b e = unfold insert_of in rw e
unheld_stays t (set_position g p k) b e = unfold set_position_of in rw e
unheld_stays t (remove g k) b e = unfold remove_of in rw e
unheld_stays t (batch ks hs ps out) b e = unfold batch_of in by_test (even ks hs ps) (λ q. rw (q, e)) (λ q. rw q)
unheld_stays t maintain b e = unfold maintain_of in rw e
unheld_stays t (remove_maintain g k) b e = unfold remove_maintain_of in rw e
unheld_stays t (clear ps os) b e = unfold clear_of in rw e
unheld_stays t (get g) b e = refl
unheld_stays t len b e = refl
unheld_stays t (handles out) b e = refl
unheld_stays t (query ll ur o) b e = refl
unheld_stays t (query_around c r o) b e = refl
unheld_stays t (query_aabb p q o) b e = refl
unheld_stays t (nearest c r) b e = refl

-- ---- so it leaves a gone handle gone, and a good one good or gone
pub lasting : (t : Tables) (c : PointCall) → NotBuilding c → Lasting t.nums (leaves t c).after.nums
lasting t c b =
    by_test (holds t)
    (λ k. let h = (holds_says t).yes k in onward_lasting (onward t c b) h.slots (keeps_a_grid t c h).slots)
    (λ k. rw (unheld_stays t c b k) (lasting_none t.nums))

pub all_lasting : (t : Tables) (cs : List PointCall) → All NotBuilding cs → Lasting t.nums (after_calls t cs).nums
unfolding after_calls
all_lasting t [] bs = lasting_none t.nums
all_lasting t (c ∷ cs) bs = lasting_then (lasting t c bs.0) (all_lasting (leaves t c).after cs bs.1)

-- no call but building makes a gone handle anything else
pub gone-stays : (t : Tables) (c : PointCall) → NotBuilding c → (g : Handle) → is_gone t g ≡ true → is_gone (leaves t c).after g ≡ true
gone-stays t c b g e = (lasting t c b).gone-stays g.slot g.version e

-- a handle that an accepted insert returned, on any tables, is good or gone after any calls but building, so that 11 is never given for it
module _ (t : Tables) (p : Position) (d k : ℕ) (accepts : (insert_of t p d k).result.answer ≡ 0) (cs : List PointCall) (bs : All NotBuilding cs) where
  abbrev issued : Handle
  issued = (insert_of t p d k).result.handle

  abbrev later : Tables
  later = after_calls (insert_of t p d k).after cs

  pub issued_gone_or_good : (is_good later issued || is_gone later issued) ≡ true
  issued_gone_or_good = (all_lasting (insert_of t p d k).after cs bs).good_or_gone issued.slot issued.version (insert-good t p d k accepts)

  pub issued_never_11 : handle_refusal later.nums issued ≡ 11 → ⊥
  issued_never_11 = issued_no_11 later.nums issued issued_gone_or_good

-- ---- a tracker that is a frame late: a handle that was good right after an accepted maintain, and that an accepted deferred remove took, is
-- gone right after the next one
module _ (before : Tables) (a : (maintain_of before).result.answer ≡ 0) (cs : List Call) (g : Handle) where
  abbrev t : Tables
  t = (maintain_of before).after

  pub removed-gone : is_good t g ≡ true → removed_by g cs (replies t cs) ≡ true → is_gone (next_maintain t cs).after g ≡ true
  removed-gone e r =
      let s = maintain-settles before a in
      let n : is_good (next_maintain t cs).after g ≡ false = not_said (stands t s cs g) (λ x. apart (sym x.1 ∙ r)) in
      let u = calls_keep t cs s.holds in
      let l = onward_lasting (onward_then (calls_onward t cs) (maintain-onward (tables_after t cs))) s.holds.slots (maintain_keeps (tables_after t cs) u).slots in
      rw n at (l.good_or_gone g.slot g.version e)
