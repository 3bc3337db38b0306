-- Handles over any history of the box grid's calls: one that is gone stays gone until the grid is built anew, and one that an accepted
-- insert returned is good or gone. Assumes nothing.
use Rattle.basics.specs.Words.{ℕ, ◌≡◌, refl, Bool, true, false, ◌||◌, List, [], ◌∷◌}
use Rattle.geometry.specs.declared.Aabb.{Aabb}
use Rattle.slots.specs.declared.Handle.{Handle}
use Rattle.slots.specs.Meaning.Slot.{gone, handle_refusal}
use Rattle.slots.proofs.laws.HandleLaws.{issued_no_11}
use Rattle.slots.proofs.laws.OnwardLaws.{Onward, onward-none, Lasting, lasting_none, lasting_then, onward_lasting}
use Rattle.storage.specs.Meaning.Keyed.{All}
use Rattle.storage.proofs.laws.FilterLaws.{by_test}
use Rattle.box_tables.specs.Meaning.Tables.{Tables}
use Rattle.box_tables.specs.Meaning.Decide.{holds, holds_says}
use Rattle.box_insert.specs.Meaning.Insert.{insert_of}
use Rattle.box_set.specs.Meaning.SetAabb.{set_aabb_of}
use Rattle.box_remove.specs.Meaning.Remove.{remove_of}
use Rattle.box_remove.proofs.laws.RemoveLaws.{is_good}
use Rattle.box_clear.specs.Meaning.Clear.{clear_of}
use Rattle.box_histories.specs.Inner.History as Changes
use Rattle.box_histories.proofs.laws.OnwardLaws.{after-onward, insert-good}
use Rattle.demands.specs.Meaning.BoxCalls.{BoxCall, new, insert, set_aabb, remove, clear, get, len, handles, query_broad, query, leaves}
use Rattle.demands.specs.Meaning.BoxDemands.{after_calls}
use Rattle.demands.proofs.laws.BoxDemands.{keeps_a_grid}

-- any call but building
abbrev pub NotBuilding : BoxCall → Type 0
NotBuilding c = (size : ℕ) → c ≡ new size → ⊥

abbrev pub is_gone : Tables → Handle → Bool
is_gone t h = gone t.nums h.slot h.version

-- ---- such a call lets every slot go onward, and on tables that hold no grid it changes nothing
onward : (t : Tables) (c : BoxCall) → NotBuilding c → Onward t.nums (leaves t c).after.nums
unfolding leaves Changes.after
onward t (new size) b = absurd (b size refl)
onward t (insert x d) b = after-onward t (Changes.insert x d)
onward t (set_aabb g x) b = after-onward t (Changes.set_aabb g x)
onward t (remove g) b = after-onward t (Changes.remove g)
onward t (clear xs os) b = after-onward t (Changes.clear xs os)
onward t (get g) b = onward-none t.nums
onward t len b = onward-none t.nums
onward t (handles out) b = onward-none t.nums
onward t (query_broad q hs) b = onward-none t.nums
onward t (query q hs xs os) b = onward-none t.nums

unheld_stays : (t : Tables) (c : BoxCall) → NotBuilding c → holds t ≡ false → (leaves t c).after ≡ t
unfolding leaves
unheld_stays t (new size) b e = absurd (b size refl)
unheld_stays t (insert x d) b e = unfold insert_of in rw e
unheld_stays t (set_aabb g x) b e = unfold set_aabb_of in rw e
unheld_stays t (remove g) b e = unfold remove_of in rw e
unheld_stays t (clear xs os) b e = unfold clear_of in rw e
unheld_stays t (get g) b e = refl
unheld_stays t len b e = refl
unheld_stays t (handles out) b e = refl
unheld_stays t (query_broad q hs) b e = refl
unheld_stays t (query q hs xs os) b e = refl

-- ---- so it leaves a gone handle gone, and a good one good or gone
lasting : (t : Tables) (c : BoxCall) → NotBuilding c → Lasting t.nums (leaves t c).after.nums
lasting t c b =
    by_test (holds t)
    (λ k. let h = (holds_says t).yes k in onward_lasting (onward t c b) h.slots (keeps_a_grid t c h).slots)
    (λ k. rw (unheld_stays t c b k) (lasting_none t.nums))

all_lasting : (t : Tables) (cs : List BoxCall) → All NotBuilding cs → Lasting t.nums (after_calls t cs).nums
unfolding after_calls
all_lasting t [] bs = lasting_none t.nums
all_lasting t (c ∷ cs) bs = lasting_then (lasting t c bs.0) (all_lasting (leaves t c).after cs bs.1)

-- no call but building makes a gone handle anything else
pub gone-stays : (t : Tables) (c : BoxCall) → NotBuilding c → (g : Handle) → is_gone t g ≡ true → is_gone (leaves t c).after g ≡ true
gone-stays t c b g e = (lasting t c b).gone-stays g.slot g.version e

-- a handle that an accepted insert returned, on any tables, is good or gone after any calls but building, so that 11 is never given for it
module _ (t : Tables) (x : Aabb) (d : ℕ) (accepts : (insert_of t x d).result.answer ≡ 0) (cs : List BoxCall) (bs : All NotBuilding cs) where
  abbrev issued : Handle
  issued = (insert_of t x d).result.handle

  abbrev later : Tables
  later = after_calls (insert_of t x d).after cs

  pub issued_gone_or_good : (is_good later issued || is_gone later issued) ≡ true
  issued_gone_or_good = (all_lasting (insert_of t x d).after cs bs).good_or_gone issued.slot issued.version (insert-good t x d accepts)

  pub issued_never_11 : handle_refusal later.nums issued ≡ 11 → ⊥
  issued_never_11 = issued_no_11 later.nums issued issued_gone_or_good
