-- Trackers over the public calls of the point grid: what is another tracker's is refused, and the tracker of a point never changes. Assumes nothing.
use Rattle.basics.specs.Words.{ℕ, ◌≤◌, ◌≡◌, refl, ap, ◌∙◌, true, List, [], ◌∷◌}
use Rattle.geometry.specs.declared.Position.{Position}
use Rattle.slots.specs.declared.Handle.{Handle}
use Rattle.storage.specs.Meaning.Keyed.{All}
use Rattle.point_records.specs.Meaning.Occupied.{InDomain}
use Rattle.point_records.specs.Meaning.Word.{tracker_at}
use Rattle.point_records.specs.Meaning.Trackers.{last_tracker}
use Rattle.point_tables.specs.Meaning.Tables.{Tables}
use Rattle.point_tables.specs.Meaning.Holds.{Holds}
use Rattle.point_deferred.proofs.laws.TrackerLaws.{set-position_14, remove_14}
use Rattle.point_remove.proofs.laws.RemoveLaws.{is_good}
use Rattle.point_remove.proofs.laws.RemoveLaws as Removing
use Rattle.point_histories.specs.Inner.History as Changes
use Rattle.point_histories.proofs.laws.TrackerLaws.{one-tracker, good_between}
use Rattle.demands.specs.Meaning.PointCalls.{PointCall, new, insert, set_position, remove, batch, maintain, remove_maintain, clear}
use Rattle.demands.specs.Meaning.PointCalls.{get, len, handles, query, query_around, query_aabb, nearest, of_reply, leaves, refused_with}
use Rattle.demands.specs.Meaning.Demands.{after_calls}
use Rattle.demands.proofs.laws.Handles.{NotBuilding, lasting, all_lasting}

-- ---- a good handle of another tracker's point, whatever its state: 14, the tables as they were, and zeros
module _ (t : Tables) (held : Holds t) (g : Handle) (k : ℕ) (fine : is_good t g ≡ true) (known : k ≤ last_tracker) (other : tracker_at t.nums g.slot ≡ k → ⊥) where
  pub other_tracker-refused : ((p : Position) → InDomain p → leaves t (set_position g p k) ≡ refused_with t (set_position g p k) 14)
      × (leaves t (remove g k) ≡ refused_with t (remove g k) 14)
      × (leaves t (remove_maintain g k) ≡ refused_with t (remove_maintain g k) 14)
  unfolding leaves
  other_tracker-refused = (
    λ p d. ap of_reply (set-position_14 t held g k fine known other p d),
    ap of_reply (remove_14 t held g k fine known other),
    ap of_reply (Removing.other_tracker-refused t g k held fine known other),
  )

-- ---- a call other than building leaves the tracker of a point that it does not take out
abbrev tracker_on : Tables → Handle → ℕ
tracker_on t g = tracker_at t.nums g.slot

call-tracker : (t : Tables) (c : PointCall) → NotBuilding c → (g : Handle) → is_good t g ≡ true → is_good (leaves t c).after g ≡ true → tracker_on (leaves t c).after g ≡ tracker_on t g
unfolding leaves Changes.after
call-tracker t (new size) b g x y = absurd (b size refl)
call-tracker t (insert p d k) b g x y = one-tracker t g.slot g.version x (Changes.insert p d k) y
call-tracker t (set_position f p k) b g x y = one-tracker t g.slot g.version x (Changes.set_position f p k) y
call-tracker t (remove f k) b g x y = one-tracker t g.slot g.version x (Changes.remove f k) y
call-tracker t (batch ks hs ps out) b g x y = one-tracker t g.slot g.version x (Changes.batch ks hs ps out) y
call-tracker t maintain b g x y = one-tracker t g.slot g.version x Changes.maintain y
call-tracker t (remove_maintain f k) b g x y = one-tracker t g.slot g.version x (Changes.remove_maintain f k) y
call-tracker t (clear ps os) b g x y = one-tracker t g.slot g.version x (Changes.clear ps os) y
call-tracker t (get f) b g x y = refl
call-tracker t len b g x y = refl
call-tracker t (handles out) b g x y = refl
call-tracker t (query ll ur o) b g x y = refl
call-tracker t (query_around c r o) b g x y = refl
call-tracker t (query_aabb p q o) b g x y = refl
call-tracker t (nearest c r) b g x y = refl

-- ---- through any calls but building, on any tables, until its slot is emptied
pub tracker_unchanging : (t : Tables) (cs : List PointCall) → All NotBuilding cs → (g : Handle) → is_good t g ≡ true → is_good (after_calls t cs) g ≡ true → tracker_on (after_calls t cs) g ≡ tracker_on t g
unfolding after_calls
tracker_unchanging t [] bs g x y = refl
tracker_unchanging t (c ∷ cs) bs g x y =
    let u = (leaves t c).after in
    let z = good_between u.nums (after_calls u cs).nums g.slot g.version (all_lasting u cs bs.1) ((lasting t c bs.0).good_or_gone g.slot g.version x) y in
    tracker_unchanging u cs bs.1 g z y ∙ call-tracker t c bs.0 g x z
