-- A point that was accepted as moved is found where it was last sent: it is not lost, and not looked for where it was. Assumes nothing.
-- Here: the laws.
use Rattle.basics.specs.Words.{◌≡◌, refl, sym, ap, ◌∙◌, Bool, true, false, not, ◌&&◌, ◌||◌, List, [], ◌∷◌, ◌++◌, get_or, eqb, eq-eqb}
use lib.Ieee.{Float}
use Rattle.basics.specs.Meaning.Refusals.{pick}
use Rattle.geometry.specs.declared.Position.{Position}
use Rattle.geometry.specs.Meaning.Circle.{in_circle}
use Rattle.slots.specs.declared.Handle.{Handle}
use Rattle.slots.specs.Meaning.Slot.{good}
use Rattle.slots.proofs.laws.HandleLaws.{good_says}
use Rattle.storage.specs.Meaning.Keyed.{All}
use Rattle.point_records.specs.Meaning.Word.{tracker_at}
use Rattle.point_records.proofs.laws.WordLaws.{tracker-same}
use Rattle.point_tables.specs.Meaning.Tables.{Tables, record_on}
use Rattle.replies.specs.declared.Reply.{Reply}
use Rattle.point_deferred.specs.Meaning.Calls.{Call, call_of, tables_after, replies}
use Rattle.point_deferred.proofs.laws.MovesLaws.{named}
use Rattle.point_search.specs.Meaning.Searches.{Outputs}
use Rattle.point_query.specs.Meaning.Queries.{around_of}
use Rattle.whereabouts.specs.Meaning.Whereabouts.{accepted_for, moves_it, removes_it, removed_by, last_at}
use Rattle.whereabouts.proofs.laws.CallLaws.{Given, given, or_assoc, calls_kept, calls_slots}
use Rattle.whereabouts.proofs.laws.StandsLaws.{Settled, removed_is}
use Rattle.whereabouts.specs.Meaning.Stands.{next_maintain}
use Rattle.whereabouts.specs.Meaning.Report.{Reports, Due}
use Rattle.whereabouts.proofs.laws.ReportLaws.{circle_reports}
use Rattle.whereabouts.specs.Meaning.Moved.{Other}

module _ (g : Handle) where
  -- ---- calls, and then calls
  last-append : (t : Tables) (xs ys : List Call) (p : Position)
      → last_at g (xs ++ ys) (replies t (xs ++ ys)) p ≡ last_at g ys (replies (tables_after t xs) ys) (last_at g xs (replies t xs) p)
  unfolding last_at replies tables_after
  last-append t [] ys p = refl
  last-append t (c ∷ xs) ys p = last-append (call_of t c).after xs ys (pick (moves_it g c (call_of t c).result) c.at p)

  removed-append : (t : Tables) (xs ys : List Call)
      → removed_by g (xs ++ ys) (replies t (xs ++ ys)) ≡ (removed_by g xs (replies t xs) || removed_by g ys (replies (tables_after t xs) ys))
  unfolding removed_by replies tables_after
  removed-append t [] ys = refl
  removed-append t (c ∷ xs) ys =
      let u = (call_of t c).after in
      ap (λ (b : Bool). removes_it g c (call_of t c).result || b) (removed-append u xs ys)
      ∙ sym (or_assoc (removes_it g c (call_of t c).result) (removed_by g xs (replies u xs)) (removed_by g ys (replies (tables_after u xs) ys)))

  not_for : (c : Call) (r : Reply) → Other g c → accepted_for g c r ≡ false
  not_for c r e = ap (λ (b : Bool). eqb r.answer 0 && b) e ∙ and-false (eqb r.answer 0)
    where
      and-false : (b : Bool) → (b && false) ≡ false
      and-false true = refl
      and-false false = refl

  others_last : (t : Tables) (ys : List Call) (p : Position) → All (Other g) ys → last_at g ys (replies t ys) p ≡ p
  unfolding last_at replies
  others_last t [] p a = refl
  others_last t (c ∷ ys) p a = rw (not_for c (call_of t c).result a.0) (others_last (call_of t c).after ys p a.1)

  others_removed : (t : Tables) (ys : List Call) → All (Other g) ys → removed_by g ys (replies t ys) ≡ false
  unfolding removed_by replies
  others_removed t [] a = refl
  others_removed t (c ∷ ys) a = rw (not_for c (call_of t c).result a.0) (others_removed (call_of t c).after ys a.1)

-- ---- c is an accepted `set_position`, and the last call with its handle
module _ (t : Tables) (s : Settled t) (xs : List Call) (c : Call) (ys : List Call) (kind : c.kind ≡ 0) (accepted : (call_of (tables_after t xs) c).result.answer ≡ 0) (last : All (Other c.handle) ys) where
  abbrev g : Handle
  g = c.handle

  abbrev u : Tables
  u = tables_after t xs

  abbrev all : List Call
  all = xs ++ (c ∷ ys)

  abbrev z : Given u c
  z = given u c accepted

  was-live : good t.nums g.slot g.version ≡ true
  was-live =
      (good_says t.nums g.slot g.version).no (
        rw (calls_slots t xs) at z.names.inside,
        sym (calls_kept (λ r. r.phase) (λ r st. refl) t s.holds xs g.slot) ∙ z.names.occupied,
        sym (calls_kept (λ r. r.version) (λ r st. refl) t s.holds xs g.slot) ∙ z.names.version,
      )

  is_for : accepted_for g c (call_of u c).result ≡ true
  is_for = λ i. eq-eqb (call_of u c).result.answer 0 accepted i && (eq-eqb g.slot g.slot refl i && eq-eqb g.version g.version refl i)

  is_kind : eqb c.kind 0 ≡ true
  is_kind = eq-eqb c.kind 0 kind

  -- its position is the last accepted one
  sent_last : last_at g all (replies t all) (record_on t g.slot).position ≡ c.at
  unfolding last_at replies
  sent_last =
      let was = (record_on t g.slot).position in
      last-append g t xs (c ∷ ys) was
      ∙ ap (λ (b : Bool). last_at g ys (replies (call_of u c).after ys) (pick b c.at (last_at g xs (replies t xs) was))) (λ i. is_for i && is_kind i)
      ∙ others_last g (call_of u c).after ys c.at last

  -- and the point was not removed before, since a removed one is not moved, nor since
  not_removed : removed_by g all (replies t all) ≡ false
  unfolding removed_by replies
  not_removed =
      let before : removed_by g xs (replies t xs) ≡ false = sym (removed_is t s xs g (named t g was-live)) ∙ (z.moves is_kind).0 in
      removed-append g t xs (c ∷ ys)
      ∙ (λ i. before i || ((is_for i && not (is_kind i)) || removed_by g ys (replies (call_of u c).after ys)))
      ∙ others_removed g (call_of u c).after ys last

  -- the point is the mover's from before
  its_own : c.tracker ≡ tracker_at t.nums g.slot
  its_own = sym z.owner ∙ tracker-same (get_or u.nums g.slot []) (get_or t.nums g.slot []) (calls_kept (λ r. r.tracker) (λ r st. refl) t s.holds xs g.slot)

  pub moved-found : (centre : Position) (r : Float) (o : Outputs) → (around_of (next_maintain t all).after centre r o).returned.answer ≡ 0
      → in_circle c.at centre r ≡ true → Reports (around_of (next_maintain t all).after centre r o) g c.at (record_on t g.slot).obj c.tracker
  moved-found centre r o a n =
      let obj = (record_on t g.slot).obj in
      let d : Due t all centre r g c.at obj c.tracker = record { was-live = was-live; not_removed = not_removed; at_last = sym sent_last; has_data = refl; has_tracker = its_own; near = n } in
      (circle_reports t s all centre r o a g c.at obj c.tracker).1 d
