-- What deferred calls leave of one object: everything but its state, and the state is what its accepted calls made of it. Assumes nothing.
use Rattle.basics.specs.Words.{ℕ, ◌≡◌, refl, sym, ap, ◌∙◌, Bool, true, false, ◌||◌, List, [], ◌∷◌, ⊎_elim, eqb, eq-eqb, ne_eqb}
use Rattle.basics.proofs.laws.Says.{apart, d_eq}
use Rattle.basics.specs.Meaning.Says.{said}
use Rattle.basics.specs.Meaning.Refusals.{pick}
use Rattle.geometry.specs.declared.Position.{Position}
use Rattle.cells.specs.declared.Cell.{Cell}
use Rattle.cells.specs.Meaning.CellRule.{cell_at}
use Rattle.slots.specs.declared.Handle.{Handle}
use Rattle.slots.specs.Meaning.Slot.{version_at}
use Rattle.storage.proofs.laws.FilterLaws.{by_test}
use Rattle.point_records.specs.declared.State.{State}
use Rattle.point_records.specs.declared.State.TheVariants.{Removed}
use Rattle.point_records.specs.declared.Record.{Record}
use Rattle.point_records.specs.Meaning.Columns.{pending_of}
use Rattle.point_records.specs.Inner.Decide.{d_cell}
use Rattle.point_records.specs.Meaning.States.{is_removed, aimed, with_state}
use Rattle.point_records.specs.Meaning.Word.{tracker_at}
use Rattle.point_tables.specs.Meaning.Tables.{Tables, size_of, slots_of, record_on}
use Rattle.point_tables.specs.Meaning.Holds.{Holds}
use Rattle.point_tables.specs.Meaning.Outcome.{Outcome}
use Rattle.replies.specs.declared.Reply.{Reply}
use Rattle.point_deferred.specs.Meaning.Moves.{pended, set_position_of, remove_of}
use Rattle.point_deferred.specs.Meaning.Calls.{Call, call_of, tables_after, replies}
use Rattle.point_deferred.proofs.laws.ReadyLaws.{holds_ready}
use Rattle.point_deferred.proofs.laws.PendedLaws.{nums-long, record_same, record_other, kept}
use Rattle.point_deferred.proofs.laws.MovesLaws.{Named, set-accepted, remove-accepted, set-done, remove-done}
use Rattle.point_deferred.proofs.laws.AnswerLaws.{set-answer_is, remove-answer_is, call-refused}
use Rattle.point_deferred.proofs.laws.MovesKeeps.{call_keeps}
use Rattle.whereabouts.specs.Meaning.Whereabouts.{moves_it, removes_it, removed_by, last_at}

-- ---- the state that `set_position` gives
pub aimed_goes : (size : ℕ) (c : Cell) (p q : Position) → (is_removed (aimed size c p) ≡ false) × (pending_of (aimed size c p) q ≡ p)
unfolding aimed
aimed_goes size c p q = by_test (said (d_cell (cell_at size p) c)) (λ e. rw e (refl, refl)) (λ e. rw e (refl, refl))

-- ---- an accepted call gives the object of its handle another state
module _ (t : Tables) (c : Call) where
  pub record Given : Type 0 where
    pub state : State
    pub after : (call_of t c).after ≡ pended t c.handle.slot state
    pub names : Named t c.handle
    pub owner : tracker_at t.nums c.handle.slot ≡ c.tracker
    pub moves : eqb c.kind 0 ≡ true → (is_removed (record_on t c.handle.slot).state ≡ false) × (state ≡ aimed (size_of t) (record_on t c.handle.slot).cell c.at)
    pub removes : eqb c.kind 0 ≡ false → state ≡ Removed

  is_set : eqb c.kind 0 ≡ true → call_of t c ≡ set_position_of t c.handle c.at c.tracker
  unfolding call_of
  is_set q = rw q

  is_remove : eqb c.kind 0 ≡ false → call_of t c ≡ remove_of t c.handle c.tracker
  unfolding call_of
  is_remove q = rw q

  pub given : (call_of t c).result.answer ≡ 0 → Given
  given a = by_test (eqb c.kind 0) by_set by_remove
    where
      by_set : eqb c.kind 0 ≡ true → Given
      by_set q =
          let e = sym (set-answer_is t c.handle c.at c.tracker) ∙ ap (λ (o : Outcome Reply). o.result.answer) (sym (is_set q)) ∙ a in
          let s = set-accepted t c.handle c.at c.tracker e in
          record {
            state = aimed (size_of t) (record_on t c.handle.slot).cell c.at;
            after = ap (λ (o : Outcome Reply). o.after) (is_set q ∙ set-done t c.handle c.at c.tracker e);
            names = s.names;
            owner = s.own.owner;
            moves = λ k. (s.present, refl);
            removes = λ k. absurd (apart (sym k ∙ q));
          }

      by_remove : eqb c.kind 0 ≡ false → Given
      by_remove q =
          let e = sym (remove-answer_is t c.handle c.tracker) ∙ ap (λ (o : Outcome Reply). o.result.answer) (sym (is_remove q)) ∙ a in
          let s = remove-accepted t c.handle c.tracker e in
          record {
            state = Removed;
            after = ap (λ (o : Outcome Reply). o.after) (is_remove q ∙ remove-done t c.handle c.tracker e);
            names = s.names;
            owner = s.own.owner;
            moves = λ k. absurd (apart (sym q ∙ k));
            removes = λ k. refl;
          }

-- ---- what no call changes: the number of slots, and of a record all but its state
module _ {X : Type 0} (f : Record → X) (blind : (r : Record) (s : State) → f (with_state r s) ≡ f r) where
  call_kept : (t : Tables) → Holds t → (c : Call) (j : ℕ) → f (record_on (call_of t c).after j) ≡ f (record_on t j)
  call_kept t h c j =
      ⊎_elim
      (λ a.
      let g = given t c a in
      let s = c.handle.slot in
      ap (λ (u : Tables). f (record_on u j)) g.after ∙ kept t s g.state (holds_ready t h) g.names.inside f (blind (record_on t s) g.state) j)
      (λ n. ap (λ (u : Tables). f (record_on u j)) (call-refused t c n).0)
      (d_eq (call_of t c).result.answer 0)

  pub calls_kept : (t : Tables) → Holds t → (cs : List Call) (j : ℕ) → f (record_on (tables_after t cs) j) ≡ f (record_on t j)
  unfolding tables_after
  calls_kept t h [] j = refl
  calls_kept t h (c ∷ cs) j = calls_kept (call_of t c).after (call_keeps t c h) cs j ∙ call_kept t h c j

call-slots : (t : Tables) (c : Call) → slots_of (call_of t c).after ≡ slots_of t
call-slots t c =
    ⊎_elim
    (λ a. let g = given t c a in ap slots_of g.after ∙ nums-long t c.handle.slot g.state)
    (λ n. ap slots_of (call-refused t c n).0)
    (d_eq (call_of t c).result.answer 0)

pub calls_slots : (t : Tables) (cs : List Call) → slots_of (tables_after t cs) ≡ slots_of t
unfolding tables_after
calls_slots t [] = refl
calls_slots t (c ∷ cs) = calls_slots (call_of t c).after cs ∙ call-slots t c

-- ---- the object of a handle
or-false : (b : Bool) → b ≡ (b || false)
or-false true = refl
or-false false = refl

or_true : (b : Bool) → true ≡ (b || true)
or_true true = refl
or_true false = refl

pub or_assoc : (a b c : Bool) → ((a || b) || c) ≡ (a || (b || c))
or_assoc true b c = refl
or_assoc false b c = refl

or_first : (a b : Bool) → (a || b) ≡ false → a ≡ false
or_first true b e = e
or_first false b e = refl

abbrev pub removed_in : Tables → Handle → Bool
removed_in t h = is_removed (record_on t h.slot).state

-- where maintain will put it
abbrev pub headed : Tables → Handle → Position
headed t h = pending_of (record_on t h.slot).state (record_on t h.slot).position

module _ (h : Handle) where
  -- the object in u after that in t: whether it was removed meanwhile, and where it was sent
  pub record Follows (t u : Tables) (gone : Bool) (to : Position → Position) : Type 0 where
    pub names : Named u h
    pub removed : removed_in u h ≡ (removed_in t h || gone)
    pub goes : removed_in u h ≡ false → headed u h ≡ to (headed t h)

  follows_on : (t u w : Tables) (a b : Bool) (f g : Position → Position) → Follows t u a f → Follows u w b g → Follows t w (a || b) (λ p. g (f p))
  follows_on t u w a b f g x y =
      record {
        names = y.names;
        removed = y.removed ∙ ap (λ (z : Bool). z || b) x.removed ∙ or_assoc (removed_in t h) a b;
        goes = λ q. y.goes q ∙ ap g (x.goes (or_first (removed_in u h) b (sym y.removed ∙ q)));
      }

  module _ (t : Tables) (n : Named t h) where
    stays : (u : Tables) → Named u h → record_on u h.slot ≡ record_on t h.slot → Follows t u false (λ p. p)
    stays u m e =
        record {
          names = m;
          removed = ap (λ (r : Record). is_removed r.state) e ∙ or-false (removed_in t h);
          goes = λ q. ap (λ (r : Record). pending_of r.state r.position) e;
        }

    module _ (u : Tables) (m : Named u h) (state : State) (e : record_on u h.slot ≡ with_state (record_on t h.slot) state) where
      sent : (p : Position) → removed_in t h ≡ false → is_removed state ≡ false → pending_of state (record_on t h.slot).position ≡ p → Follows t u false (λ q. p)
      sent p o k g =
          record {
            names = m;
            removed = ap (λ (r : Record). is_removed r.state) e ∙ k ∙ sym o ∙ or-false (removed_in t h);
            goes = λ q. ap (λ (r : Record). pending_of r.state r.position) e ∙ g;
          }

      taken : state ≡ Removed → Follows t u true (λ q. q)
      taken k =
          let r : removed_in u h ≡ true = ap (λ (r : Record). is_removed r.state) e ∙ ap is_removed k in
          record { names = m; removed = r ∙ or_true (removed_in t h); goes = λ q. absurd (apart (sym q ∙ r)) }

  module _ (t : Tables) (holds : Holds t) (n : Named t h) (c : Call) where
    abbrev after : Tables
    after = (call_of t c).after

    still_named : Named after h
    still_named =
        record {
          inside = rw (call-slots t c) n.inside;
          occupied = call_kept (λ r. r.phase) (λ r s. refl) t holds c h.slot ∙ n.occupied;
          version = call_kept (λ r. r.version) (λ r s. refl) t holds c h.slot ∙ n.version;
        }

    -- by what the call says: whether it was accepted with this handle, and its kind
    abbrev Heard : Type 0
    Heard = Follows t after (removes_it h c (call_of t c).result) (λ p. pick (moves_it h c (call_of t c).result) c.at p)

    refused : ((call_of t c).result.answer ≡ 0 → ⊥) → Heard
    refused z = rw (ne_eqb (call_of t c).result.answer 0 z) (stays t n after still_named (ap (λ (u : Tables). record_on u h.slot) (call-refused t c z).0))

    module _ (z : (call_of t c).result.answer ≡ 0) where
      abbrev g : Given t c
      g = given t c z

      abbrev s : ℕ
      s = c.handle.slot

      answered : eqb (call_of t c).result.answer 0 ≡ true
      answered = eq-eqb (call_of t c).result.answer 0 z

      -- another object was given a state
      there : (h.slot ≡ s → ⊥) → Heard
      there o =
          rw (answered, ne_eqb s h.slot (λ e. o (sym e)))
          (stays t n after still_named (ap (λ (u : Tables). record_on u h.slot) g.after ∙ record_other t s g.state (holds_ready t holds) g.names.inside h.slot o))

      -- this one was: the handle has its version, as every good handle of its slot
      here : h.slot ≡ s → Heard
      here o =
          let v : c.handle.version ≡ h.version = sym g.names.version ∙ ap (version_at t.nums) (sym o) ∙ n.version in
          let e : record_on after h.slot ≡ with_state (record_on t h.slot) g.state =
          ap (λ (u : Tables). record_on u h.slot) g.after
          ∙ ap (record_on (pended t s g.state)) o
          ∙ record_same t s g.state (holds_ready t holds) g.names.inside
          ∙ ap (λ (i : ℕ). with_state (record_on t i) g.state) (sym o) in
          rw (answered, eq-eqb s h.slot (sym o), eq-eqb c.handle.version h.version v)
          (by_test (eqb c.kind 0)
          (λ q.
          let w = g.moves q in
          let d = aimed_goes (size_of t) (record_on t s).cell c.at (record_on t h.slot).position in
          rw q (sent t n after still_named g.state e c.at (ap (λ (i : ℕ). is_removed (record_on t i).state) o ∙ w.0) (ap is_removed w.1 ∙ d.0) (ap (λ (st : State). pending_of st (record_on t h.slot).position) w.1 ∙ d.1)))
          (λ q. rw q (taken t n after still_named g.state e (g.removes q))))

      accepted : Heard
      accepted = ⊎_elim here there (d_eq h.slot s)

    call_follows : Heard
    call_follows = ⊎_elim accepted refused (d_eq (call_of t c).result.answer 0)

  -- ---- a row of calls
  pub calls_follow : (t : Tables) → Holds t → Named t h → (cs : List Call) → Follows t (tables_after t cs) (removed_by h cs (replies t cs)) (last_at h cs (replies t cs))
  unfolding tables_after replies removed_by last_at
  calls_follow t g n [] = stays t n t n refl
  calls_follow t g n (c ∷ cs) =
      let f = call_follows t g n c in
      follows_on t (call_of t c).after (tables_after (call_of t c).after cs) _ _ _ _ f (calls_follow (call_of t c).after (call_keeps t c g) f.names cs)
