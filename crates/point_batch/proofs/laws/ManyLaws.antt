-- Many calls at once: the records by the calls one after the other, and then the marks by one walk, are what the calls make. Assumes nothing.
use Rattle.basics.specs.Words.{ℕ, ◌+◌, ◌<◌, ◌≤◌, ◌≡◌, refl, sym, ap, ◌∙◌, subst, Bool, true, false, List, [], ◌∷◌, ◌⊎◌, inl, inr, ⊎_elim, length, get_or, set}
use Rattle.basics.specs.Words.{ext_get_or, eqb, ℤ, arith}
use lib.Ieee.{Float}
use Rattle.basics.proofs.laws.Says.{d_eq}
use Rattle.basics.specs.Meaning.Says.{said}
use Rattle.basics.specs.Meaning.Refusals.{pick}
use Rattle.geometry.specs.declared.Position.{Position}
use Rattle.cells.specs.Meaning.CellRule.{cell_at}
use Rattle.cells.specs.Meaning.Key.{key_of}
use Rattle.slots.specs.Meaning.Slot.{live, phase_at}
use Rattle.storage.specs.Meaning.Keyed.{written}
use Rattle.storage.specs.Meaning.Packed.{first, second}
use Rattle.point_records.specs.declared.State.{State}
use Rattle.point_records.specs.declared.State.TheVariants.{NewPos, Relocate, Removed}
use Rattle.point_records.specs.declared.Record.{Record}
use Rattle.point_records.specs.Meaning.Columns.{tag_of}
use Rattle.point_records.specs.Meaning.Word.{tag_at}
use Rattle.point_records.specs.Inner.Decide.{d_cell}
use Rattle.point_records.specs.Meaning.States.{aimed}
use Rattle.point_tables.specs.Meaning.Tables.{Tables, size_of, used_of, rows_of, slots_of, record_on}
use Rattle.point_tables.specs.Meaning.Holds.{Holds, Pending}
use Rattle.point_tables.specs.Meaning.Outcome.{Outcome, outcome}
use Rattle.point_tables.proofs.laws.CheckLaws.{tag-zero, zero-tag}
use Rattle.replies.specs.declared.Reply.{Reply}
use Rattle.point_deferred.specs.Meaning.Moves.{pended}
use Rattle.point_deferred.specs.Meaning.Calls.{Call}
use Rattle.point_batch.specs.Meaning.Batch.{reply_rows}
use Rattle.point_deferred.specs.Inner.Ready.{Ready}
use Rattle.point_deferred.proofs.laws.ReadyLaws.{holds_ready, ready_pool}
use Rattle.point_deferred.proofs.laws.PendedLaws.{nums-long, record_same, record_other, kept, row_same, row_other}
use Rattle.point_deferred.proofs.laws.MovesKeeps.{calls_keep}
use Rattle.point_deferred.specs.Inner.Held.{poolless, next_state, worked, held_answer, held_of, held_after, held_replies, pended_only, unmarked_of}
use Rattle.point_deferred.proofs.laws.Held.{with_pool}
use Rattle.point_deferred.proofs.laws.HeldLaws.{held-accepted, held-done, held-refused, after-worked}
use Rattle.point_batch.proofs.laws.BatchLaws.{Running, call_at, calls, start, step, finish}
use Rattle.point_batch.specs.Inner.Marks.{Walkable, SetRow, MarkedTo}

-- ---- tags
next-tag : (size : ℕ) (r : Record) (kind : ℕ) (at : Position) → tag_of (next_state size r kind at) ≡ 0 → ⊥
unfolding aimed
next-tag size r kind at = go (eqb kind 0) (said (d_cell (cell_at size at) r.cell))
  where
    go : (b d : Bool) → tag_of (pick b (pick d (NewPos at) (Relocate at (cell_at size at))) Removed) ≡ 0 → ⊥
    go true true e = omega arith
    go true false e = omega arith
    go false d e = omega arith

two-row : (l : List ℕ) → length l ≡ 2 → l ≡ get_or l 0 0 ∷ get_or l 1 0 ∷ []
two-row [] e = absurd (omega arith)
two-row (x ∷ []) e = absurd (omega arith)
two-row (x ∷ y ∷ []) e = refl
two-row (x ∷ y ∷ z ∷ l) e = absurd (omega arith)

-- ---- the cell table so far: each row is as at the start, or is marked for an object that has something pending
module _ (cells₀ : List (List ℕ)) where
  pub record Touched (t : Tables) (r : ℕ) : Type 0 where
    pub slot : ℕ
    pub in_rows : r < rows_of t
    pub inside : slot < slots_of t
    pub pending : Pending t slot
    pub key : first cells₀ r ≡ key_of (record_on t slot).cell
    pub now : get_or t.cells r [] ≡ first cells₀ r ∷ 1 ∷ []

  abbrev pub Touching : Tables → Type 0
  Touching t = (r : ℕ) → (get_or t.cells r [] ≡ get_or cells₀ r []) ⊎ Touched t r

  touching_key : (t : Tables) → Touching t → (r : ℕ) → first t.cells r ≡ first cells₀ r
  touching_key t a r = ⊎_elim (λ e. ap (λ (x : List ℕ). get_or x 0 0) e) (λ o. ap (λ (x : List ℕ). get_or x 0 0) o.now) (a r)

  module _ (t : Tables) (s : ℕ) (state : State) (ready : Ready t) (l : s < slots_of t) (p : phase_at t.nums s ≡ live) (changed : tag_of state ≡ 0 → ⊥) (a : Touching t) where
    abbrev u : Tables
    u = pended t s state

    still : (j : ℕ) → Pending t j → Pending u j
    still j w =
        record {
          occupied = kept t s state ready l (λ r. r.phase) refl j ∙ w.occupied;
          changed = λ e.
              ⊎_elim
              (λ q. changed (sym (ap (λ (r : Record). tag_of r.state) (record_same t s state ready l)) ∙ ap (λ (k : ℕ). tag_of (record_on u k).state) (sym q) ∙ e))
              (λ n. w.changed (sym (ap (λ (r : Record). tag_of r.state) (record_other t s state ready l j n)) ∙ e))
              (d_eq j s);
        }

    own : Pending u s
    own = record { occupied = kept t s state ready l (λ r. r.phase) refl s ∙ p; changed = λ e. changed (sym (ap (λ (r : Record). tag_of r.state) (record_same t s state ready l)) ∙ e) }

    rows-kept : rows_of u ≡ rows_of t
    unfolding pended
    rows-kept = refl

    here : Touched u (ready.has_row s l p).0
    here =
        let o = ready.has_row s l p in
        let k : first cells₀ o.0 ≡ key_of (record_on t s).cell = sym (touching_key t a o.0) ∙ o.2 in
        record {
          slot = s;
          in_rows = rw rows-kept o.1;
          inside = rw (nums-long t s state) l;
          pending = own;
          key = k ∙ ap key_of (sym (kept t s state ready l (λ r. r.cell) refl s));
          now = row_same t s state ready l p ∙ ap (λ (x : ℕ). x ∷ 1 ∷ []) (sym k);
        }

    moved : (r : ℕ) → (r ≡ (ready.has_row s l p).0 → ⊥) → Touched t r → Touched u r
    moved r n o =
        record {
          slot = o.slot;
          in_rows = rw rows-kept o.in_rows;
          inside = rw (nums-long t s state) o.inside;
          pending = still o.slot o.pending;
          key = o.key ∙ ap key_of (sym (kept t s state ready l (λ x. x.cell) refl o.slot));
          now = row_other t s state ready l p r n ∙ o.now;
        }

    pended_touching : Touching u
    pended_touching r =
        ⊎_elim
        (λ q. inr (subst (λ (k : ℕ). Touched u k) (sym q) here))
        (λ n. ⊎_elim (λ e. inl (row_other t s state ready l p r n ∙ e)) (λ o. inr (moved r n o)) (a r))
        (d_eq r (ready.has_row s l p).0)

  pub held_touching : (t : Tables) (c : Call) → Ready t → Touching t → Touching (held_of t c).after
  unfolding worked
  held_touching t c r a =
      ⊎_elim
      (λ e.
      let w = held-accepted t c e in
      let s = c.handle.slot in
      rw (held-done t c e) (pended_touching t s (next_state (size_of t) (record_on t s) c.kind c.at) r w.inside w.occupied (next-tag (size_of t) (record_on t s) c.kind c.at) a))
      (λ n. rw (held-refused t c n) a)
      (d_eq (held_answer t c) 0)

-- ---- a call without its mark is the call, but for the cell table
unmarked-held : (ns : List (List ℕ)) (qs : List (List Float)) (zs : List (List ℤ)) (map : List ℕ) (cells : List (List ℕ)) (c : Call)
    → let u = unmarked_of (poolless ns qs zs (get_or map 0 0 ∷ []) []) c in
    let h = held_of (poolless ns qs zs map cells) c in
    h ≡ outcome u.result (poolless u.after.nums u.after.reals u.after.ints map h.after.cells)
unfolding held_of worked pended unmarked_of pended_only
unmarked-held ns qs zs map cells c = go (eqb (held_answer (poolless ns qs zs map cells) c) 0) refl
  where
    go : (b : Bool) → eqb (held_answer (poolless ns qs zs map cells) c) 0 ≡ b
        → let u = unmarked_of (poolless ns qs zs (get_or map 0 0 ∷ []) []) c in
        let h = held_of (poolless ns qs zs map cells) c in
        h ≡ outcome u.result (poolless u.after.nums u.after.reals u.after.ints map h.after.cells)
    go true e = rw e
    go false e = rw e

-- ---- the loop
module _ (kinds : List ℕ) (handles : List (List ℕ)) (positions : List (List Float)) (t₀ : Tables) (out₀ : List (List ℕ)) (map : List ℕ) where
  pub record RunningMany (ns : List (List ℕ)) (qs : List (List Float)) (zs : List (List ℤ)) (out : List (List ℕ)) (i : ℕ) : Type 0 where
    pub cells : List (List ℕ)
    pub running : Running kinds handles positions t₀ out₀ (poolless ns qs zs map cells) out i
    pub touching : Touching t₀.cells (poolless ns qs zs map cells)

  pub step_many : {ns : List (List ℕ)} {qs : List (List Float)} {zs : List (List ℤ)} {out : List (List ℕ)} {i : ℕ} {ns' : List (List ℕ)} {qs' : List (List Float)} {zs' : List (List ℤ)} {r : Reply}
      → length handles ≡ length kinds → length positions ≡ length kinds → RunningMany ns qs zs out i → i < length kinds
      → outcome r (poolless ns' qs' zs' (get_or map 0 0 ∷ []) []) ≡ unmarked_of (poolless ns qs zs (get_or map 0 0 ∷ []) []) (call_at kinds handles positions i)
      → RunningMany ns' qs' zs' (set out i (r.answer ∷ r.obj ∷ [])) (i + 1)
  step_many {ns} {qs} {zs} {out} {i} {ns'} {qs'} {zs'} {r} lh lp m l e =
      let t : Tables = poolless ns qs zs map m.cells in
      let c : Call = call_at kinds handles positions i in
      let cells' : List (List ℕ) = (held_of t c).after.cells in
      let f : outcome r (poolless ns' qs' zs' map cells') ≡ held_of t c =
      ap (λ (o : Outcome Reply). outcome o.result (poolless o.after.nums o.after.reals o.after.ints map cells')) e
      ∙ sym (unmarked-held ns qs zs map m.cells c) in
      record {
        cells = cells';
        running = step kinds handles positions lh lp m.running l f;
        touching = subst (λ (o : Outcome Reply). Touching t₀.cells o.after) (sym f) (held_touching t₀.cells t c m.running.ready m.touching);
      }

-- ---- the walk ends at the marks that the calls make
module _ (cells₀ after : List (List ℕ)) (u : Tables) (pool : List (List ℕ)) (spots : List (List Float)) (h : Holds (with_pool u pool spots)) (a : Touching cells₀ u)
    (m : MarkedTo u.nums pool (used_of u) cells₀ (rows_of u) after (used_of u)) where
  pending_of_lem : (s : ℕ) → phase_at u.nums s ≡ live → (tag_at u.nums s ≡ 0 → ⊥) → Pending (with_pool u pool spots) s
  pending_of_lem s p n = record { occupied = p; changed = λ e. n (tag-zero (tag_at u.nums s) _ _ e) }

  raw_tag : (s : ℕ) → Pending u s → tag_at u.nums s ≡ 0 → ⊥
  raw_tag s w e = w.changed (zero-tag (tag_at u.nums s) _ _ e)

  was-marked : (r : ℕ) → get_or u.cells r [] ≡ get_or cells₀ r [] → SetRow u.nums pool (used_of u) cells₀ (rows_of u) after r → get_or after r [] ≡ get_or u.cells r []
  was-marked r e s =
      let x = h.lists.each s.entry s.in_use in
      let o : ℕ = second pool s.entry in
      let k : first u.cells r ≡ key_of (record_on u o).cell = ap (λ (y : List ℕ). get_or y 0 0) e ∙ sym s.key ∙ x.key in
      let d : second u.cells r ≡ 1 = h.dirty o x.inside (pending_of_lem o x.occupied s.pending) r s.in_rows k in
      let d₀ : second cells₀ r ≡ 1 = sym (ap (λ (y : List ℕ). get_or y 1 0) e) ∙ d in
      s.now ∙ sym (two-row (get_or cells₀ r []) s.two ∙ ap (λ (y : ℕ). first cells₀ r ∷ y ∷ []) d₀) ∙ sym e

  is_marked : (r : ℕ) → Touched cells₀ u r → get_or after r [] ≡ get_or u.cells r []
  is_marked r o =
      let v = h.lists.every o.slot o.inside o.pending.occupied in
      let x = h.lists.each v.0 v.1 in
      let k : first cells₀ r ≡ first pool v.0 = o.key ∙ sym (x.key ∙ ap (λ (s : ℕ). key_of (record_on u s).cell) v.2) in
      let n : tag_at u.nums (second pool v.0) ≡ 0 → ⊥ = λ e. raw_tag o.slot o.pending (ap (tag_at u.nums) (sym v.2) ∙ e) in
      m.done v.0 v.1 n r o.in_rows k ∙ sym o.now

  pub marks-same : length u.cells ≡ length cells₀ → after ≡ u.cells
  marks-same e =
      ext_get_or [] after u.cells (m.long ∙ sym e)
      (λ r l. ⊎_elim (λ q. ⊎_elim (λ f. f ∙ sym q) (λ s. was-marked r q s) (m.each r)) (λ o. is_marked r o) (a r))

pub start_many : {kinds : List ℕ} {handles : List (List ℕ)} {positions : List (List Float)} {ns : List (List ℕ)} {qs : List (List Float)} {zs : List (List ℤ)} {map : List ℕ} {cells out pool : List (List ℕ)} {spots : List (List Float)}
    → Holds (with_pool (poolless ns qs zs map cells) pool spots) → RunningMany kinds handles positions (poolless ns qs zs map cells) out map ns qs zs out 0
start_many {kinds} {handles} {positions} {ns} {qs} {zs} {map} {cells} {out} {pool} {spots} h =
    let t : Tables = poolless ns qs zs map cells in
    record { cells = cells; running = start kinds handles positions (ready_pool t pool spots (holds_ready (with_pool t pool spots) h)); touching = λ r. inl refl }

module _ (t₀ : Tables) {pool : List (List ℕ)} {spots : List (List Float)} (h : Holds (with_pool t₀ pool spots)) where
  pub walkable : {ns : List (List ℕ)} → length ns ≡ length t₀.nums → Walkable ns pool (used_of t₀) t₀.cells (rows_of t₀)
  walkable e =
      record {
        packed = h.packed;
        of_pool = omega (arith, h.counted.used-most, h.sized.of_pool);
        of_cells = omega (arith, h.counted.rows-most, h.sized.of_cells);
        inside = λ j l. rw e (h.lists.each j l).inside;
      }

  pub finish_many : {kinds : List ℕ} {handles : List (List ℕ)} {positions : List (List Float)} {out₀ ns : List (List ℕ)} {qs : List (List Float)} {zs : List (List ℤ)} {out : List (List ℕ)} {i : ℕ} {after : List (List ℕ)}
      → RunningMany kinds handles positions t₀ out₀ t₀.map ns qs zs out i → length kinds ≤ i → length kinds ≤ length out₀
      → MarkedTo ns pool (used_of t₀) t₀.cells (rows_of t₀) after (used_of t₀)
      → (poolless ns qs zs t₀.map after ≡ held_after t₀ (calls kinds handles positions)) × (out ≡ written (reply_rows (held_replies t₀ (calls kinds handles positions))) out₀)
  finish_many {kinds} {handles} {positions} {ns = ns} {qs = qs} {zs = zs} {after = after} m l n w =
      let f = finish kinds handles positions m.running l n in
      let cs = calls kinds handles positions in
      let g : Holds (with_pool (held_after t₀ cs) pool spots) = subst (λ (t : Tables). Holds t) (after-worked pool spots t₀ h cs) (calls_keep (with_pool t₀ pool spots) cs h) in
      let v : Holds (with_pool (poolless ns qs zs t₀.map m.cells) pool spots) = subst (λ (t : Tables). Holds (with_pool t pool spots)) (sym f.0) g in
      let e : after ≡ m.cells = marks-same t₀.cells after (poolless ns qs zs t₀.map m.cells) pool spots v m.touching w m.running.same.cells in
      (ap (λ (x : List (List ℕ)). poolless ns qs zs t₀.map x) e ∙ f.0, f.1)
