-- A batch runs its calls one by one: what holds before each, and what is left to do. Assumes nothing.
use Rattle.basics.specs.Words.{ℕ, suc, ◌+◌, ◌≤◌, ◌<◌, ◌≡◌, refl, sym, ap, ◌∙◌, subst, List, [], ◌∷◌, ◌++◌, length, get_or, set, drop, length-set}
use Rattle.basics.specs.Words.{drop_of_length-le, sets, sets-eq, drop-cons, zero-add, add-one, arith}
use lib.Ieee.{Float}
use Rattle.storage.specs.Meaning.Keyed.{written}
use Rattle.point_tables.specs.Meaning.Tables.{Tables}
use Rattle.point_tables.specs.Meaning.Outcome.{Outcome, outcome}
use Rattle.replies.specs.declared.Reply.{Reply}
use Rattle.point_deferred.specs.Meaning.Calls.{Call}
use Rattle.point_batch.specs.Meaning.Batch.{calls_of, handle_of, named_in, reply_rows}
use Rattle.point_deferred.specs.Inner.Ready.{Ready}
use Rattle.point_deferred.specs.Inner.Held.{call, held_of, held_after, held_replies}
use Rattle.point_deferred.proofs.laws.HeldLaws.{held_ready, SameLong, held-long}
use Rattle.point_records.specs.Meaning.Columns.{position_in}

module _ (kinds : List ℕ) (handles : List (List ℕ)) (positions : List (List Float)) where
  -- the calls, those from the i-th on, and the i-th
  abbrev pub calls : List Call
  calls = calls_of kinds handles positions

  abbrev pub calls_from : ℕ → List Call
  calls_from i = calls_of (drop i kinds) (drop i handles) (drop i positions)

  abbrev pub call_at : ℕ → Call
  call_at i = call (get_or kinds i 0) (handle_of (get_or handles i [])) (position_in (get_or positions i [])) (named_in (get_or handles i []))

  -- after i calls: what the rest of them makes of the tables and of the output is what all of them make of those at the start
  pub record Running (t₀ : Tables) (out₀ : List (List ℕ)) (t : Tables) (out : List (List ℕ)) (i : ℕ) : Type 0 where
    pub most : i ≤ length kinds
    pub ready : Ready t
    pub after : held_after t (calls_from i) ≡ held_after t₀ calls
    pub rows : sets out i (reply_rows (held_replies t (calls_from i))) ≡ sets out₀ 0 (reply_rows (held_replies t₀ calls))
    pub long : length out ≡ length out₀
    pub same : SameLong t₀ t

  replies-long : (ks : List ℕ) (hs : List (List ℕ)) (ps : List (List Float)) (t : Tables) → length (reply_rows (held_replies t (calls_of ks hs ps))) ≤ length ks
  unfolding held_replies
  replies-long [] hs ps t = omega arith
  replies-long (k ∷ ks) [] ps t = omega arith
  replies-long (k ∷ ks) (h ∷ hs) [] t = omega arith
  replies-long (k ∷ ks) (h ∷ hs) (p ∷ ps) t = omega (arith, replies-long ks hs ps (held_of t (call k (handle_of h) (position_in p) (named_in h))).after)

  next-call : length handles ≡ length kinds → length positions ≡ length kinds → (i : ℕ) → i < length kinds → calls_from i ≡ call_at i ∷ calls_from (suc i)
  next-call of_handles_lem of_positions i l =
      let lh : i < length handles = rw of_handles_lem l in
      let lp : i < length positions = rw of_positions l in
      rw (drop-cons kinds i 0, drop-cons handles i [], drop-cons positions i [])

  none_left : (i : ℕ) → length kinds ≤ i → calls_from i ≡ []
  none_left i l = rw (drop_of_length-le kinds l)

  module _ {t₀ : Tables} {out₀ : List (List ℕ)} where
    pub start : Ready t₀ → Running t₀ out₀ t₀ out₀ 0
    start r = record { most = omega arith; ready = r; after = refl; rows = refl; long = refl; same = record { nums = refl; reals = refl; ints = refl; cells = refl } }

    pub step : {t u : Tables} {out : List (List ℕ)} {r : Reply} {i : ℕ} → length handles ≡ length kinds → length positions ≡ length kinds → Running t₀ out₀ t out i → i < length kinds → outcome r u ≡ held_of t (call_at i)
        → Running t₀ out₀ u (set out i (r.answer ∷ r.obj ∷ [])) (i + 1)
    unfolding held_after held_replies
    step {t} {u} {out} {r} {i} lh lp g l e =
        let a : held_after (held_of t (call_at i)).after (calls_from (suc i)) ≡ held_after t₀ calls = rw (next-call lh lp i l) at g.after in
        let b : sets out i (reply_rows ((held_of t (call_at i)).result ∷ held_replies (held_of t (call_at i)).after (calls_from (suc i)))) ≡ sets out₀ 0 (reply_rows (held_replies t₀ calls)) = rw (next-call lh lp i l) at g.rows in
        let m : SameLong t u = subst (λ (o : Outcome Reply). SameLong t o.after) (sym e) (held-long t (call_at i) g.ready) in
        record {
          most = omega arith;
          ready = subst (λ (o : Outcome Reply). Ready o.after) (sym e) (held_ready t (call_at i) g.ready);
          after = rw add-one (subst (λ (o : Outcome Reply). held_after o.after (calls_from (suc i)) ≡ held_after t₀ calls) (sym e) a);
          rows = rw add-one (subst (λ (o : Outcome Reply). sets out i (reply_rows (o.result ∷ held_replies o.after (calls_from (suc i)))) ≡ sets out₀ 0 (reply_rows (held_replies t₀ calls))) (sym e) b);
          long = length-set out i (r.answer ∷ r.obj ∷ []) ∙ g.long;
          same = record { nums = m.nums ∙ g.same.nums; reals = m.reals ∙ g.same.reals; ints = m.ints ∙ g.same.ints; cells = m.cells ∙ g.same.cells };
        }

    pub finish : {t : Tables} {out : List (List ℕ)} {i : ℕ} → Running t₀ out₀ t out i → length kinds ≤ i → length kinds ≤ length out₀
        → (t ≡ held_after t₀ calls) × (out ≡ written (reply_rows (held_replies t₀ calls)) out₀)
    unfolding held_after held_replies
    finish {t} {out} {i} g l m =
        let a : t ≡ held_after t₀ calls = rw (none_left i l) at g.after in
        let b : out ≡ sets out₀ 0 (reply_rows (held_replies t₀ calls)) = rw (none_left i l) at g.rows in
        let rows = reply_rows (held_replies t₀ calls) in
        (a, b ∙ sets-eq rows out₀ 0 (omega (arith, replies-long kinds handles positions t₀)) ∙ ap (λ n. rows ++ drop n out₀) (zero-add (length rows)))
