-- Why a tracker's own order is kept: a move and a removal of one object reply otherwise in the other order. Assumes nothing.
use Rattle.basics.specs.Words.{ℕ, ◌≡◌, refl, sym, ap, ap₂, ◌∙◌, List, [], ◌∷◌, get_or, arith, eq-eqb}
use Rattle.geometry.specs.declared.Position.{Position}
use Rattle.slots.specs.declared.Handle.{Handle}
use Rattle.point_tables.specs.Meaning.Tables.{Tables, record_on}
use Rattle.point_tables.specs.Meaning.Outcome.{Outcome}
use Rattle.replies.specs.declared.Reply.{Reply}
use Rattle.replies.specs.Meaning.Replies.{reply}
use Rattle.point_deferred.specs.Meaning.Moves.{set_position_answer, set_position_of, remove_of}
use Rattle.point_deferred.specs.Meaning.Calls.{Call, call_of, replies}
use Rattle.trackers.specs.Meaning.Merges.{those, Alike}
use Rattle.point_deferred.specs.Inner.Held.{call}
use Rattle.point_deferred.proofs.laws.AnswerLaws.{set-answer_is}
use Rattle.point_deferred.proofs.laws.AgainLaws.{removed-stays, moved_removable, remove-moved}
use Rattle.point_deferred.proofs.laws.MovesLaws.{set-accepted, set-done, remove-done, set-refused}

module _ (t : Tables) (h : Handle) (p : Position) (k : ℕ) where
  abbrev moving : Call
  moving = call 0 h p k

  abbrev removing : Call
  removing = call 1 h p k

  abbrev obj : ℕ
  obj = (record_on t h.slot).obj

  -- the removal after the move returns the data; the move after the removal is refused
  pub record OrderMatters : Type 0 where
    pub move_first : replies t (moving ∷ removing ∷ []) ≡ reply 0 0 ∷ reply 0 obj ∷ []
    pub remove_first : replies t (removing ∷ moving ∷ []) ≡ reply 0 obj ∷ reply 1 0 ∷ []

  pub own-order_matters : (set_position_of t h p k).result.answer ≡ 0 → OrderMatters
  unfolding replies call_of
  own-order_matters e =
      let a : set_position_answer t h p k ≡ 0 = sym (set-answer_is t h p k) ∙ e in
      let r = moved_removable t h p k a in
      let s : set_position_answer (remove_of t h k).after h p k ≡ 1 = removed-stays t h k r p (set-accepted t h p k a).within_domain in
      let refused : (set_position_of (remove_of t h k).after h p k).result ≡ reply 1 0 =
      ap (λ (o : Outcome Reply). o.result) (set-refused (remove_of t h k).after h p k (λ z. omega (arith, s, z))) ∙ ap (λ (n : ℕ). reply n 0) s in
      record {
        move_first = ap₂ (λ (x y : Reply). x ∷ y ∷ []) (ap (λ (o : Outcome Reply). o.result) (set-done t h p k a)) (remove-moved t h p k a);
        remove_first = ap₂ (λ (x y : Reply). x ∷ y ∷ []) (ap (λ (o : Outcome Reply). o.result) (remove-done t h k r)) refused;
      }

  two_here : (c d : Call) (x y : Reply) → c.tracker ≡ k → d.tracker ≡ k → those k (c ∷ d ∷ []) (x ∷ y ∷ []) ≡ x ∷ y ∷ []
  unfolding those
  two_here c d x y e f = rw (eq-eqb c.tracker k e, eq-eqb d.tracker k f)

  -- so neither list can stand for the other
  pub orders_differ : (set_position_of t h p k).result.answer ≡ 0 → Alike t (moving ∷ removing ∷ []) (removing ∷ moving ∷ []) → ⊥
  orders_differ e w =
      let m = own-order_matters e in
      let one = ap (those k (moving ∷ removing ∷ [])) m.move_first ∙ two_here moving removing (reply 0 0) (reply 0 obj) refl refl in
      let other = ap (those k (removing ∷ moving ∷ [])) m.remove_first ∙ two_here removing moving (reply 0 obj) (reply 1 0) refl refl in
      let same : ◌≡◌ {A = ℕ} 0 1 = ap (λ (l : List Reply). (get_or l 1 (reply 0 0)).answer) (sym one ∙ w.replied k ∙ other) in
      omega (arith, same)
