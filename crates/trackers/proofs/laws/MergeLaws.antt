-- What other trackers ask never changes an answer, and every merge that keeps each tracker's own order gives each call the same reply and
-- leaves the same tables, whatever handles the calls have. Assumes nothing.
use Rattle.basics.specs.Words.{ℕ, ◌≡◌, refl, sym, ap, ap₂, ◌∙◌, subst, List, [], ◌∷◌, ◌++◌, nil≢cons, ⊎_elim, length, length-append, arith}
use Rattle.basics.proofs.laws.Says.{d_eq}
use Rattle.storage.specs.Meaning.Keyed.{All}
use Rattle.point_tables.specs.Meaning.Tables.{Tables}
use Rattle.replies.specs.declared.Reply.{Reply}
use Rattle.point_deferred.specs.Meaning.Calls.{Call, call_of, tables_after, replies}
use Rattle.trackers.specs.Meaning.Merges.{those, own, replies_to, SameOrders, Alike}
use Rattle.trackers.proofs.laws.CommuteLaws.{reply-same, calls_commute}
use Rattle.trackers.proofs.laws.OwnCallsLaws.{those-here, those_there, own-here, own_there, none_here, own_all, split, rest}

-- ---- what a tracker is answered
-- a call of another tracker before the calls of tracker k changes none of their replies
passed_over : (k : ℕ) (c : Call) → (c.tracker ≡ k → ⊥) → (t : Tables) (cs : List Call) → All (λ d. d.tracker ≡ k) cs → replies (call_of t c).after cs ≡ replies t cs
unfolding replies
passed_over k c n t [] a = refl
passed_over k c n t (d ∷ cs) a =
    let m : d.tracker ≡ c.tracker → ⊥ = λ e. n (sym e ∙ a.0) in
    ap₂ (λ (r : Reply) (l : List Reply). r ∷ l) (reply-same t d c m)
    (ap (λ (u : Tables). replies u cs) (sym (calls_commute t d c m)) ∙ passed_over k c n (call_of t d).after cs a.1)

-- tracker k gets just what its own calls alone would get
pub stranger_unseen : (t : Tables) (k : ℕ) (m : List Call) → replies_to k t m ≡ replies t (own k m)
unfolding those replies
stranger_unseen t k [] = refl
stranger_unseen t k (c ∷ m) =
    let ih = stranger_unseen (call_of t c).after k m in
    ⊎_elim
    (λ e.
    those-here k c m (call_of t c).result (replies (call_of t c).after m) e
    ∙ ap (λ (l : List Reply). (call_of t c).result ∷ l) ih
    ∙ sym (ap (replies t) (own-here k c m e)))
    (λ n.
    those_there k c m (call_of t c).result (replies (call_of t c).after m) n
    ∙ ih
    ∙ passed_over k c n t (own k m) (own_all k m)
    ∙ sym (ap (replies t) (own_there k c m n)))
    (d_eq c.tracker k)

-- ---- what is left: a call may go to the front, past calls of other trackers
to_front : (c : Call) (us post : List Call) (t : Tables) → own c.tracker us ≡ [] → tables_after t (us ++ c ∷ post) ≡ tables_after t (c ∷ (us ++ post))
unfolding tables_after
to_front c [] post t e = refl
to_front c (u ∷ us) post t e =
    let o = none_here c.tracker u us e in
    to_front c us post (call_of t u).after o.1 ∙ ap (λ (w : Tables). tables_after w (us ++ post)) (calls_commute t u c o.0)

none_left : (c : Call) (m : List Call) → own c.tracker [] ≡ own c.tracker (c ∷ m) → ⊥
unfolding those
none_left c m e = nil≢cons (e ∙ own-here c.tracker c m refl)

same_left : (m n : List Call) (t : Tables) → SameOrders m n → (tables_after t m ≡ tables_after t n) × (length m ≡ length n)
unfolding tables_after
same_left [] [] t e = (refl, refl)
same_left [] (c ∷ n) t e = absurd (none_left c n (e c.tracker))
same_left (c ∷ m) n t e =
    let s = split c.tracker c (own c.tracker m) n (sym (e c.tracker) ∙ own-here c.tracker c m refl) in
    let ih = same_left m (s.pre ++ s.post) (call_of t c).after (λ k. rest c m s.pre s.post s.first k (e k ∙ ap (own k) s.parts)) in
    let long : length m ≡ length (s.pre ++ s.post) = ih.1 in
    subst (λ (l : List Call). (tables_after t (c ∷ m) ≡ tables_after t l) × (length (c ∷ m) ≡ length l)) (sym s.parts)
    (ih.0 ∙ sym (to_front c s.pre s.post t s.first), omega (arith, long, length-append s.pre s.post, length-append s.pre (c ∷ s.post)))

-- ---- any number of trackers, handles and positions good or bad, on any tables
pub any_merge : (t : Tables) (m n : List Call) → SameOrders m n → Alike t m n
any_merge t m n e =
    let w = same_left m n t e in
    record { tables = w.0; replied = λ k. stranger_unseen t k m ∙ ap (replies t) (e k) ∙ sym (stranger_unseen t k n); long = w.1 }
