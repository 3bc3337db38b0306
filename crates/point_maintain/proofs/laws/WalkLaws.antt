-- Laws of the walk of one list whose entries name different slots: the records are settled, slot by slot and in any order, and each entry's
-- fate depends only on its slot's state before the walk. Assumes nothing.
use Rattle.basics.specs.Words.{ℕ, zero, suc, ◌+◌, ◌≤◌, ◌<◌, ◌≡◌, refl, sym, ◌∙◌, ap, ap₂, Bool, true, false, List, [], ◌∷◌, ◌++◌, map, length, eqb}
use Rattle.basics.specs.Words.{not-suc-le-zero, le_of_suc-le-suc, arith}
use Rattle.basics.specs.Inner.Counting.{one}
use Rattle.storage.specs.Meaning.Keyed.{All}
use Rattle.storage.specs.Meaning.Entries.{Entry}
use Rattle.storage.proofs.laws.FilterLaws.{by_test, all_map, all_over}
use Rattle.point_records.specs.declared.Record.{Record}
use Rattle.point_tables.specs.Meaning.Tables.{Tables, slot_of}
use Rattle.point_maintain.specs.Meaning.Walk.{settled, Fate, fate_by, fate, staying, leaving, rest, walked_after, walk}
use Rattle.point_maintain.proofs.laws.SettleLaws.{settled-size, settled_other}
use Rattle.point_maintain.proofs.laws.Settle.{among, Distinct, settled_over}
use Rattle.point_maintain.proofs.laws.SettleAllLaws.{in_same, over_in}
use Rattle.point_maintain.proofs.laws.Totals.{times, Alone}
use Rattle.point_maintain.proofs.laws.TotalLaws.{alone_tail, alone_head, times_none}
use Rattle.point_maintain.specs.Inner.Kept.{kept}
use Rattle.point_maintain.proofs.laws.Kept.{parts_in, moving}
use Rattle.point_maintain.proofs.laws.KeptLaws.{rest-length, rest_all, rest-total, parts_same, kept_parts}

-- ---- whether a slot is named, by how often
abbrev pub some : ℕ → Bool
some zero = false
some (suc n) = true

module _ {A : Type 0} (name : A → ℕ) where
  pub among-times : (i : ℕ) (l : List A) → among i (map name l) ≡ some (times name i l)
  among-times i [] = refl
  among-times i (x ∷ l) =
      by_test (eqb (name x) i)
      (λ e. rw e (ap some (sym (one_more (times name i l)))))
      (λ e. rw e (among-times i l ∙ ap some (sym (none_more (times name i l)))))
    where
      one_more : (k : ℕ) → 1 + k ≡ suc k
      one_more k = omega arith

      none_more : (k : ℕ) → 0 + k ≡ k
      none_more k = omega arith

  pub alone_distinct : (l : List A) → Alone name l → Distinct (map name l)
  alone_distinct [] a = tt
  alone_distinct (x ∷ l) a = (among-times (name x) l ∙ ap some (alone_head name x l a), alone_distinct l (alone_tail name x l a))

  -- the same names, each as often: the same slots are settled
  module _ (t : Tables) (n : ℕ) where
    pub over_same : (a b : List A) → Alone name a → All (λ x. name x < n) a → All (λ x. name x < n) b → ((i : ℕ) → times name i a ≡ times name i b) → settled_over t (map name a) ≡ settled_over t (map name b)
    over_same a b s p q e =
        over_in t n (map name a) (alone_distinct a s) (all_over (λ i. i < n) name a p)
        ∙ in_same (λ i. among i (map name a)) (λ i. among i (map name b)) t n (λ i l. among-times i a ∙ ap some (e i) ∙ sym (among-times i b))
        ∙ sym (over_in t n (map name b) (alone_distinct b (λ i. rw (← e i) (s i))) (all_over (λ i. i < n) name b q))

-- ---- settling a slot changes no other entry's fate
fate_other : (t : Tables) (s : ℕ) (e : Entry) → (slot_of e ≡ s → ⊥) → fate (settled t s) e ≡ fate t e
fate_other t s e n = ap₂ (λ (size : ℕ) (r : Record). fate_by size e r.state) (settled-size t s) (settled_other t s (slot_of e) n)

module _ (t : Tables) (e : Entry) (es : List Entry) (a : Alone slot_of (e ∷ es)) where
  fates_kept : (f : Fate) → All (λ x. fate (settled t (slot_of e)) x ≡ fate t x) (rest f es)
  fates_kept f =
      rest_all (λ x. fate (settled t (slot_of e)) x ≡ fate t x) f es
      (all_map (λ x. slot_of x ≡ slot_of e → ⊥) _ (λ x n. fate_other t (slot_of e) x n) es (times_none slot_of (slot_of e) es (alone_head slot_of e es a)))

  rest_alone : (f : Fate) → Alone slot_of (rest f es)
  rest_alone f i = rw (rest-total (λ x. one (eqb (slot_of x) i)) f es) (alone_tail slot_of e es a i)

-- ---- the list walked: every slot of it is settled, and each entry stays or leaves
walk_all : (n m : ℕ) (t : Tables) (es : List Entry) → length es ≤ n → Alone slot_of es → All (λ e. slot_of e < m) es
    → walk n t es ≡ record { records = settled_over t (map slot_of es); kept = parts_in staying (fate t) n es; moving = parts_in leaving (fate t) n es }
unfolding walk settled_over parts_in
walk_all zero m t [] l a b = refl
walk_all zero m t (e ∷ es) l a b = absurd (not-suc-le-zero l)
walk_all (suc n) m t [] l a b = refl
walk_all (suc n) m t (e ∷ es) l a b =
    let f = fate t e in
    let u = settled t (slot_of e) in
    let inside : All (λ x. slot_of x < m) (rest f es) = rest_all (λ x. slot_of x < m) f es b.1 in
    let slots = over_same slot_of u m (rest f es) es (rest_alone t e es a f) inside b.1 (λ i. rest-total (λ x. one (eqb (slot_of x) i)) f es) in
    ap (walked_after f) (walk_all n m u (rest f es) (rw (rest-length f es) (le_of_suc-le-suc l)) (rest_alone t e es a f) inside)
    ∙ (λ i. record {
      records = slots i;
      kept = staying f ++ parts_same staying (fate u) (fate t) n (rest f es) (fates_kept t e es a f) i;
      moving = leaving f ++ parts_same leaving (fate u) (fate t) n (rest f es) (fates_kept t e es a f) i;
    })

pub list_walked : (t : Tables) (es : List Entry) → Alone slot_of es → (m : ℕ) → All (λ e. slot_of e < m) es
    → walk (length es) t es ≡ record { records = settled_over t (map slot_of es); kept = kept (fate t) es; moving = moving (fate t) es }
list_walked t es a m b = rw (kept_parts (fate t) es) (walk_all (length es) m t es (omega arith) a b)
