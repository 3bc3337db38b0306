-- `maintain` on columns with the same records: the same counts, lists and marks, and the same records after. Assumes nothing.
use Rattle.basics.specs.Words.{ℕ, zero, suc, ◌+◌, ◌≤◌, ◌<◌, ◌≡◌, refl, sym, ap, ap₂, subst, ◌∙◌, Bool, List, [], ◌++◌, inl, inr, set_out, eqb, arith}
use Rattle.basics.specs.Meaning.Refusals.{or_else, pick}
use Rattle.basics.specs.Meaning.Says.{Decided}
use Rattle.basics.proofs.laws.Says.{d_eq, d_lt}
use Rattle.slots.specs.Meaning.Map.{given_back}
use Rattle.slots.specs.Meaning.Slot.{live}
use Rattle.storage.specs.Meaning.Keyed.{under, append_all}
use Rattle.storage.specs.Meaning.Entries.{Entry, entry_key}
use Rattle.storage.proofs.laws.FilterLaws.{by_test}
use Rattle.point_records.specs.declared.Record.{Record}
use Rattle.point_records.specs.Meaning.States.{is_removed}
use Rattle.point_tables.specs.Meaning.Tables.{Tables, tables, size_of, slots_of, record_on, entries_in, slot_of}
use Rattle.point_tables.specs.Meaning.Holds.{Holds}
use Rattle.point_tables.specs.Inner.Count.{is_live}
use Rattle.point_maintain.specs.Meaning.Walk.{settled, fate_by}
use Rattle.point_maintain.specs.Meaning.Maintain.{cell_keys, maintained, count_records, maintained_counts, maintain_of}
use Rattle.point_maintain.specs.Meaning.Moved.{has_moved}
use Rattle.point_maintain.specs.Inner.Kept.{kept}
use Rattle.point_maintain.specs.Inner.Settle.{settled_in, settled_all}
use Rattle.point_maintain.specs.Inner.Closed.{joined, kept_under, kept_entries, relocated_by, relocated_below, relisted, settled_entries, settled_tables}
use Rattle.point_maintain.specs.Inner.Settle.{Shaped}
use Rattle.point_maintain.proofs.laws.SettleForm.{rows_at, rows_after, back_by, comes_back, settled_record, settled_form}
use Rattle.point_maintain.proofs.laws.SettleLaws.{sized-shaped, settled-slots, settled-reals, settled-ints, settled-pool, settled-spots, settled-cells}
use Rattle.point_maintain.proofs.laws.SettleLaws.{settled_other, settled_same}
use Rattle.point_maintain.proofs.laws.SettleAllLaws.{in_shaped}
use Rattle.point_maintain.proofs.laws.SettledForm.{maintained_is}
use Rattle.records.specs.Inner.Alike.{Alike, with_columns}
use Rattle.records.proofs.laws.Alike.{Respects}
use Rattle.records.proofs.laws.AlikeLaws.{both_hold}
use Rattle.record_histories.proofs.laws.SameLaws.{Same, same-pick, to_respect, beside}

-- ---- one slot settled
settled-past : (t : Tables) (s : ℕ) → Shaped t → slots_of t ≤ s → record_on (settled t s) s ≡ record_on t s
settled-past t s shape l =
    let w = rows_after (rows_at t s) in
    rw (settled_form t s, set_out t.nums s w.nums l, set_out t.reals s w.reals (rw shape.of_reals l), set_out t.ints s w.ints (rw shape.of_ints l)) refl

settled-map_is : (t : Tables) (s : ℕ) → (settled t s).map ≡ pick (back_by (record_on t s).version (record_on t s).state) (given_back t.map s) t.map
unfolding comes_back
settled-map_is t s = ap (λ (x : Tables). x.map) (settled_form t s)

module _ (t u : Tables) (like : Alike t u) (a : Shaped t) (b : Shaped u) (s : ℕ) where
  same-slot : Decided (s < slots_of t) → record_on (settled t s) s ≡ record_on (settled u s) s
  same-slot (inl l) = settled_same t s a l ∙ ap settled_record (like.each s) ∙ sym (settled_same u s b (subst (λ (n : ℕ). s < n) like.of_nums l))
  same-slot (inr n) =
      let l : slots_of t ≤ s = omega (arith, n) in
      settled-past t s a l ∙ like.each s ∙ sym (settled-past u s b (subst (λ (k : ℕ). k ≤ s) like.of_nums l))

  each-slot : (j : ℕ) → Decided (j ≡ s) → record_on (settled t s) j ≡ record_on (settled u s) j
  each-slot j (inl e) = subst (λ (i : ℕ). record_on (settled t s) i ≡ record_on (settled u s) i) (sym e) (same-slot (d_lt s (slots_of t)))
  each-slot j (inr n) = settled_other t s j n ∙ like.each j ∙ sym (settled_other u s j n)

  same_map : (settled t s).map ≡ (settled u s).map
  same_map =
      settled-map_is t s
      ∙ ap₂ {C = List ℕ} (λ (r : Record) (m : List ℕ). pick (back_by r.version r.state) (given_back m s) m) (like.each s) (ap (λ (x : Tables). x.map) like.rest)
      ∙ sym (settled-map_is u s)

  same-pool : (settled t s).pool ≡ (settled u s).pool
  same-pool = settled-pool t s ∙ ap (λ (x : Tables). x.pool) like.rest ∙ sym (settled-pool u s)

  same-spots : (settled t s).spots ≡ (settled u s).spots
  same-spots = settled-spots t s ∙ ap (λ (x : Tables). x.spots) like.rest ∙ sym (settled-spots u s)

  same-cells : (settled t s).cells ≡ (settled u s).cells
  same-cells = settled-cells t s ∙ ap (λ (x : Tables). x.cells) like.rest ∙ sym (settled-cells u s)

  settled-alike : Alike (settled t s) (settled u s)
  settled-alike =
      let w = settled u s in
      record {
        of_nums = settled-slots t s ∙ like.of_nums ∙ sym (settled-slots u s);
        of_reals = settled-reals t s ∙ like.of_reals ∙ sym (settled-reals u s);
        of_ints = settled-ints t s ∙ like.of_ints ∙ sym (settled-ints u s);
        each = λ j. each-slot j (d_eq j s);
        rest = λ i. tables w.nums w.reals w.ints (same_map i) (same-pool i) (same-spots i) (same-cells i);
      }

-- ---- every slot that passes
in_alike : (test : ℕ → Bool) (t u : Tables) → Alike t u → Shaped t → Shaped u → (n : ℕ) → Alike (settled_in test n t) (settled_in test n u)
unfolding settled_in
in_alike test t u like a b zero = like
in_alike test t u like a b (suc n) =
    by_test (test n)
    (λ e. rw e (settled-alike (settled_in test n t) (settled_in test n u) (in_alike test t u like a b n) (in_shaped test t n a) (in_shaped test u n b) n))
    (λ e. rw e (in_alike test t u like a b n))

-- ---- the whole, as the tables with everything done that was to be done
module _ (t u : Tables) where
  abbrev v : Tables
  v = with_columns t u

  relisted-alike : (r w : Tables) → Alike r w → (es fs : List Entry) → es ≡ fs → Alike (relisted r es t) (relisted w fs t)
  relisted-alike r w a es fs e =
      subst (λ (l : List Entry). Alike (relisted r es t) (relisted w l t)) e
      (subst (λ (x : Tables). Alike (relisted r es t) (relisted x es t)) a.rest
      (beside r w a (relisted r es t).map (relisted r es t).pool (relisted r es t).spots (relisted r es t).cells))

  module _ (like : Alike t v) where
    count_same : (test : Record → Bool) (n : ℕ) → count_records test t n ≡ count_records test v n
    count_same test zero = refl
    count_same test (suc n) =
        ap₂ {C = ℕ} (λ (m : ℕ) (r : Record). m + pick (eqb r.phase live) (pick (test r) 1 0) 0) (count_same test n) (like.each n)

    counts_same : (test : Record → Bool) → count_records test t (slots_of t) ≡ count_records test v (slots_of v)
    counts_same test = count_same test (slots_of t) ∙ ap (count_records test v) like.of_nums

    -- the lists are those of the records, so they are the same
    kept_same : kept_entries t ≡ kept_entries v
    unfolding kept_entries kept_under
    kept_same = λ z. joined (λ k. kept (λ e. fate_by (size_of t) e (like.each (slot_of e) z).state) (under entry_key k (entries_in t))) (cell_keys t)

    below-same : (n : ℕ) → relocated_below n t ≡ relocated_below n v
    unfolding relocated_below
    below-same zero = refl
    below-same (suc n) =
        ap₂ {C = List Entry} (λ (l : List Entry) (r : Record). l ++ pick (eqb r.phase live) (relocated_by (size_of t) n r.state) []) (below-same n) (like.each n)

    entries-same : settled_entries t ≡ settled_entries v
    unfolding settled_entries
    entries-same = ap₂ {C = List Entry} (append_all entry_key) kept_same (below-same (slots_of t) ∙ ap (λ (n : ℕ). relocated_below n v) like.of_nums)

    module _ (h : Holds t) (k : Holds v) where
      records-alike : Alike (settled_all t) (settled_all v)
      unfolding settled_all
      records-alike =
          subst (Alike (settled_in (is_live t) (slots_of t) t)) (λ z. settled_in (λ i. eqb (like.each i z).phase live) (like.of_nums z) v)
          (in_alike (is_live t) t v like (sized-shaped t h.sized) (sized-shaped v k.sized) (slots_of t))

      maintained-alike : Alike (maintained t) (maintained v)
      unfolding settled_tables
      maintained-alike = rw (maintained_is t h, maintained_is v k) (relisted-alike (settled_all t) (settled_all v) records-alike (settled_entries t) (settled_entries v) entries-same)

      maintain-same : Same (maintain_of t) (maintain_of v)
      unfolding maintain_of
      maintain-same =
          let e = both_hold t v like h k in
          same-pick _ _ _ _ _ _ (ap (λ (b : Bool). eqb (or_else b 3 0) 0) e)
          (ap₂ (maintained_counts 0) (counts_same has_moved) (counts_same (λ r. is_removed r.state)), maintained-alike)
          (ap (λ (b : Bool). maintained_counts (or_else b 3 0) 0 0) e, like)

pub maintain_respects : Respects maintain_of
maintain_respects = to_respect maintain_of (λ t u h k a. maintain-same t u a h k)
