-- What a pending state changes in the tables: the state of one record and the mark of its cell, and nothing else. Assumes nothing.
use Rattle.basics.specs.Words.{ℕ, ◌<◌, ◌≤◌, ◌≡◌, refl, sym, ap, ◌∙◌, subst, List, [], ◌∷◌, ⊎_elim, length, get_or, set, length-set, get_or-set_same, get_or-set_other}
use Rattle.basics.specs.Words.{arith}
use Rattle.basics.proofs.laws.Says.{d_eq}
use Rattle.cells.specs.Meaning.Key.{key_of}
use Rattle.slots.specs.Meaning.Slot.{live, phase_at, good, gone}
use Rattle.storage.specs.Meaning.Packed.{first, second}
use Rattle.point_records.specs.declared.State.{State}
use Rattle.point_records.specs.declared.Record.{Record}
use Rattle.point_records.specs.Meaning.Columns.{nums_of}
use Rattle.point_records.specs.Meaning.Word.{last_word, word_at}
use Rattle.point_records.proofs.laws.ColumnLaws.{word_of_row, stored_same, stored_other}
use Rattle.point_records.specs.Meaning.States.{with_state}
use Rattle.point_tables.specs.Meaning.Tables.{Tables, slots_of, record_on}
use Rattle.point_deferred.specs.Meaning.Moves.{pended}
use Rattle.point_deferred.specs.Inner.Ready.{Ready}
use Rattle.point_deferred.proofs.laws.ReadyLaws.{marked_is}

module _ (t : Tables) (s : ℕ) (state : State) where
  -- ---- the tables that stay, and the lengths
  pub map-kept : (pended t s state).map ≡ t.map
  unfolding pended
  map-kept = refl

  pub nums-long : slots_of (pended t s state) ≡ slots_of t
  unfolding pended
  nums-long = simp length-set

  pub reals-long : length (pended t s state).reals ≡ length t.reals
  unfolding pended
  reals-long = simp length-set

  pub ints-long : length (pended t s state).ints ≡ length t.ints
  unfolding pended
  ints-long = simp length-set

  module _ (ready : Ready t) (l : s < slots_of t) where
    -- ---- the records
    pub record_same : record_on (pended t s state) s ≡ with_state (record_on t s) state
    unfolding pended
    record_same = stored_same t.nums t.reals t.ints s (with_state (record_on t s) state) l (rw ready.of_reals l) (rw ready.of_ints l)

    pub record_other : (j : ℕ) → (j ≡ s → ⊥) → record_on (pended t s state) j ≡ record_on t j
    unfolding pended
    record_other j n = stored_other t.nums t.reals t.ints s (with_state (record_on t s) state) j n

    -- what looks past the state sees no change
    pub kept : {X : Type 0} (f : Record → X) → f (with_state (record_on t s) state) ≡ f (record_on t s) → (j : ℕ) → f (record_on (pended t s state) j) ≡ f (record_on t j)
    kept f e j =
        ⊎_elim
        (λ q. ap (λ (k : ℕ). f (record_on (pended t s state) k)) q ∙ ap f record_same ∙ e ∙ ap (λ (k : ℕ). f (record_on t k)) (sym q))
        (λ n. ap f (record_other j n))
        (d_eq j s)

    -- no version and no phase, so no handle: what is good stays good, and what is gone stays gone
    pub good-kept : (j v : ℕ) → good (pended t s state).nums j v ≡ good t.nums j v
    unfolding good
    good-kept j v = rw (nums-long, kept (λ (r : Record). r.phase) refl j, kept (λ (r : Record). r.version) refl j)

    pub gone-kept : (j v : ℕ) → gone (pended t s state).nums j v ≡ gone t.nums j v
    unfolding gone
    gone-kept j v = rw (nums-long, kept (λ (r : Record). r.phase) refl j, kept (λ (r : Record). r.version) refl j)

    -- ---- the rows of numbers
    nums-same : get_or (pended t s state).nums s [] ≡ nums_of (with_state (record_on t s) state)
    unfolding pended
    nums-same = get_or-set_same t.nums s (nums_of (with_state (record_on t s) state)) [] l

    pub nums_other : (j : ℕ) → (j ≡ s → ⊥) → get_or (pended t s state).nums j [] ≡ get_or t.nums j []
    unfolding pended
    nums_other j n = get_or-set_other t.nums s j (nums_of (with_state (record_on t s) state)) [] n

    pub word_same : word_at (pended t s state).nums s ≤ last_word
    word_same = rw nums-same (word_of_row (with_state (record_on t s) state))

    -- ---- the rows of the cells: that of the object's cell is marked
    module _ (p : phase_at t.nums s ≡ live) where
      abbrev pub row_of : ℕ
      row_of = (ready.has_row s l p).0

      row_inside : row_of < length t.cells
      row_inside = omega (arith, (ready.has_row s l p).1, ready.of_cells)

      pub cells-set : (pended t s state).cells ≡ set t.cells row_of (key_of (record_on t s).cell ∷ 1 ∷ [])
      unfolding pended
      cells-set =
          let r = ready.has_row s l p in
          marked_is t ready (key_of (record_on t s).cell) r.0 r.1 r.2

      pub cells-long : length (pended t s state).cells ≡ length t.cells
      cells-long = ap length cells-set ∙ simp length-set

      pub row_same : get_or (pended t s state).cells row_of [] ≡ key_of (record_on t s).cell ∷ 1 ∷ []
      row_same = rw cells-set (get_or-set_same t.cells row_of (key_of (record_on t s).cell ∷ 1 ∷ []) [] row_inside)

      pub row_other : (r : ℕ) → (r ≡ row_of → ⊥) → get_or (pended t s state).cells r [] ≡ get_or t.cells r []
      row_other r n = rw cells-set (get_or-set_other t.cells row_of r (key_of (record_on t s).cell ∷ 1 ∷ []) [] n)

      pub key-kept : (r : ℕ) → first (pended t s state).cells r ≡ first t.cells r
      key-kept r =
          ⊎_elim
          (λ q. ap (first (pended t s state).cells) q ∙ ap (λ (x : List ℕ). get_or x 0 0) row_same ∙ sym (ready.has_row s l p).2 ∙ ap (first t.cells) (sym q))
          (λ n. ap (λ (x : List ℕ). get_or x 0 0) (row_other r n))
          (d_eq r row_of)

      pub mark_set : second (pended t s state).cells row_of ≡ 1
      mark_set = ap (λ (x : List ℕ). get_or x 1 0) row_same

      -- a mark stays or becomes 1
      pub mark-kept : (P : ℕ → Type 0) → P 1 → (r : ℕ) → P (second t.cells r) → P (second (pended t s state).cells r)
      mark-kept P one r h =
          ⊎_elim
          (λ q. subst (λ (k : ℕ). P (second (pended t s state).cells k)) (sym q) (subst P (sym mark_set) one))
          (λ n. subst P (sym (ap (λ (x : List ℕ). get_or x 1 0) (row_other r n))) h)
          (d_eq r row_of)

      -- ---- tables that are ready stay so
      pub pended_ready : Ready (pended t s state)
      unfolding pended
      pended_ready =
          record {
            of_reals = reals-long ∙ ready.of_reals ∙ sym nums-long;
            of_ints = ints-long ∙ ready.of_ints ∙ sym nums-long;
            of_map = ready.of_map;
            size = ready.size;
            of_cells = rw cells-long ready.of_cells;
            ascending = λ i j x y. rw (key-kept i, key-kept j) (ready.ascending i j x y);
            has_row = λ j x q.
                let o = ready.has_row j (rw nums-long at x) (sym (kept (λ r. r.phase) refl j) ∙ q) in
                (o.0, o.1, key-kept o.0 ∙ o.2 ∙ ap key_of (sym (kept (λ r. r.cell) refl j)));
          }
