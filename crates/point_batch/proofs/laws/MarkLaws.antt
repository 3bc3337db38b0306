-- The turns of the walk that marks the cells of pending objects. Assumes nothing.
use Rattle.basics.specs.Words.{ℕ, suc, ◌<◌, ◌≤◌, ◌≡◌, refl, sym, ap, ◌∙◌, subst, List, [], ◌∷◌, inl, inr, ⊎_elim, length, get_or, set, length-set, get_or-set_same}
use Rattle.basics.specs.Words.{get_or-set_other, not-suc-le-zero, arith}
use Rattle.basics.proofs.laws.Says.{d_eq, d_lt}
use Rattle.storage.specs.Meaning.Packed.{first, second}
use Rattle.point_batch.specs.Inner.Marks.{Walkable, SetRow, MarkedTo}
use Rattle.point_records.specs.Meaning.Word.{tag_at}

-- row c is not past the row of entry j
abbrev pub Ahead : List (List ℕ) → ℕ → List (List ℕ) → ℕ → ℕ → ℕ → Type 0
Ahead pool used cells rows c j = (r : ℕ) → j < used → r < rows → first cells r ≡ first pool j → c ≤ r

module _ {nums pool : List (List ℕ)} {used : ℕ} {cells : List (List ℕ)} {rows : ℕ} (w : Walkable nums pool used cells rows) where
  -- two rows with one key are one, and a row of a key that is not less is not before
  pub one-row : (i j : ℕ) → i < rows → j < rows → first cells i ≡ first cells j → i ≡ j
  one-row i j x y e =
      ⊎_elim (λ q. absurd (omega (arith, w.packed.ascending i j y q)))
      (λ q. ⊎_elim (λ v. absurd (omega (arith, w.packed.ascending j i x v))) (λ v. omega (arith, q, v)) (d_lt j i))
      (d_lt i j)

  not_before : (i j : ℕ) → i < rows → j < rows → first cells i ≤ first cells j → i ≤ j
  not_before i j x y h = ⊎_elim (λ q. absurd (omega (arith, w.packed.ascending j i x q))) (λ q. omega (arith, q)) (d_lt j i)

  pub start : MarkedTo nums pool used cells rows cells 0
  start = record { long = refl; each = λ r. inl refl; done = λ k l. absurd (not-suc-le-zero l) }

  pub ahead_start : Ahead pool used cells rows 0 0
  ahead_start r l x e = omega arith

  pub in_rows : (c j : ℕ) → j < used → Ahead pool used cells rows c j → c < rows
  in_rows c j l a = let o = w.packed.has_row j l in omega (arith, a o.0 l o.1 o.2, o.1)

  pub ahead_entry : (c j k : ℕ) → k ≡ suc j → j < used → Ahead pool used cells rows c j → Ahead pool used cells rows c k
  ahead_entry c j k ek l a r m x e =
      let o = w.packed.has_row j l in
      let p : first cells o.0 ≤ first cells r = omega (arith, o.2, e, w.packed.ordered j k m (omega arith)) in
      omega (arith, a o.0 l o.1 o.2, not_before o.0 r o.1 x p)

  pub ahead_row : (c j k : ℕ) → k ≡ suc c → (first cells c ≡ first pool j → ⊥) → Ahead pool used cells rows c j → Ahead pool used cells rows k j
  ahead_row c j k ek n a r l x e =
      ⊎_elim (λ q. absurd (n (ap (first cells) q ∙ e))) (λ q. omega (arith, a r l x e, q)) (d_eq c r)

  module _ {after : List (List ℕ)} {j : ℕ} (m : MarkedTo nums pool used cells rows after j) where
    pub key-kept : (r : ℕ) → first after r ≡ first cells r
    key-kept r = ⊎_elim (λ e. ap (λ (x : List ℕ). get_or x 0 0) e) (λ s. ap (λ (x : List ℕ). get_or x 0 0) s.now) (m.each r)

    -- an entry with nothing pending
    pub passed_by : (k : ℕ) → k ≡ suc j → tag_at nums (second pool j) ≡ 0 → MarkedTo nums pool used cells rows after k
    passed_by k ek z =
        record {
          long = m.long;
          each = m.each;
          done = λ i l n r x e.
              ⊎_elim (λ q. absurd (n (ap (λ (y : ℕ). tag_at nums (second pool y)) q ∙ z))) (λ q. m.done i (omega (arith, q)) n r x e) (d_eq i j);
        }

    -- an entry with something pending, in the cell of row c
    pub set-row : (k c key : ℕ) → k ≡ suc j → j < used → c < rows → key ≡ first after c → first after c ≡ first pool j → (tag_at nums (second pool j) ≡ 0 → ⊥) → length (get_or after c []) ≡ 2
        → MarkedTo nums pool used cells rows (set after c (key ∷ 1 ∷ [])) k
    set-row k c key ek l x ey e n two =
        let inside : c < length after = omega (arith, m.long, w.of_cells) in
        let row : List ℕ = key ∷ 1 ∷ [] in
        let here : get_or (set after c row) c [] ≡ first cells c ∷ 1 ∷ [] = get_or-set_same after c row [] inside ∙ ap (λ (y : ℕ). y ∷ 1 ∷ []) (ey ∙ key-kept c) in
        let there : (r : ℕ) → (r ≡ c → ⊥) → get_or (set after c row) r [] ≡ get_or after r [] = λ r q. get_or-set_other after c r row [] q in
        let was : length (get_or cells c []) ≡ 2 = ⊎_elim (λ q. ap length (sym q) ∙ two) (λ s. s.two) (m.each c) in
        let at : (r : ℕ) → r ≡ c → get_or (set after c row) r [] ≡ first cells r ∷ 1 ∷ [] = λ r q. subst (λ (y : ℕ). get_or (set after c row) y [] ≡ first cells y ∷ 1 ∷ []) (sym q) here in
        record {
          long = length-set after c row ∙ m.long;
          each = λ r.
              ⊎_elim
              (λ q. inr (subst (λ (y : ℕ). SetRow nums pool used cells rows (set after c row) y) (sym q) (record { entry = j; in_use = l; in_rows = x; key = sym e ∙ key-kept c; pending = n; two = was; now = here })))
              (λ q. ⊎_elim (λ z. inl (there r q ∙ z)) (λ s. inr (record { entry = s.entry; in_use = s.in_use; in_rows = s.in_rows; key = s.key; pending = s.pending; two = s.two; now = there r q ∙ s.now })) (m.each r))
              (d_eq r c);
          done = λ i v p r y f.
              ⊎_elim
              (λ q. at r q)
              (λ q.
              ⊎_elim
              (λ z. absurd (q (one-row r c y x (f ∙ ap (first pool) z ∙ sym e ∙ key-kept c))))
              (λ z. there r q ∙ m.done i (omega (arith, z)) p r y f)
              (d_eq i j))
              (d_eq r c);
        }
