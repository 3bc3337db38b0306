-- Laws of the pass: what holds of the entries passed goes on by one, and where an entry cannot be passed the whole does not hold.
-- Assumes nothing.
use Rattle.basics.specs.Words.{ℕ, ◌+◌, ◌-◌, ◌<◌, ◌≤◌, ◌≡◌, refl, sym, ap, ◌∙◌, subst, Bool, true, false, List, ◌⊎◌, inl, inr, ⊎_elim, ltb, ℤ, arith, ltb-true}
use Rattle.basics.specs.Words.{ltb-false}
use lib.Ieee.{Float}
use borrow.Author.Count.{below_none, below_more}
use Rattle.storage.specs.Meaning.Packed.{first, second, Packed}
use Rattle.point_records.specs.Inner.Listed.{listed_at}
use Rattle.point_pool.specs.Inner.Pass.{Fits, Marked, Whole, Passes}
use Rattle.point_pool.proofs.laws.Pass.{Step, stays, steps, Turn}

pub below_or : (i j : ℕ) → (i < j) ⊎ (j ≤ i)
below_or i j = go (ltb i j) refl
  where
    go : (b : Bool) → ltb i j ≡ b → (i < j) ⊎ (j ≤ i)
    go true e = inl (ltb-true i j e)
    go false e = inr (ltb-false i j e)

-- where the keys of n rows ascend, two rows with one key are one
pub same_row : (cells : List (List ℕ)) (n : ℕ) → ((a b : ℕ) → b < n → a < b → first cells a < first cells b) → (i j : ℕ) → i < n → j < n → first cells i ≡ first cells j → i ≡ j
same_row cells n up i j hi hj e = ⊎_elim (λ q. absurd (omega (arith, up i j hj q))) (λ q. ⊎_elim (λ w. absurd (omega (arith, up j i hi w))) (λ w. omega arith) (below_or j i)) (below_or i j)

module _ (pool cells : List (List ℕ)) where
  -- of the first j entries the first c rows of the cell table are those of their lists
  pub record Met (rows j c : ℕ) : Type 0 where
    pub most : c ≤ rows
    pub ordered : (a b : ℕ) → b < j → a ≤ b → first pool a ≤ first pool b
    pub ascending : (a b : ℕ) → b < c → a < b → first cells a < first cells b
    pub marks : (r : ℕ) → r < c → second cells r ≤ 1
    pub rows_of : (a : ℕ) → a < j → (r : ℕ) × (r < c) × (first cells r ≡ first pool a)
    pub lists_of : (r : ℕ) → r < c → (a : ℕ) × (a < j) × (first pool a ≡ first cells r)

  pub met-none : (rows : ℕ) → Met rows 0 0
  met-none rows = record { most = omega arith; ordered = λ a b h. absurd (omega arith); ascending = λ a b h. absurd (omega arith); marks = below_none _; rows_of = below_none _; lists_of = below_none _ }

  module _ (rows j c m : ℕ) (v : Met rows j c) where
    -- keys of rows met are at most that of the last
    up_to : (r : ℕ) → r < c → first cells r ≤ first cells (c - 1)
    up_to r h = ⊎_elim (λ q. omega (arith, v.ascending r (c - 1) (omega arith) q)) (λ q. let e : r ≡ c - 1 = omega arith in omega (arith, ap (first cells) e)) (below_or r (c - 1))

    -- the row of entry j is the last one that is met with it
    pub step_row : Step cells rows c (first pool j) m → (0 < m) × (m ≤ rows) × (first cells (m - 1) ≡ first pool j)
    step_row (stays e p q) = (omega arith, omega (arith, v.most), ap (λ (k : ℕ). first cells (k - 1)) e ∙ q)
    step_row (steps e p l q k) = let f : m - 1 ≡ c = omega arith in (omega arith, omega arith, ap (first cells) f ∙ q)

    pub step_up : Step cells rows c (first pool j) m → c ≤ m
    step_up (stays e p q) = omega arith
    step_up (steps e p l q k) = omega arith

    step_order : Step cells rows c (first pool j) m → (a : ℕ) → a < j → first pool a ≤ first pool j
    step_order (stays e p q) a h = let o = v.rows_of a h in omega (arith, o.2, up_to o.0 o.1, q)
    step_order (steps e p l q k) a h = let o = v.rows_of a h in omega (arith, o.2, up_to o.0 o.1, p (omega (arith, o.1)))

    next-order : Step cells rows c (first pool j) m → (a b : ℕ) → b < j + 1 → a ≤ b → first pool a ≤ first pool b
    next-order s a b h = below_more (λ b. a ≤ b → first pool a ≤ first pool b) j (λ b q. v.ordered a b q) here b h
      where
        here : a ≤ j → first pool a ≤ first pool j
        here l = ⊎_elim (λ q. step_order s a q) (λ q. let e : a ≡ j = omega arith in omega (arith, ap (first pool) e)) (below_or a j)

    next-rows : Step cells rows c (first pool j) m → c ≤ m → (a : ℕ) → a < j + 1 → (r : ℕ) × (r < m) × (first cells r ≡ first pool a)
    next-rows s u =
        let w = step_row s in
        below_more (λ a. (r : ℕ) × (r < m) × (first cells r ≡ first pool a)) j (λ a h. let o = v.rows_of a h in (o.0, omega (arith, o.1), o.2)) (m - 1, omega (arith, w.0), w.2)

    pub met-more : Step cells rows c (first pool j) m → Met rows (j + 1) m
    met-more (stays e p q) =
        record {
          most = omega (arith, v.most);
          ordered = next-order (stays e p q);
          ascending = λ a b h. v.ascending a b (omega arith);
          marks = λ r h. v.marks r (omega arith);
          rows_of = next-rows (stays e p q) (omega arith);
          lists_of = λ r h. let o = v.lists_of r (omega arith) in (o.0, omega (arith, o.1), o.2);
        }
    met-more (steps e p l q k) =
        record {
          most = omega arith;
          ordered = next-order (steps e p l q k);
          ascending = λ a b h g. ⊎_elim (λ w. v.ascending a b w g) (λ w. let f : b ≡ c = omega arith in omega (arith, ap (first cells) f, up_to a (omega arith), p (omega arith), q)) (below_or b c);
          marks = λ r h. ⊎_elim (v.marks r) (λ w. let f : r ≡ c = omega arith in omega (arith, ap (second cells) f, k)) (below_or r c);
          rows_of = next-rows (steps e p l q k) (omega arith);
          lists_of = λ r h. ⊎_elim (λ w. let o = v.lists_of r w in (o.0, omega (arith, o.1), o.2)) (λ w. let f : c ≡ r = omega arith in (j, omega arith, sym q ∙ ap (first cells) f)) (below_or r c);
        }

  -- ---- where the pool and the cell table are a storage, the pass goes on to the end
  module _ (used rows : ℕ) (t : Packed used rows pool cells) where
    pub met_next : (j c : ℕ) → j < used → Met rows j c → (m : ℕ) × Step cells rows c (first pool j) m
    met_next j c h v = ⊎_elim before (λ q. ⊎_elim between at (below_or c r)) (below_or r c)
      where
        it : (r : ℕ) × (r < rows) × (first cells r ≡ first pool j)
        it = t.has_row j h

        r : ℕ
        r = it.0

        before : r < c → (m : ℕ) × Step cells rows c (first pool j) m
        before q = ⊎_elim (λ w. absurd (early w)) (λ w. let f : c - 1 ≡ it.0 = omega arith in (c, stays refl (omega arith) (ap (first cells) f ∙ it.2))) (below_or it.0 (c - 1))
          where
            early : it.0 < c - 1 → ⊥
            early w = let o = v.lists_of (c - 1) (omega arith) in omega (arith, o.2, it.2, v.ascending it.0 (c - 1) (omega arith) w, t.ordered o.0 j h (omega (arith, o.1)))

        at : r ≤ c → (m : ℕ) × Step cells rows c (first pool j) m
        at q = ⊎_elim before here (below_or r c)
          where
            here : c ≤ r → (m : ℕ) × Step cells rows c (first pool j) m
            here w =
                let f : c ≡ it.0 = omega arith in
                let l : c < rows = omega (arith, it.1) in
                let e : first cells c ≡ first pool j = ap (first cells) f ∙ it.2 in
                (c + 1, steps refl (λ p. omega (arith, e, t.ascending (c - 1) c l (omega arith))) l e (t.marks c l))

        between : c < r → (m : ℕ) × Step cells rows c (first pool j) m
        between q =
            let o = t.has_list c (omega (arith, it.1)) in
            let low : first pool o.0 < first pool j = omega (arith, o.2, it.2, t.ascending c it.0 it.1 q) in
            absurd (⊎_elim
            (λ w. let x = v.rows_of o.0 w in omega (arith, x.2, o.2, t.ascending x.0 c (omega (arith, it.1)) x.1))
            (λ w. omega (arith, low, t.ordered j o.0 o.1 w))
            (below_or o.0 j))

    pub met-short : (c : ℕ) → (c ≡ rows → ⊥) → Met rows used c → ⊥
    met-short c n v =
        ⊎_elim
        (λ q. let o = t.has_list c q in let x = v.rows_of o.0 o.1 in omega (arith, x.2, o.2, t.ascending x.0 c q x.1))
        (λ q. n (omega (arith, v.most)))
        (below_or c rows)

  pub met-packed : (used rows c : ℕ) → c ≡ rows → Met rows used c → Packed used rows pool cells
  met-packed used rows c e v =
      record {
        ordered = v.ordered;
        ascending = λ i j h. v.ascending i j (omega arith);
        has_row = λ j h. let o = v.rows_of j h in (o.0, omega (arith, o.1), o.2);
        has_list = λ r h. v.lists_of r (omega arith);
        marks = λ r h. v.marks r (omega arith);
      }

-- ---- the entries and the rows together
module _ (nums : List (List ℕ)) (reals : List (List Float)) (ints : List (List ℤ)) (pool : List (List ℕ)) (spots : List (List Float)) (cells : List (List ℕ)) (size : ℕ) where
  -- what holds once the first j entries are passed, and c rows are met
  pub record Passed (rows j c : ℕ) : Type 0 where
    pub each : (i : ℕ) → i < j → Fits nums reals ints (first pool i) (listed_at pool spots i)
    pub whole : (i : ℕ) → i < j → Whole nums reals ints size (second pool i)
    pub once : (a b : ℕ) → b < j → a < b → second pool a ≡ second pool b → ⊥
    pub met : Met pool cells rows j c
    pub marked : (i : ℕ) → i < j → (r : ℕ) → r < c → first cells r ≡ first pool i → Marked nums cells (second pool i) r

  pub passed_none : (rows : ℕ) → Passed rows 0 0
  passed_none rows = record { each = below_none _; whole = below_none _; once = λ a b h. absurd (omega arith); met = met-none pool cells rows; marked = below_none _ }

  module _ (rows j c m : ℕ) (v : Passed rows j c) where
    pub passed-more : Turn nums reals ints pool spots cells size rows j c m → ((i : ℕ) → i < j → second pool i ≡ second pool j → ⊥) → Passed rows (j + 1) m
    passed-more t fresh =
        record {
          each = below_more (λ i. Fits nums reals ints (first pool i) (listed_at pool spots i)) j v.each t.fits;
          whole = below_more (λ i. Whole nums reals ints size (second pool i)) j v.whole t.whole;
          once = λ a b h. below_more (λ b. a < b → second pool a ≡ second pool b → ⊥) j (λ b q. v.once a b q) (fresh a) b h;
          met = after;
          marked = below_more (λ i. (r : ℕ) → r < m → first cells r ≡ first pool i → Marked nums cells (second pool i) r) j old new;
        }
      where
        after : Met pool cells rows (j + 1) m
        after = met-more pool cells rows j c m v.met t.step

        up : c ≤ m
        up = step_up pool cells rows j c m v.met t.step

        old : (i : ℕ) → i < j → (r : ℕ) → r < m → first cells r ≡ first pool i → Marked nums cells (second pool i) r
        old i h r l e =
            let o = v.met.rows_of i h in
            let f : o.0 ≡ r = same_row cells m after.ascending o.0 r (omega (arith, o.1, up)) l (o.2 ∙ sym e) in
            v.marked i h r (omega (arith, o.1)) e

        new : (r : ℕ) → r < m → first cells r ≡ first pool j → Marked nums cells (second pool j) r
        new r l e =
            let w = step_row pool cells rows j c m v.met t.step in
            let f : m - 1 ≡ r = same_row cells m after.ascending (m - 1) r (omega (arith, w.0)) l (w.2 ∙ sym e) in
            subst (Marked nums cells (second pool j)) f t.marked

  pub passed_all : (used rows c : ℕ) → c ≡ rows → Passed rows used c → Passes nums reals ints pool spots cells size used rows
  passed_all used rows c e v =
      record {
        each = v.each;
        whole = v.whole;
        once = v.once;
        packed = met-packed pool cells used rows c e v.met;
        marked = λ j h r l. v.marked j h r (omega arith);
      }
