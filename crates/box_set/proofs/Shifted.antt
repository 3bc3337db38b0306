-- What the steps of `set_aabb` ask of their calls, and what they leave, put together. Assumes nothing.
use Rattle.basics.specs.Words.{ℕ, ◌+◌, ◌<◌, ◌≤◌, ◌≡◌, refl, sym, ◌∙◌, ap, Bool, true, false, List, length, get_or, set, take, drop, take-append_seam}
use Rattle.basics.specs.Words.{length-take-le, T, arith}
use lib.Ieee.{Float}
use Rattle.basics.specs.Meaning.Limits.{most_cells}
use Rattle.basics.specs.Meaning.Says.{Says}
use Rattle.basics.proofs.laws.Says.{apart, says_via, says_same, said_says}
use Rattle.basics.specs.Meaning.Refusals.{pick}
use Rattle.geometry.specs.declared.Aabb.{Aabb}
use Rattle.geometry.specs.Meaning.Domain.{aabb_in_domain}
use Rattle.cells.specs.declared.Cell.{Cell}
use Rattle.cells.specs.Inner.Numbers.{Near}
use Rattle.cells.proofs.laws.Numbers.{cell_ext}
use Rattle.cells.specs.Meaning.Range.{cells_in}
use Rattle.storage.specs.Inner.Keyed.{Sorted}
use Rattle.storage.specs.Meaning.Keyed.{written}
use Rattle.storage.specs.Meaning.Entries.{row_key}
use Rattle.storage.proofs.laws.WrittenLaws.{length-written}
use Rattle.box_cover.specs.Meaning.Coverage.{entered_all, left_all}
use Rattle.box_cover.specs.Inner.Taken.{Leaving}
use Rattle.box_cover.proofs.laws.EnterLaws.{entered-length}
use Rattle.box_cover.proofs.laws.LeaveLaws.{left-sorted, left-length}
use Rattle.box_tables.specs.Meaning.Tables.{Tables, tables, size_of, used_of, counting, aabb_on, covers, corners_of}
use Rattle.box_tables.proofs.laws.BoxLaws as Box
use Rattle.box_tables.proofs.laws.HoldsLaws.{entries_sorted, low_near, high-near}
use Rattle.box_tables.specs.declared.Span.{Span}
use Rattle.box_remove.specs.Inner.Steps.{Object}
use Rattle.box_set.specs.Meaning.SetAabb.{Same, d_stay, cells_stay, box_recorded, box_moved, with_other_box}
use Rattle.box_set.specs.Inner.Steps.{item_in, left_in, shifted_rows, shifted_map, shifted_pool, stay_in, relisted_map, relisted_pool, old_span}
use Rattle.box_set.specs.Inner.Steps.{new_span, Shifting}

-- slot s has an object, and box b can take the place of its box
pub record Movable (t : Tables) (s : ℕ) (b : Aabb) : Type 0 where
  pub object : Object t s
  pub within_domain : T (aabb_in_domain b)
  pub few : covers (size_of t) b ≤ most_cells
  pub room : used_of t + covers (size_of t) b ≤ length t.pool + covers (size_of t) (aabb_on t s)

-- ---- both corner cells stay
same-cells : {r : Bool} {a b : Cell} → Says r (a ≡ b) → Says r (Same a b)
same-cells s = says_via (λ e. (ap (λ (c : Cell). c.x) e, ap (λ (c : Cell). c.y) e)) (λ w. cell_ext w.0 w.1) s

module _ (p q : Span) where
  pub stays-both : (a b : Bool) → Says a (p.low ≡ q.low) → a ≡ true → Says b (p.high ≡ q.high) → b ≡ stay_in p q
  stays-both a b x e y =
      says_same b (stay_in p q)
      (record { yes = λ z. ((same-cells x).yes e, (same-cells y).yes z); no = λ w. (same-cells y).no w.1 })
      (said_says (d_stay p.low p.high q.low q.high))

  pub stays_not : (a : Bool) → Says a (p.low ≡ q.low) → a ≡ false → false ≡ stay_in p q
  stays_not a x e =
      sym e ∙ says_same a (stay_in p q)
      (record { yes = λ z. absurd (apart (sym e ∙ z)); no = λ w. (same-cells x).no w.0 })
      (said_says (d_stay p.low p.high q.low q.high))

-- ---- out of the old lists, into the new ones
module _ {m : List ℕ} {pool : List (List ℕ)} {s : ℕ} {p q : Span} (f : Shifting m pool s p q) where
  abbrev rows : List (List ℕ)
  rows = take (get_or m 1 0) pool

  rows-length : length rows ≡ get_or m 1 0
  rows-length = length-take-le (get_or m 1 0) pool f.used-most

  less : length (left_in s p rows) + cells_in p.low p.high ≡ get_or m 1 0
  less = left-length p.low p.high f.old_low f.old_high (item_in s p) rows f.stands ∙ rows-length

  module _ {u i : ℕ} (eu : u ≡ get_or m 1 0) (ei : i ≡ item_in s p) where
    pub leave_asks : Leaving p.low p.high i u pool
    leave_asks = rw (eu, ei) (record { fits = f.used-most; sorted = f.sorted; near-low = f.old_low; near-high = f.old_high; stands = f.stands })

    -- the pool after leaving
    module _ {k : ℕ} {pool₁ : List (List ℕ)} (e : (k ≡ length (left_all p.low p.high i (take u pool))) × (pool₁ ≡ written (left_all p.low p.high i (take u pool)) pool)) where
      k_is : k ≡ length (left_in s p rows)
      k_is = e.0 ∙ rw (eu, ei)

      pool_is : pool₁ ≡ written (left_in s p rows) pool
      pool_is = e.1 ∙ rw (eu, ei)

      long : length pool₁ ≡ length pool
      long = ap length pool_is ∙ length-written (left_in s p rows) pool (omega (arith, less, f.used-most))

      first-are : take k pool₁ ≡ left_in s p rows
      first-are = rw (k_is, pool_is) (take-append_seam (left_in s p rows) (drop (length (left_in s p rows)) pool))

      pub enter_asks : (k + cells_in q.low q.high ≤ length pool₁) × Sorted row_key (take k pool₁) × Near q.low × Near q.high
      enter_asks = (
        omega (arith, long, k_is, less, f.room),
        rw first-are (left-sorted p.low p.high (item_in s p) rows f.sorted),
        f.new-low,
        f.new-high,
      )

      pub count_small : k + q.cells ≤ 12288
      count_small = omega (arith, k_is, less, f.used-most, f.pool-most, f.few)

      pub pool-after : {j : ℕ} → j ≡ item_in s q → {pool₂ : List (List ℕ)} → pool₂ ≡ written (entered_all q.low q.high j (take k pool₁)) pool₁ → pool₂ ≡ shifted_pool s p q m pool
      pool-after ej g = g ∙ rw (first-are, pool_is, ej)

      pub map-after : {w : ℕ} → w ≡ k → counting m (w + q.cells) ≡ shifted_map s p q m pool
      map-after {w} ew =
          let n : w + q.cells ≡ length (shifted_rows s p q rows) = omega (arith, k_is, f.cells, entered-length q.low q.high (item_in s q) (left_in s p rows)) in
          rw n

-- ---- only if a corner cell changes
module _ (m : List ℕ) (pool : List (List ℕ)) (s : ℕ) (p q : Span) {b : Bool} (e : b ≡ stay_in p q) where
  pub relist_stays : b ≡ true → (m ≡ relisted_map s p q m pool) × (pool ≡ relisted_pool s p q m pool)
  relist_stays z = rw (← e, z) (refl, refl)

  pub relist_moves : b ≡ false → {m₁ : List ℕ} {pool₁ : List (List ℕ)} → m₁ ≡ shifted_map s p q m pool → pool₁ ≡ shifted_pool s p q m pool → (m₁ ≡ relisted_map s p q m pool) × (pool₁ ≡ relisted_pool s p q m pool)
  relist_moves z f g = rw (← e, z) (f, g)

-- ---- box b in the place of the box of slot s
module _ {t : Tables} {s : ℕ} {b : Aabb} (f : Movable t s b) where
  shifting : Shifting t.map t.pool s (old_span t.reals t.map s) (new_span t.map b)
  shifting =
      let h = f.object.held in
      let l = f.object.inside in
      let v = f.object.occupied in
      record {
        small = omega (arith, l, h.sized.most);
        heads = omega (arith, h.sized.of_map);
        used-most = h.counted.used-most;
        pool-most = h.sized.pool-most;
        sorted = entries_sorted t h;
        old_low = low_near t h s l v;
        old_high = high-near t h s l v;
        new-low = Box.low_near b f.within_domain (size_of t);
        new-high = Box.high-near b f.within_domain (size_of t);
        stands = h.every s l v;
        cells = refl;
        few = f.few;
        room = f.room;
      }

  module _ {p q : Span} (ep : p ≡ old_span t.reals t.map s) (eq : q ≡ new_span t.map b) where
    pub place-asks : (s < length t.reals) × Shifting t.map t.pool s p q
    place-asks = (rw f.object.held.sized.of_reals f.object.inside, rw (ep, eq) shifting)

    pub other_box_is :
        {qs : List (List Float)} {m : List ℕ} {pool : List (List ℕ)}
        → qs ≡ set t.reals s (corners_of b)
        → m ≡ relisted_map s p q t.map t.pool
        → pool ≡ relisted_pool s p q t.map t.pool
        → tables t.nums qs m pool ≡ with_other_box t s b
    unfolding with_other_box box_recorded box_moved
    other_box_is e1 e2 e3 = rw (e1, e2, e3, ep, eq) (go (cells_stay (size_of t) (aabb_on t s) b))
      where
        go : (c : Bool) → tables t.nums (set t.reals s (corners_of b)) (pick c t.map (shifted_map s (old_span t.reals t.map s) (new_span t.map b) t.map t.pool)) (pick c t.pool (shifted_pool s (old_span t.reals t.map s) (new_span t.map b) t.map t.pool)) ≡ pick c (box_recorded t s b) (box_moved t s b)
        go true = refl
        go false = refl
