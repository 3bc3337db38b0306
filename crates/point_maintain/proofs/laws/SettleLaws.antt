-- Laws of settling a slot: it reads and writes its own rows and its own bit, so that different slots may be settled in any order.
-- Assumes nothing.
-- Here: the laws.
use Rattle.basics.specs.Words.{ℕ, ◌+◌, ◌<◌, ◌≡◌, refl, sym, ◌∙◌, ap, Bool, true, false, List, [], length, get_or, length-set, get_or-set_same, get_or-set_other}
use Rattle.basics.specs.Words.{set_comm, arith}
use Rattle.basics.specs.Meaning.Refusals.{pick}
use Rattle.slots.specs.Meaning.Map.{head, words_for, given_back}
use Rattle.slots.proofs.laws.MapLaws.{given-back-length, given-back-head}
use Rattle.point_records.specs.declared.State.TheVariants.{Unchanged}
use Rattle.point_tables.specs.Meaning.Tables.{Tables, size_of, slots_of, record_on, Sized}
use Rattle.point_maintain.specs.Meaning.Walk.{settled}
use Rattle.point_maintain.proofs.laws.GivenBackLaws.{given-back_swap}
use Rattle.point_maintain.proofs.laws.SettleForm.{Rows, rows_at, record_in, rows_after, comes_back, settled_record, placed_rows, settled_form, rows_record}
use Rattle.point_maintain.specs.Inner.Settle.{Shaped}

pub sized-shaped : (t : Tables) → Sized t → Shaped t
sized-shaped t z = record { of_reals = z.of_reals; of_ints = z.of_ints; of_map = z.of_map }

module _ (t : Tables) (s : ℕ) where
  -- what holds of the map as it was and of the map with the slot given back holds of the map after
  either : (P : List ℕ → Type 0) → P t.map → P (given_back t.map s) → P (settled t s).map
  either P p q = rw (settled_form t s) (go (comes_back (rows_at t s)))
    where
      go : (b : Bool) → P (pick b (given_back t.map s) t.map)
      go true = q
      go false = p

  -- ---- lengths, the head words, and the tables that are not touched
  pub settled-slots : slots_of (settled t s) ≡ slots_of t
  settled-slots = rw (settled_form t s) (length-set t.nums s (rows_after (rows_at t s)).nums)

  pub settled-reals : length (settled t s).reals ≡ length t.reals
  settled-reals = rw (settled_form t s) (length-set t.reals s (rows_after (rows_at t s)).reals)

  pub settled-ints : length (settled t s).ints ≡ length t.ints
  settled-ints = rw (settled_form t s) (length-set t.ints s (rows_after (rows_at t s)).ints)

  pub settled-map : length (settled t s).map ≡ length t.map
  settled-map = either (λ m. length m ≡ length t.map) refl (given-back-length t.map s)

  pub settled-shaped : Shaped t → Shaped (settled t s)
  settled-shaped h =
      record {
        of_reals = settled-reals ∙ h.of_reals ∙ sym settled-slots;
        of_ints = settled-ints ∙ h.of_ints ∙ sym settled-slots;
        of_map = settled-map ∙ h.of_map ∙ ap (λ (n : ℕ). head + words_for n) (sym settled-slots);
      }

  pub settled-head : (k : ℕ) → k < head → get_or (settled t s).map k 0 ≡ get_or t.map k 0
  settled-head k h = either (λ m. get_or m k 0 ≡ get_or t.map k 0) refl (given-back-head t.map s k h)

  pub settled-size : size_of (settled t s) ≡ size_of t
  settled-size = settled-head 0 (omega arith)

  pub settled-pool : (settled t s).pool ≡ t.pool
  settled-pool = ap (λ (w : Tables). w.pool) (settled_form t s)

  pub settled-spots : (settled t s).spots ≡ t.spots
  settled-spots = ap (λ (w : Tables). w.spots) (settled_form t s)

  pub settled-cells : (settled t s).cells ≡ t.cells
  settled-cells = ap (λ (w : Tables). w.cells) (settled_form t s)

  -- ---- every other slot
  pub settled-rows_other : (j : ℕ) → (j ≡ s → ⊥) → rows_at (settled t s) j ≡ rows_at t j
  settled-rows_other j n =
      let w = rows_after (rows_at t s) in
      rw (settled_form t s, get_or-set_other t.nums s j w.nums [] n, get_or-set_other t.reals s j w.reals [] n, get_or-set_other t.ints s j w.ints [] n)

  pub settled_other : (j : ℕ) → (j ≡ s → ⊥) → record_on (settled t s) j ≡ record_on t j
  settled_other j n = ap record_in (settled-rows_other j n)

  -- ---- the slot itself
  module _ (shape : Shaped t) (inside : s < slots_of t) where
    pub settled-rows-same : rows_at (settled t s) s ≡ rows_after (rows_at t s)
    settled-rows-same =
        let w = rows_after (rows_at t s) in
        rw (settled_form t s, get_or-set_same t.nums s w.nums [] inside, get_or-set_same t.reals s w.reals [] (rw shape.of_reals inside), get_or-set_same t.ints s w.ints [] (rw shape.of_ints inside))

    pub settled_same : record_on (settled t s) s ≡ settled_record (record_on t s)
    settled_same = ap record_in settled-rows-same ∙ rows_record (rows_at t s)

  -- nothing is pending: nothing changes
  pub settled_calm : (record_on t s).state ≡ Unchanged → settled t s ≡ t
  unfolding settled
  settled_calm e = rw e

-- ---- two slots, in either order
placed_swap : (t : Tables) (a b : ℕ) → (a ≡ b → ⊥) → (u v : Rows) (x y : Bool) → placed_rows (placed_rows t a u x) b v y ≡ placed_rows (placed_rows t b v y) a u x
placed_swap t a b n u v x y =
    rw (set_comm t.nums a b u.nums v.nums n, set_comm t.reals a b u.reals v.reals n, set_comm t.ints a b u.ints v.ints n, maps x y)
  where
    maps : (x y : Bool) → pick y (given_back (pick x (given_back t.map a) t.map) b) (pick x (given_back t.map a) t.map) ≡ pick x (given_back (pick y (given_back t.map b) t.map) a) (pick y (given_back t.map b) t.map)
    maps true true = given-back_swap t.map a b
    maps true false = refl
    maps false true = refl
    maps false false = refl

settled_twice : (t : Tables) (a b : ℕ) → (a ≡ b → ⊥)
    → settled (settled t a) b ≡ placed_rows (placed_rows t a (rows_after (rows_at t a)) (comes_back (rows_at t a))) b (rows_after (rows_at t b)) (comes_back (rows_at t b))
settled_twice t a b n = settled_form (settled t a) b ∙ rw (settled-rows_other t a b (λ e. n (sym e)), settled_form t a)

pub settled_swap : (t : Tables) (a b : ℕ) → (a ≡ b → ⊥) → settled (settled t a) b ≡ settled (settled t b) a
settled_swap t a b n =
    settled_twice t a b n
    ∙ placed_swap t a b n (rows_after (rows_at t a)) (rows_after (rows_at t b)) (comes_back (rows_at t a)) (comes_back (rows_at t b))
    ∙ sym (settled_twice t b a (λ e. n (sym e)))
