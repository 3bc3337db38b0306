-- The pass up to a slot, with one slot more. Assumes nothing.
use Rattle.basics.specs.Words.{ℕ, suc, ◌+◌, ◌≤◌, ◌<◌, ◌≡◌, refl, sym, ◌∙◌, ap, ap₂, List, [], ◌∷◌, map, length, set, length-map, add-one, arith}
use Rattle.basics.specs.Words.{subst, add-zero}
use Rattle.slots.specs.Meaning.Map.{head, words_for}
use Rattle.storage.specs.Meaning.Entries.{row_of}
use Rattle.point_tables.specs.Meaning.Tables.{Tables, slots_of}
use Rattle.point_tables.specs.Inner.Count.{is_live}
use Rattle.point_maintain.specs.Inner.Settle.{settled_in, settled_all}
use Rattle.point_maintain.specs.Inner.Settle.{Shaped}
use Rattle.point_maintain.proofs.laws.SettleAllLaws.{in_slots, in_shaped}
use Rattle.point_maintain.specs.Inner.Closed.{relocated_below}
use Rattle.point_maintain_slots.specs.Inner.Pass.{Slotted, Ready, Room, turned, turned_rows, put_at, Passed}
use Rattle.point_maintain_slots.proofs.laws.PutLaws.{put-none, put_one, put-length, put-more}
use Rattle.point_maintain_slots.proofs.laws.PassLaws.{next-turned, next-rows, next_slotted, below_next, below-count, below_grows}

-- ---- the slots below i are done: what stands in the tables, k rows put, and the pool
pub record Done (t : Tables) (w : ℕ) (pool : List (List ℕ)) (i : ℕ) (now : Tables) (put : List (List ℕ)) (k : ℕ) : Type 0 where
  pub most : i ≤ slots_of t
  pub settles : now ≡ settled_in (is_live t) i t
  pub counts : k ≡ length (relocated_below i t)
  pub puts : put ≡ put_at w (map row_of (relocated_below i t)) pool

pub none_done : {t : Tables} {w : ℕ} {pool : List (List ℕ)} → Done t w pool 0 t pool 0
unfolding settled_in relocated_below
none_done {w = w} {pool = pool} = record { most = omega arith; settles = refl; counts = refl; puts = sym (put-none w pool) }

module _ {t : Tables} {w : ℕ} {pool : List (List ℕ)} {i : ℕ} {now : Tables} {put : List (List ℕ)} {k : ℕ} (d : Done t w pool i now put k) where
  pub all_done : slots_of t ≤ i → Passed t now w pool put k
  unfolding settled_all
  all_done l =
      let e : i ≡ slots_of t = omega (arith, d.most) in
      record {
        settles = d.settles ∙ ap (λ (n : ℕ). settled_in (is_live t) n t) e;
        counts = d.counts ∙ ap (λ (n : ℕ). length (relocated_below n t)) e;
        puts = d.puts ∙ ap (λ (n : ℕ). put_at w (map row_of (relocated_below n t)) pool) e;
      }

  -- the tables keep their lengths
  pub done-slots : slots_of now ≡ slots_of t
  done-slots = ap slots_of d.settles ∙ in_slots (is_live t) t i

  module _ (r : Ready t) where
    still : Shaped now
    still = rw d.settles (in_shaped (is_live t) t i r.shaped)

    pub done-reals : length now.reals ≡ length t.reals
    done-reals = omega (arith, still.of_reals, done-slots, r.shaped.of_reals)

    pub done-ints : length now.ints ≡ length t.ints
    done-ints = omega (arith, still.of_ints, done-slots, r.shaped.of_ints)

    pub done-map : length now.map ≡ length t.map
    done-map = still.of_map ∙ ap (λ (n : ℕ). head + words_for n) done-slots ∙ sym r.shaped.of_map

    module _ (room : Room t w pool) where
      pub done-room : w + k ≤ length pool
      done-room = omega (arith, d.counts, room, below_grows t (slots_of t) i d.most)

      room-below : w + length (map row_of (relocated_below i t)) ≤ length pool
      room-below = rw (length-map (relocated_below i t) row_of) (omega (arith, d.counts, done-room))

      pub put-long : length put ≡ length pool
      put-long = ap length d.puts ∙ put-length w (map row_of (relocated_below i t)) pool room-below

      -- the slot at hand
      module _ (l : i < slots_of t) where
        rows-now : turned_rows now i ≡ turned_rows t i
        rows-now = ap (λ (n : Tables). turned_rows n i) d.settles ∙ next-rows t i

        pub turn_slotted : Slotted now i
        turn_slotted = rw d.settles (next_slotted t i r.shaped l)

        turn_room : w + k + length (turned_rows now i) ≤ length put
        turn_room =
            omega (arith, room, d.counts, put-long, ap length rows-now, below-count t r i l, below_grows t (slots_of t) (suc i) l)

        turn_done : {after : Tables} (rows : List (List ℕ)) {put' : List (List ℕ)} (n : ℕ) → after ≡ turned now i → rows ≡ turned_rows now i → n ≡ length rows → put' ≡ put_at (w + k) rows put → Done t w pool (i + 1) after put' (k + n)
        turn_done rows n a b e c =
            let f : rows ≡ turned_rows t i = b ∙ rows-now in
            rw (add-one i)
            (record {
              most = l;
              settles = a ∙ ap (λ (x : Tables). turned x i) d.settles ∙ next-turned t i;
              counts = omega (arith, d.counts, e, ap length f, below-count t r i l);
              puts =
                  c
                  ∙ ap (λ (x : List (List ℕ)). put_at (w + k) x put) f
                  ∙ ap₂ (λ (x : ℕ) (y : List (List ℕ)). put_at (w + x) (turned_rows t i) y) (d.counts ∙ sym (length-map (relocated_below i t) row_of)) d.puts
                  ∙ put-more w (map row_of (relocated_below i t)) pool room-below (turned_rows t i)
                  ∙ ap (λ (x : List (List ℕ)). put_at w x pool) (sym (below_next t r i l));
            })

        -- a slot that gives no row, and one that gives one
        pub none_given : {after : Tables} → after ≡ turned now i → [] ≡ turned_rows now i → Done t w pool (i + 1) after put k
        none_given {after} a b = subst (Done t w pool (i + 1) after put) (add-zero k) (turn_done [] 0 a b refl (sym (put-none (w + k) put)))

        module _ (row : List ℕ) (b : row ∷ [] ≡ turned_rows now i) where
          pub given-room : w + k < length put
          given-room = omega (arith, turn_room, ap length b)

          pub one_given : {after : Tables} → after ≡ turned now i → Done t w pool (i + 1) after (set put (w + k) row) (k + 1)
          one_given a = turn_done (row ∷ []) 1 a b refl (sym (put_one (w + k) row put given-room))
