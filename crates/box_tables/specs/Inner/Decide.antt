-- Whether tables hold a box grid can be decided: `holds`. It is never computed: the check says the same. Assumes nothing.
-- Here: what only inner contracts cite.
use Rattle.std.specs.Prelude.{◌≡◌, ◌∷◌}
use Rattle.basics.specs.Words.{ℕ, refl, ap, ap₂, List, [], inl, inr, length, get_or, drop, arith}
use Rattle.basics.specs.Meaning.Says.{Decided}
use Rattle.basics.proofs.laws.Says.{d_via, d_and, d_imp, d_eq, d_le, d_all, d_any, d_t}
use Rattle.geometry.specs.Meaning.Domain.{aabb_in_domain}
use Rattle.slots.specs.Meaning.Slot.{live, phase_at}
use Rattle.slots.proofs.laws.Decide.{d_slots}
use Rattle.storage.specs.Meaning.Packed.{first, second}
use Rattle.box_tables.specs.Meaning.Tables.{Tables, used_of, slots_of, aabb_on, item_on, Lengths, Sized}
use Rattle.box_tables.specs.Meaning.Holds.{Counted, BoxHolds, EntryHolds, Holds}

-- whether two lists of numbers are the same
d_list : (a b : List ℕ) → Decided (a ≡ b)
d_list [] [] = inl refl
d_list [] (y ∷ b) = inr (λ e. absurd (omega (arith, ap length e)))
d_list (x ∷ a) [] = inr (λ e. absurd (omega (arith, ap length e)))
d_list (x ∷ a) (y ∷ b) = d_via (λ p. ap₂ ◌∷◌ p.0 p.1) (λ e. (ap (λ (l : List ℕ). get_or l 0 0) e, ap (drop 1) e)) (d_and (d_eq x y) (d_list a b))

pub d_lengths : (n reals map pool : ℕ) → Decided (Lengths n reals map pool)
d_lengths n reals map pool =
    d_via (λ x. record { some = x.0.0; most = x.0.1; of_reals = x.1.0; of_map = x.1.1.0; pool-some = x.1.1.1.0; pool-most = x.1.1.1.1 })
    (λ h. ((h.some, h.most), (h.of_reals, (h.of_map, (h.pool-some, h.pool-most)))))
    (d_and (d_and (d_le _ _) (d_le _ _)) (d_and (d_eq _ _) (d_and (d_eq _ _) (d_and (d_le _ _) (d_le _ _)))))

module _ (t : Tables) where
  d_counted : Decided (Counted t)
  d_counted = d_via (λ x. record { size = x.0; used-most = x.1 }) (λ h. (h.size, h.used-most)) (d_and (d_and (d_le _ _) (d_le _ _)) (d_le _ _))

  d_box : (s : ℕ) → Decided (BoxHolds t s)
  d_box s = d_via (λ x. record { within_domain = x.0; cells-most = x.1 }) (λ h. (h.within_domain, h.cells-most)) (d_and (d_t (aabb_in_domain (aabb_on t s))) (d_le _ _))

  d_entry : (j : ℕ) → Decided (EntryHolds t j)
  d_entry j =
      d_via (λ x. record { slot = x.0; inside = x.1; occupied = x.2.0; item = x.2.1 }) (λ h. (h.slot, h.inside, (h.occupied, h.item)))
      (d_any (λ s. d_and (d_eq (phase_at t.nums s) live) (d_eq (second t.pool j) (item_on t s))) (slots_of t))

  pub d_holds : Decided (Holds t)
  d_holds =
      d_via
      (λ x. record { sized = x.0; counted = x.1.0; slots = x.1.1.0; boxes = x.1.1.1.0; ordered = λ i j h l. x.1.1.1.1.0 j h i l; each = x.1.1.1.1.1.0; every = x.1.1.1.1.1.1 })
      (λ h. (h.sized, (h.counted, (h.slots, (h.boxes, ((λ j l i m. h.ordered i j l m), (h.each, h.every)))))))
      (d_and (d_lengths _ _ _ _)
      (d_and d_counted
      (d_and (d_slots t.nums t.map)
      (d_and (d_all (λ s. d_imp (d_eq (phase_at t.nums s) live) (d_box s)) (slots_of t))
      (d_and (d_all (λ j. d_all (λ i. d_le (first t.pool i) (first t.pool j)) j) (used_of t))
      (d_and (d_all d_entry (used_of t))
      (d_all (λ s. d_imp (d_eq (phase_at t.nums s) live) (d_list _ _)) (slots_of t))))))))

-- whether the tables have the right lengths, and whether they hold a grid
pub d_sized : (t : Tables) → Decided (Sized t)
d_sized t = d_lengths _ _ _ _
