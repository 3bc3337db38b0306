-- The turns of the loops that go over one list, in the terms of the code. Assumes nothing.
use Rattle.basics.specs.Words.{ℕ, ◌+◌, ◌-◌, ◌<◌, ◌≤◌, ◌≡◌, refl, sym, ap, ◌∙◌, List, [], length, get_or, set, arith}
use lib.Ieee.{Float}
use Rattle.storage.specs.Meaning.Entries.{Entry}
use Rattle.storage.specs.Meaning.Packed.{second}
use Rattle.storage.proofs.laws.FilterLaws.{all_any}
use Rattle.point_records.specs.Meaning.Word.{tag_in}
use Rattle.point_tables.specs.Inner.Entry.{entry_at}
use Rattle.point_maintain.specs.Meaning.Walk.{Fate, stays}
use Rattle.point_maintain.proofs.laws.KeptLaws.{kept_calm}
use Rattle.point_maintain_lists.specs.Inner.Tags.{spot_by, fate_of_tag, fate_in}
use Rattle.point_maintain_lists.proofs.laws.TagLaws.{tag_stays, tag-leaves}
use Rattle.point_maintain_lists.proofs.laws.RunLaws.{run_length, entries-more}
use Rattle.point_maintain_lists.proofs.laws.LaidLaws.{laid_start}
use Rattle.point_maintain_lists.specs.Inner.Laid.{Room, Slotted, Laid, list_at}
use Rattle.point_maintain_lists.proofs.laws.WalkingLaws.{Walking, walking_rows, walking_spots, walking_entry, walking_stays, walking_leaves}
use Rattle.point_maintain_lists.proofs.laws.WalkingLaws.{walking_done}

-- the places that are read and written are in the columns
pub record Within (P : List (List ℕ)) (S : List (List Float)) (p w : ℕ) (pool : List (List ℕ)) (spots : List (List Float)) : Type 0 where
  pub as_rows : length pool ≡ length P
  pub as_spots : length spots ≡ length S
  pub row : p < length P
  pub spot : p < length S
  pub next : w ≤ p

pub walk-within : {f : Entry → Fate} {P : List (List ℕ)} {S : List (List Float)} {from to w₀ : ℕ} → Room P S from to w₀
    → {p i end w : ℕ} {pool : List (List ℕ)} {spots : List (List Float)} → Walking f P S from to w₀ p i end w pool spots → i < end → Within P S p w pool spots
walk-within room k h =
    let g = k.inside h in
    record {
      as_rows = walking_rows room k;
      as_spots = walking_spots room k;
      row = omega (arith, g, room);
      spot = omega (arith, g, room);
      next = omega (arith, k);
    }

-- ---- the walk by tags
module _ (nums : List (List ℕ)) (reals : List (List Float)) {P : List (List ℕ)} {S : List (List Float)} {from to w₀ : ℕ} (room : Room P S from to w₀)
    {p i end w : ℕ} {pool : List (List ℕ)} {spots : List (List Float)} (k : Walking (fate_in nums reals) P S from to w₀ p i end w pool spots) (h : i < end) where
  pub walk-slot : Slotted nums reals P from to → second pool p < length nums
  walk-slot s =
      rw (ap (λ (e : Entry). get_or e.row 1 0) (walking_entry room k))
      (s.inside p (omega (arith, k)) (k.inside h))

  -- the tag that was read is that of the entry's slot
  module _ {s tag : ℕ} (q : s ≡ second pool p) (t : tag ≡ tag_in (get_or nums s [])) where
    fate_at : fate_in nums reals (entry_at pool spots p) ≡ fate_of_tag tag (get_or reals s []) (entry_at pool spots p)
    fate_at =
        ap (λ (x : ℕ). fate_of_tag (tag_in (get_or nums x [])) (get_or reals x []) (entry_at pool spots p)) (sym q)
        ∙ ap (λ (x : ℕ). fate_of_tag x (get_or reals s []) (entry_at pool spots p)) (sym t)

    abbrev laid : List Float
    laid = spot_by tag (get_or reals s []) (get_or spots p [])

    pub walk-stays : tag < 2 → {spots' : List (List Float)} → spots' ≡ set spots w laid
        → Walking (fate_in nums reals) P S from to w₀ (i + 1) (i + 1) end (w + 1) (set pool w (get_or pool p [])) spots'
    walk-stays g e =
        rw e
        (walking_stays room k h (get_or pool p []) laid
        (fate_at ∙ tag_stays tag (get_or reals s []) (entry_at pool spots p) g))

    pub walk-leaves : 2 ≤ tag → Walking (fate_in nums reals) P S from to w₀ (end - 1) i (end - 1) w pool spots
    walk-leaves g =
        walking_leaves room k h []
        (fate_at ∙ tag-leaves tag (get_or reals s []) (entry_at pool spots p) g)

-- ---- a list of which all stay
pub move_done : {P : List (List ℕ)} {S : List (List Float)} {from to w₀ : ℕ} → Room P S from to w₀
    → {p i end w : ℕ} {pool : List (List ℕ)} {spots : List (List Float)} → Walking stays P S from to w₀ p i end w pool spots → end ≤ i
    → Laid (list_at P S from to) P S w₀ to w pool spots
move_done {P} {S} {from} {to} room k g =
    rw (kept_calm stays (list_at P S from to) (all_any (λ e. stays e ≡ stays e) (λ e. refl) (list_at P S from to))) at
    (walking_done room k g)

-- a list that is left where it is
pub stay_done : (P : List (List ℕ)) (S : List (List Float)) (from to w : ℕ) → Room P S from to w → w ≡ from → Laid (list_at P S from to) P S w to to P S
stay_done P S from to w room e =
    record {
      count = sym (ap (λ (n : ℕ). w + n) (run_length (entry_at P S) from (to - from)) ∙ omega (arith, room));
      low = omega arith;
      columns = rw (← e, entries-more P S w to (omega (arith, room)) room.in_pool room.in_spots) (laid_start P S to room.in_pool room.in_spots);
    }
