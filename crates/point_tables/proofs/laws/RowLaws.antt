-- The pool's rows and the cell table's rows in use, as two lists: when they are a storage, read from the tables and written to them.
-- Assumes nothing.
use Rattle.basics.specs.Words.{ℕ, ◌≤◌, ◌≡◌, List, [], ◌∷◌, length, take, drop, length-append, take-append_seam, arith}
use Rattle.storage.specs.Meaning.Keyed.{All, under, written}
use Rattle.storage.specs.Inner.Keyed.{Sorted}
use Rattle.storage.specs.Meaning.Entries.{row_key, row_item}
use Rattle.storage.specs.Meaning.Packed.{first, Packed}
use Rattle.storage.specs.Inner.Store.{Filled}
use Rattle.storage.specs.Inner.Tables.{Rising}
use Rattle.storage.proofs.laws.FilterLaws.{all_map, all_both}
use Rattle.storage.proofs.laws.TableLaws.{rising-sorted}
use Rattle.storage.proofs.laws.PackedLaws.{ordered-sorted, sorted-ordered, ascending-rising, rising-ascending, all_first, first_all, place-filled, filled-first}
use Rattle.point_tables.proofs.laws.Members.{Pairs}

-- no two rows of one key
abbrev pub Single : List (List ℕ) → Type 0
Single l = Pairs (λ x y. row_key x ≡ row_key y → ⊥) l

pub rising_single : (l : List (List ℕ)) → Rising row_key l → Single l
rising_single [] r = tt
rising_single (x ∷ l) r = (all_map _ _ (λ y h e. omega (arith, h, e)) l r.0, rising_single l r.1)

pub single_rising : (l : List (List ℕ)) → Sorted row_key l → Single l → Rising row_key l
single_rising [] s d = tt
single_rising (x ∷ l) s d = (all_both _ _ _ (λ y h n. omega (arith, h, n)) l s.0 d.0, single_rising l s.1 d.1)

-- p: the entries' rows; c: the cells' rows
pub record PackedRows (p c : List (List ℕ)) : Type 0 where
  pub ordered : Sorted row_key p
  pub in_order : Sorted row_key c
  pub single : Single c
  pub has_row : All (λ x. Filled (under row_key (row_key x) c)) p
  pub has_list : All (λ r. Filled (under row_key (row_key r) p)) c
  pub marks : All (λ r. row_item r ≤ 1) c

-- ---- from the tables
module _ (used rows : ℕ) (pool cells : List (List ℕ)) (u : used ≤ length pool) (v : rows ≤ length cells) (h : Packed used rows pool cells) where
  pub to_rows : PackedRows (take used pool) (take rows cells)
  to_rows =
      let up = ascending-rising rows cells v h.ascending in
      record {
        ordered = ordered-sorted used pool u h.ordered;
        in_order = rising-sorted row_key (take rows cells) up;
        single = rising_single (take rows cells) up;
        has_row = all_first used pool u _ (λ j l. let q = h.has_row j l in place-filled rows cells v (first pool j) q.0 q.1 q.2);
        has_list = all_first rows cells v _ (λ r l. let q = h.has_list r l in place-filled used pool u (first cells r) q.0 q.1 q.2);
        marks = all_first rows cells v _ h.marks;
      }

-- ---- to tables whose first places are these rows
module _ (p c pool cells : List (List ℕ)) (h : PackedRows p c) where
  pub from_rows : Packed (length p) (length c) (written p pool) (written c cells)
  from_rows =
      record {
        ordered = sorted-ordered (length p) (written p pool) u (rw ep h.ordered);
        ascending = rising-ascending (length c) (written c cells) v (rw ec (single_rising c h.in_order h.single));
        has_row = λ j l. filled-first (length c) (written c cells) v _ (first_all (length p) (written p pool) u (λ x. Filled (under row_key (row_key x) (take (length c) (written c cells)))) (rw (ec, ep) h.has_row) j l);
        has_list = λ r l. filled-first (length p) (written p pool) u _ (first_all (length c) (written c cells) v (λ x. Filled (under row_key (row_key x) (take (length p) (written p pool)))) (rw (ec, ep) h.has_list) r l);
        marks = first_all (length c) (written c cells) v (λ r. row_item r ≤ 1) (rw ec h.marks);
      }
    where
      u : length p ≤ length (written p pool)
      u = omega (arith, length-append p (drop (length p) pool))

      v : length c ≤ length (written c cells)
      v = omega (arith, length-append c (drop (length c) cells))

      ep : take (length p) (written p pool) ≡ p
      ep = take-append_seam p (drop (length p) pool)

      ec : take (length c) (written c cells) ≡ c
      ec = take-append_seam c (drop (length c) cells)
