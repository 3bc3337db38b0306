-- An entry goes out of a cell's list, and the row of the cell with it if the list is then empty: the rows stay a storage. Assumes nothing.
use Rattle.basics.specs.Words.{ℕ, ◌≤◌, ◌≡◌, refl, Bool, true, false, List, [], ◌∷◌, cons≢nil, inl, inr, length, eqb, arith, eqb-false}
use Rattle.basics.proofs.laws.Says.{d_eq}
use Rattle.storage.specs.Meaning.Keyed.{All, under, on_list, take_out}
use Rattle.storage.specs.Inner.Keyed.{Sorted}
use Rattle.storage.specs.Meaning.Entries.{row_key}
use Rattle.storage.specs.Meaning.CellTable.{dropped}
use Rattle.storage.specs.Inner.Store.{Filled}
use Rattle.storage.proofs.laws.FilterLaws.{by_test, all_map, all_both}
use Rattle.storage.proofs.laws.KeyedLaws.{under_other, sorted-on_list, length-on_list}
use Rattle.storage.proofs.laws.TakeOutLaws.{all_take_out, sorted-take_out, under-take_out_other}
use Rattle.point_remove.specs.Meaning.RemoveMaintain.{is_empty}
use Rattle.point_remove.specs.Inner.{rows_by}
use Rattle.point_remove.proofs.laws.GoneLaws.{all_on_list, all_apart, pairs_on_list}
use Rattle.point_tables.proofs.laws.RowLaws.{Single, PackedRows}

-- ---- a cell without its row
module _ (k : ℕ) (c : List (List ℕ)) where
  pub all_dropped : (P : List ℕ → Type 0) → All P c → All P (dropped k c)
  unfolding dropped
  all_dropped P a = all_on_list row_key k (λ rs. []) c P (λ b. tt) a

  other_keys : All (λ r. row_key r ≡ k → ⊥) (dropped k c)
  unfolding dropped
  other_keys = all_apart row_key k (λ rs. []) c _ (λ r n. n) tt

  other_rows : (j : ℕ) → (j ≡ k → ⊥) → under row_key j (dropped k c) ≡ under row_key j c
  unfolding dropped
  other_rows = under_other row_key k (λ rs. []) c tt

  dropped-sorted : Sorted row_key c → Sorted row_key (dropped k c)
  unfolding dropped
  dropped-sorted s = sorted-on_list row_key k (λ rs. []) c tt s

  dropped_single : Sorted row_key c → Single c → Single (dropped k c)
  unfolding dropped
  dropped_single s p = pairs_on_list row_key k (λ rs. []) c s _ (λ P a. tt) (λ q. tt) p

  dropped-length : length (dropped k c) ≤ length c
  unfolding dropped
  dropped-length = omega (arith, length-on_list row_key k (λ rs. []) c)

-- no element has a key whose list is empty
no_key : (k : ℕ) (l : List (List ℕ)) → under row_key k l ≡ [] → All (λ r. row_key r ≡ k → ⊥) l
no_key k [] e = tt
no_key k (r ∷ l) e =
    by_test (eqb (row_key r) k)
    (λ q. absurd (cons≢nil (rw q at e)))
    (λ q. (eqb-false (row_key r) k q, no_key k l (rw q at e)))

pub all_rows_by : (b : Bool) (k : ℕ) (c : List (List ℕ)) (P : List ℕ → Type 0) → All P c → All P (rows_by b k c)
all_rows_by true k c P a = all_dropped k c P a
all_rows_by false k c P a = a

pub rows_by-length : (b : Bool) (k : ℕ) (c : List (List ℕ)) → length (rows_by b k c) ≤ length c
rows_by-length true k c = dropped-length k c
rows_by-length false k c = omega arith

module _ (p c : List (List ℕ)) (h : PackedRows p c) (k : ℕ) (test : List ℕ → Bool) where
  abbrev left : List (List ℕ)
  left = on_list row_key k (take_out test) p

  all_left : (P : List ℕ → Type 0) → All P p → All P left
  all_left P a = all_on_list row_key k (take_out test) p P (λ b. all_take_out P test (under row_key k p) b) a

  still_listed : (r : List ℕ) → (row_key r ≡ k → ⊥) → Filled (under row_key (row_key r) p) → Filled (under row_key (row_key r) left)
  still_listed r n f = rw (under-take_out_other row_key k test p (row_key r) n) f

  -- the list is empty
  none_left : under row_key k left ≡ [] → PackedRows left (dropped k c)
  none_left e =
      record {
        ordered = sorted-take_out row_key k test p h.ordered;
        in_order = dropped-sorted k c h.in_order;
        single = dropped_single k c h.in_order h.single;
        has_row = all_both _ _ (λ x. Filled (under row_key (row_key x) (dropped k c))) (λ x f n. rw (other_rows k c (row_key x) n) f) left (all_left _ h.has_row) (no_key k left e);
        has_list = all_both _ _ _ (λ r f n. still_listed r n f) (dropped k c) (all_dropped k c _ h.has_list) (other_keys k c);
        marks = all_dropped k c _ h.marks;
      }

  -- it is not
  some_left : Filled (under row_key k left) → PackedRows left c
  some_left f =
      record {
        ordered = sorted-take_out row_key k test p h.ordered;
        in_order = h.in_order;
        single = h.single;
        has_row = all_left _ h.has_row;
        has_list =
            all_map _ (λ r. Filled (under row_key (row_key r) left))
            (λ r g.
            elim (d_eq (row_key r) k) [
              | inl e ↦ rw e f
              | inr n ↦ still_listed r n g
            ])
            c h.has_list;
        marks = h.marks;
      }

  pub packed-remove : PackedRows left (rows_by (is_empty (under row_key k left)) k c)
  packed-remove = go (under row_key k left) refl
    where
      go : (u : List (List ℕ)) → under row_key k left ≡ u → PackedRows left (rows_by (is_empty u) k c)
      go [] e = none_left e
      go (x ∷ u) e = some_left (rw e tt)
