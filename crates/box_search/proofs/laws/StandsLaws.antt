-- An item that stands in the lists of a range: its entries are those of the cells of the range. Assumes nothing.
use Rattle.basics.specs.Words.{ℕ, ◌≡◌, sym, subst, true, List, [], ◌∷◌, map, Memᴰ, Memᴰ-head, Memᴰ-tail, Memᴰ-cases_cons, Memᴰ-not_nil}
use Rattle.basics.specs.Words.{Memᴰ-map, Memᴰ-of_map, ⊎_elim, eqb-true, eq-eqb}
use Rattle.cells.specs.declared.Cell.{Cell}
use Rattle.cells.specs.Meaning.Key.{key_of}
use Rattle.cells.specs.Meaning.Range.{range_cells}
use Rattle.cells.proofs.laws.Range.{in_range}
use Rattle.cells.proofs.laws.RangeLaws.{in_cells, cells_in_lem}
use Rattle.storage.specs.Meaning.Keyed.{All, filter}
use Rattle.storage.specs.Meaning.Entries.{row_key, row_item, is_item}
use Rattle.box_cover.specs.Meaning.Coverage.{Stands}
use Rattle.box_search.proofs.laws.FirstsLaws.{filter_member, member_filter}

-- ---- facts of all, by members
module _ {A : Type 0} (P : A → Type 0) where
  pub all_member : (l : List A) → All P l → (x : A) → Memᴰ x l → P x
  all_member [] a x m = absurd (Memᴰ-not_nil m)
  all_member (y ∷ l) a x m = ⊎_elim (λ e. subst P (sym e) a.0) (λ k. all_member l a.1 x k) (Memᴰ-cases_cons m)

  pub member_all : (l : List A) → ((x : A) → Memᴰ x l → P x) → All P l
  member_all [] f = tt
  member_all (y ∷ l) f = (f y (Memᴰ-head (λ z. y)), member_all l (λ x m. f x (Memᴰ-tail m)))

module _ (a b : Cell) (item : ℕ) (rows : List (List ℕ)) (s : Stands a b item rows) where
  -- an entry of the item is in the list of a cell of the range
  pub stands-cell : (r : List ℕ) → Memᴰ r rows → row_item r ≡ item → (c : Cell) × (in_range a b c ≡ true) × (key_of c ≡ row_key r)
  stands-cell r m e =
      let k : Memᴰ (row_key r) (map key_of (range_cells a b)) =
      subst (Memᴰ (row_key r)) s (Memᴰ-map row_key (filter_member (is_item item) r rows m (eq-eqb (row_item r) item e))) in
      let f = Memᴰ-of_map key_of (range_cells a b) k in
      (f.0, cells_in_lem a b f.0 f.1, f.2)

  -- each cell of the range has an entry of it
  pub cell-stands : (c : Cell) → in_range a b c ≡ true → (r : List ℕ) × Memᴰ r rows × (row_item r ≡ item) × (row_key r ≡ key_of c)
  cell-stands c i =
      let k : Memᴰ (key_of c) (map row_key (filter (is_item item) rows)) = subst (Memᴰ (key_of c)) (sym s) (Memᴰ-map key_of (in_cells a b c i)) in
      let f = Memᴰ-of_map row_key (filter (is_item item) rows) k in
      let g = member_filter (is_item item) f.0 rows f.1 in
      (f.0, g.0, eqb-true (row_item f.0) item g.1, f.2)
