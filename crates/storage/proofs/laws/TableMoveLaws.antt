-- The table of cells, by place: what a store, an opened place and a closed one make of it. Assumes nothing.
use Rattle.basics.specs.Words.{ℕ, suc, ◌+◌, ◌-◌, ◌<◌, ◌≤◌, ◌≡◌, sym, ◌∙◌, ap, List, [], ◌∷◌, length, set, take, length-take-le, arith}
use Rattle.storage.specs.Inner.Keyed.{Sorted}
use Rattle.storage.specs.Meaning.Keyed.{below, under, written}
use Rattle.storage.specs.Meaning.Entries.{row_key}
use Rattle.storage.specs.Meaning.CellTable.{entered, dropped, marked}
use Rattle.storage.specs.Meaning.Packed.{first}
use Rattle.storage.specs.Inner.Store.{Filled}
use Rattle.storage.specs.Inner.Tables.{Rising}
use Rattle.storage.specs.Inner.Places.{end_of, opened, closed}
use Rattle.storage.proofs.laws.Places.{inserted, removed}
use Rattle.storage.proofs.laws.PlaceLaws.{written_same, written-opened, written-closed, written-set, length_inserted, length_removed}
use Rattle.storage.proofs.laws.TableLaws.{rising-sorted}
use Rattle.storage.proofs.laws.PackedLaws.{place-filled}
use Rattle.storage.proofs.laws.MoveLaws.{start_most}
use Rattle.storage.proofs.laws.PoolLaws.{end_within}
use Rattle.storage.proofs.laws.RowLaws.{one-row, row_here, row_nowhere, no_list, entered-new, entered-same, dropped-same, dropped-row, marked-same}
use Rattle.storage.proofs.laws.RowLaws.{marked_row}

-- the table is as it was
same : (cells new : List (List ℕ)) (n : ℕ) → n ≤ length cells → new ≡ take n cells → (n ≡ length new) × (cells ≡ written new cells)
same cells new n h e = (sym (ap length e ∙ length-take-le n cells h), sym (ap (λ m. written m cells) e ∙ written_same cells n h))

module _ (cells : List (List ℕ)) (n : ℕ) (room : n ≤ length cells) (s : Sorted row_key (take n cells)) (k at : ℕ) (e : at ≡ length (below row_key k (take n cells))) where
  pub at_within : at ≤ n
  at_within = omega (arith, e, start_most row_key (take n cells) s k, end_within cells n room s k)

  pub key-filled : at < n → first cells at ≡ k → Filled (under row_key k (take n cells))
  key-filled h q = place-filled n cells room k at h q

  pub filled-key : Filled (under row_key k (take n cells)) → (at < n → first cells at ≡ k → ⊥) → ⊥
  filled-key f n' = filled-nil (row_nowhere cells n room s k at e n')
    where
      filled-nil : end_of row_key k (take n cells) ≡ length (below row_key k (take n cells)) → ⊥
      filled-nil q = rw (no_list (take n cells) s k q) at f

  pub enter_old : at < n → first cells at ≡ k → (n ≡ length (entered k (take n cells))) × (cells ≡ written (entered k (take n cells)) cells)
  enter_old h q = same cells (entered k (take n cells)) n room (entered-same (take n cells) s k (row_here cells n room s k at e h q))

  pub enter_new : n < length cells → (at < n → first cells at ≡ k → ⊥) → (n + 1 ≡ length (entered k (take n cells))) × (opened cells at n (k ∷ 0 ∷ []) ≡ written (entered k (take n cells)) cells)
  enter_new h f =
      let w : entered k (take n cells) ≡ inserted (take n cells) at (k ∷ 0 ∷ []) = rw e (entered-new (take n cells) s k (row_nowhere cells n room s k at e f)) in
      (sym (ap length w ∙ length_inserted (take n cells) at (k ∷ 0 ∷ []) (omega (arith, at_within, length-take-le n cells room)) ∙ ap (λ m. m + 1) (length-take-le n cells room)), sym (ap (λ m. written m cells) w ∙ written-opened cells at n (k ∷ 0 ∷ []) at_within h))

module _ (cells : List (List ℕ)) (n : ℕ) (room : n ≤ length cells) (r : Rising row_key (take n cells)) (k at : ℕ) (e : at ≡ length (below row_key k (take n cells))) where
  s : Sorted row_key (take n cells)
  s = rising-sorted row_key (take n cells) r

  -- the key's list is the row at the place
  one : at < n → first cells at ≡ k → end_of row_key k (take n cells) ≡ suc (length (below row_key k (take n cells)))
  one h q = one-row row_key [] (take n cells) r k (row_here cells n room s k at e h q)

  pub drop_old : at < n → first cells at ≡ k → (n - 1 ≡ length (dropped k (take n cells))) × (closed cells at n ≡ written (dropped k (take n cells)) cells)
  drop_old h q =
      let w : dropped k (take n cells) ≡ removed (take n cells) at = rw e (dropped-row (take n cells) s k (one h q)) in
      (sym (ap length w ∙ length_removed (take n cells) at (omega (arith, h, length-take-le n cells room)) ∙ ap (λ m. m - 1) (length-take-le n cells room)), sym (ap (λ m. written m cells) w ∙ written-closed cells at n h room))

  pub drop-none : (at < n → first cells at ≡ k → ⊥) → (n ≡ length (dropped k (take n cells))) × (cells ≡ written (dropped k (take n cells)) cells)
  drop-none f = same cells (dropped k (take n cells)) n room (dropped-same (take n cells) s k (row_nowhere cells n room s k at e f))

  pub mark_old : at < n → first cells at ≡ k → set cells at (k ∷ 1 ∷ []) ≡ written (marked k (take n cells)) cells
  mark_old h q = sym (ap (λ m. written m cells) (marked_row (take n cells) s k (one h q) ∙ ap (λ i. set (take n cells) i (k ∷ 1 ∷ [])) (sym e)) ∙ written-set cells at n (k ∷ 1 ∷ []) h room)

  pub mark-none : (at < n → first cells at ≡ k → ⊥) → cells ≡ written (marked k (take n cells)) cells
  mark-none f = (same cells (marked k (take n cells)) n room (marked-same (take n cells) s k (row_nowhere cells n room s k at e f))).1
