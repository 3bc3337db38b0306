-- What a query finds in tables that hold a grid: something exactly when an entry of the cells of the query box has a box that it intersects. So a pass over
-- the windows of the blocks says what the queries of the blocks' boxes would. Assumes nothing.
use Rattle.basics.specs.Words.{ℕ, suc, ◌<◌, ◌≡◌, sym, ap, ◌∙◌, Bool, true, ◌&&◌, List, map, T, arith}
use Rattle.basics.specs.Meaning.Says.{Says}
use Rattle.basics.proofs.laws.Says.{says_same}
use Rattle.geometry.specs.declared.Aabb.{Aabb}
use Rattle.geometry.specs.Meaning.Domain.{aabb_in_domain}
use Rattle.geometry.specs.Meaning.Intersects.{intersects}
use Rattle.storage.specs.Meaning.Entries.{row_key}
use Rattle.storage.specs.Inner.Window.{window_of}
use Rattle.storage.proofs.laws.PackedLaws.{first_all}
use Rattle.storage.proofs.laws.TakeOutLaws.{has}
use Rattle.storage.proofs.laws.WindowLaws.{has_member, member_has}
use Rattle.box_cover.proofs.laws.ListLaws.{has_map}
use Rattle.box_tables.specs.Meaning.Tables.{Tables, size_of, used_of, entries_in, aabb_on, low_cell, high_cell, slot_of}
use Rattle.box_tables.specs.Meaning.Holds.{Holds}
use Rattle.box_tables.proofs.laws.HoldsLaws.{Named, named-slot, used_in_pool, entries_sorted, entries-named}
use Rattle.box_search.specs.Meaning.Firsts.{firsts}
use Rattle.box_search.specs.Meaning.Search.{range_entries, broad, narrow}
use Rattle.box_search.proofs.laws.FirstsLaws.{firsts_of, of_firsts}
use Rattle.box_search.proofs.laws.WalkLaws.{walk_window}
use Rattle.encoder_blocks.specs.Meaning.Blocks.{side, columns, blocks, block_box}
use Rattle.encoder_blocks.specs.Meaning.Some.{some}
use Rattle.encoder_blocks.specs.Inner.Places.{cell, column_at, line_at}
use Rattle.encoder_blocks.proofs.laws.PlaceLaws.{column_in, line_in}
use Rattle.encoder_blocks.proofs.laws.BoxLaws.{block_in_domain, block_low, block_high}
use Rattle.encoder_boxes.specs.Meaning.Boxes.{boxed}
use Rattle.encoder_boxes.specs.Inner.Windows.{Stocked, crosses, met}
use Rattle.encoder_blocks.proofs.laws.HasLaws.{some-filter, has_both}

-- each number once is the same numbers
has_firsts : (test : ℕ → Bool) (l : List ℕ) → has test (firsts l) ≡ has test l
has_firsts test l = says_same (has test (firsts l)) (has test l) of_firsts_says (record { yes = λ e. e; no = λ e. e })
  where
    of_firsts_says : Says (has test (firsts l)) (has test l ≡ true)
    of_firsts_says = record {
      yes = λ e. let m = member_has test (firsts l) e in has_member test m.0 l (firsts_of m.0 l m.1) m.2;
      no = λ e. let m = member_has test l e in has_member test m.0 (firsts l) (of_firsts m.0 l m.1) m.2;
    }

module _ (b : Tables) (h : Holds b) where
  pub narrow-some : (q : Aabb) → T (aabb_in_domain q)
      → some (narrow b q) ≡ has (λ row. window_of (low_cell (size_of b) q) (high_cell (size_of b) q) (row_key row) && crosses b.reals q row) (entries_in b)
  unfolding narrow broad
  narrow-some q d =
      some-filter (λ s. intersects q (aabb_on b s)) (broad b q)
      ∙ has_firsts (λ s. intersects q (aabb_on b s)) (map slot_of (range_entries b q))
      ∙ has_map (λ s. intersects q (aabb_on b s)) slot_of (range_entries b q)
      ∙ ap (has (crosses b.reals q)) (walk_window b h q d)
      ∙ has_both (crosses b.reals q) (λ row. window_of (low_cell (size_of b) q) (high_cell (size_of b) q) (row_key row)) (entries_in b)

  pub boxed_is : size_of b ≡ side → (k : ℕ) → k < blocks → met b.reals (entries_in b) (column_at k) (line_at k) ≡ boxed b (column_at k) (line_at k)
  unfolding met boxed
  boxed_is e k l =
      let i = column_at k in
      let j = line_at k in
      let q = block_box i j in
      let hi = column_in k in
      let hj : j < columns = omega (arith, line_in k l) in
      let low : low_cell (size_of b) q ≡ cell i j = ap (λ n. low_cell n q) e ∙ block_low i j hi hj in
      let high : high_cell (size_of b) q ≡ cell (suc i) (suc j) = ap (λ n. high_cell n q) e ∙ block_high i j hi hj in
      sym (narrow-some q (block_in_domain i j hi hj) ∙ (λ z. has (λ row. window_of (low z) (high z) (row_key row) && crosses b.reals q row) (entries_in b)))

  pub stocked : Stocked b.reals b.pool (used_of b)
  stocked = record {
    in_pool = used_in_pool b h;
    sorted = entries_sorted b h;
    named = λ j l.
        let n = first_all (used_of b) b.pool (used_in_pool b h) (Named b) (entries-named b h) j l in
        omega (arith, named-slot b _ n, n.inside, h.sized.of_reals);
  }
