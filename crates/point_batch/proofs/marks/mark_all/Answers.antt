-- Assumes nothing.
use Rattle.basics.specs.Words.{ℕ, ◌+◌, ◌<◌, ◌≤◌, ◌≡◌, refl, sym, ◌∙◌, List, length, arith}
use Rattle.storage.specs.Meaning.Packed.{first, second}
use Rattle.point_records.specs.Meaning.Word.{tag_at}
use Rattle.point_batch.specs.Inner.Marks.{Walkable, MarkedTo}
use Rattle.point_batch.proofs.laws.MarkLaws.{Ahead, in_rows, ahead_entry, passed_by, set-row}
use Rattle.point_batch.proofs.marks.mark_all.Goals as goal
use Rattle.point_batch.proofs.marks.mark_all.Goals.{then-tag_in-ne0, else-tag_in-ne0}

-- the row looked at is one of those in use
row_in : {nums pool cells₀ cells : List (List ℕ)} {used rows c j : ℕ} → (w : Walkable nums pool used cells₀ rows) × MarkedTo nums pool used cells₀ rows cells j × Ahead pool used cells₀ rows c j × (j ≤ used)
    → j < used → (c < rows) × (c < length cells)
row_in {c = c} {j = j} i t =
    let r = in_rows i.0 c j t i.2 in
    (r, omega (arith, r, i.0.of_cells, i.1.long))

pub offset_bounds-cells-c : goal.offset_bounds-cells-c
offset_bounds-cells-c c = record { fits = omega (arith, (row_in c.loop-j.invariant c.loop-j-test.true).1) }

pub slice_copy_out-row : goal.slice_copy_out-row
slice_copy_out-row c = (row_in c.loop-j.invariant c.loop-j-test.true).1

pub overflow_add-c : goal.overflow_add-c
overflow_add-c c = record { fits = omega (arith, (row_in c.loop-j.invariant c.loop-j-test.true).1) }

pub loop-j-smaller : goal.loop-j-smaller
loop-j-smaller c =
    let i = c.loop-j.invariant in
    omega (arith, (row_in i c.loop-j-test.true).0, i.0.of_cells)

pub loop-j-preserved-then-row-e : goal.loop-j-preserved-then-row-e
loop-j-preserved-then-row-e c =
    let n : List (List ℕ) = c.args.nums.now in
    let l = c.loop-j in
    let t = c.loop-j-test.true in
    let w = l.invariant.0 in
    let tag : c.tag_in.result ≡ tag_at n (second c.args.pool.now l.j) = c.tag_in.ensures in (
      w,
      elim c.if-tag_in-ne0.branch [
        | then-tag_in-ne0 v ↦
            rw (v.cells-is, v.set_mark.ensures.0)
            (set-row w l.invariant.1 (l.j + 1) l.c (first l.cells l.c) (omega arith) t (row_in l.invariant t).0 refl c.if-row-e.true (λ z. v.if-tag_in-ne0.true (tag ∙ z)) v.set_mark.ensures.1)
        | else-tag_in-ne0 v ↦ rw v.cells-is (passed_by w l.invariant.1 (l.j + 1) (omega arith) (sym tag ∙ v.if-tag_in-ne0.false))
      ],
      ahead_entry w l.c l.j (l.j + 1) (omega arith) t l.invariant.2,
      omega (arith, t),
    )
