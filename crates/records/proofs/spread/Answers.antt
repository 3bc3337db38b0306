-- What one turn does to a column, and that all rows are new past the last record or row. Assumes nothing.
use Rattle.basics.specs.Words.{ℕ, ◌+◌, ◌<◌, ◌≡◌, sym, ◌∙◌, List, length, get_or, set, add-one, arith}
use Rattle.point_records.specs.declared.Record.{Record}
use Rattle.point_records.specs.Meaning.Columns.{nums_of, reals_of, ints_of}
use Rattle.records.proofs.LoopLaws.{first_laid, laid_0, laid_all, laid_next}
use Rattle.records.proofs.spread.Goals as goal

-- a row more
row_new : {X : Type 0} (row : Record → X) (rs : List Record) (old us : List X) (i : ℕ) (d : Record) (x : X) → us ≡ first_laid row rs old i → i < length rs → x ≡ row (get_or rs i d) → set us i x ≡ first_laid row rs old (i + 1)
row_new row rs old us i d x e h w = let n = laid_next row rs old i d h in let s = add-one i in cc

pub nums-init : goal.nums-init
nums-init c = sym (laid_0 nums_of c.args.records.now c.args.nums.now)

pub nums-preserved : goal.nums-preserved
nums-preserved c = row_new nums_of c.args.records.now c.args.nums.now c.nums.nums c.nums.i _ _ c.nums.invariant (omega arith) c.nums_of.ensures

pub reals-init : goal.reals-init
reals-init c = sym (laid_0 reals_of c.args.records.now c.args.reals.now)

pub reals-preserved : goal.reals-preserved
reals-preserved c = row_new reals_of c.args.records.now c.args.reals.now c.reals.reals c.reals.i _ _ c.reals.invariant (omega arith) c.reals_of.ensures

pub ints-init : goal.ints-init
ints-init c = sym (laid_0 ints_of c.args.records.now c.args.ints.now)

pub ints-preserved : goal.ints-preserved
ints-preserved c = row_new ints_of c.args.records.now c.args.ints.now c.ints.ints c.ints.i _ _ c.ints.invariant (omega arith) c.ints_of.ensures

pub returns : goal.returns
returns c =
    let rs = c.args.records.now in (
      c.nums.invariant ∙ laid_all nums_of rs c.args.nums.now c.nums.i (omega arith),
      c.reals.invariant ∙ laid_all reals_of rs c.args.reals.now c.reals.i (omega arith),
      c.ints.invariant ∙ laid_all ints_of rs c.args.ints.now c.ints.i (omega arith),
    )
