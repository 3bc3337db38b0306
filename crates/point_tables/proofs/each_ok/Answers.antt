-- The test of every slot says that each holds. Assumes nothing.
use Rattle.basics.specs.Words.{ℕ, ◌<◌, Bool, true, false, length, get_or, arith, rules}
use Rattle.std.specs.Prelude.{MatchBool}
use Rattle.std.proofs.Common.{zero-add}
use Rattle.std.specs.List.{AllWithin, HoldsAt, range_with_len}
use Rattle.std.proofs.lemmas.Iterator.{cases_from_all, YieldsList-from_range}
use Rattle.std.proofs.lemmas.List.FromFn.{length-range_with_len, get_or-range_with_len}
use Rattle.basics.specs.Meaning.Says.{Says}
use Rattle.basics.proofs.laws.Says.{says_yes, says_no}
use Rattle.point_tables.specs.Inner.Check.{SlotOk}
use Rattle.point_tables.proofs.each_ok.Goals as goal

-- all of the first n numbers
says-each : (P : ℕ → Type 0) (n : ℕ) (r : Bool) → let l = range_with_len 0 n in MatchBool r (AllWithin P l 0 (length l)) ((k : ℕ) × (k < length l) × HoldsAt (λ i. P i → ⊥) l k) → Says r ((i : ℕ) → i < n → P i)
says-each P n true m = says_yes (λ i h. rw (get_or-range_with_len 0 n i 0 h, zero-add i) at (m i 0 (omega arith) (rw length-range_with_len h)))
says-each P n false m = says_no (λ p. let h = rw length-range_with_len at m.1 in rw (get_or-range_with_len 0 n m.0 0 h, zero-add m.0) at (m.2 0) (p m.0 h))

pub returns : goal.returns
returns c =
    let a = c.args in
    let P : ℕ → Type 0 = λ i. SlotOk a.nums.now a.map.now i (get_or a.marks.now i false) in
    let n = length a.nums.now in
    says-each P n _ (cases_from_all _ _ _ P (λ i. P i → ⊥) c.all.ensures.ran (YieldsList-from_range 0 n n (cc) (omega arith)) (λ x q k. search rules) (λ x q k. search rules))
