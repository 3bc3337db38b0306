-- Where the marked slots and those that the map has are all, it is enough that the latter are free. Assumes nothing.
use Rattle.basics.specs.Words.{◌*◌, length, arith}
use Rattle.slots.specs.Meaning.Map.{words_for}
use Rattle.slots.proofs.laws.CountLaws.{usable-most, usable_of_n}
use Rattle.point_tables.proofs.laws.CoverLaws.{each_of, each_free}
use Rattle.point_tables.proofs.slots_ok.Goals as goal

pub overflow_add-used : goal.overflow_add-used
overflow_add-used c =
    record { fits = omega (arith, c.requires.0.most, c.requires.1.most, c.count_usable.ensures, usable-most c.args.map.now (words_for (length c.args.nums.now) * 64)) }

pub returns-then-used-count_usable : goal.returns-then-used-count_usable
returns-then-used-count_usable c =
    let a = c.args in
    let past = c.past_ok.ensures.yes c.if-past_ok.true in
    let e = rw (c.count_usable.ensures, usable_of_n a.map.now (length a.nums.now) past) at c.if-used-count_usable.true in
    record {
      yes = λ y. record { each = each_of a.nums.now a.map.now a.marks.now a.used c.requires.1 e (c.free_ok.ensures.yes y); past = past };
      no = λ h. c.free_ok.ensures.no (each_free a.nums.now a.map.now a.marks.now h.each);
    }
