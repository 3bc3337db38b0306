-- Tables that hold a grid, gathered and spread again: every slot has the same record, and they hold the same grid. Assumes nothing.
use Rattle.basics.specs.Words.{ℕ, zero, suc, ◌≤◌, zero-le, ◌≡◌, refl, sym, subst, ◌∙◌, List, [], ◌∷◌, length, not-suc-le-zero, suc_inj}
use Rattle.point_records.specs.declared.Record.{Record}
use Rattle.point_records.specs.Meaning.Columns.{nums_of, reals_of, ints_of}
use Rattle.point_records.proofs.laws.ColumnLaws.{word_of_row}
use Rattle.point_tables.specs.Meaning.Tables.{Tables, slots_of, record_on}
use Rattle.point_tables.specs.Meaning.Holds.{Holds}
use Rattle.records.specs.Meaning.Spread.{laid, besides, records_in}
use Rattle.records.specs.Inner.Alike.{Alike}
use Rattle.records.proofs.laws.Alike.{Worded}
use Rattle.records.proofs.laws.SpreadLaws.{laid-length, gathered-length, record_at_again}
use Rattle.records.proofs.laws.AlikeLaws.{holds-alike}

no_zero : (k : ℕ) → suc k ≡ 0 → ⊥
no_zero k e = not-suc-le-zero (subst (λ (m : ℕ). m ≤ 0) (sym e) zero-le)

-- in columns of as many rows as there are records every word is that of a record
pub spread_worded : (rs : List Record) (ns : List (List ℕ)) → length ns ≡ length rs → Worded (laid nums_of rs ns)
spread_worded [] [] e s = zero-le
spread_worded [] (n ∷ ns) e s = absurd (no_zero (length ns) e)
spread_worded (r ∷ rs) [] e s = zero-le
spread_worded (r ∷ rs) (n ∷ ns) e zero = word_of_row r
spread_worded (r ∷ rs) (n ∷ ns) e (suc s) = spread_worded rs ns (suc_inj e) s

-- t gathered into a table of as many records as it has slots, and spread again
module _ (t : Tables) (rs : List Record) (h : Holds t) (e : slots_of t ≡ length rs) where
  abbrev pub again : Tables
  again = besides (records_in t rs) t

  pub alike_again : Alike t again
  alike_again =
      record {
        of_nums = sym (laid-length nums_of (records_in t rs) t.nums);
        of_reals = sym (laid-length reals_of (records_in t rs) t.reals);
        of_ints = sym (laid-length ints_of (records_in t rs) t.ints);
        each = record_at_again t.nums t.reals t.ints rs e (h.sized.of_reals ∙ e) (h.sized.of_ints ∙ e);
        rest = refl;
      }

  pub same-records : (s : ℕ) → record_on again s ≡ record_on t s
  same-records s = sym (alike_again.each s)

  worded_again : Worded again.nums
  worded_again = spread_worded (records_in t rs) t.nums (e ∙ sym (gathered-length t.nums t.reals t.ints rs))

  pub holds_again : Holds again
  holds_again = holds-alike t again alike_again worded_again h
