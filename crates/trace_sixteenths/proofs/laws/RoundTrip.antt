-- A coordinate's field, read, turned into binary32, turned back and written, is the same bytes. Assumes nothing.
use Rattle.basics.specs.Words.{ℕ, ◌≡◌, sym, ap, ◌∙◌, List, ℤ}
use Rattle.std.specs.Prelude.{Some}
use Rattle.trace_decimals.specs.Meaning.Text.{signed_text}
use Rattle.trace_decimals.specs.Meaning.Fields.{count_of}
use Rattle.trace_decimals.proofs.laws.CountLaws.{count_text}
use Rattle.trace_sixteenths.specs.Meaning.Sixteenth.{sixteenth, sixteenths_of}
use Rattle.trace_sixteenths.proofs.laws.SixteenthLaws.{count-back}

pub coordinate_round_trip : (field : List ℕ) (k : ℤ) → count_of field ≡ Some k → signed_text (sixteenths_of (sixteenth k)) ≡ field
coordinate_round_trip field k e =
    let t = count_text field k e in
    ap signed_text (count-back k t.1) ∙ sym t.0
