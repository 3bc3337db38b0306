-- A record as the code walks it; and of the records of an input the first 129 bytes are enough. Assumes nothing.
use Rattle.basics.specs.Words.{ℕ, ◌≤◌, ◌<◌, ◌≡◌, refl, sym, ap, ◌∙◌, Bool, List, [], ◌∷◌, map, ⊎_elim, length, take, length-take, take_all, arith, le-leb}
use Rattle.basics.specs.Words.{lt-leb}
use Rattle.basics.specs.Meaning.Refusals.{pick}
use Rattle.basics.proofs.laws.Says.{d_le}
use Rattle.trace_splits.specs.Inner.Records.{records_of}
use Rattle.trace_splits.specs.Meaning.Sofar.{begun}
use Rattle.trace_splits.proofs.laws.Sofar.{records_from}
use Rattle.trace_splits.proofs.laws.SplitLaws.{splits_records}
use Rattle.trace_lines.specs.Meaning.Fields.{fields_of}
use Rattle.trace_lines.specs.Meaning.Requests.{unreadable, of_fields, request_of}
use Rattle.trace_lines.specs.Inner.Cursor.{fields_from}
use Rattle.trace_lines.proofs.laws.CursorLaws.{fields_from_start}

pub too_long : (bytes : List ℕ) → 128 < length bytes → request_of bytes ≡ unreadable
unfolding request_of
too_long bytes h = ap (λ (t : Bool). pick t (of_fields (fields_of bytes)) unreadable) (lt-leb (length bytes) 128 h)

pub not_long : (bytes : List ℕ) → length bytes ≤ 128 → request_of bytes ≡ of_fields (fields_from bytes 0)
unfolding request_of
not_long bytes h = ap (λ (t : Bool). pick t (of_fields (fields_of bytes)) unreadable) (le-leb (length bytes) 128 h) ∙ ap of_fields (sym (fields_from_start bytes))

-- ---- of a record its first 129 bytes are enough
pub cut_read : (bytes : List ℕ) → request_of (take 129 bytes) ≡ request_of bytes
cut_read bytes =
    ⊎_elim
    (λ h. ap request_of (take_all 129 bytes (omega arith)))
    (λ h. too_long (take 129 bytes) (omega (arith, h, length-take 129 bytes)) ∙ sym (too_long bytes (omega (arith, h))))
    (d_le (length bytes) 128)

all_cut : (rs : List (List ℕ)) → map request_of (map (take 129) rs) ≡ map request_of rs
all_cut [] = refl
all_cut (r ∷ rs) = λ z. cut_read r z ∷ all_cut rs z

-- an input that is split in a line of 130 bytes is read record by record
pub requests_of_input : (input : List ℕ) → map request_of (records_from 130 begun input) ≡ map request_of (records_of input)
requests_of_input input = ap (map request_of) (splits_records 130 (omega arith) input) ∙ all_cut (records_of input)
