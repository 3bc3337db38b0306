-- The words that a record may begin with, in ASCII, and what each asks for. Assumes nothing.
use Rattle.std.specs.Prelude.{◌&&◌, ◌∷◌, ◌++◌}
use Rattle.basics.specs.Words.{ℕ, Bool, true, false, List, [], eqb}
use Rattle.basics.specs.Meaning.Refusals.{pick}
use Rattle.trace_lines.specs.declared.Line.{Line}
use Rattle.trace_lines.specs.declared.Line.TheVariants.{Cell, PointChange, PointSearch, BoxChange, BoxSearch, Unreadable}
use Rattle.trace_lines.specs.declared.PointChange.TheVariants.{Ins, Pos, Rem, Now, Mnt}
use Rattle.trace_lines.specs.declared.PointSearch.TheVariants.{Cir, Rec, Cel, Near}
use Rattle.trace_lines.specs.declared.BoxChange.TheVariants.{Bin, Bset, Brem}
use Rattle.trace_lines.specs.declared.Asks.{Asks}

-- slot and version, so many places, a radius, one more number, a tracker
abbrev pub asks : Line → Bool → ℕ → Bool → Bool → Bool → Asks
asks line handle places radius number tracker =
    record { line = line; handle = handle; places = places; radius = radius; number = number; tracker = tracker }

pub record WordRow : Type 0 where
  pub letters : List ℕ
  pub asked : Asks

abbrev pub word_row : List ℕ → Line → Bool → ℕ → Bool → Bool → Bool → WordRow
word_row w line handle places radius number tracker = record { letters = w; asked = asks line handle places radius number tracker }

-- ins pos rem now mnt
abbrev pub point_changes : List WordRow
point_changes =
    word_row (105 ∷ 110 ∷ 115 ∷ []) (PointChange Ins) false 1 false true true
    ∷ word_row (112 ∷ 111 ∷ 115 ∷ []) (PointChange Pos) true 1 false false true
    ∷ word_row (114 ∷ 101 ∷ 109 ∷ []) (PointChange Rem) true 0 false false true
    ∷ word_row (110 ∷ 111 ∷ 119 ∷ []) (PointChange Now) true 0 false false true
    ∷ word_row (109 ∷ 110 ∷ 116 ∷ []) (PointChange Mnt) false 0 false false false
    ∷ []

-- cir rec cel near
abbrev pub point_searches : List WordRow
point_searches =
    word_row (99 ∷ 105 ∷ 114 ∷ []) (PointSearch Cir) false 1 true false false
    ∷ word_row (114 ∷ 101 ∷ 99 ∷ []) (PointSearch Rec) false 2 false false false
    ∷ word_row (99 ∷ 101 ∷ 108 ∷ []) (PointSearch Cel) false 2 false false false
    ∷ word_row (110 ∷ 101 ∷ 97 ∷ 114 ∷ []) (PointSearch Near) false 1 true false false
    ∷ []

-- bin bset brem bqry
abbrev pub box_lines : List WordRow
box_lines =
    word_row (98 ∷ 105 ∷ 110 ∷ []) (BoxChange Bin) false 2 false true false
    ∷ word_row (98 ∷ 115 ∷ 101 ∷ 116 ∷ []) (BoxChange Bset) true 2 false false false
    ∷ word_row (98 ∷ 114 ∷ 101 ∷ 109 ∷ []) (BoxChange Brem) true 0 false false false
    ∷ word_row (98 ∷ 113 ∷ 114 ∷ 121 ∷ []) BoxSearch false 2 false false false
    ∷ []

-- `cell` and the others
abbrev pub table : List WordRow
table = word_row (99 ∷ 101 ∷ 108 ∷ 108 ∷ []) Cell false 0 false true false ∷ (point_changes ++ (point_searches ++ box_lines))

abbrev pub same_bytes : List ℕ → List ℕ → Bool
same_bytes [] [] = true
same_bytes [] (b ∷ m) = false
same_bytes (a ∷ l) [] = false
same_bytes (a ∷ l) (b ∷ m) = eqb a b && same_bytes l m

-- what a row says of a word, and where it is another word, the rows behind it
unfoldable pub row_says : WordRow → List ℕ → Asks → Asks
row_says r w others = pick (same_bytes w r.letters) r.asked others

abbrev pub found_in : List WordRow → List ℕ → Asks → Asks
found_in [] w others = others
found_in (r ∷ rs) w others = row_says r w (found_in rs w others)

-- any other word is unreadable and asks for nothing
unfoldable pub asked_by : List ℕ → Asks
asked_by w = found_in table w (asks Unreadable false 0 false false false)
