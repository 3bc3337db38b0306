-- The record that tells an answer: a refusal is its number alone; after 0 come the numbers that there are to tell, and for a query its
-- count and then slot, version, coordinates, data and tracker of each finding of points; slot, version and corners of boxes. Assumes nothing.
use Rattle.std.specs.Prelude.{◌∷◌, ◌++◌, Float}
use Rattle.basics.specs.Words.{ℕ, zero, suc, List, [], get_or}
use Rattle.std.specs.Float.{nan}
use Rattle.trace_decimals.specs.Meaning.Text.{decimal, signed_text}
use Rattle.trace_sixteenths.specs.Meaning.Sixteenth.{sixteenths_of}
use Rattle.trace_printing.specs.declared.Said.{Said}
use Rattle.trace_printing.specs.declared.Said.TheVariants.{Refused, Done, One, Two, Points, Boxes}

-- ---- a field that is not the first has a comma before it
abbrev pub number_field : ℕ → List ℕ
number_field n = 44 ∷ decimal n

abbrev pub coordinate_field : Float → List ℕ
coordinate_field x = 44 ∷ signed_text (sixteenths_of x)

-- ---- findings
-- slot and version, or data and tracker
abbrev pub pair_text : List ℕ → List ℕ
pair_text h = number_field (get_or h 0 0) ++ number_field (get_or h 1 0)

abbrev pub place_text : List Float → List ℕ
place_text p = coordinate_field (get_or p 0 nan) ++ coordinate_field (get_or p 1 nan)

abbrev pub corners_text : List Float → List ℕ
corners_text b = place_text b ++ (coordinate_field (get_or b 2 nan) ++ coordinate_field (get_or b 3 nan))

-- the first n findings of the point queries, and of the box query
abbrev pub points_text : List (List ℕ) → List (List Float) → List (List ℕ) → ℕ → List ℕ
points_text handles places objs zero = []
points_text handles places objs (suc n) = points_text handles places objs n ++ (pair_text (get_or handles n []) ++ (place_text (get_or places n []) ++ pair_text (get_or objs n [])))

abbrev pub boxes_text : List (List ℕ) → List (List Float) → ℕ → List ℕ
boxes_text handles boxes zero = []
boxes_text handles boxes (suc n) = boxes_text handles boxes n ++ (pair_text (get_or handles n []) ++ corners_text (get_or boxes n []))

-- ---- the whole record
unfoldable pub said_text : Said → List (List ℕ) → List (List Float) → List (List Float) → List (List ℕ) → List ℕ
said_text (Refused a) handles places boxes objs = decimal a
said_text Done handles places boxes objs = decimal 0
said_text (One x) handles places boxes objs = decimal 0 ++ number_field x
said_text (Two x y) handles places boxes objs = decimal 0 ++ (number_field x ++ number_field y)
said_text (Points n) handles places boxes objs = decimal 0 ++ (number_field n ++ points_text handles places objs n)
said_text (Boxes n) handles places boxes objs = decimal 0 ++ (number_field n ++ boxes_text handles boxes n)

abbrev pub crlf : List ℕ
crlf = 13 ∷ 10 ∷ []

unfoldable pub record_text : Said → List (List ℕ) → List (List Float) → List (List Float) → List (List ℕ) → List ℕ
unfolding said_text
record_text said handles places boxes objs = said_text said handles places boxes objs ++ crlf

-- no record is longer: 256 findings with six numbers each need 17,431 bytes at most
abbrev pub longest : ℕ
longest = 18000
