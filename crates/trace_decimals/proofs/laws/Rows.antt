-- Worked rows: texts, and fields that read and that do not. Assumes nothing.
use Rattle.basics.specs.Words.{◌≡◌, refl, [], ◌∷◌, map, pos, negsuc}
use Rattle.std.specs.Prelude.{Some, None}
use Rattle.trace_decimals.specs.Meaning.Text.{signed_text}
use Rattle.trace_decimals.specs.Meaning.Fields.{number_of, count_of}

-- 0, the largest number, and the count that is farthest below 0
texts : map signed_text (pos 0 ∷ pos 4294967295 ∷ negsuc 1048575 ∷ []) ≡ (48 ∷ []) ∷ (52 ∷ 50 ∷ 57 ∷ 52 ∷ 57 ∷ 54 ∷ 55 ∷ 50 ∷ 57 ∷ 53 ∷ []) ∷ (45 ∷ 49 ∷ 48 ∷ 52 ∷ 56 ∷ 53 ∷ 55 ∷ 54 ∷ []) ∷ []
unfolding signed_text
texts = refl

-- a field of one digit, of none, with a leading zero, with a plus, and one too large
numbers : map number_of ((48 ∷ []) ∷ [] ∷ (48 ∷ 55 ∷ []) ∷ (43 ∷ 55 ∷ []) ∷ (52 ∷ 50 ∷ 57 ∷ 52 ∷ 57 ∷ 54 ∷ 55 ∷ 50 ∷ 57 ∷ 54 ∷ []) ∷ []) ≡ Some 0 ∷ None ∷ None ∷ None ∷ None ∷ []
unfolding number_of
numbers = refl

-- -160; -0, a minus alone, and one past the farthest
counts : map count_of ((45 ∷ 49 ∷ 54 ∷ 48 ∷ []) ∷ (45 ∷ 48 ∷ []) ∷ (45 ∷ []) ∷ (49 ∷ 48 ∷ 52 ∷ 56 ∷ 53 ∷ 55 ∷ 55 ∷ []) ∷ []) ≡ Some (negsuc 159) ∷ None ∷ None ∷ None ∷ []
unfolding count_of
counts = refl
