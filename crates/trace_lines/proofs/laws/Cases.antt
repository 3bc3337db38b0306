-- Records and what they read as, row by row.
use Rattle.basics.specs.Words.{◌≡◌, refl, [], ◌∷◌, map, pos, negsuc}
use Rattle.trace_decimals.specs.Meaning.Fields.{digits_from, up_to, number_of, count_of}
use Rattle.trace_lines.specs.declared.Line.TheVariants.{Cell, PointChange, PointSearch}
use Rattle.trace_lines.specs.declared.PointChange.TheVariants.{Ins, Pos, Rem, Now, Mnt}
use Rattle.trace_lines.specs.declared.PointSearch.TheVariants.{Cir, Near}
use Rattle.trace_lines.specs.Meaning.Fields.{fields_of}
use Rattle.trace_lines.specs.Meaning.Words.{row_says, asked_by}
use Rattle.trace_lines.specs.Meaning.Taken.{nobody, no_spot}
use Rattle.trace_lines.specs.Meaning.Requests.{request, unreadable, arguments_of, of_fields, request_of}

-- cell,10; mnt; rem,0,1,3; rem,0,1; now,1,1,4294967295; now,1,1,4294967296; pos,0,1,160,-80,8; pos,0,1,160,-80; cir,0,-0,0; cir,0,0,-1; ins,-160,80,7,3; ins,-160,80,7; nothing; mnt,; mnt and a space; cell; cell,; cell,+1; cell,01; cell,1,1; cell,4294967295; cell,4294967296; cells,1; cir,0,0,1048577; near,-1,0,16; near,1,0
pub cases : map request_of ((99 ∷ 101 ∷ 108 ∷ 108 ∷ 44 ∷ 49 ∷ 48 ∷ []) ∷ (109 ∷ 110 ∷ 116 ∷ []) ∷ (114 ∷ 101 ∷ 109 ∷ 44 ∷ 48 ∷ 44 ∷ 49 ∷ 44 ∷ 51 ∷ []) ∷ (114 ∷ 101 ∷ 109 ∷ 44 ∷ 48 ∷ 44 ∷ 49 ∷ []) ∷ (110 ∷ 111 ∷ 119 ∷ 44 ∷ 49 ∷ 44 ∷ 49 ∷ 44 ∷ 52 ∷ 50 ∷ 57 ∷ 52 ∷ 57 ∷ 54 ∷ 55 ∷ 50 ∷ 57 ∷ 53 ∷ []) ∷ (110 ∷ 111 ∷ 119 ∷ 44 ∷ 49 ∷ 44 ∷ 49 ∷ 44 ∷ 52 ∷ 50 ∷ 57 ∷ 52 ∷ 57 ∷ 54 ∷ 55 ∷ 50 ∷ 57 ∷ 54 ∷ []) ∷ (112 ∷ 111 ∷ 115 ∷ 44 ∷ 48 ∷ 44 ∷ 49 ∷ 44 ∷ 49 ∷ 54 ∷ 48 ∷ 44 ∷ 45 ∷ 56 ∷ 48 ∷ 44 ∷ 56 ∷ []) ∷ (112 ∷ 111 ∷ 115 ∷ 44 ∷ 48 ∷ 44 ∷ 49 ∷ 44 ∷ 49 ∷ 54 ∷ 48 ∷ 44 ∷ 45 ∷ 56 ∷ 48 ∷ []) ∷ (99 ∷ 105 ∷ 114 ∷ 44 ∷ 48 ∷ 44 ∷ 45 ∷ 48 ∷ 44 ∷ 48 ∷ []) ∷ (99 ∷ 105 ∷ 114 ∷ 44 ∷ 48 ∷ 44 ∷ 48 ∷ 44 ∷ 45 ∷ 49 ∷ []) ∷ (105 ∷ 110 ∷ 115 ∷ 44 ∷ 45 ∷ 49 ∷ 54 ∷ 48 ∷ 44 ∷ 56 ∷ 48 ∷ 44 ∷ 55 ∷ 44 ∷ 51 ∷ []) ∷ (105 ∷ 110 ∷ 115 ∷ 44 ∷ 45 ∷ 49 ∷ 54 ∷ 48 ∷ 44 ∷ 56 ∷ 48 ∷ 44 ∷ 55 ∷ []) ∷ ([]) ∷ (109 ∷ 110 ∷ 116 ∷ 44 ∷ []) ∷ (109 ∷ 110 ∷ 116 ∷ 32 ∷ []) ∷ (99 ∷ 101 ∷ 108 ∷ 108 ∷ []) ∷ (99 ∷ 101 ∷ 108 ∷ 108 ∷ 44 ∷ []) ∷ (99 ∷ 101 ∷ 108 ∷ 108 ∷ 44 ∷ 43 ∷ 49 ∷ []) ∷ (99 ∷ 101 ∷ 108 ∷ 108 ∷ 44 ∷ 48 ∷ 49 ∷ []) ∷ (99 ∷ 101 ∷ 108 ∷ 108 ∷ 44 ∷ 49 ∷ 44 ∷ 49 ∷ []) ∷ (99 ∷ 101 ∷ 108 ∷ 108 ∷ 44 ∷ 52 ∷ 50 ∷ 57 ∷ 52 ∷ 57 ∷ 54 ∷ 55 ∷ 50 ∷ 57 ∷ 53 ∷ []) ∷ (99 ∷ 101 ∷ 108 ∷ 108 ∷ 44 ∷ 52 ∷ 50 ∷ 57 ∷ 52 ∷ 57 ∷ 54 ∷ 55 ∷ 50 ∷ 57 ∷ 54 ∷ []) ∷ (99 ∷ 101 ∷ 108 ∷ 108 ∷ 115 ∷ 44 ∷ 49 ∷ []) ∷ (99 ∷ 105 ∷ 114 ∷ 44 ∷ 48 ∷ 44 ∷ 48 ∷ 44 ∷ 49 ∷ 48 ∷ 52 ∷ 56 ∷ 53 ∷ 55 ∷ 55 ∷ []) ∷ (110 ∷ 101 ∷ 97 ∷ 114 ∷ 44 ∷ 45 ∷ 49 ∷ 44 ∷ 48 ∷ 44 ∷ 49 ∷ 54 ∷ []) ∷ (110 ∷ 101 ∷ 97 ∷ 114 ∷ 44 ∷ 49 ∷ 44 ∷ 48 ∷ []) ∷ []) ≡ request Cell ((((nobody, (no_spot, no_spot)), pos 0), 10), 0) ∷ request (PointChange Mnt) ((((nobody, (no_spot, no_spot)), pos 0), 0), 0) ∷ request (PointChange Rem) ((((record { slot = 0; version = 1 }, (no_spot, no_spot)), pos 0), 0), 3) ∷ unreadable ∷ request (PointChange Now) ((((record { slot = 1; version = 1 }, (no_spot, no_spot)), pos 0), 0), 4294967295) ∷ unreadable ∷ request (PointChange Pos) ((((record { slot = 0; version = 1 }, (record { x = pos 160; y = negsuc 79 }, no_spot)), pos 0), 0), 8) ∷ unreadable ∷ unreadable ∷ request (PointSearch Cir) ((((nobody, (no_spot, no_spot)), negsuc 0), 0), 0) ∷ request (PointChange Ins) ((((nobody, (record { x = negsuc 159; y = pos 80 }, no_spot)), pos 0), 7), 3) ∷ unreadable ∷ unreadable ∷ unreadable ∷ unreadable ∷ unreadable ∷ unreadable ∷ unreadable ∷ unreadable ∷ unreadable ∷ request Cell ((((nobody, (no_spot, no_spot)), pos 0), 4294967295), 0) ∷ unreadable ∷ unreadable ∷ unreadable ∷ request (PointSearch Near) ((((nobody, (record { x = negsuc 0; y = pos 0 }, no_spot)), pos 16), 0), 0) ∷ unreadable ∷ []
unfolding fields_of row_says asked_by arguments_of of_fields request_of digits_from up_to number_of count_of
cases = refl
