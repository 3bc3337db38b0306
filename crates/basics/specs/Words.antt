-- The words of the toolchain that the files of this tree bring, passed on in one place: numbers, equality, truth values, lists, and laws of them.
-- tools/headers.py drops what no file brings. Assumes nothing.
pub use Rattle.std.specs.Prelude.{◌%◌, ◌*◌, ◌+◌, ◌-◌, ◌/◌, ◌<◌, ◌^◌, ◌≤◌, max, min, suc, zero, ℕ, ◌≡◌, refl, Bool, ◌&&◌, ◌||◌, cond, false, not, true, ◌↔◌, ◌⊎◌, drop, get_or, length, replicate, set, take, T, eqb, leb, ltb, ◌+ℤ◌, ◌-ℤ◌, nat_abs, negsuc, neg_ℤ, pos, ℤ}
pub use Rattle.std.proofs.Common.{suc-le-suc, zero-le, ◌∙◌, ap, ap₂, subst, sym, true≢false, inl, inr, ⊎_elim, drop_of_length-le, length-append, length-drop, length-set, length-take, take-append-drop, drop_at, drop-cons, drop-drop, drop-set-lt, ext_get_or, get_or-append-add, get_or-drop, get_or-set_other, get_or-set_same, get_or-take, length-take-le, set-set, take-add, take_all, take_at, take-suc, take-suc-set, take-take, T_not, eqb→eq, leb→le, le→leb, lit<, lit≤, ltb→lt, lt→ltb, nltb→le, add_comm, add-mul, add-suc, add-zero, div-le_self, div-lt_iff_lt-mul, div-one, eq-or-lt_of_le, eq-zero-or-pos, le-div_iff_mul-le, le_of_eq, le_of_lt, le_of_mul-le-mul_right, le_of_suc-le-suc, le_refl, le_trans, lt_irrefl, lt_of_le_of_lt, lt_of_lt_of_le, lt_of_mul-lt-mul_right, lt_trans, mod-eq_of_lt, mod-lt, mul_assoc, mul_comm, mul-le-mul, mul-le-mul_right, mul_left_comm, mul-lt-mul_of_pos_right, mul-one, mul-pos, mul_right_comm, mul-suc, mul-zero, not-suc-le-zero, one-mul, pow-suc, suc-mul, zero-add, zero-lt-suc, zero-mul, add-one, sub-one, arith, eq-eqb, eqb-true, le-leb, le-ltb, leb-false, leb-true, lt-ltb, ltb-false, ltb-true, ne_eqb}
pub use Rattle.std.specs.Bool.{beq}
pub use Rattle.std.proofs.lemmas.Bool.{false≢true, eqb-false, lt-leb, not-false, not-true}
pub use mathlib.Core.List.Memᴰ.{append_cases as Memᴰ-append_cases}
pub use mathlib.Core.List.Memᴰ.{append_left as Memᴰ-append_left}
pub use mathlib.Core.List.Memᴰ.{cases_cons as Memᴰ-cases_cons}
pub use mathlib.Core.List.Memᴰ.{head as Memᴰ-head}
pub use mathlib.Core.List.Memᴰ.{not-nil as Memᴰ-not_nil}
pub use mathlib.Core.List.Memᴰ.{tail as Memᴰ-tail}
pub use mathlib.Core.List.{List, Memᴰ}
pub use mathlib.Core.List.Memᴰ.{append_right as Memᴰ-append_right}
pub use mathlib.Core.List.Memᴰ.{cast as Memᴰ-cast}
pub use mathlib.Core.List.Memᴰ.{map as Memᴰ-map}
pub use mathlib.Core.List.Memᴰ.{of_map as Memᴰ-of_map}
pub use mathlib.Core.List.{[], ◌++◌, ◌∷◌, append_assoc, append-nil, cons≢nil, head-eq_of_cons-eq, map}
pub use mathlib.Core.List.{map-append, map-id, map-map, nil≢cons, tail-eq_of_cons-eq}
pub use mathlib.Core.Logic.Iff.{rfl as iff_rfl, trans as iff_trans}
pub use Rattle.std.proofs.Math.ListN.{get_or-append, get_or-eq_default, get_or-map}
pub use Rattle.std.proofs.lemmas.List.{get_or-replicate, length-map, length-replicate, drop-append-le, get_or_at, set-append_left, set_at, set_comm, set-get_or, set_split, take-append-le, take-set-le}
pub use Rattle.std.proofs.Math.Seq.{append_snoc, drop-append-add, drop-append_seam, drop-length, length-slice, paste, paste-suc, paste-zero, set-append_seam, set_out, slice, slice-cons, slice_empty, split_at, take-append-add, take-append_seam, take-length, take-nil, take-set-lt}
pub use Rattle.std.proofs.lemmas.List.Edits.{sets, sets-eq}
pub use Rattle.std.proofs.Math.Dec.{eqb_refl, leb-suc-suc, not_T}
pub use Rattle.std.proofs.Math.IntN.{+ℤ_assoc, +ℤ_comm, +ℤ_idl, +ℤ_idr, +ℤ_invr, +ℤ-neg_ℤ_cancel, -ℤ-+ℤ_cancel, -ℤ_one, neg_ℤ-+ℤ, neg_ℤ-neg_ℤ, pred_ℤ, suc_ℤ}
pub use Rattle.std.proofs.Math.Nat.{div-div-eq-div-mul, div-eq_of_lt, div-le_of_le-mul, div_self, eq_of_mul-eq-mul_right, max-le, max-zero, min-eq_left, min-eq_right, min-le_left, min-le_right, min-zero, mod-one, mul-div_cancel_left, mul-mul-mul_comm, mul-sub, pow-succ', suc_inj, zero-div, zero-mod}
pub use borrow.Author.Rules.{rules, sfits_of}
