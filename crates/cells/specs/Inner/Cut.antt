-- The whole part of a binary32's magnitude by the fields of its bit pattern. Assumes nothing.
use Rattle.std.specs.Prelude.{◌+◌, ◌*◌, ◌/◌, ◌%◌, ◌^◌}
use Rattle.basics.specs.Words.{ℕ, cond, ltb}

-- of the exponent field e and the digits t: without the fraction, and at most 2 ^ 31
unfoldable pub cut_fields : ℕ → ℕ → ℕ
cut_fields e t = cond (ltb e 127) 0 (cond (ltb 157 e) 2147483648 ((t + 8388608) * 2 ^ e / 2 ^ 150))

unfoldable pub cut_bits : ℕ → ℕ
cut_bits b = cut_fields (b / 8388608 % 256) (b % 8388608)
