-- `cells::cut` meets its contract: a shift is a power of two, and to the left no digit is lost. Assumes nothing.
use Rattle.basics.specs.Words.{◌/◌, ◌%◌, ◌∙◌, mod-lt, mod-eq_of_lt, rules}
use lib.Pow.{pow_pos}
use Rattle.cells.specs.Inner.Cut.{cut_bits}
use Rattle.cells.proofs.Fields.{cut_low, cut_high, cut_down, cut_up, scaled_fits}
use Rattle.cells.proofs.cut.Statement.{statement}
use Rattle.cells.proofs.cut.Tie as tie

returns : tie.Need-returns-then-e-lt127
unfolding cut_bits
returns c = cut_low _ _ (search rules)

returns-2 : tie.Need-returns-then-e-gt157
unfolding cut_bits
returns-2 c = cut_high _ _ (search rules) (search rules)

returns-3 : tie.Need-returns-then-e-le-UNIT
unfolding cut_bits
returns-3 c = cut_down _ _ (search rules) (search rules) (search rules)

returns-4 : tie.Need-returns-else-e-le-UNIT
unfolding cut_bits
returns-4 c =
    let b = c.before.before.before.args.b in
    mod-eq_of_lt (scaled_fits (b / 8388608 % 256) _ (mod-lt b (pow_pos 23)) (search rules)) ∙ cut_up _ _ (search rules) (search rules) (search rules)

pub cut_spec : {M : Type 1} → statement M
cut_spec = tie.close (tie.spec (λ c. search rules) returns returns-2 (λ c. search rules) (λ c. search rules) (λ c. search rules) returns-3 returns-4)
