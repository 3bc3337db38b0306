-- Assumes nothing.
use Rattle.basics.specs.Words.{ℕ, ap, List, get_or, ext_get_or, arith}
use Rattle.std.proofs.lemmas.Bool.Decides.{Decides-eqb}
use Rattle.std.proofs.lemmas.Slice.Eq.{slice_eq-Decides}
use Rattle.box_tables.proofs.slot_ways.Ways.all_met.Goals as goal

pub returns : goal.returns
returns c =
    let w = c.args.self.now in
    let d = slice_eq-Decides Decides-eqb w.nexts w.ends _ c.eq.ensures in
    record { yes = λ e i h. ap (λ (l : List ℕ). get_or l i 0) (d.0 e); no = λ m. d.1 (ext_get_or 0 w.nexts w.ends (omega arith) (λ i h. m i (omega arith))) }
