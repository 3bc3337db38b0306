-- Assumes nothing.
use Rattle.basics.specs.Words.{suc, ◌≡◌, sym, ap, ◌∙◌, length, get_or, take, set-get_or, add-one, arith}
use Rattle.cells.specs.Meaning.Key.{key_of}
use Rattle.storage.specs.Meaning.Entries.{row_key}
use Rattle.storage.specs.Meaning.Keyed.{below}
use Rattle.encoder_blocks.specs.Inner.Places.{cell, column_at, line_at}
use Rattle.encoder_boxes.specs.Inner.Windows.{met}
use Rattle.encoder_boxes.proofs.laws.WindowLaws.{below_grows, key_rises, next_rises}
use Rattle.encoder_boxes.proofs.laws.OverlayLaws.{byte_met, byte_unmet, byte_stays, overlaid_next}
use Rattle.encoder_boxes.proofs.mark_boxes.Goals as goal
use Rattle.encoder_boxes.proofs.mark_boxes.Goals.{then-bytes-k-ne-CIRCLED+then-met, else-bytes-k-ne-CIRCLED, else-bytes-k-ne-CIRCLED-via-then-bytes-k-ne-CIRCLED+else-met, else-bytes-k-ne-CIRCLED-via-else-bytes-k-ne-CIRCLED}

pub loop-k-preserved : goal.loop-k-preserved
loop-k-preserved c =
    let a = c.args in
    let l = c.loop-k in
    let k = l.k in
    let rows = take a.used a.pool.now in
    let first : c.onward-here.result ≡ length (below row_key (key_of (cell (column_at k) (line_at k))) rows) = c.onward-here.ensures ∙ ap (λ key. length (below row_key key rows)) c.cell_key.ensures in
    let next : c.onward-next.result ≡ length (below row_key (key_of (cell (column_at k) (suc (line_at k)))) rows) =
    c.onward-next.ensures ∙ ap (λ key. length (below row_key key rows)) (c.cell_key-in-loop-k.ensures ∙ rw (add-one (line_at k))) in
    let m = met a.reals.now rows (column_at k) (line_at k) in
    let byte = get_or l.bytes k 0 in
    let gets = overlaid_next a.reals.now rows a.bytes.now k l.bytes c.if-bytes-k-ne-CIRCLED.bytes l.invariant.2 (omega arith) in (
      omega (arith, first, below_grows row_key _ _ (key_rises k) rows),
      omega (arith, next, below_grows row_key _ _ (next_rises k) rows),
      elim c.if-bytes-k-ne-CIRCLED.branch [
        | then-bytes-k-ne-CIRCLED+then-met w ↦ gets 2 (byte_met m byte w.if-bytes-k-ne-CIRCLED.true (sym w.met.ensures ∙ w.if-met.true)) w.bytes-is
        | else-bytes-k-ne-CIRCLED w ↦
            elim w.else-bytes-k-ne-CIRCLED.branch [
              | else-bytes-k-ne-CIRCLED-via-then-bytes-k-ne-CIRCLED+else-met v ↦ gets byte (byte_unmet m byte v.if-bytes-k-ne-CIRCLED.true (sym v.met.ensures ∙ v.if-met.false)) (w.bytes-is ∙ sym (set-get_or l.bytes k 0))
              | else-bytes-k-ne-CIRCLED-via-else-bytes-k-ne-CIRCLED v ↦ gets byte (byte_stays m byte v.if-bytes-k-ne-CIRCLED.false) (w.bytes-is ∙ sym (set-get_or l.bytes k 0))
            ]
      ],
    )
