use Rattle.std.proofs.Common.{◌≡◌, ◌+◌, ◌<◌, length, get_or, take, sym, ap, ◌∙◌, arith, length-take, rules}
use lib.ListN.{length-map}
use Rattle.cells.specs.Cells.{cell, row}
use Rattle.cells.specs.Variables.{lacking, variables}
use Rattle.cells.specs.Records.{row_words}
use Rattle.cells.proofs.Listing.{length_variables}
use Rattle.cells.proofs.Lacking.{names_new, names_old}
use Rattle.cells.proofs.row.Row.names.Goals as goal
use Rattle.cells.proofs.row.Row.names.Goals.{then-lacks, else-lacks}

pub push-requires : goal.push-requires
push-requires g c =
    let x = c.args.self.now in
    let ws = take c.loop-w.w-index (row_words x) in
    let room : length c.loop-w.names.items < g.row.N =
    omega (arith, x.fits, ap length c.loop-w.invariant, length_variables (row ws), length-map ws cell, length-take c.loop-w.w-index (row_words x), ap length c.cells-w-items.ensures.value, length-take x.count x.cells) in
    search rules

pub loop-w-preserved : goal.loop-w-preserved
loop-w-preserved g c =
    let x = c.args.self.now in
    let ws = c.cells-w-items.result.now in
    let i = c.loop-w.w-index in
    let us = c.loop-w.names.items in
    let v = c.cells-w-items.ensures.value in
    let e : us ≡ variables (row (take i ws)) = c.loop-w.invariant ∙ ap (λ z. variables (row (take i z))) (sym v) in
    let on : variables (row (take (i + 1) ws)) ≡ variables (row (take (i + 1) (row_words x))) = ap (λ z. variables (row (take (i + 1) z))) v in
    let t : c.lacks.result ≡ lacking us (get_or ws i 0) = c.lacks.ensures ∙ ap (λ z. lacking z (get_or ws i 0)) c.deref.ensures.0 in
    elim c.if-lacks.branch [
      | then-lacks w ↦ ap (λ z. z.items) w.names-is ∙ w.push.ensures.items ∙ names_new ws us i c.loop-w-test.true e (sym t ∙ w.if-lacks.true) ∙ on
      | else-lacks w ↦ ap (λ z. z.items) w.names-is ∙ names_old ws us i c.loop-w-test.true e (sym t ∙ w.if-lacks.false) ∙ on
    ]
