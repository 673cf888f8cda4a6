use Rattle.cells.specs.Cells.{row}
use Rattle.matching.proofs.Walking.{bound_at}
use Rattle.matching.proofs.finding.bound.Goals as goal

pub returns : goal.returns
returns c =
    bound_at (row c.args.pattern.now) c.args.target.now c.in_ok-k.k c.args.v c.place-at.result c.in_ok-k.ensures c.place-at.ensures c.term_end.result c.unwrap-end.result c.unwrap-end.ensures c.term_end.ensures c.requires
