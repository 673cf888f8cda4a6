use Rattle.cells.specs.Cells.{row}
use Rattle.matching.specs.Walking.{Reached}
use Rattle.matching.proofs.finding.place.Given as goal

abbrev pub invariant-loop-w : goal.invariant-loop-w
invariant-loop-w l = Reached (row l.pattern) l.target l.w-index l.at
