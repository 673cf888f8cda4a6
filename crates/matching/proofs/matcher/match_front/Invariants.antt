use Rattle.std.proofs.Common.{take, Some}
use Rattle.cells.specs.Cells.{row}
use Rattle.substitution.specs.Bindings.{bindings_list}
use Rattle.matching.specs.Fronts.{FrontMatched}
use Rattle.matching.proofs.matcher.match_front.Given as goal

abbrev pub invariant-loop-w : goal.invariant-loop-w
invariant-loop-w l = FrontMatched l.target (bindings_list l.initial.list) (take l.w-index (row l.pattern)) l.at (Some l.end) (bindings_list l.list)
