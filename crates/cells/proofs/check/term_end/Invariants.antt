use Rattle.std.proofs.Common.{◌+◌, ◌-◌, ◌<◌, length}
use Rattle.std.specs.List.{between}
use Rattle.cells.specs.Cells.{row}
use Rattle.cells.proofs.Terms.{Reads}
use Rattle.cells.proofs.check.term_end.Given as goal

-- as many rows are still to come as cells are not spare
abbrev pub invariant-loop-i : goal.invariant-loop-i
invariant-loop-i l = (l.i + l.spare < length l.rest) × Reads 1 (between 0 l.i (row l.rest)) (length l.rest - l.i - l.spare)
