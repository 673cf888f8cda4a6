use Rattle.std.proofs.Common.{◌≡◌, take}
use Rattle.cells.specs.Cells.{row}
use Rattle.cells.specs.Variables.{variables}
use Rattle.cells.specs.Records.{row_words}
use Rattle.cells.proofs.row.Row.names.Given as goal

abbrev pub invariant-loop-w : goal.invariant-loop-w
invariant-loop-w g l = l.names.items ≡ variables (row (take l.w-index (row_words l.self)))
