use Rattle.std.proofs.Common.{◌≡◌, map, take}
use Rattle.cells.specs.Cells.{row}
use Rattle.unification.specs.Codes.{tagged}
use Rattle.unification.proofs.memory.joined.Given as goal

abbrev pub invariant-loop-w : goal.invariant-loop-w
invariant-loop-w l = l.cells.items ≡ map (tagged 0x90000000) (row (take l.w-index l.w-items))
