use Rattle.std.proofs.Common.{◌≡◌, ◌++◌, map, take, drop}
use Rattle.cells.specs.Variables.{index, renamed_word}
use Rattle.cells.proofs.row.renaming.rename_words.Given as goal

abbrev pub invariant-loop-w : goal.invariant-loop-w
invariant-loop-w l = l.cells ≡ map (renamed_word (index l.list)) (take l.w-index l.initial.cells) ++ drop l.w-index l.initial.cells
