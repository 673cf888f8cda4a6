-- What the records hold, and what making one answers. Assumes nothing.
use Rattle.std.specs.Prelude.{◌≡◌, ℕ, List, take, Ok, Err, Result}
use Rattle.refusals.specs.declared.CellFault.{CellFault}
use Rattle.refusals.specs.declared.RuleFault.{RuleFault}
use Rattle.cells.specs.declared.row.Row.{Row}
use Rattle.cells.specs.declared.rule.Rule.{Rule}
use Rattle.cells.specs.Checks.{CheckedRow, RowFault}
use Rattle.cells.specs.Rules.{Sides, sides, numbered, GoodLeft, LeftFault, GoodSides, SidesFault}

-- the words of a checked row
abbrev pub row_words : {N : ℕ} → Row N → List ℕ
row_words x = take x.count x.cells

abbrev pub rule_sides : Rule → Sides
rule_sides x = sides (row_words x.left) (row_words x.right)

-- a row that passes is held as it is
abbrev pub RowMade : (N : ℕ) → List ℕ → Result (Row N) CellFault → Type 0
RowMade N ws (Ok x) = CheckedRow N ws × (row_words x ≡ ws)
RowMade N ws (Err f) = RowFault N ws f

-- a left side that passes by itself is held as it is
abbrev pub LeftMade : List ℕ → Result (Row 60) RuleFault → Type 0
LeftMade ws (Ok x) = GoodLeft ws × (row_words x ≡ ws)
LeftMade ws (Err f) = LeftFault ws f

-- sides that pass are held numbered
abbrev pub RuleMade : Sides → Result Rule RuleFault → Type 0
RuleMade s (Ok x) = GoodSides s × (rule_sides x ≡ numbered s)
RuleMade s (Err f) = SidesFault s f
