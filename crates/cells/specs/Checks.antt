-- What a check of a row answers. Assumes nothing.
use Rattle.std.specs.Prelude.{◌≡◌, ℕ, ◌<◌, ◌≤◌, List, length, take, Ok, Err, Result, slice_index}
use Rattle.refusals.specs.declared.CellFault.{CellFault}
use Rattle.refusals.specs.declared.CellFault.TheVariants.{Length, NoCell, EndsEarly, LeftOver}
use Rattle.cells.specs.Cells.{IsCell, AllCells, row}
use Rattle.cells.specs.Rows.{Whole}

-- from 1 to `limit` words
abbrev pub Within : ℕ → List ℕ → Type 0
Within limit ws = (0 < length ws) × (length ws ≤ limit)

-- a row that passes
pub record CheckedRow (limit : ℕ) (ws : List ℕ) : Type 0 where
  pub within : Within limit ws
  pub cells : AllCells ws
  pub whole : Whole (row ws)

-- p is the lowest position whose word is no cell
pub record FirstBad (ws : List ℕ) (p : ℕ) : Type 0 where
  pub inside : p < length ws
  pub before : (k : ℕ) → k < p → IsCell (slice_index ws k)
  pub here : IsCell (slice_index ws p) → ⊥

-- the row does not pass, and this is why: the first of these that fits
abbrev pub RowFault : ℕ → List ℕ → CellFault → Type 0
RowFault limit ws (Length n) = (n ≡ length ws) × (Within limit ws → ⊥)
RowFault limit ws (NoCell p) = Within limit ws × FirstBad ws p
-- no front of the row is whole, nor the row itself
RowFault limit ws (EndsEarly n) = Within limit ws × AllCells ws × (n ≡ length ws) × ((k : ℕ) → Whole (take k (row ws)) → ⊥)
-- the cells before p are whole, and p is left over
RowFault limit ws (LeftOver p) = Within limit ws × AllCells ws × (p < length ws) × Whole (take p (row ws))

abbrev pub RowAnswer : ℕ → List ℕ → Result (Unit {0}) CellFault → Type 0
RowAnswer limit ws (Ok u) = CheckedRow limit ws
RowAnswer limit ws (Err f) = RowFault limit ws f

-- there is one answer to each check
abbrev pub OneRowAnswer : Type 0
OneRowAnswer = (limit : ℕ) (ws : List ℕ) (x y : Result (Unit {0}) CellFault) → RowAnswer limit ws x → RowAnswer limit ws y → x ≡ y
