-- The substitutions that agree with a list of bindings to parts of a row. Assumes nothing.
use Rattle.std.specs.Prelude.{◌≡◌, ℕ, List, take, drop, Some}
use Rattle.cells.specs.Cells.{Cell, variable, word, row}
use Rattle.cells.specs.Rows.{Whole}
use Rattle.substitution.specs.declared.bindings.Part.{Part}
use Rattle.substitution.specs.declared.bindings.Binding.{Binding}
use Rattle.substitution.specs.Bindings.{lookup}

-- the cells of a part
abbrev pub part : List ℕ → Part → List Cell
part source p = take p.len (drop p.at (row source))

-- σ puts for each bound variable its part
abbrev pub Agrees : List ℕ → List Binding → (ℕ → List Cell) → Type 0
Agrees source b σ = (v : ℕ) (p : Part) → lookup b (word (variable v)) ≡ Some p → σ v ≡ part source p

-- the parts are whole rows
abbrev pub AllWhole : List ℕ → List Binding → Type 0
AllWhole source b = (w : ℕ) (p : Part) → lookup b w ≡ Some p → Whole (part source p)
