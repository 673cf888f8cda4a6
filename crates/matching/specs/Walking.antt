-- Where what is put for a pattern's cells stands in the row that it becomes. Assumes nothing.
use Rattle.std.specs.Prelude.{◌≡◌, ℕ, ◌≤◌, List, [], ◌∷◌, length, drop, Option}
use Rattle.cells.specs.Cells.{Cell, row}
use Rattle.cells.specs.Substitutions.{substitute}
use Rattle.substitution.specs.declared.bindings.Binding.{Binding}
use Rattle.matching.specs.Relations.{Turns}
use Rattle.matching.specs.Fronts.{FrontMatched}

-- the cell is matched at a position with no bindings at hand, whichever it then has
abbrev pub Passed : List ℕ → Cell → ℕ → Option ℕ → Type 0
Passed target c at o = (b : List Binding) × FrontMatched target [] (c ∷ []) at o b

-- what is put for the pattern from k on stands at the position, whichever substitution turns the pattern into the target
pub record Reached (s : List Cell) (target : List ℕ) (k at : ℕ) : Type 0 where
  pub inside : at ≤ length target
  pub rest : (σ : ℕ → List Cell) → Turns σ s (row target) → substitute σ (drop k s) ≡ drop at (row target)
