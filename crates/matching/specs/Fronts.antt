-- Matching a pattern against a front of what stands at a position of a row. Assumes nothing.
use Rattle.std.specs.Prelude.{◌≡◌, ℕ, ◌≤◌, ◌↔◌, List, ◌++◌, length, take, drop, Some, None, Option, ◌≢◌}
use Rattle.std.specs.List.{between}
use Rattle.cells.specs.Cells.{Cell, row}
use Rattle.cells.specs.Substitutions.{Substitution, substitute}
use Rattle.substitution.specs.declared.bindings.Binding.{Binding}
use Rattle.matching.specs.Extending.{Agrees, AllWhole}

-- the list b' is b with at most n bindings added behind: cut back to the length of b it is b again
pub record Longer (b : List Binding) (n : ℕ) (b' : List Binding) : Type 0 where
  pub more : List Binding
  pub few : length more ≤ n
  pub is : b' ≡ b ++ more

-- the pattern s, matched at a position, takes the cells up to `end`, and b' are the bindings then
pub record Matched (source : List ℕ) (b : List Binding) (s : List Cell) (at end : ℕ) (b' : List Binding) : Type 0 where
  pub order : at ≤ end
  pub inside : at ≤ length source → end ≤ length source
  pub whole : AllWhole source b → AllWhole source b'
  -- exactly those substitutions agree with the new bindings that agreed with the old ones and turn s into these cells
  pub exact : (σ : ℕ → List Cell) → Substitution σ → (Agrees source b σ × (substitute σ s ≡ between at end (row source))) ↔ Agrees source b' σ
  -- and none of them turns s into another front of what stands there
  pub only : (σ : ℕ → List Cell) → Substitution σ → Agrees source b σ → (k : ℕ) → substitute σ s ≡ take k (drop at (row source)) → substitute σ s ≡ between at end (row source)

-- no substitution that agrees with the bindings turns s into a front of what stands at the position
abbrev pub Unmatched : List ℕ → List Binding → List Cell → ℕ → Type 0
Unmatched source b s at = (σ : ℕ → List Cell) → Substitution σ → Agrees source b σ → (k : ℕ) → substitute σ s ≢ take k (drop at (row source))

-- of every substitution at once
abbrev pub FrontMatched : List ℕ → List Binding → List Cell → ℕ → Option ℕ → List Binding → Type 0
FrontMatched source b s at (Some end) b' = Longer b (length s) b' × Matched source b s at end b'
FrontMatched source b s at None b' = Longer b (length s) b' × Unmatched source b s at

-- where the cells end that s can become at a position while the bindings stay as they are
abbrev pub Fits : List ℕ → List Binding → List Cell → ℕ → Option ℕ → Type 0
Fits source b s at (Some end) = AllWhole source b → (σ : ℕ → List Cell) × Substitution σ × Agrees source b σ × (substitute σ s ≡ between at end (row source))
Fits source b s at None = Unmatched source b s at
