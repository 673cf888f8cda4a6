-- Substitutions, also called replacements: a whole row of any size for each variable. Assumes nothing.
use Rattle.std.specs.Prelude.{◌≡◌, ℕ, List, [], ◌∷◌, ◌++◌}
use Rattle.cells.specs.Cells.{Cell, symbol, variable}
use Rattle.cells.specs.Rows.{Whole, Occurs}

abbrev pub Substitution : (ℕ → List Cell) → Type 0
Substitution σ = (v : ℕ) → Whole (σ v)

-- σ v for each variable v, everywhere in the row
abbrev pub substitute : (ℕ → List Cell) → List Cell → List Cell
substitute σ [] = []
substitute σ (symbol k f ∷ cs) = symbol k f ∷ substitute σ cs
substitute σ (variable v ∷ cs) = σ v ++ substitute σ cs

-- the variable ρ v for each variable v
abbrev pub renaming : (ℕ → ℕ) → ℕ → List Cell
renaming ρ v = variable (ρ v) ∷ []

abbrev pub rename : (ℕ → ℕ) → List Cell → List Cell
rename ρ cs = substitute (renaming ρ) cs

pub record SubstitutionLaws : Type 0 where
  pub whole : (σ : ℕ → List Cell) (cs : List Cell) → Substitution σ → Whole cs → Whole (substitute σ cs)
  pub append : (σ : ℕ → List Cell) (a b : List Cell) → substitute σ (a ++ b) ≡ substitute σ a ++ substitute σ b
  -- one after the other is one
  pub twice : (σ τ : ℕ → List Cell) (cs : List Cell) → substitute τ (substitute σ cs) ≡ substitute (λ v. substitute τ (σ v)) cs
  -- a variable for itself changes nothing
  pub same : (cs : List Cell) → rename (λ v. v) cs ≡ cs
  -- only the variables of the row count
  pub agree : (σ τ : ℕ → List Cell) (cs : List Cell) → ((v : ℕ) → Occurs cs v → σ v ≡ τ v) → substitute σ cs ≡ substitute τ cs
  -- and on those a row under a substitution determines it, where the two give whole rows
  pub determined : (σ τ : ℕ → List Cell) (cs : List Cell) → Substitution σ → Substitution τ → substitute σ cs ≡ substitute τ cs → (v : ℕ) → Occurs cs v → σ v ≡ τ v
