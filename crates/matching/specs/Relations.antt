-- The relations of a left side s to a formula t, and their common form. Assumes nothing.
use Rattle.std.specs.Prelude.{◌≡◌, ℕ, ◌↔◌, List}
use Rattle.cells.specs.Cells.{Cell}
use Rattle.cells.specs.Substitutions.{Substitution, substitute}
use Rattle.cells.specs.Variables.{normalized, Variant}

-- σ turns s into t
pub record Turns (σ : ℕ → List Cell) (s t : List Cell) : Type 0 where
  pub whole : Substitution σ
  pub makes : substitute σ s ≡ t

-- some substitution of s's variables turns s into t
abbrev pub General : List Cell → List Cell → Type 0
General s t = (σ : ℕ → List Cell) × Turns σ s t

-- some substitution of t's variables turns t into s
abbrev pub Instance : List Cell → List Cell → Type 0
Instance s t = General t s

-- their variables being distinct, each side has its own substitution, and the two make one row of both
abbrev pub Unifiable : List Cell → List Cell → Type 0
Unifiable s t = (σ : ℕ → List Cell) × (τ : ℕ → List Cell) × (c : List Cell) × Turns σ s c × Turns τ t c

-- the row that both become, such that every row that both become is an instance of it, numbered
pub record Common (s t c : List Cell) : Type 0 where
  pub left : General s c
  pub right : General t c
  pub most : (d : List Cell) → General s d → General t d → General c d
  pub numbered : normalized c ≡ c

pub record RelationLaws : Type 0 where
  -- what is general for t is general for every instance of t, by the substitution carried out in what is put for each variable
  pub carried : (σ τ : ℕ → List Cell) (s t u : List Cell) → Turns σ s t → Turns τ t u → Turns (λ v. substitute τ (σ v)) s u
  -- what is an instance of an instance of t, or unifiable with it, is so for t
  pub instance_below : (s t u : List Cell) → General t u → Instance s u → Instance s t
  pub unifiable_below : (s t u : List Cell) → General t u → Unifiable s u → Unifiable s t
  -- variants are general for each other
  pub mutual_variants : (s t : List Cell) → Variant s t ↔ (General s t × General t s)
  -- terms have one common form at most
  pub one_common : (s t c d : List Cell) → Common s t c → Common s t d → c ≡ d
