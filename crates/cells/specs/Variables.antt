-- The variables of a row, numbered by their first occurrence, and variants. Assumes nothing.
use Rattle.std.specs.Prelude.{◌≡◌, ℕ, suc, ◌+◌, ◌-◌, ◌<◌, Bool, cond, ◌&&◌, ◌↔◌, List, [], ◌∷◌, ◌++◌, length, ◌==◌, nat_le, nat_lt}
use Rattle.cells.specs.Cells.{Cell, symbol, variable}
use Rattle.cells.specs.Rows.{Occurs}
use Rattle.cells.specs.Substitutions.{rename}

-- where v stands in the list, or the list's length if it does not
abbrev pub index : List ℕ → ℕ → ℕ
index [] v = 0
index (u ∷ us) v = cond (u == v) 0 (suc (index us v))

abbrev pub Listed : List ℕ → ℕ → Type 0
Listed us v = index us v < length us

-- whether the word is a variable that the list lacks
abbrev pub lacking : List ℕ → ℕ → Bool
lacking us w = nat_le 2147483648 w && nat_le (length us) (index us (w - 2147483648))

-- the list with v at its end, unless it has v already
abbrev pub include : List ℕ → ℕ → List ℕ
include us v = cond (nat_lt (index us v) (length us)) us (us ++ v ∷ [])

-- the list with the variables of the row included, from the left
abbrev pub collect : List ℕ → List Cell → List ℕ
collect us [] = us
collect us (symbol k f ∷ cs) = collect us cs
collect us (variable v ∷ cs) = collect (include us v) cs

-- the variables of the row, each once, in the order of their first occurrence
abbrev pub variables : List Cell → List ℕ
variables cs = collect [] cs

-- the numbered form: the first variable met becomes 0, the next new one 1, and so on
abbrev pub normalized : List Cell → List Cell
normalized cs = rename (index (variables cs)) cs

-- a one-to-one exchange of variables for variables, and its inverse
pub record Exchange (ρ π : ℕ → ℕ) : Type 0 where
  pub there : (v : ℕ) → π (ρ v) ≡ v
  pub back : (v : ℕ) → ρ (π v) ≡ v

-- some exchange turns t into s
abbrev pub Variant : List Cell → List Cell → Type 0
Variant s t = (ρ : ℕ → ℕ) × (π : ℕ → ℕ) × Exchange ρ π × (rename ρ t ≡ s)

-- the word with the variable that it stands for renamed
abbrev pub renamed_word : (ℕ → ℕ) → ℕ → ℕ
renamed_word ρ w = cond (nat_lt w 2147483648) w (2147483648 + ρ (w - 2147483648))

pub record VariableLaws : Type 0 where
  pub listed : (cs : List Cell) (v : ℕ) → Occurs cs v ↔ Listed (variables cs) v
  -- rows are variants exactly if their numbered forms are equal
  pub same : (s t : List Cell) → Variant s t ↔ (normalized s ≡ normalized t)
  pub variant : (s : List Cell) → Variant s (normalized s)
  pub again : (s : List Cell) → normalized (normalized s) ≡ normalized s
