-- Interpretations, also called readings: a value for each row. Assumes nothing.
use Rattle.std.specs.Prelude.{◌≡◌, ℕ, List, [], ◌∷◌, ◌++◌, map, length, take, drop}
use Rattle.std.specs.List.{AllByRecursion, flat_map}
use Rattle.cells.specs.Cells.{Cell, symbol, variable}
use Rattle.cells.specs.Rows.{Whole}
use Rattle.cells.specs.Substitutions.{Substitution, substitute}

-- for each symbol, by arity and name, a function from its arguments' values to a value; and a value for each variable
pub record Interpretation (V : Type 0) : Type 0 where
  pub symbols : ℕ → ℕ → List V → V
  pub variables : ℕ → V

-- the values of the rows that stand one after the other
abbrev pub values : {V : Type 0} → Interpretation V → List Cell → List V
values i [] = []
values i (symbol k f ∷ cs) = i.symbols k f (take k (values i cs)) ∷ drop k (values i cs)
values i (variable v ∷ cs) = i.variables v ∷ values i cs

abbrev pub first : {V : Type 0} → V → List V → V
first d [] = d
first d (x ∷ xs) = x

-- the value of a whole row (of no cells at all, where there is none, any value will do)
abbrev pub value : {V : Type 0} → Interpretation V → List Cell → V
value i cs = first (i.symbols 0 0 []) (values i cs)

-- each variable has the value of what is substituted for it
abbrev pub through : {V : Type 0} → Interpretation V → (ℕ → List Cell) → Interpretation V
through i σ = record { symbols = i.symbols; variables = λ v. value i (σ v) }

-- over any set V of values
pub record ValueLaws (V : Type 0) : Type 0 where
  -- a whole row has one value: the variable's, or the symbol's function of the values of the rows that follow it
  pub single : (i : Interpretation V) (v : ℕ) → value i (variable v ∷ []) ≡ i.variables v
  pub applied : (i : Interpretation V) (f : ℕ) (args : List (List Cell)) → AllByRecursion Whole args
      → value i (symbol (length args) f ∷ flat_map (λ a. a) args) ≡ i.symbols (length args) f (map (value i) args)
  -- the value under a substitution is that of the row read through it
  pub substituted : (i : Interpretation V) (σ : ℕ → List Cell) (cs : List Cell) → Substitution σ → value i (substitute σ cs) ≡ value (through i σ) cs
  -- to replace a part by one of equal value keeps the value
  pub spliced : (i : Interpretation V) (a p q b : List Cell) → Whole p → Whole q → value i p ≡ value i q → value i (a ++ (p ++ b)) ≡ value i (a ++ (q ++ b))
