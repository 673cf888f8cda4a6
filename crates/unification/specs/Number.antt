-- Variables numbered in the order in which a row first has them. Assumes nothing.
use Rattle.std.specs.Prelude.{◌≡◌, ℕ, ◌+◌, ◌<◌, ◌≤◌, Bool, true, false, cond, ◌⊎◌, List, [], ◌∷◌, ◌++◌, length, Some, None, Ok, Err, Option, Result}
use Rattle.cells.specs.Variables.{index, include}
use Rattle.unification.specs.declared.form.Form.{Form}
use Rattle.unification.specs.declared.form.TooLarge.{TooLarge}
use Rattle.unification.specs.Graph.{Graph, Links, Sols, Made, val, SameVal}
use Rattle.unification.specs.Close.{WholeFor, MostGeneral}

-- the variables met, with the cell if it is one
abbrev pub met : (ℕ → Bool) → List ℕ → ℕ → List ℕ
met is_v ms c = cond (is_v c) (include ms c) ms

abbrev pub number : (ℕ → Bool) → List ℕ → List ℕ → List ℕ
number is_v ms [] = []
number is_v ms (c ∷ cs) = cond (is_v c) (0x80000000 + index ms c) c ∷ number is_v (met is_v ms c) cs

abbrev pub after : (ℕ → Bool) → List ℕ → List ℕ → List ℕ
after is_v ms [] = ms
after is_v ms (c ∷ cs) = after is_v (met is_v ms c) cs

-- the row, written behind the cells, passes 256 cells or 64 variables
abbrev pub Over : (ℕ → Bool) → List ℕ → List ℕ → List ℕ → Type 0
Over is_v cells ms row = (256 < length cells + length row) ⊎ (64 < length (after is_v ms row))

-- the row of the places is written behind the form, with its variables numbered
pub record RowWritten (G : Graph) (L : Links) (ps : List ℕ) (old new : Form) : Type 0 where
  pub row : List ℕ
  pub sols : Sols G L ps row
  pub text : new.cells.items ≡ old.cells.items ++ number G.is_v old.names.items row
  pub names : new.names.items ≡ after G.is_v old.names.items row

-- or there is no room for it
abbrev pub Wrote : Graph → Links → List ℕ → Form → Form → Result (Unit {0}) TooLarge → Type 0
Wrote G L ps old new (Ok u) = RowWritten G L ps old new
Wrote G L ps old new (Err e) = (row : List ℕ) → Sols G L ps row → Over G.is_v old.cells.items old.names.items row

-- the numbered row of a most general replacement is written
pub record Numbered (G : Graph) (p q : ℕ) (cells : List ℕ) : Type 0 where
  pub g : MostGeneral G p q
  pub made : Made G (val G g.σ p)
  pub text : cells ≡ number G.is_v [] (val G g.σ p)
  pub within : length cells ≤ 256
  pub few : length (after G.is_v [] (val G g.σ p)) ≤ 64

-- or passes 256 cells or 64 variables
pub record Passes (G : Graph) (p q : ℕ) : Type 0 where
  pub g : MostGeneral G p q
  pub made : Made G (val G g.σ p)
  pub over : Over G.is_v [] [] (val G g.σ p)

-- the form, if it is said that there is one
abbrev pub found_in : Form → Result Bool TooLarge → Result (Option Form) TooLarge
found_in form (Ok true) = Ok (Some form)
found_in form (Ok false) = Ok None
found_in form (Err e) = Err e

-- or no replacement makes one row of p and q
abbrev pub FormFound : Graph → ℕ → ℕ → Result (Option Form) TooLarge → Type 0
FormFound G p q (Ok None) = (σ : ℕ → List ℕ) → WholeFor G σ → SameVal G σ p q → ⊥
FormFound G p q (Ok (Some form)) = Numbered G p q form.cells.items
FormFound G p q (Err e) = Passes G p q
