-- Rows of cells in prefix order, and the whole ones. Assumes nothing.
use Rattle.std.specs.Prelude.{◌≡◌, ℕ, zero, suc, ◌+◌, ◌<◌, ◌≤◌, Bool, true, false, ◌↔◌, List, [], ◌∷◌, ◌++◌, length, Some, None, Option, slice_index_or}
use Rattle.std.specs.List.{between}
use Rattle.cells.specs.Cells.{Cell, symbol, variable, arity, row}

-- whether the row is exactly n whole rows, one after the other: each cell begins one, and its arguments are still to come
abbrev pub terms : ℕ → List Cell → Bool
terms zero [] = true
terms (suc n) [] = false
terms zero (c ∷ cs) = false
terms (suc n) (c ∷ cs) = terms (arity c + n) cs

abbrev pub Whole : List Cell → Type 0
Whole cs = terms 1 cs ≡ true

mutual
  -- one variable, or a symbol of arity k followed by exactly k whole rows
  pub data WholeRow : List Cell → Type 0 where
    single : (v : ℕ) → WholeRow (variable v ∷ [])
    applied : (k f : ℕ) (cs : List Cell) → WholeRows k cs → WholeRow (symbol k f ∷ cs)

  -- n whole rows, one after the other
  pub data WholeRows : ℕ → List Cell → Type 0 where
    none : WholeRows 0 []
    more : (n : ℕ) (a b : List Cell) → WholeRow a → WholeRows n b → WholeRows (suc n) (a ++ b)

-- the variable v stands at position k; past the end stands none
abbrev pub Stands : List Cell → ℕ → ℕ → Type 0
Stands cs k v = slice_index_or cs k (symbol 0 0) ≡ variable v

abbrev pub Occurs : List Cell → ℕ → Type 0
Occurs cs v = (k : ℕ) × Stands cs k v

-- where the whole row that begins at a position ends, if one begins there
abbrev pub Ends : List ℕ → ℕ → Option ℕ → Type 0
Ends ws at None = (e : ℕ) → Whole (between at e (row ws)) → ⊥
Ends ws at (Some e) = (e ≤ length ws) × Whole (between at e (row ws))

pub record RowLaws : Type 0 where
  -- the counter says what the words say
  pub counted : (cs : List Cell) → Whole cs ↔ WholeRow cs
  -- no whole row is a front of another
  pub front : (a b x y : List Cell) → Whole a → Whole b → a ++ x ≡ b ++ y → (a ≡ b) × (x ≡ y)
  -- at each position of a whole row one begins
  pub part : (cs : List Cell) (at : ℕ) → Whole cs → at < length cs → (e : ℕ) × (e ≤ length cs) × Whole (between at e cs)
  -- a part may be exchanged for another whole row
  pub spliced : (a p q b : List Cell) → Whole p → Whole q → Whole (a ++ (p ++ b)) → Whole (a ++ (q ++ b))
