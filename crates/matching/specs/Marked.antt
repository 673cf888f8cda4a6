-- Marked formulas: X, Y are variables of the left side, V0, V1 of the formula. Assumes nothing.
use Rattle.std.specs.Prelude.{◌≡◌, List, [], ◌∷◌, length}
use Rattle.cells.specs.Cells.{Cell, symbol, variable}
use Rattle.cells.specs.Variables.{variables, Variant}
use Rattle.matching.specs.Relations.{General, Unifiable, Common}
use Rattle.matching.specs.Bound.{BoundAt}

-- min(X, X), girth(46) and girth(L)
abbrev pub min_same : List Cell
min_same = symbol 2 1 ∷ variable 0 ∷ variable 0 ∷ []

abbrev pub equal_girths : List Cell
equal_girths = symbol 2 1 ∷ symbol 1 2 ∷ symbol 0 46 ∷ symbol 1 2 ∷ symbol 0 46 ∷ []

abbrev pub other_girths : List Cell
other_girths = symbol 2 1 ∷ symbol 1 2 ∷ symbol 0 46 ∷ symbol 1 2 ∷ symbol 0 47 ∷ []

-- f(X, X) and f(V0, g(V0))
abbrev pub f_same : List Cell
f_same = symbol 2 3 ∷ variable 0 ∷ variable 0 ∷ []

abbrev pub f_inside : List Cell
f_inside = symbol 2 3 ∷ variable 0 ∷ symbol 1 4 ∷ variable 0 ∷ []

-- f(X) and f(g(V0))
abbrev pub f_one : List Cell
f_one = symbol 1 5 ∷ variable 0 ∷ []

abbrev pub f_of_g : List Cell
f_of_g = symbol 1 5 ∷ symbol 1 4 ∷ variable 0 ∷ []

-- h(X, X, Y), h(V0, V1, V1) and their common form
abbrev pub h_first : List Cell
h_first = symbol 3 6 ∷ variable 0 ∷ variable 0 ∷ variable 1 ∷ []

abbrev pub h_last : List Cell
h_last = symbol 3 6 ∷ variable 0 ∷ variable 1 ∷ variable 1 ∷ []

abbrev pub h_all : List Cell
h_all = symbol 3 6 ∷ variable 0 ∷ variable 0 ∷ variable 0 ∷ []

pub record Marked : Type 0 where
  pub first : General min_same equal_girths
  pub second : General min_same other_girths → ⊥
  pub third : Unifiable f_same f_inside → ⊥
  pub fourth : General f_one f_of_g
  pub fifth : Common h_first h_last h_all
  pub no_variants : Variant h_first h_last → ⊥
  pub one_variable : length (variables h_all) ≡ 1

abbrev pub girth_46 : List Cell
girth_46 = symbol 1 2 ∷ symbol 0 46 ∷ []

-- the first marked formula binds its X to the part at position 1
abbrev pub MarkedBinding : Type 0
MarkedBinding = BoundAt min_same equal_girths 0 1 girth_46
