-- What a graph of places obeys. Assumes nothing.
use Rattle.std.proofs.Common.{◌≡◌, ℕ, true, List, [], ◌∷◌, ◌++◌, length}
use Rattle.unification.specs.Rows.{Wholes}
use Rattle.unification.specs.Graph.{Graph}
use Rattle.unification.proofs.RowFacts.{Leafy}

-- the rows of a list of places, one behind the other
abbrev pub flat : (ℕ → List ℕ) → List ℕ → List ℕ
flat f [] = []
flat f (p ∷ ps) = f p ++ flat f ps

-- a whole row stands at each place: its cell, and behind it the rows of its arguments; a variable stands at its own word
pub record Laws (G : Graph) : Type 0 where
  pub leafy : Leafy G.is_v G.need
  pub whole : (p : ℕ) → Wholes G.need 1 (G.term p)
  pub term_is : (p : ℕ) → G.term p ≡ G.cell p ∷ flat G.term (G.kids p)
  pub many : (p : ℕ) → length (G.kids p) ≡ G.need (G.cell p)
  pub var_node : (c : ℕ) → G.is_v c ≡ true → G.cell c ≡ c
