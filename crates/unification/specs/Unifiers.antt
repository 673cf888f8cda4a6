-- What a unifier holds, as a graph of places. Assumes nothing.
use Rattle.std.specs.Prelude.{◌≡◌, ℕ, List, length}
use Rattle.unification.specs.declared.unifier.Unifier.{Unifier}
use Rattle.unification.specs.Graph.{Graph, Links, find}
use Rattle.unification.specs.Memory.{places_from, over}
use Rattle.unification.specs.Close.{Place}

abbrev pub graph_of : Unifier → Graph
graph_of u = over u.kinds u.cells.now

abbrev pub size_of : Unifier → ℕ
size_of u = length u.cells.now

abbrev pub links_of : Unifier → Links
links_of u = u.links.items

-- the places of the n rows that begin at i
abbrev pub rows_of : Unifier → ℕ → ℕ → List ℕ
rows_of u i n = places_from u.cells.now i n

-- a place that stands for itself
pub record Root (u : Unifier) (x : ℕ) : Type 0 where
  pub place : Place (graph_of u) (size_of u) x
  pub itself : find (links_of u) x ≡ x
