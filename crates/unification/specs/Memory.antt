-- A memory of cells that holds whole rows one behind the other, as a graph of places. Assumes nothing.
use Rattle.std.specs.Prelude.{◌≡◌, ℕ, zero, suc, ◌+◌, ◌-◌, ◌/◌, ◌<◌, Bool, true, false, cond, List, [], ◌∷◌, length, take, drop, nat_le, nat_lt, slice_index}
use Rattle.cells.specs.Cells.{arity}
use Rattle.unification.specs.declared.kinds.Kinds.{Kinds}
use Rattle.unification.specs.Codes.{is_var, high_cell}
use Rattle.unification.specs.Graph.{Graph}

-- how many rows follow a cell
unfoldable pub need : ℕ → ℕ
need c = cond (is_var c) 0 (cond (nat_lt c 0x100000000) (c / 65536) (arity (high_cell (c - 0x100000000))))

-- which variables may be bound: those of the formula, of the rule and of the tree follow one another
unfoldable pub binds : Kinds → ℕ → Bool
binds kinds c = cond (is_var c) (cond (nat_le 0xA0000000 c) kinds.tree (cond (nat_le 0x90000000 c) kinds.rule kinds.formula)) false

-- how many cells the first k whole rows take
abbrev pub size : ℕ → List ℕ → ℕ
size k [] = 0
size zero (c ∷ cs) = 0
size (suc k) (c ∷ cs) = suc (size (k + need c) cs)

-- whether a row begins with k whole rows
abbrev pub has : ℕ → List ℕ → Bool
has zero cs = true
has (suc k) [] = false
has (suc k) (c ∷ cs) = has (k + need c) cs

abbrev pub Has : ℕ → List ℕ → Type 0
Has k cs = has k cs ≡ true

-- what stands from a place on: a variable's own cell by itself; past the end a variable
abbrev pub or_var : List ℕ → List ℕ
or_var [] = 0x80000000 ∷ []
or_var (c ∷ cs) = c ∷ cs

abbrev pub from : List ℕ → ℕ → List ℕ
from mem n = cond (is_var n) (n ∷ []) (or_var (drop n mem))

abbrev pub cell_at : List ℕ → ℕ → ℕ
cell_at mem n = slice_index (from mem n) 0

abbrev pub term_at : List ℕ → ℕ → List ℕ
term_at mem n = take (size 1 (from mem n)) (from mem n)

-- the places of k rows that begin at q
abbrev pub places_from : List ℕ → ℕ → ℕ → List ℕ
places_from mem q zero = []
places_from mem q (suc k) = q ∷ places_from mem (q + size 1 (drop q mem)) k

abbrev pub kids_at : List ℕ → ℕ → List ℕ
kids_at mem n = places_from mem (n + 1) (need (cell_at mem n))

abbrev pub graph : (ℕ → Bool) → List ℕ → Graph
graph is_v mem = record { is_v = is_v; need = need; cell = cell_at mem; kids = kids_at mem; term = term_at mem }

-- a memory in which a whole row begins at each place, of which none is taken for a variable
pub record Memory (mem : List ℕ) : Type 0 where
  pub whole : (p : ℕ) → p < length mem → Has 1 (drop p mem)
  pub short : length mem < 0x80000000

-- the graph of a memory in which the variables of these kinds may be bound
abbrev pub over : Kinds → List ℕ → Graph
over kinds mem = graph (binds kinds) mem
