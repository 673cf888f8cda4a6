use Rattle.std.proofs.Common.{◌≡◌, ℕ, ◌<◌, true, List, length, get_or}
use Rattle.unification.specs.declared.unifier.walking.Mark.TheVariants.{Open}
use Rattle.unification.specs.Graph.{Sol}
use Rattle.unification.specs.Memory.{binds}
use Rattle.unification.specs.Finite.{mark_at, Ended}
use Rattle.unification.specs.Unifiers.{graph_of}
use Rattle.unification.proofs.unifier.Unifier.is_solvable.Given as goal

abbrev pub invariant-loop-from : goal.invariant-loop-from
invariant-loop-from l = record {
  sheet : length l.marks ≡ 512;
  closed : (o : ℕ) → mark_at l.marks o ≡ Open → ⊥;
  ended : Ended (graph_of l.self) l.self.links.items l.marks;
  rows : (j : ℕ) → j < l.from-index → binds l.self.kinds (get_or l.from-items j (0, 0)).0 ≡ true
      → (row : List ℕ) × Sol (graph_of l.self) l.self.links.items (get_or l.from-items j (0, 0)).0 row;
}
