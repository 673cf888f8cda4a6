use Rattle.std.proofs.Common.{◌+◌, ◌*◌}
use Rattle.unification.specs.Finite.{fresh}
use Rattle.unification.proofs.unifier.Unifier.+finite_rows.Given as goal

abbrev pub decreases-finite_rows : goal.decreases-finite_rows
decreases-finite_rows l = fresh l.marks.now * 65536 + l.n
