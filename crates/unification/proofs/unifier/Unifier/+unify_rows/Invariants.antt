use Rattle.std.proofs.Common.{◌+◌, ◌-◌, ◌*◌, length}
use Rattle.unification.proofs.unifier.Unifier.+unify_rows.Given as goal

abbrev pub decreases-unify_rows : goal.decreases-unify_rows
decreases-unify_rows l = (512 - length l.self.now.links.items) * 65536 + l.n
