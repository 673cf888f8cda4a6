use Rattle.std.proofs.Common.{◌≡◌, drop, take}
use Rattle.substitution.specs.Bindings.{lookup}
use Rattle.substitution.proofs.bindings.Bindings.find.Given as goal

abbrev pub invariant-loop-binding : goal.invariant-loop-binding
invariant-loop-binding l = lookup (drop l.binding-index (take l.self.len l.self.items)) l.cell ≡ lookup (take l.self.len l.self.items) l.cell
