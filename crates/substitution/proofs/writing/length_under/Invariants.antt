use Rattle.std.proofs.Common.{◌≡◌, ◌+◌, length, take}
use Rattle.substitution.specs.Bindings.{bindings_list, under}
use Rattle.substitution.proofs.writing.length_under.Given as goal

abbrev pub invariant-loop-w : goal.invariant-loop-w
invariant-loop-w l = l.left + length (under l.source (bindings_list l.bindings) (take l.w-index l.pattern)) ≡ l.room
