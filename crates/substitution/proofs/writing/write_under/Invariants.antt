use Rattle.std.proofs.Common.{◌≡◌, ◌++◌, length, take, drop}
use Rattle.substitution.specs.Bindings.{bindings_list, under}
use Rattle.substitution.proofs.writing.write_under.Given as goal

abbrev pub invariant-loop-w : goal.invariant-loop-w
invariant-loop-w l = record {
  at : l.end ≡ length (under l.source (bindings_list l.bindings) (take l.w-index l.pattern));
  written : l.out ≡ under l.source (bindings_list l.bindings) (take l.w-index l.pattern) ++ drop l.end l.initial.out;
}
