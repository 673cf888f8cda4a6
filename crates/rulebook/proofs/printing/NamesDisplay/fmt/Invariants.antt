use Rattle.std.proofs.Common.{◌≡◌, drop}
use Rattle.rulebook.specs.Printing.{names_text}
use Rattle.rulebook.proofs.printing.NamesDisplay.fmt.Given as goal

abbrev pub invariant-loop-i : goal.invariant-loop-i
invariant-loop-i g l = (l.f ≡ l.initial.f) × (names_text (drop l.i l.self.0.now) ≡ names_text l.self.0.now)
