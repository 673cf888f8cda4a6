use Rattle.std.proofs.Common.{length, sym, subst}
use Rattle.unification.specs.Memory.{over}
use Rattle.unification.specs.Close.{Fit}
use Rattle.unification.proofs.FitFacts.{fit_none}
use Rattle.unification.proofs.unifier.Unifier.new.Goals as goal

pub invariant_of-result-clause-fit : goal.invariant_of-result-clause-fit
invariant_of-result-clause-fit c =
    let G = over c.args.kinds c.args.cells.now in
    let n = length c.args.cells.now in
    subst (Fit G n 512) (sym c.new.ensures) (fit_none G n 512 c.requires.small)
