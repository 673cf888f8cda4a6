use Rattle.std.proofs.Common.{◌≡◌, Decides, sym}
use Rattle.std.specs.List.{between}
use Rattle.std.proofs.lemmas.Slice.Eq.{slice_eq-Decides}
use Rattle.std.proofs.lemmas.Bool.Decides.{Decides-eqb}
use Rattle.substitution.specs.Bindings.{bindings_list}
use Rattle.matching.proofs.Stepping.{bound_step}
use Rattle.matching.proofs.matcher.extend_by.Goals as goal

pub returns-in-Some-clause-matched : goal.returns-in-Some-clause-matched
returns-in-Some-clause-matched c =
    let d : Decides c.eq.result (c.clipped.result.now ≡ between c.args.at c.in_ok-end.end c.args.target.now) = slice_eq-Decides Decides-eqb _ _ _ c.eq.ensures in
    rw c.then_some-in-Some.ensures
    (bound_step c.args.target.now (bindings_list c.args.list.now) c.args.w c.args.at c.if-w-lt-VARIABLE.false c.in_ok-end.end c.in_ok-end.ensures c.in-Some.part (sym c.in-Some.ensures) c.eq.result (rw c.clipped.ensures at d))
