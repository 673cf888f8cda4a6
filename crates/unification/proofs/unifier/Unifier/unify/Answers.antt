use Rattle.std.proofs.Common.{[], ◌∷◌, true, sym, subst}
use Rattle.unification.specs.Graph.{Sat}
use Rattle.unification.specs.Close.{Out, Solved}
use Rattle.unification.specs.Unifiers.{graph_of}
use Rattle.unification.proofs.DownFacts.{law_of, same_graph}
use Rattle.unification.proofs.SolveFacts.{decide}
use Rattle.unification.proofs.unifier.Unifier.unify.Goals as goal

pub returns-then-unify_rows-clause-decides : goal.returns-then-unify_rows-clause-decides
returns-then-unify_rows-clause-decides c =
    let u = c.args.self.now in
    let v = c.unify_rows.new.self in
    let G = graph_of u in
    let L = v.links.items in
    let e = same_graph v.kinds u.kinds v.cells u.cells c.unify_rows.ensures.kinds c.unify_rows.ensures.cells in
    decide G (law_of u) c.args.p c.args.q L
    (subst (λ K. Out G K L (c.args.p ∷ []) (c.args.q ∷ []) true) c.requires.links c.if-unify_rows.ensures.out)
    c.is_solvable.result
    (λ t. subst (λ G. Solved G L) e (c.is_solvable.ensures.yes t))
    (λ f σ s. c.is_solvable.ensures.no f σ (subst (λ G. Sat G σ L) (sym e) s))
