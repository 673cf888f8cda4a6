use Rattle.std.proofs.Common.{length, lit<, sym, subst}
use Rattle.unification.specs.Close.{Fit}
use Rattle.unification.specs.Unifiers.{graph_of}
use Rattle.unification.proofs.DownFacts.{link_room, link_fit}
use Rattle.unification.proofs.unifier.Unifier.link.Goals as goal

pub push-requires : goal.push-requires
push-requires c = (lit< tt, link_room c.args.self.now c.args.x c.args.y c.requires.from c.requires.to c.requires.apart)

pub invariant_of-self-clause-fit : goal.invariant_of-self-clause-fit
invariant_of-self-clause-fit c =
    let u = c.args.self.now in
    subst (Fit (graph_of u) (length u.cells.now) 512) (sym c.push.ensures.items) (link_fit u c.args.x c.args.y c.requires.from c.requires.to c.requires.apart)
