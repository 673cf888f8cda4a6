use Rattle.std.proofs.Common.{sym, ap, ◌∙◌, subst}
use Rattle.unification.specs.Memory.{binds}
use Rattle.unification.specs.Unifiers.{graph_of, size_of, Root}
use Rattle.unification.proofs.FitFacts.{find_place}
use Rattle.unification.proofs.DownFacts.{place_low, place_sym}
use Rattle.unification.proofs.unifier.Unifier.resolve.Goals as goal
use Rattle.unification.proofs.unifier.Unifier.resolve.Goals.{After-root-root}

stands : (c : After-root-root) → Root c.args.self.now c.root-root.result
stands c =
    let u = c.args.self.now in
    subst (Root u) (sym c.root-root.ensures) (record {
      place = find_place (graph_of u) (size_of u) u.links.items c.args.place u.fit.ends c.requires;
      itself = u.fit.again c.args.place;
    })

pub cell-requires : goal.cell-requires
cell-requires c = let u = c.args.self.now in place_low u.cells.now u.memory u.kinds c.root-root.result (stands (goal.at.cell-requires c).After-root-root).place

pub returns-clause-root : goal.returns-clause-root
returns-clause-root c = stands (goal.at.returns-clause-root c).After-root-root

pub returns-clause-low : goal.returns-clause-low
returns-clause-low c =
    let u = c.args.self.now in
    λ e. place_sym u.cells.now u.memory u.kinds c.root-root.result (stands (goal.at.returns-clause-low c).After-root-root).place (ap (binds u.kinds) (sym c.cell.ensures) ∙ e)
