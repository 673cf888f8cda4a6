use Rattle.std.proofs.Common.{◌≡◌, false, get_or, cond, length, sym, ap, ◌∙◌, arith}
use Rattle.unification.specs.Graph.{find, canon}
use Rattle.unification.specs.Codes.{is_var}
use Rattle.unification.specs.Memory.{binds, cell_at}
use Rattle.unification.specs.Unifiers.{graph_of}
use Rattle.unification.proofs.MemFacts.{low_var, cell_low}
use Rattle.unification.proofs.FitFacts.{place_from}
use Rattle.unification.proofs.unifier.Unifier.head.Goals as goal
use Rattle.unification.proofs.unifier.Unifier.head.Goals.{After-binds}

-- the cell at the position, and what the position comes to
here : (c : After-binds) → cell_at c.args.self.now.cells.now c.args.at ≡ get_or c.args.self.now.cells.now c.args.at 0
here c =
    let u = c.args.self.now in
    let v : is_var c.args.at ≡ false = low_var c.args.at (omega (arith, u.memory.short)) in
    cell_low u.cells.now c.args.at v c.requires

comes : (c : After-binds) → canon (graph_of c.args.self.now) c.args.at ≡ cond c.binds.result (get_or c.args.self.now.cells.now c.args.at 0) c.args.at
comes c =
    let u = c.args.self.now in
    ap (λ w. cond (binds u.kinds w) w c.args.at) (here c) ∙ ap (λ b. cond b (get_or u.cells.now c.args.at 0) c.args.at) (sym c.binds.ensures)

pub resolve-requires : goal.resolve-requires
resolve-requires c =
    let u = c.args.self.now in
    place_from (graph_of u) (length u.cells.now) c.args.at (get_or u.cells.now c.args.at 0) c.requires
    (comes (goal.at.resolve-requires c).After-binds ∙ ap (λ b. cond b (get_or u.cells.now c.args.at 0) c.args.at) c.if-binds.true)

pub resolve-requires-else-binds : goal.resolve-requires-else-binds
resolve-requires-else-binds c =
    let u = c.args.self.now in
    place_from (graph_of u) (length u.cells.now) c.args.at c.args.at c.requires
    (comes (goal.at.resolve-requires-else-binds c).After-binds ∙ ap (λ b. cond b (get_or u.cells.now c.args.at 0) c.args.at) c.if-binds.false)

pub returns-then-binds-clause-place : goal.returns-then-binds-clause-place
returns-then-binds-clause-place c =
    let u = c.args.self.now in
    c.resolve.ensures.place
    ∙ ap (find u.links.items) (sym (comes (goal.at.returns-then-binds-clause-place c).After-binds ∙ ap (λ b. cond b (get_or u.cells.now c.args.at 0) c.args.at) c.if-binds.true))
