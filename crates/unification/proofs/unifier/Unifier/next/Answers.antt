use Rattle.std.proofs.Common.{◌≡◌, ◌-◌, ◌∷◌, drop, sym, refl, subst}
use Rattle.unification.specs.Memory.{Has, places_from}
use Rattle.unification.proofs.DownFacts.{rest_has, places_cons}
use Rattle.unification.proofs.unifier.Unifier.next.Goals as goal

pub returns-then-n-eq1-clause-places : goal.returns-then-n-eq1-clause-places
returns-then-n-eq1-clause-places c =
    let mem = c.args.self.now.cells.now in
    subst (λ n. places_from mem c.args.at n ≡ c.args.at ∷ places_from mem c.args.at (n - 1)) (sym c.if-n-eq1.true) refl

pub returns-then-n-eq1-clause-rest : goal.returns-then-n-eq1-clause-rest
returns-then-n-eq1-clause-rest c = subst (λ n. Has (n - 1) (drop c.args.at c.args.self.now.cells.now)) (sym c.if-n-eq1.true) refl

pub returns-else-n-eq1-clause-places : goal.returns-else-n-eq1-clause-places
returns-else-n-eq1-clause-places c =
    places_cons c.args.self.now.cells.now c.args.n c.args.at c.requires.some c.requires.rows c.end_at.result c.end_at.ensures.end

pub returns-else-n-eq1-clause-rest : goal.returns-else-n-eq1-clause-rest
returns-else-n-eq1-clause-rest c =
    rest_has c.args.self.now.cells.now c.args.n c.args.at c.requires.some c.requires.rows c.end_at.result c.end_at.ensures.end
