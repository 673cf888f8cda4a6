use Rattle.std.proofs.Common.{◌≡◌, ◌+◌, drop, Some, get_or-drop, arith, rules}
use Rattle.unification.specs.Memory.{size}
use Rattle.unification.proofs.EndFacts.{ended, end_within}
use Rattle.unification.proofs.unifier.places.end_at.Goals as goal
use Rattle.unification.proofs.unifier.places.end_at.Goals.{After-term_end}

found : (c : After-term_end) → c.term_end.result ≡ Some (c.args.at + size 1 (drop c.args.at c.args.cells.now))
found c =
    ended c.args.cells.now c.args.at
    (λ i. let w = c.type_inv.cells (c.args.at + i) in let e = get_or-drop c.args.at c.args.cells.now i 0 in omega arith)
    c.requires.low c.requires.row c.term_end.result c.term_end.ensures

pub unwrap-requires : goal.unwrap-requires
unwrap-requires c = let e = found (goal.at.unwrap-requires c).After-term_end in search rules

pub returns-clause-end : goal.returns-clause-end
returns-clause-end c = let e = found (goal.at.returns-clause-end c).After-term_end in search rules

pub returns-clause-within : goal.returns-clause-within
returns-clause-within c =
    let e = found (goal.at.returns-clause-within c).After-term_end in
    let w = end_within c.args.cells.now c.args.at c.requires.low in
    search rules
