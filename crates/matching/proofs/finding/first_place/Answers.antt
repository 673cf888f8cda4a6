use Rattle.std.proofs.Common.{◌≡◌, ◌+◌, rules}
use Rattle.std.proofs.lemmas.Iterator.{IsFirst-from_position, YieldsList-from_slice}
use borrow.Author.Tests.{tests}
use Rattle.matching.proofs.Walking.{first_by}
use Rattle.matching.proofs.finding.first_place.Goals as goal

pub returns : goal.returns
returns c =
    let v = c.args.v in
    let ps = c.args.pattern.now in
    first_by ps v c.position.result
    (IsFirst-from_position _ _ c.position.result (λ w. w ≡ 2147483648 + v) (λ w. w ≡ 2147483648 + v → ⊥) c.position.ensures.ran (YieldsList-from_slice ps cc) (λ x q k. search (rules, tests)) (λ x q k. search (rules, tests)))
