use Rattle.std.proofs.Common.{◌≡◌, ℕ, ◌<◌, List, length, get_or, take, arith, length-take}
use Rattle.std.proofs.lemmas.List.{get_or-take}
use Rattle.matching.proofs.Walking.{passes, passed}
use Rattle.matching.proofs.finding.place.Goals as goal

-- a cell before k
before : (ps : List ℕ) (k i : ℕ) → i < length (take k ps) → (i < length ps) × (get_or (take k ps) i 0 ≡ get_or ps i 0)
before ps k i l = let n = length-take k ps in (omega arith, get_or-take k ps i 0 (omega arith))

pub unwrap-at-requires : goal.unwrap-at-requires
unwrap-at-requires c =
    let ps = c.args.pattern.now in
    let i = c.loop-w.w-index in
    let (l, e) = before ps c.args.k i c.loop-w-test.true in
    passes ps c.args.target.now i c.loop-w.at l c.loop-w.invariant c.pass.result (rw e at c.pass.ensures) c.requires.holds

pub loop-w-preserved : goal.loop-w-preserved
loop-w-preserved c =
    let ps = c.args.pattern.now in
    let i = c.loop-w.w-index in
    let (l, e) = before ps c.args.k i c.loop-w-test.true in
    passed ps c.args.target.now i c.loop-w.at l c.loop-w.invariant c.pass.result c.unwrap-at.result c.unwrap-at.ensures (rw e at c.pass.ensures)
