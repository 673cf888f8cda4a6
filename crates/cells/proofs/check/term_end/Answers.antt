use Rattle.std.proofs.Common.{◌≡◌, ℕ, ◌+◌, ◌-◌, ◌≤◌, length, take, drop, sym, ap, ◌∙◌, subst, arith}
use native.Mathlib.Nat.{sub-zero}
use lib.ListN.{length-map}
use Rattle.std.specs.List.{between}
use Rattle.std.proofs.lemmas.List.{drop-map}
use Rattle.std.proofs.lemmas.Slice.{between_to_end}
use Rattle.cells.specs.Cells.{cell, row}
use Rattle.cells.specs.Rows.{Whole}
use Rattle.cells.proofs.Terms.{Reads, reads_terms, reads_next, no_whole}
use Rattle.cells.proofs.check.term_end.Goals as goal
use Rattle.cells.proofs.check.term_end.Goals.{After-arity_of-more, At-loop-i}

-- the rest, as cells of the whole
rest_row : (c : At-loop-i) → row c.in_ok-rest.rest.now ≡ drop c.args.at (row c.args.cells.now)
rest_row c =
    let ws = c.args.cells.now in
    let (order, _, is, _) = (c.in_ok-rest.ensures).lookup.0 in
    ap row (is ∙ between_to_end ws c.args.at (length ws) (omega arith)) ∙ sym (drop-map cell c.args.at ws)

front : (c : At-loop-i) (n : ℕ) → between 0 n (row c.in_ok-rest.rest.now) ≡ take n (drop c.args.at (row c.args.cells.now))
front c n = λ j. take (sub-zero n j) (rest_row c j)

-- one more cell
next : (c : After-arity_of-more) → Reads 1 (between 0 (c.loop-i.i + 1) (row c.in_ok-rest.rest.now)) (length c.in_ok-rest.rest.now - c.loop-i.i - c.loop-i.spare - 1 + c.arity_of-more.result)
next c =
    let ws = c.in_ok-rest.rest.now in
    let need = length ws - c.loop-i.i - c.loop-i.spare in
    subst (λ a. Reads 1 (between 0 (c.loop-i.i + 1) (row ws)) (need - 1 + a)) (sym c.arity_of-more.ensures)
    (reads_next ws 0 c.loop-i.i need (omega arith) c.loop-i-test.true (omega (arith, c.loop-i.invariant.0)) c.loop-i.invariant.1)

-- the cells that are not spare, behind it
behind : (c : After-arity_of-more) (n : ℕ) → c.arity_of-more.result ≤ c.loop-i.spare → length c.in_ok-rest.rest.now - (c.loop-i.i + 1) - (c.loop-i.spare - c.arity_of-more.result) ≡ n → Reads 1 (between 0 (c.loop-i.i + 1) (row c.in_ok-rest.rest.now)) n
behind c n le e =
    let z : length c.in_ok-rest.rest.now - c.loop-i.i - c.loop-i.spare - 1 + c.arity_of-more.result ≡ n = omega (arith, c.loop-i.invariant.0) in
    subst (Reads 1 (between 0 (c.loop-i.i + 1) (row c.in_ok-rest.rest.now))) z (next c)

pub returns-then-more-spare : goal.returns-then-more-spare
returns-then-more-spare c = λ e w.
    let a = (goal.at.returns-then-more-spare c).At-loop-i in
    let d = drop c.args.at (row c.args.cells.now) in
    let need = length c.in_ok-rest.rest.now - c.loop-i.i - c.loop-i.spare - 1 + c.arity_of-more.result in
    let r = subst (λ z. Reads 1 z need) (front a (c.loop-i.i + 1)) (next (goal.at.returns-then-more-spare c).After-arity_of-more) in
    let l : length c.in_ok-rest.rest.now ≡ length d = sym (length-map c.in_ok-rest.rest.now cell) ∙ ap length (rest_row a) in
    no_whole d (c.loop-i.i + 1) need r (omega (arith, c.loop-i.invariant.0)) (e - c.args.at) w

pub returns-then-spare-rest : goal.returns-then-spare-rest
returns-then-spare-rest c =
    let a = (goal.at.returns-then-spare-rest c).At-loop-i in
    let n : c.loop-i.i + 1 ≡ c.args.at + c.loop-i.i + 1 - c.args.at = omega arith in
    let b = behind (goal.at.returns-then-spare-rest c).After-arity_of-more 0 c.if-more-spare.false (omega arith) in
    let (order, _, _, long) = (c.in_ok-rest.ensures).lookup.0 in
    (omega arith, subst Whole (front a (c.loop-i.i + 1) ∙ ap (λ k. take k (drop c.args.at (row c.args.cells.now))) n) (reads_terms 1 (between 0 (c.loop-i.i + 1) (row c.in_ok-rest.rest.now)) b))

pub loop-i-preserved : goal.loop-i-preserved
loop-i-preserved c = (
  omega (arith, c.loop-i.invariant.0),
  behind (goal.at.loop-i-preserved c).After-arity_of-more (length c.in_ok-rest.rest.now - (c.loop-i.i + 1) - (c.loop-i.spare - c.arity_of-more.result)) c.if-more-spare.false (λ j. length c.in_ok-rest.rest.now - (c.loop-i.i + 1) - (c.loop-i.spare - c.arity_of-more.result)),
)
