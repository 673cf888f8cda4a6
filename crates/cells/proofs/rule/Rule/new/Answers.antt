use Rattle.std.proofs.Common.{◌≡◌, sym, ap, ◌∙◌, subst}
use Rattle.cells.specs.Cells.{row, words}
use Rattle.cells.specs.Substitutions.{rename}
use Rattle.cells.specs.Variables.{index, Listed, variables}
use Rattle.cells.specs.Rules.{sides, GoodSides, FirstWithout, Each, rule_ok, numbered}
use Rattle.cells.specs.Records.{row_words}
use Rattle.cells.proofs.Variants.{variable_laws}
use Rattle.cells.proofs.Lacking.{found_new, found_none}
use Rattle.cells.proofs.Ruling.{rule_laws}
use Rattle.cells.proofs.rule.Rule.new.Goals as goal
use Rattle.cells.proofs.rule.Rule.new.Goals.{After-find_new, After-renamed-2}

-- the names are the left side's variables
names : (c : After-find_new) → c.names-names.result.items ≡ variables (row c.args.left.now)
names c = c.names-names.ensures ∙ ap (λ z. variables (row z)) c.in_ok-from.ensures.1

pub returns-in-Some : goal.returns-in-Some
returns-in-Some c =
    let a = (goal.at.returns-in-Some c).After-find_new in
    let l = row c.args.left.now in
    let f : FirstWithout (Listed (variables l)) (row c.args.right.now) c.in-Some.place =
    subst (λ z. FirstWithout (Listed (variables l)) (row z) c.in-Some.place) (c.cells.ensures.value ∙ c.in_ok-to.ensures.1)
    (subst (λ us. FirstWithout (Listed us) (row c.cells.result.now) c.in-Some.place) (c.deref.ensures.0 ∙ names a) (found_new c.deref.result.now c.cells.result.now c.in-Some.place (sym c.in-Some.ensures))) in (
      c.in_ok-from.ensures.0,
      c.in_ok-to.ensures.0,
      record {
        v = f.v;
        here = f.here;
        lacks = λ o. f.lacks ((variable_laws.listed l f.v).0 o);
        before = λ k u i s. (variable_laws.listed l u).1 (f.before k u i s);
      },
    )

good : (c : After-renamed-2) → c.cells.result.now ≡ c.args.right.now → GoodSides (sides c.args.left.now c.args.right.now)
good c right =
    let a = (goal.at.After-renamed-2 c).After-find_new in
    let l = row c.args.left.now in
    let e : Each (Listed (variables l)) (row c.args.right.now) =
    subst (λ z. Each (Listed (variables l)) (row z)) right (subst (λ us. Each (Listed us) (row c.cells.result.now)) (c.deref.ensures.0 ∙ names a) (found_none c.deref.result.now c.cells.result.now (sym c.in_default.ensures))) in
    record { left = c.in_ok-from.ensures.0; right = c.in_ok-to.ensures.0; covered = λ k v s. (variable_laws.listed l v).1 (e k v s) }

-- both sides are renamed by the left side's variables
made : (c : After-renamed-2) → sides (row_words c.renamed.result) (row_words c.renamed-2.result) ≡ numbered (sides c.args.left.now c.args.right.now)
made c =
    let n = names (goal.at.After-renamed-2 c).After-find_new in
    let l = c.renamed.ensures ∙ (λ j. words (rename (index (n j)) (row (c.in_ok-from.ensures.1 j)))) in
    let r = c.renamed-2.ensures ∙ (λ j. words (rename (index (n j)) (row (c.in_ok-to.ensures.1 j)))) in
    λ j. sides (l j) (r j)

pub invariant_of-result : goal.invariant_of-result
invariant_of-result c =
    let s = sides c.args.left.now c.args.right.now in
    record { checked = ap rule_ok (made c) ∙ (rule_laws.checked (numbered s)).1 (rule_laws.numbers s (good c (c.cells.ensures.value ∙ c.in_ok-to.ensures.1))) }

pub returns : goal.returns
returns c = let a = (goal.at.returns c).After-renamed-2 in (good a (c.cells.ensures.value ∙ c.in_ok-to.ensures.1), made a)
