use Rattle.std.proofs.Common.{◌≡◌, [], ◌∷◌, Ok, sym, refl, subst, arith}
use Rattle.std.proofs.lemmas.Grind.{common_steps}
use Rattle.std.proofs.lemmas.Result.{err_from_is_err_and}
use Rattle.unification.specs.Number.{Wrote, found_in, FormFound}
use Rattle.unification.specs.Unifiers.{graph_of}
use Rattle.unification.proofs.DownFacts.{law_of, same_graph}
use Rattle.unification.proofs.FormFacts.{form_some, form_over}
use Rattle.unification.proofs.unifier.Unifier.common_form.Goals as goal
use Rattle.unification.proofs.unifier.Unifier.common_form.Goals.{After-write_rows}

-- what is written, by the graph of the memory as it was
wrote : (c : After-write_rows) → let u = c.args.self.now in
    Wrote (graph_of u) c.unify.new.self.links.items (c.args.p ∷ []) c.args.form.now c.write_rows.new.form c.write_rows.result
wrote c =
    let u = c.args.self.now in
    let v = c.unify.new.self in
    subst (λ G. Wrote G v.links.items (c.args.p ∷ []) c.args.form.now c.write_rows.new.form c.write_rows.result)
    (same_graph v.kinds u.kinds v.cells u.cells c.unify.ensures.kinds c.unify.ensures.cells) c.write_rows.ensures

pub returns-in_err-write_rows : goal.returns-in_err-write_rows
returns-in_err-write_rows c =
    let u = c.args.self.now in
    let G = graph_of u in
    let L = c.unify.new.self.links.items in
    let e = err_from_is_err_and c.from_residual.result c.from_residual.ensures.1 in
    subst (λ r. FormFound G c.args.p c.args.q (found_in c.write_rows.new.form r)) (sym e.1)
    (form_over G (law_of u) c.args.p c.args.q L c.in_err-write_rows.field-0.0 e.0 (c.if-not-unify.ensures.out refl) (c.if-not-unify.ensures.solved refl)
    c.args.form.now c.write_rows.new.form c.requires.cells c.requires.names
    (subst (Wrote G L (c.args.p ∷ []) c.args.form.now c.write_rows.new.form) (c.in_err-write_rows.was) (wrote (goal.at.returns-in_err-write_rows c).After-write_rows)))

pub returns : goal.returns
returns c =
    let u = c.args.self.now in
    let G = graph_of u in
    let L = c.unify.new.self.links.items in
    let done : c.write_rows.result ≡ Ok tt = grind (arith, common_steps) in
    form_some G (law_of u) c.args.p c.args.q L (c.if-not-unify.ensures.out refl) (c.if-not-unify.ensures.solved refl)
    c.args.form.now c.write_rows.new.form c.requires.cells c.requires.names
    (subst (Wrote G L (c.args.p ∷ []) c.args.form.now c.write_rows.new.form) done (wrote (goal.at.returns c).After-write_rows))
