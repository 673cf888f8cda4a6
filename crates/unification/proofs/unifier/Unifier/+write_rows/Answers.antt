use Rattle.std.proofs.Common.{◌≡◌, ℕ, ◌+◌, ◌<◌, true, false, [], ◌∷◌, ◌++◌, length, drop, Ok, Err, sym, ap, ◌∙◌, subst, subst₂, arith, length-append}
use Rattle.std.proofs.lemmas.Result.{err_from_is_err_and}
use Rattle.unification.specs.Memory.{Has, need, binds, cell_at, places_from}
use Rattle.cells.specs.Variables.{index, include}
use Rattle.unification.specs.Number.{number, Wrote}
use Rattle.unification.specs.Unifiers.{graph_of}
use Rattle.unification.proofs.DownFacts.{law_of, places_first, kids_has, need_of, need_small}
use Rattle.unification.proofs.WriteFacts.{w_none, w_names, First, first_then, first_var, first_sym, w_down}
use Rattle.unification.proofs.unifier.Unifier.+write_rows.Goals as goal
use Rattle.unification.proofs.unifier.Unifier.+write_rows.Goals.{then-binds+in_ok-number+in_ok-push, else-binds+in_ok-push-2+in_ok-write_rows, After-next}

pub returns-then-n-eq0 : goal.returns-then-n-eq0
returns-then-n-eq0 t c =
    let u = c.args.self.now in
    let G = graph_of u in
    subst (λ n. Wrote G u.links.items (places_from u.cells.now c.args.i n) c.args.form.now c.args.form.now (Ok tt)) (sym c.if-n-eq0.true)
    (w_none G (law_of u) u.links.items c.args.form.now)

pub returns-in_err-number : goal.returns-in_err-number
returns-in_err-number t c =
    let u = c.args.self.now in
    let mem = u.cells.now in
    let G = graph_of u in
    let x = c.head-x.result.0 in
    let old = c.args.form.now in
    let vx : binds u.kinds (cell_at mem x) ≡ true = ap (binds u.kinds) (sym c.head-x.ensures.cell) ∙ sym c.if-binds.ensures in
    let big : 64 < length (include old.names.items (cell_at mem x)) = subst (λ w. 64 < length (include old.names.items w)) c.head-x.ensures.cell c.in_err-number.ensures.number in
    let e = err_from_is_err_and c.from_residual.result c.from_residual.ensures.1 in
    subst₂ (λ P r. Wrote G u.links.items P old c.number_of.new.self r) (sym (places_first mem c.args.n c.args.i c.if-n-eq0.false c.requires)) (sym e.1)
    (w_names G (law_of u) u.links.items c.args.i x c.head-x.ensures.place old _ c.number_of.new.self e.0 vx big)

pub write_rows-requires : goal.write_rows-requires
write_rows-requires t c =
    let u = c.args.self.now in
    let mem = u.cells.now in
    let x = c.head-x.result.0 in
    let em = need_of mem x c.head-x.result.1 c.arity_of.result (omega arith) c.head-x.ensures.cell c.arity_of.ensures in
    let old = c.args.form.now in
    let one = c.push-else-binds.new.self in
    let longer = ap length c.in_ok-push-2.ensures.cells in (
      omega (arith, c.decreases, longer, length-append old.cells.items (c.head-x.result.1 ∷ []), one.within, em, ap need c.head-x.ensures.cell, need_small c.head-x.result.1 (omega arith)),
      subst (λ k. Has k (drop (c.head-x.result.0 + 1) mem)) (sym em) (kids_has mem u.memory u.kinds c.head-x.result.0 (c.head-x.ensures.low (sym c.if-binds.ensures))),
    )

pub returns-in_err-write_rows : goal.returns-in_err-write_rows
returns-in_err-write_rows t c =
    let u = c.args.self.now in
    let mem = u.cells.now in
    let G = graph_of u in
    let x = c.head-x.result.0 in
    let old = c.args.form.now in
    let sx : binds u.kinds (cell_at mem x) ≡ false = ap (binds u.kinds) (sym c.head-x.ensures.cell) ∙ sym c.if-binds.ensures in
    let e = err_from_is_err_and c.from_residual-in_err-write_rows.result c.from_residual-in_err-write_rows.ensures.1 in
    subst₂ (λ P r. Wrote G u.links.items P old c.write_rows.new.form r) (sym (places_first mem c.args.n c.args.i c.if-n-eq0.false c.requires)) (sym e.1)
    (w_down G (law_of u) u.links.items c.args.i x c.head-x.ensures.place old c.push-else-binds.new.self c.write_rows.new.form sx
    (c.in_ok-push-2.ensures.cells ∙ ap (λ w. old.cells.items ++ w ∷ []) c.head-x.ensures.cell) (ap (λ v. v.items) c.in_ok-push-2.ensures.names) _ c.write_rows.new.form c.in_err-write_rows.field-0.0 e.0
    (subst (λ k. Wrote G u.links.items (places_from mem (x + 1) k) c.push-else-binds.new.self c.write_rows.new.form (Err c.in_err-write_rows.field-0.0)) (need_of mem x c.head-x.result.1 c.arity_of.result (omega arith) c.head-x.ensures.cell c.arity_of.ensures) c.in_err-write_rows.ensures))

-- whichever way the first place's row was written
first : (t : ℕ) (c : After-next t) → let u = c.args.self.now in
    First (graph_of u) (law_of u) u.links.items c.args.i c.head-x.result.0 c.head-x.ensures.place c.args.form.now c.if-binds.form
first t c =
    let u = c.args.self.now in
    let mem = u.cells.now in
    let G = graph_of u in
    let W = law_of u in
    let L = u.links.items in
    let x = c.head-x.result.0 in
    let old = c.args.form.now in
    elim c.if-binds.branch [
      | then-binds+in_ok-number+in_ok-push w ↦
          subst (First G W L c.args.i x c.head-x.ensures.place old) (sym w.form-is)
          (first_var G W L c.args.i x c.head-x.ensures.place old w.push.new.self w.in_ok-number.number
          (ap (binds u.kinds) (sym c.head-x.ensures.cell) ∙ sym w.if-binds.ensures)
          (w.in_ok-number.ensures.number.0 ∙ ap (index old.names.items) c.head-x.ensures.cell)
          (ap (λ v. v.items) w.in_ok-push.ensures.names ∙ w.in_ok-number.ensures.number.1 ∙ ap (include old.names.items) c.head-x.ensures.cell)
          (w.in_ok-push.ensures.cells ∙ ap (λ v. v.items ++ (0x80000000 + w.in_ok-number.number) ∷ []) w.in_ok-number.ensures.cells))
      | else-binds+in_ok-push-2+in_ok-write_rows w ↦
          (let em : w.arity_of.result ≡ need (cell_at mem x) = need_of mem x c.head-x.result.1 w.arity_of.result (omega arith) c.head-x.ensures.cell w.arity_of.ensures in
          subst (First G W L c.args.i x c.head-x.ensures.place old) (sym w.form-is)
          (first_sym G W L c.args.i x c.head-x.ensures.place old w.push-else-binds.new.self w.write_rows.new.form
          (ap (binds u.kinds) (sym c.head-x.ensures.cell) ∙ sym w.if-binds.ensures)
          (w.in_ok-push-2.ensures.cells ∙ ap (λ w. old.cells.items ++ w ∷ []) c.head-x.ensures.cell) (ap (λ v. v.items) w.in_ok-push-2.ensures.names)
          (subst (λ k. Wrote G L (places_from mem (x + 1) k) w.push-else-binds.new.self w.write_rows.new.form (Ok tt)) em w.in_ok-write_rows.ensures)))
    ]

pub write_rows-requires-2 : goal.write_rows-requires-2
write_rows-requires-2 t c =
    let u = c.args.self.now in
    let F = first t c in
    let old = c.args.form.now in (
      omega (arith, c.decreases, ap length F.text, length-append old.cells.items (number (binds u.kinds) old.names.items (cell_at u.cells.now c.head-x.result.0 ∷ F.row))),
      c.next.ensures.rest,
    )

pub returns : goal.returns
returns t c =
    let u = c.args.self.now in
    let mem = u.cells.now in
    let G = graph_of u in
    subst (λ P. Wrote G u.links.items P c.args.form.now c.write_rows-2.new.form c.write_rows-2.result) (sym c.next.ensures.places)
    (first_then G (law_of u) u.links.items c.args.i c.head-x.result.0 c.head-x.ensures.place c.args.form.now _ c.if-binds.form c.write_rows-2.new.form c.write_rows-2.result
    (first t (goal.at.returns t c).After-next) c.write_rows-2.ensures)
