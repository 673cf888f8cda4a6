use Rattle.std.proofs.Common.{◌≡◌, ◌∷◌, [], ◌++◌, length, Some, None, ◌==◌, position, sym, ap, ◌∙◌, subst, arith, length-append}
use Rattle.std.proofs.lemmas.Grind.{common_steps}
use Rattle.std.proofs.lemmas.Result.{MatchResult-from_err}
use Rattle.unification.proofs.NameFacts.{Says, place_says}
use Rattle.unification.proofs.form.Form.number_of.Goals as goal
use Rattle.unification.proofs.form.Form.number_of.Goals.{After-place_of}

says : (c : After-place_of) → Says c.args.self.now.names.items c.args.variable c.place_of.result
says c =
    let ms = c.args.self.now.names.items in
    let v = c.args.variable in
    subst (Says ms v) (sym (c.place_of.ensures ∙ ap (position (λ w. w == v)) c.as_slice.ensures.value)) (place_says ms v)

pub returns-in-Some-clause-number : goal.returns-in-Some-clause-number
returns-in-Some-clause-number c =
    let m : Says c.args.self.now.names.items c.args.variable (Some c.in-Some.i) =
    subst (Says c.args.self.now.names.items c.args.variable) c.in-Some.is (says (goal.at.returns-in-Some-clause-number c).After-place_of) in
    (m.0, sym m.2)

pub returns-in_err-map_err-clause-number : goal.returns-in_err-map_err-clause-number
returns-in_err-map_err-clause-number c =
    let m : Says c.args.self.now.names.items c.args.variable None =
    subst (Says c.args.self.now.names.items c.args.variable) c.in_default.is (says (goal.at.returns-in_err-map_err-clause-number c).After-place_of) in
    let full : length c.args.self.now.names.items ≡ 64 = grind (arith, common_steps) in
    MatchResult-from_err c.from_residual.result _ _ c.from_residual.ensures.0 (λ e. omega (arith, full, ap length m.1, length-append c.args.self.now.names.items (c.args.variable ∷ [])))

pub returns-clause-number : goal.returns-clause-number
returns-clause-number c =
    let m : Says c.args.self.now.names.items c.args.variable None =
    subst (Says c.args.self.now.names.items c.args.variable) c.in_default.is (says (goal.at.returns-clause-number c).After-place_of) in
    let more : c.try_push.new.self.items ≡ c.args.self.now.names.items ++ c.args.variable ∷ [] = grind (arith, common_steps) in
    (c.len-next.ensures.value ∙ m.0, more ∙ sym m.1)
