use Rattle.std.proofs.Common.{◌∙◌, length, ap}
use Rattle.unification.specs.Number.{found_in}
use Rattle.unification.proofs.FormedFacts.{pair_memory, pair_formed}
use Rattle.unification.proofs.forming.form_of.Goals as goal

pub new-requires-clause-memory : goal.new-requires-clause-memory
new-requires-clause-memory c = pair_memory c.args.left.now c.args.formula.now c.as_slice.result.now (c.as_slice.ensures.value ∙ c.joined-cells.ensures)

pub returns : goal.returns
returns c =
    pair_formed c.args.left.now c.args.formula.now c.new.result.cells.now (c.new.ensures.cells ∙ c.as_slice.ensures.value ∙ c.joined-cells.ensures)
    c.new.result.kinds (length c.cells.result.now) c.new.ensures.kinds (ap length c.cells.ensures.value) (found_in c.common_form.new.form c.common_form.result) c.common_form.ensures
