use Rattle.cells.proofs.Terms.{row_laws}
use Rattle.cells.proofs.Words.{word_laws}
use Rattle.cells.proofs.Substituting.{substitution_laws}
use Rattle.cells.proofs.Variants.{variable_laws}
use Rattle.cells.proofs.Values.{value_laws}
use Rattle.cells.proofs.Answering.{one_row_answer, one_sides_answer}
use Rattle.cells.proofs.Ruling.{rule_laws}
use Rattle.cells.proofs.theorems.laws.Goals as goal

pub returns : goal.returns
returns g c = record {
  words = word_laws;
  rows = row_laws;
  substitutions = substitution_laws;
  variables = variable_laws;
  values = value_laws;
  integers = value_laws;
  row_answer = one_row_answer;
  rule_answer = one_sides_answer;
  rules = rule_laws;
}
