use Rattle.unification.proofs.ExistFacts.{common_exists}
use Rattle.unification.proofs.AnswerFacts.{one_form_answer, one_rows_form_answer}
use Rattle.unification.proofs.theorems.unification_laws.Goals as goal

pub returns : goal.returns
returns c = record { forms = record { exists = common_exists }; form_answer = one_rows_form_answer; checked_form_answer = one_form_answer }
