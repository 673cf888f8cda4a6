use Rattle.matching.proofs.Relating.{relation_laws}
use Rattle.matching.proofs.Marking.{marked, marked_binding}
use Rattle.matching.proofs.Pairing.{one_pair_answer}
use Rattle.matching.proofs.Uniqueness.{one_binding_answer}
use Rattle.matching.proofs.theorems.relation_laws.Goals as goal

pub returns : goal.returns
returns c = record {
  laws = relation_laws;
  marked = marked;
  marked_binding = marked_binding;
  pair_answer = one_pair_answer;
  binding_answer = one_binding_answer;
}
