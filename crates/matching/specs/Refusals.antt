-- What is told of each fault of a pair. Assumes nothing.
use Rattle.refusals.specs.declared.Refusal.{Refusal}
use Rattle.refusals.specs.Refusals.{cell_refusal, rule_refusal}
use Rattle.matching.specs.declared.fault.MatchFault.{MatchFault}
use Rattle.matching.specs.declared.fault.MatchFault.TheVariants.{Left, Formula}

abbrev pub match_refusal : MatchFault → Refusal
match_refusal (Left f) = rule_refusal f
match_refusal (Formula f) = cell_refusal f
