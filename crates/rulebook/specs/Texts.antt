-- The line that is printed for an answer or a refusal. Assumes nothing.
use Rattle.std.specs.Prelude.{List, ℕ, [], ◌∷◌, ◌++◌, length, codes, Some, None}
use Rattle.std.specs.Fmt.{decimal}
use Rattle.cells.specs.Records.{rule_sides}
use Rattle.refusals.specs.Refusals.{cell_refusal, rule_refusal, side_of, side_name, refusal_text}
use Rattle.matching.specs.declared.relation.Relation.TheVariants as relation
use Rattle.matching.specs.declared.fault.MatchFault.{MatchFault}
use Rattle.matching.specs.declared.fault.MatchFault.TheVariants as row
use Rattle.matching.specs.Refusals.{match_refusal}
use Rattle.unification.specs.declared.fault.FormFault.TheVariants.{ShortBuffer, Rows, TooLarge}
use Rattle.unification.specs.Refusals.{form_refusal}
use Rattle.rulebook.specs.declared.answer.Held.{Held}
use Rattle.rulebook.specs.declared.answer.Answer.{Answer}
use Rattle.rulebook.specs.declared.answer.Answer.TheVariants as answer
use Rattle.rulebook.specs.declared.refused.Refused.{Refused}
use Rattle.rulebook.specs.declared.refused.Refused.TheVariants.{Formula, Rule, Pair, Common}
use Rattle.cells.specs.Texts.{cells_text}
use Rattle.rulebook.specs.Printing.{names_text}

abbrev pub held_text : Held → List ℕ
held_text x = names_text ((x.general, relation.General) ∷ (x.instance, relation.Instance) ∷ (x.variant, relation.Variant) ∷ (x.unifiable, relation.Unifiable) ∷ [])

abbrev pub answer_text : Answer → List ℕ
answer_text (answer.Formula x) = codes "ok " ++ decimal x.cells ++ codes " cells, " ++ decimal x.variables ++ codes " variables"
answer_text (answer.Rule x) = codes "ok " ++ cells_text (rule_sides x).left ++ codes " -> " ++ cells_text (rule_sides x).right
answer_text (answer.Related x) = held_text x
answer_text (answer.Part None) = codes "none"
answer_text (answer.Part (Some x)) = codes "part " ++ decimal x.at ++ codes " " ++ decimal (length x.cells.now) ++ codes ": " ++ cells_text x.cells.now
answer_text (answer.Form None) = codes "none"
answer_text (answer.Form (Some x)) = decimal (length x.now) ++ codes " cells: " ++ cells_text x.now

-- the row of a pair that a fault speaks of
abbrev pub row_name : MatchFault → List ℕ
row_name (row.Left f) = codes "left"
row_name (row.Formula f) = codes "formula"

abbrev pub pair_text : MatchFault → List ℕ
pair_text f = row_name f ++ codes " " ++ refusal_text (match_refusal f)

abbrev pub refused_text : Refused → List ℕ
refused_text (Formula f) = refusal_text (cell_refusal f)
refused_text (Rule f) = side_name (side_of f) ++ codes " " ++ refusal_text (rule_refusal f)
refused_text (Pair f) = pair_text f
refused_text (Common (Rows f)) = pair_text f
refused_text (Common TooLarge) = refusal_text (form_refusal TooLarge)
refused_text (Common (ShortBuffer n)) = refusal_text (form_refusal (ShortBuffer n))
