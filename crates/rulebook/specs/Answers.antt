-- What each call answers, in the words of the library. Assumes nothing.
use Rattle.std.specs.Prelude.{◌≡◌, ℕ, List, length, Option, Result, Some, None, Ok, Err, vec_items, Decides}
use Rattle.std.specs.Borrow.{Bor}
use Rattle.refusals.specs.declared.CellFault.{CellFault}
use Rattle.cells.specs.Cells.{Cell, row, words}
use Rattle.cells.specs.Variables.{variables, Variant}
use Rattle.cells.specs.Checks.{CheckedRow, RowFault}
use Rattle.cells.specs.Rules.{sides}
use Rattle.cells.specs.Records.{RuleMade}
use Rattle.matching.specs.declared.fault.MatchFault.{MatchFault}
use Rattle.matching.specs.Relations.{General, Instance, Unifiable}
use Rattle.matching.specs.Pairs.{GoodPair, PairFault}
use Rattle.matching.specs.Bound.{BindingAnswer}
use Rattle.unification.specs.declared.fault.FormFault.{FormFault}
use Rattle.unification.specs.declared.fault.FormFault.TheVariants.{ShortBuffer, Rows, TooLarge}
use Rattle.unification.specs.Forms.{Fitting, Passing}
use Rattle.script.specs.declared.call.Pair.{Pair}
use Rattle.script.specs.declared.call.Call.{Call}
use Rattle.script.specs.declared.call.Call.TheVariants as call
use Rattle.rulebook.specs.declared.answer.FormulaSize.{FormulaSize}
use Rattle.rulebook.specs.declared.answer.Held.{Held}
use Rattle.rulebook.specs.declared.answer.Answer.{Answer}
use Rattle.rulebook.specs.declared.answer.Answer.TheVariants as answer
use Rattle.rulebook.specs.declared.refused.Refused.{Refused}
use Rattle.rulebook.specs.declared.refused.Refused.TheVariants as refused

-- the words pass as a formula and are measured, or they do not, and this is the first reason
abbrev pub FormulaAnswer : List ℕ → Result FormulaSize CellFault → Type 0
FormulaAnswer ws (Ok size) = CheckedRow 256 ws × (size.cells ≡ length ws) × (size.variables ≡ length (variables (row ws)))
FormulaAnswer ws (Err f) = RowFault 256 ws f

-- the first row of a typed pair is the left side, the second the right side or the formula
abbrev pub first_row : Pair → List ℕ
first_row p = vec_items p.left

abbrev pub second_row : Pair → List ℕ
second_row p = vec_items p.right

-- exactly the relations of a left side s to a formula t
pub record Holding (s t : List Cell) (x : Held) : Type 0 where
  pub general : Decides x.general (General s t)
  pub instance : Decides x.instance (Instance s t)
  pub variant : Decides x.variant (Variant s t)
  pub unifiable : Decides x.unifiable (Unifiable s t)

-- the relations that hold, or why the rows are refused
abbrev pub RelateAnswer : Pair → Result Held MatchFault → Type 0
RelateAnswer p (Ok x) = GoodPair (first_row p) (second_row p) × Holding (row (first_row p)) (row (second_row p)) x
RelateAnswer p (Err f) = PairFault (first_row p) (second_row p) f

-- the common form, or none, or why there is no answer: a row is refused, or the form is too large
abbrev pub CommonAnswer : Pair → Result (Option (Bor (List ℕ))) FormFault → Type 0
CommonAnswer p (Ok (Some x)) = GoodPair (first_row p) (second_row p) × ((c : List Cell) × Fitting (row (first_row p)) (row (second_row p)) c (length x.now) × (x.now ≡ words c))
CommonAnswer p (Ok None) = GoodPair (first_row p) (second_row p) × (Unifiable (row (first_row p)) (row (second_row p)) → ⊥)
CommonAnswer p (Err (Rows f)) = PairFault (first_row p) (second_row p) f
CommonAnswer p (Err TooLarge) = GoodPair (first_row p) (second_row p) × ((c : List Cell) × Passing (row (first_row p)) (row (second_row p)) c)
CommonAnswer p (Err (ShortBuffer n)) = ⊥

-- each call is answered by its own kind of answer or refusal
abbrev pub Answers : Call → Result Answer Refused → Type 0
Answers (call.CheckFormula ws) (Ok (answer.Formula x)) = FormulaAnswer (vec_items ws) (Ok x)
Answers (call.CheckFormula ws) (Err (refused.Formula f)) = FormulaAnswer (vec_items ws) (Err f)
Answers (call.CheckRule p) (Ok (answer.Rule x)) = RuleMade (sides (first_row p) (second_row p)) (Ok x)
Answers (call.CheckRule p) (Err (refused.Rule f)) = RuleMade (sides (first_row p) (second_row p)) (Err f)
Answers (call.Relate p) (Ok (answer.Related x)) = RelateAnswer p (Ok x)
Answers (call.Relate p) (Err (refused.Pair f)) = RelateAnswer p (Err f)
Answers (call.Bind b) (Ok (answer.Part x)) = BindingAnswer b.asked (first_row b.rows) (second_row b.rows) (Ok x)
Answers (call.Bind b) (Err (refused.Pair f)) = BindingAnswer b.asked (first_row b.rows) (second_row b.rows) (Err f)
Answers (call.Common p) (Ok (answer.Form x)) = CommonAnswer p (Ok x)
Answers (call.Common p) (Err (refused.Common f)) = CommonAnswer p (Err f)
Answers _ _ = ⊥
