-- Writing the common form of rows as they come. Assumes nothing.
use Rattle.std.specs.Prelude.{◌≡◌, ℕ, ◌≤◌, List, length, Ok, Err, Option, Result}
use Rattle.cells.specs.Cells.{row}
use Rattle.matching.specs.Pairs.{GoodPair, PairFault}
use Rattle.unification.specs.declared.fault.FormFault.{FormFault}
use Rattle.unification.specs.declared.fault.FormFault.TheVariants.{ShortBuffer, Rows, TooLarge}
use Rattle.unification.specs.Forms.{FormAnswer}

-- the buffer is tested first, then the rows; behind that it is the answer for checked rows
-- `old` is what the buffer held, and `new` what it holds then; a refused call leaves it as it was
abbrev pub RowsFormAnswer : List ℕ → List ℕ → List ℕ → List ℕ → Result (Option ℕ) FormFault → Type 0
RowsFormAnswer l f old new (Ok x) = GoodPair l f × FormAnswer (row l) (row f) old new (Ok x)
RowsFormAnswer l f old new (Err (ShortBuffer n)) = FormAnswer (row l) (row f) old new (Err (ShortBuffer n))
RowsFormAnswer l f old new (Err (Rows e)) = (256 ≤ length old) × PairFault l f e × (new ≡ old)
RowsFormAnswer l f old new (Err TooLarge) = GoodPair l f × FormAnswer (row l) (row f) old new (Err TooLarge)

-- the call has one answer for each input, and leaves the buffer in one way
abbrev pub OneRowsFormAnswer : Type 0
OneRowsFormAnswer = (l f old new new' : List ℕ) (x y : Result (Option ℕ) FormFault) → RowsFormAnswer l f old new x → RowsFormAnswer l f old new' y → (x ≡ y) × (new ≡ new')
