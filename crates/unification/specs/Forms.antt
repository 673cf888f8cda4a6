-- What writing the common form of checked rows answers. Assumes nothing.
use Rattle.std.specs.Prelude.{◌≡◌, ℕ, ◌<◌, ◌≤◌, ◌⊎◌, List, ◌++◌, length, drop, Some, None, Ok, Err, Option, Result}
use Rattle.cells.specs.Cells.{Cell, words}
use Rattle.cells.specs.Variables.{variables}
use Rattle.matching.specs.Relations.{Unifiable, Common}
use Rattle.unification.specs.declared.form.Form.{Form}
use Rattle.unification.specs.declared.form.TooLarge as large
use Rattle.unification.specs.declared.fault.FormFault.{FormFault}
use Rattle.unification.specs.declared.fault.FormFault.TheVariants.{ShortBuffer, Rows, TooLarge}

-- a common form that fits: n cells, at most 256, and at most 64 variables
pub record Fitting (s t c : List Cell) (n : ℕ) : Type 0 where
  pub common : Common s t c
  pub long : n ≡ length c
  pub within : n ≤ 256
  pub few : length (variables c) ≤ 64

-- one that does not
pub record Passing (s t c : List Cell) : Type 0 where
  pub common : Common s t c
  pub over : (256 < length c) ⊎ (64 < length (variables c))

-- the form that fits, that there is none, or that it does not fit
abbrev pub Formed : List Cell → List Cell → Result (Option Form) large.TooLarge → Type 0
Formed s t (Ok None) = Unifiable s t → ⊥
Formed s t (Ok (Some form)) = (c : List Cell) × Fitting s t c (length form.cells.items) × (form.cells.items ≡ words c)
Formed s t (Err e) = (c : List Cell) × Passing s t c

-- `old` is what the buffer held, and `new` what it holds then; only a form that fits is written
abbrev pub FormAnswer : List Cell → List Cell → List ℕ → List ℕ → Result (Option ℕ) FormFault → Type 0
FormAnswer s t old new (Ok None) = (256 ≤ length old) × (new ≡ old) × (Unifiable s t → ⊥)
FormAnswer s t old new (Ok (Some n)) = (256 ≤ length old) × ((c : List Cell) × Fitting s t c n × (new ≡ words c ++ drop n old))
FormAnswer s t old new (Err TooLarge) = (256 ≤ length old) × (new ≡ old) × ((c : List Cell) × Passing s t c)
FormAnswer s t old new (Err (ShortBuffer n)) = (n ≡ length old) × (n < 256) × (new ≡ old)
FormAnswer s t old new (Err (Rows e)) = ⊥

-- the call has one answer for each input, and leaves the buffer in one way
abbrev pub OneFormAnswer : Type 0
OneFormAnswer = (s t : List Cell) (old new new' : List ℕ) (x y : Result (Option ℕ) FormFault) → FormAnswer s t old new x → FormAnswer s t old new' y → (x ≡ y) × (new ≡ new')
