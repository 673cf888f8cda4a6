-- Checking a left side and a formula together. Assumes nothing.
use Rattle.std.specs.Prelude.{◌≡◌, ℕ, List, Ok, Err, Result}
use Rattle.cells.specs.Checks.{CheckedRow, RowFault}
use Rattle.cells.specs.Rules.{GoodLeft, LeftFault}
use Rattle.cells.specs.Records.{row_words}
use Rattle.matching.specs.declared.fault.MatchFault.{MatchFault}
use Rattle.matching.specs.declared.fault.MatchFault.TheVariants.{Left, Formula}
use Rattle.matching.specs.declared.pair.CheckedPair.{CheckedPair}

-- both pass
pub record GoodPair (l f : List ℕ) : Type 0 where
  pub left : GoodLeft l
  pub formula : CheckedRow 256 f

-- they do not, and this is why: the left side is checked first, then the formula
abbrev pub PairFault : List ℕ → List ℕ → MatchFault → Type 0
PairFault l f (Left e) = LeftFault l e
PairFault l f (Formula e) = GoodLeft l × RowFault 256 f e

abbrev pub PairAnswer : List ℕ → List ℕ → Result (Unit {0}) MatchFault → Type 0
PairAnswer l f (Ok u) = GoodPair l f
PairAnswer l f (Err e) = PairFault l f e

-- rows that pass are held as they are
pub record PairHeld (l f : List ℕ) (x : CheckedPair) : Type 0 where
  pub good : GoodPair l f
  pub left : row_words x.left ≡ l
  pub formula : row_words x.formula ≡ f

abbrev pub PairMade : List ℕ → List ℕ → Result CheckedPair MatchFault → Type 0
PairMade l f (Ok x) = PairHeld l f x
PairMade l f (Err e) = PairFault l f e

-- there is one answer to each check
abbrev pub OnePairAnswer : Type 0
OnePairAnswer = (l f : List ℕ) (x y : Result (Unit {0}) MatchFault) → PairAnswer l f x → PairAnswer l f y → x ≡ y
