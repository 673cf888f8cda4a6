-- Each check of a pair has one answer. Assumes nothing.
use Rattle.std.proofs.Common.{◌≡◌, ℕ, List, Ok, Err, refl, ap}
use Rattle.refusals.specs.declared.CellFault.{CellFault}
use Rattle.refusals.specs.declared.RuleFault.{RuleFault}
use Rattle.refusals.specs.declared.RuleFault.TheVariants.{Cells, BareVariable, NewVariable}
use Rattle.refusals.specs.declared.Side.TheVariants as side
use Rattle.cells.specs.Checks.{CheckedRow, RowFault}
use Rattle.cells.specs.Rules.{sides, GoodLeft, LeftFault, SidesFault}
use Rattle.cells.proofs.Answering.{one_row_answer, one_sides_answer}
use Rattle.matching.specs.declared.fault.MatchFault.{MatchFault}
use Rattle.matching.specs.declared.fault.MatchFault.TheVariants.{Left, Formula}
use Rattle.matching.specs.Pairs.{PairFault, OnePairAnswer}

row_passes : (limit : ℕ) (ws : List ℕ) (f : CellFault) → CheckedRow limit ws → RowFault limit ws f → ⊥
row_passes limit ws f a b = let e = one_row_answer limit ws (Ok tt) (Err f) a b in cc

one_row_fault : (limit : ℕ) (ws : List ℕ) (f g : CellFault) → RowFault limit ws f → RowFault limit ws g → f ≡ g
one_row_fault limit ws f g a b = let e = one_row_answer limit ws (Err f) (Err g) a b in cc

-- a left side is checked as the left one of two equal sides
module _ (l : List ℕ) where
  faulty : (f : RuleFault) → LeftFault l f → SidesFault (sides l l) f
  faulty (Cells side.Left f) h = h
  faulty (Cells side.Right f) h = absurd h
  faulty BareVariable h = h
  faulty (NewVariable p) h = absurd h

  left_passes : (f : RuleFault) → GoodLeft l → LeftFault l f → ⊥
  left_passes f a b = let e = one_sides_answer (sides l l) (Ok tt) (Err f) (record { left = a; right = a.checked; covered = λ k v s. (k, s) }) (faulty f b) in cc

  one_left_fault : (f g : RuleFault) → LeftFault l f → LeftFault l g → f ≡ g
  one_left_fault f g a b = let e = one_sides_answer (sides l l) (Err f) (Err g) (faulty f a) (faulty g b) in cc

one_pair_fault : (l f : List ℕ) (x y : MatchFault) → PairFault l f x → PairFault l f y → x ≡ y
one_pair_fault l f (Left x) (Left y) a b = ap Left (one_left_fault l x y a b)
one_pair_fault l f (Left x) (Formula y) a b = absurd (left_passes l x b.0 a)
one_pair_fault l f (Formula x) (Left y) a b = absurd (left_passes l y a.0 b)
one_pair_fault l f (Formula x) (Formula y) a b = ap Formula (one_row_fault 256 f x y a.1 b.1)

pub one_pair_answer : OnePairAnswer
one_pair_answer l f (Ok u) (Ok v) a b = refl
one_pair_answer l f (Ok u) (Err (Left y)) a b = absurd (left_passes l y a.left b)
one_pair_answer l f (Ok u) (Err (Formula y)) a b = absurd (row_passes 256 f y a.formula b.1)
one_pair_answer l f (Err (Left x)) (Ok v) a b = absurd (left_passes l x b.left a)
one_pair_answer l f (Err (Formula x)) (Ok v) a b = absurd (row_passes 256 f x b.formula a.1)
one_pair_answer l f (Err x) (Err y) a b = ap Err (one_pair_fault l f x y a b)
