-- Bindings that are asked for. Assumes nothing.
use Rattle.std.specs.Prelude.{◌≡◌, ℕ, ◌<◌, List, length, take, Some, None, Ok, Err, Option, Result}
use Rattle.cells.specs.Cells.{Cell, row}
use Rattle.cells.specs.Rows.{Stands, Occurs}
use Rattle.cells.specs.Substitutions.{substitute}
use Rattle.cells.specs.Variables.{Variant}
use Rattle.cells.specs.Checks.{CheckedRow, RowFault}
use Rattle.cells.specs.Rules.{GoodLeft, LeftFault}
use Rattle.matching.specs.declared.finding.Asked.{Asked}
use Rattle.matching.specs.declared.finding.Asked.TheVariants as asked
use Rattle.matching.specs.declared.finding.Found.{Found}
use Rattle.matching.specs.declared.fault.MatchFault.{MatchFault}
use Rattle.matching.specs.declared.fault.MatchFault.TheVariants.{Left, Formula}
use Rattle.matching.specs.Relations.{Turns, General}

-- v stands at k, and nowhere before
pub record First (s : List Cell) (v k : ℕ) : Type 0 where
  pub here : Stands s k v
  pub before : (j : ℕ) → j < k → Stands s j v → ⊥

-- q is what is put for v where s is turned into t, and it stands at the position `at` of t where v stands first in s
pub record BoundAt (s t : List Cell) (v at : ℕ) (q : List Cell) : Type 0 where
  pub σ : ℕ → List Cell
  pub turns : Turns σ s t
  pub k : ℕ
  pub first : First s v k
  pub position : at ≡ length (substitute σ (take k s))
  pub part : q ≡ σ v

-- the part of the target that v is bound to; none if s lacks v
abbrev pub Binds : List Cell → List ℕ → ℕ → Option Found → Type 0
Binds s target v None = Occurs s v → ⊥
Binds s target v (Some x) = BoundAt s (row target) v x.at (row x.cells.now)

-- the same, where the relation holds, and none where it does not
abbrev pub BindsIf : Type 0 → List Cell → List ℕ → ℕ → Option Found → Type 0
BindsIf P s target v None = P → Occurs s v → ⊥
BindsIf P s target v (Some x) = P × Binds s target v (Some x)

-- of the asked relation and variable: for general and variant a part of the formula, for instance a part of the left side, for unifiable none
abbrev pub AskedBinding : Asked → List ℕ → List ℕ → Option Found → Type 0
AskedBinding (asked.General v) l f r = BindsIf (General (row l) (row f)) (row l) f v.0 r
AskedBinding (asked.Variant v) l f r = BindsIf (Variant (row l) (row f)) (row l) f v.0 r
AskedBinding (asked.Instance v) l f r = BindsIf (General (row f) (row l)) (row f) l v.0 r
AskedBinding asked.Unifiable l f r = r ≡ None

-- the left side is checked first, then the formula
abbrev pub BindingAnswer : Asked → List ℕ → List ℕ → Result (Option Found) MatchFault → Type 0
BindingAnswer a l f (Ok r) = GoodLeft l × CheckedRow 256 f × AskedBinding a l f r
BindingAnswer a l f (Err (Left e)) = LeftFault l e
BindingAnswer a l f (Err (Formula e)) = GoodLeft l × RowFault 256 f e

-- what is seen of an answer: the position and the words of the part
abbrev pub seen : Result (Option Found) MatchFault → Result (Option (ℕ × List ℕ)) MatchFault
seen (Ok None) = Ok None
seen (Ok (Some x)) = Ok (Some (x.at, x.cells.now))
seen (Err e) = Err e

-- there is one answer to each question
abbrev pub OneBindingAnswer : Type 0
OneBindingAnswer = (a : Asked) (l f : List ℕ) (x y : Result (Option Found) MatchFault) → BindingAnswer a l f x → BindingAnswer a l f y → seen x ≡ seen y
