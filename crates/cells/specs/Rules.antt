-- Rules: what is checked of two sides, and how they are numbered. Assumes nothing.
use Rattle.std.specs.Prelude.{◌≡◌, ℕ, suc, ◌+◌, ◌<◌, Bool, true, false, not, ◌&&◌, ◌↔◌, List, [], ◌∷◌, length, Ok, Err, Result, ◌==◌, nat_le, nat_lt}
use Rattle.refusals.specs.declared.RuleFault.{RuleFault}
use Rattle.refusals.specs.declared.RuleFault.TheVariants.{Cells, BareVariable, NewVariable}
use Rattle.refusals.specs.declared.Side.TheVariants.{Left, Right}
use Rattle.cells.specs.Cells.{Cell, symbol, variable, is_cell, row, words}
use Rattle.cells.specs.Rows.{terms, Stands, Occurs}
use Rattle.cells.specs.Substitutions.{rename}
use Rattle.cells.specs.Variables.{index, variables}
use Rattle.cells.specs.Checks.{CheckedRow, RowFault}

-- the words of both sides
pub record Sides : Type 0 where
  pub left : List ℕ
  pub right : List ℕ

abbrev pub sides : List ℕ → List ℕ → Sides
sides l r = record { left = l; right = r }

-- how many cells both sides have
abbrev pub size : Sides → ℕ
size s = length s.left + length s.right

-- the first variable met in the left side becomes 0, the next new one 1, and the right side follows
abbrev pub numbered : Sides → Sides
numbered s = sides (words (rename (index (variables (row s.left))) (row s.left))) (words (rename (index (variables (row s.left))) (row s.right)))

-- whether a row begins with a variable; a whole one then is a bare variable
abbrev pub bare : List Cell → Bool
bare [] = false
bare (symbol k f ∷ cs) = false
bare (variable v ∷ cs) = true

-- each variable of the row has the property
abbrev pub Each : (ℕ → Type 0) → List Cell → Type 0
Each P cs = (k v : ℕ) → Stands cs k v → P v

-- p is the lowest position whose variable lacks it
pub record FirstWithout (P : ℕ → Type 0) (cs : List Cell) (p : ℕ) : Type 0 where
  pub v : ℕ
  pub here : Stands cs p v
  pub lacks : P v → ⊥
  pub before : (k u : ℕ) → k < p → Stands cs k u → P u

-- each variable of r occurs in l
abbrev pub Covered : List Cell → List Cell → Type 0
Covered l r = Each (Occurs l) r

-- a left side that passes by itself
pub record GoodLeft (l : List ℕ) : Type 0 where
  pub checked : CheckedRow 60 l
  pub proper : bare (row l) ≡ false

-- two sides that pass
pub record GoodSides (s : Sides) : Type 0 where
  pub left : GoodLeft s.left
  pub right : CheckedRow 60 s.right
  pub covered : Covered (row s.left) (row s.right)

-- a checked rule, numbered: this is how rules are held
pub record CheckedRule (s : Sides) : Type 0 where
  pub good : GoodSides s
  pub normal : numbered s ≡ s

-- a left side does not pass by itself, and this is why
abbrev pub LeftFault : List ℕ → RuleFault → Type 0
LeftFault l (Cells Left f) = RowFault 60 l f
LeftFault l (Cells Right f) = ⊥
LeftFault l BareVariable = CheckedRow 60 l × (bare (row l) ≡ true)
LeftFault l (NewVariable p) = ⊥

-- the sides do not pass, and this is why: the first of these that fits
abbrev pub SidesFault : Sides → RuleFault → Type 0
SidesFault s (Cells Left f) = RowFault 60 s.left f
SidesFault s BareVariable = CheckedRow 60 s.left × (bare (row s.left) ≡ true)
SidesFault s (Cells Right f) = GoodLeft s.left × RowFault 60 s.right f
SidesFault s (NewVariable p) = GoodLeft s.left × CheckedRow 60 s.right × FirstWithout (Occurs (row s.left)) (row s.right) p

abbrev pub SidesAnswer : Sides → Result (Unit {0}) RuleFault → Type 0
SidesAnswer s (Ok u) = GoodSides s
SidesAnswer s (Err f) = SidesFault s f

-- there is one answer to each check
abbrev pub OneSidesAnswer : Type 0
OneSidesAnswer = (s : Sides) (x y : Result (Unit {0}) RuleFault) → SidesAnswer s x → SidesAnswer s y → x ≡ y

-- The same as tests, for records that carry them.

abbrev pub all_cells : List ℕ → Bool
all_cells [] = true
all_cells (w ∷ ws) = is_cell w && all_cells ws

-- at most `limit` cells that are one whole row
abbrev pub row_ok : ℕ → List ℕ → Bool
row_ok limit ws = nat_le (length ws) limit && (all_cells ws && terms 1 (row ws))

-- each variable of the row is in the list
abbrev pub listed : List ℕ → List Cell → Bool
listed us [] = true
listed us (symbol k f ∷ cs) = listed us cs
listed us (variable v ∷ cs) = nat_lt (index us v) (length us) && listed us cs

-- the list is n, n + 1, n + 2 and so on
abbrev pub counts_from : ℕ → List ℕ → Bool
counts_from n [] = true
counts_from n (u ∷ us) = u == n && counts_from (suc n) us

-- The one test of a checked, numbered rule. The layers above carry it unopened and know of it what RuleLaws says.
unfoldable pub rule_ok : Sides → Bool
rule_ok s = row_ok 60 s.left && (row_ok 60 s.right && (not (bare (row s.left)) && (listed (variables (row s.left)) (row s.right) && counts_from 0 (variables (row s.left)))))

pub record RuleLaws : Type 0 where
  pub checked : (s : Sides) → (rule_ok s ≡ true) ↔ CheckedRule s
  -- sides that pass are a checked rule once they are numbered, and numbering a checked rule changes nothing
  pub numbers : (s : Sides) → GoodSides s → CheckedRule (numbered s)
