-- Cells, and the words that stand for them. Assumes nothing.
use Rattle.std.specs.Prelude.{◌≡◌, ℕ, ◌+◌, ◌-◌, ◌*◌, ◌/◌, ◌%◌, ◌<◌, ◌≤◌, Bool, true, cond, ◌&&◌, ◌||◌, List, map, length, nat_le, nat_lt, slice_index}

-- a symbol with its arity and its name, or a variable; neither has a limit here
pub data Cell : Type 0 where
  symbol : ℕ → ℕ → Cell
  variable : ℕ → Cell

-- how many rows follow the cell as its arguments
abbrev pub arity : Cell → ℕ
arity (symbol k f) = k
arity (variable v) = 0

-- the word of a cell
abbrev pub word : Cell → ℕ
word (symbol k f) = k * 65536 + f
word (variable v) = 2147483648 + v

-- the cell that a word stands for; every word stands for some cell, also a word that is refused
abbrev pub cell : ℕ → Cell
cell w = cond (nat_lt w 2147483648) (symbol (w / 65536) (w % 65536)) (variable (w - 2147483648))

abbrev pub words : List Cell → List ℕ
words cs = map word cs

abbrev pub row : List ℕ → List Cell
row ws = map cell ws

-- arity 0 to 8 and name 0 to 65,535, or v from 0 to 63
abbrev pub Limited : Cell → Type 0
Limited (symbol k f) = (k ≤ 8) × (f < 65536)
Limited (variable v) = v < 64

-- the words of the limited cells: below 9 × 65,536, or from 0x80000000 to 0x8000003F
abbrev pub is_cell : ℕ → Bool
is_cell w = nat_lt w 589824 || (nat_le 2147483648 w && nat_lt w 2147483712)

abbrev pub IsCell : ℕ → Type 0
IsCell w = is_cell w ≡ true

abbrev pub AllCells : List ℕ → Type 0
AllCells ws = (k : ℕ) → k < length ws → IsCell (slice_index ws k)

-- the accepted words are exactly those of the limited cells, and a word and its cell are one another's
pub record WordLaws : Type 0 where
  pub limited : (w : ℕ) → IsCell w → Limited (cell w)
  pub accepted : (c : Cell) → Limited c → IsCell (word c)
  pub there : (c : Cell) → Limited c → cell (word c) ≡ c
  pub back : (w : ℕ) → word (cell w) ≡ w
