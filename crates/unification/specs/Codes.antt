-- Every cell as a word, also those that 32 bits do not hold: these stand behind the words of 32 bits. Assumes nothing.
use Rattle.std.specs.Prelude.{ℕ, zero, suc, ◌+◌, ◌*◌, Bool, cond, ◌&&◌, nat_le, nat_lt}
use Rattle.cells.specs.Cells.{Cell, symbol, variable}

-- the pairs of numbers, one after the other: by their sum, and of equal sum by the second number
abbrev pub after_pair : ℕ → ℕ → ℕ × ℕ
after_pair zero b = (suc b, 0)
after_pair (suc a) b = (a, suc b)

unfoldable pub pair : ℕ → ℕ × ℕ
pair zero = (0, 0)
pair (suc n) = after_pair (pair n).0 (pair n).1

-- how many pairs have a sum below n
unfoldable pub triangle : ℕ → ℕ
triangle zero = 0
triangle (suc n) = triangle n + suc n

-- where a pair stands
abbrev pub place : ℕ → ℕ → ℕ
place a b = triangle (a + b) + b

abbrev pub pair_cell : ℕ → ℕ → Cell
pair_cell zero b = variable b
pair_cell (suc k) b = symbol k b

-- the cell of a word behind those of 32 bits
abbrev pub high_cell : ℕ → Cell
high_cell n = pair_cell (pair n).0 (pair n).1

-- a variable's word has its top bit set
unfoldable pub is_var : ℕ → Bool
is_var c = nat_le 0x80000000 c && nat_lt c 0x100000000

-- the word of a cell as such: no variable's word
abbrev pub code : Cell → ℕ
code (symbol k f) = cond (nat_lt k 32768 && nat_lt f 65536) (k * 65536 + f) (0x100000000 + place (suc k) f)
code (variable v) = 0x100000000 + place 0 v

-- the word of a cell whose variables may be bound: they are counted from `base`
abbrev pub tagged : ℕ → Cell → ℕ
tagged base (symbol k f) = code (symbol k f)
tagged base (variable v) = base + v
