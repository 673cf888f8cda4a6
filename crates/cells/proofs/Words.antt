-- Words and the cells that they stand for. Assumes nothing.
use Rattle.std.proofs.Common.{◌≡◌, ℕ, ◌+◌, ◌-◌, ◌*◌, ◌/◌, ◌%◌, ◌<◌, ◌≤◌, ◌&&◌, ltb, leb, ◌⊎◌, List, [], ◌∷◌, refl, ap, ◌∙◌, inl, inr, ⊎_elim, arith}
use Rattle.std.proofs.lemmas.Nat.{div-mul-add, mod-mul-add, div-add-mod', div_below, mod_below}
use Rattle.std.proofs.lemmas.Bool.{or_cases, or_left, or_right, and_parts, and_from, ltb-true, leb-true, le-leb, cond-true, cond-false, lt-ltb, le-ltb, cases_lt}
use Rattle.cells.specs.Cells.{Cell, symbol, variable, cell, word, row, words, Limited, IsCell, WordLaws}

pub cell_symbol : (w : ℕ) → w < 2147483648 → cell w ≡ symbol (w / 65536) (w % 65536)
cell_symbol w h = cond-true (ltb w 2147483648) _ _ (lt-ltb w 2147483648 h)

pub cell_variable : (w : ℕ) → 2147483648 ≤ w → cell w ≡ variable (w - 2147483648)
cell_variable w h = cond-false (ltb w 2147483648) _ _ (le-ltb w 2147483648 h)

pub is_cell_cases : (w : ℕ) → IsCell w → (w < 589824) ⊎ ((2147483648 ≤ w) × (w < 2147483712))
is_cell_cases w h =
    ⊎_elim (λ a. inl (ltb-true w 589824 a))
    (λ a. let p = and_parts (leb 2147483648 w) (ltb w 2147483712) a in inr (leb-true 2147483648 w p.0, ltb-true w 2147483712 p.1))
    (or_cases (ltb w 589824) (leb 2147483648 w && ltb w 2147483712) h)

pub symbol_is_cell : (w : ℕ) → w < 589824 → IsCell w
symbol_is_cell w h = or_left (ltb w 589824) (leb 2147483648 w && ltb w 2147483712) (lt-ltb w 589824 h)

pub variable_is_cell : (w : ℕ) → 2147483648 ≤ w → w < 2147483712 → IsCell w
variable_is_cell w a b = or_right (ltb w 589824) (leb 2147483648 w && ltb w 2147483712) (and_from (leb 2147483648 w) (ltb w 2147483712) (le-leb 2147483648 w a) (lt-ltb w 2147483712 b))

pub word_cell : (w : ℕ) → word (cell w) ≡ w
word_cell w =
    ⊎_elim
    (λ small. ap word (cell_symbol w small) ∙ div-add-mod' w 65536)
    (λ big. ap word (cell_variable w big) ∙ omega arith)
    (cases_lt w 2147483648)

pub words_row : (ws : List ℕ) → words (row ws) ≡ ws
words_row [] = refl
words_row (w ∷ ws) = λ j. word_cell w j ∷ words_row ws j

limited : (w : ℕ) → IsCell w → Limited (cell w)
limited w h =
    ⊎_elim
    (λ small. let q = div_below w 65536 9 (omega arith) small in rw (cell_symbol w (omega arith)) (omega arith, mod_below w 65536 (omega arith)))
    (λ big. rw (cell_variable w big.0) (let b = big.1 in omega arith))
    (is_cell_cases w h)

accepted : (c : Cell) → Limited c → IsCell (word c)
accepted (symbol k f) l = symbol_is_cell (k * 65536 + f) (let a = l.0 in let b = l.1 in omega arith)
accepted (variable v) l = variable_is_cell (2147483648 + v) (omega arith) (omega arith)

there : (c : Cell) → Limited c → cell (word c) ≡ c
there (symbol k f) l =
    let a = l.0 in
    let b = l.1 in
    cell_symbol (k * 65536 + f) (omega arith) ∙ (λ j. symbol (div-mul-add k 65536 f b j) (mod-mul-add k 65536 f b j))
there (variable v) l = cell_variable (2147483648 + v) (omega arith) ∙ ap variable (omega arith)

pub word_laws : WordLaws
word_laws = record { limited = limited; accepted = accepted; there = there; back = word_cell }
