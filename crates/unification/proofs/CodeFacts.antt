-- Every cell has a word, and a word says its cell. Assumes nothing.
use Rattle.std.proofs.Common.{◌≡◌, ℕ, zero, suc, ◌+◌, ◌-◌, ◌*◌, ◌/◌, ◌%◌, ◌<◌, ◌≤◌, Bool, true, false, cond, ◌⊎◌, ◌&&◌, ltb, leb, List, [], ◌∷◌, map, sym, refl, ap, ◌∙◌, ap₂, arith}
use Rattle.std.proofs.lemmas.Bool.{lt-ltb, le-ltb, le-leb, ltb-true, and_parts, and_from, and_right}
use Rattle.std.proofs.lemmas.Nat.{div-mul-add, mod-mul-add}
use Rattle.cells.specs.Cells.{Cell, symbol, variable, arity}
use Rattle.unification.specs.Codes.{after_pair, pair, triangle, place, pair_cell, high_cell, is_var, code}
use Rattle.unification.specs.Memory.{need}
use Rattle.unification.proofs.MemFacts.{low_var}

-- the cell that a word stands for; a variable goes by its whole word, so that variables of different kinds differ
abbrev pub cell_of : ℕ → Cell
cell_of w = cond (is_var w) (variable w) (cond (ltb w 0x100000000) (symbol (w / 65536) (w % 65536)) (high_cell (w - 0x100000000)))

-- few enough variables that kinds do not meet
abbrev pub Low : List Cell → Type 0
Low [] = Unit {0}
Low (symbol k f ∷ cs) = Low cs
Low (variable v ∷ cs) = (v < 0x10000000) × Low cs

-- a word of 32 bits
abbrev pub Plain : ℕ → Type 0
Plain w = (is_var w ≡ true) ⊎ (w < 0x80000000)

abbrev pub AllPlain : List ℕ → Type 0
AllPlain [] = Unit {0}
AllPlain (w ∷ ws) = Plain w × AllPlain ws

pair_next : (n a b : ℕ) → pair n ≡ (a, b) → pair (suc n) ≡ after_pair a b
unfolding pair
pair_next n a b e = ap (λ x. after_pair x.0 x.1) e

along : (n b : ℕ) → pair (triangle n) ≡ (n, 0) → b ≤ n → pair (triangle n + b) ≡ (n - b, b)
along n zero e h =
    let x : triangle n + 0 ≡ triangle n = omega arith in
    let y : n - 0 ≡ n = omega arith in
    ap pair x ∙ e ∙ ap (λ z. (z, 0)) (sym y)
along n (suc b) e h =
    let x : triangle n + suc b ≡ suc (triangle n + b) = omega arith in
    let y : n - b ≡ suc (n - suc b) = omega arith in
    let r = along n b e (omega arith) in
    ap pair x ∙ pair_next (triangle n + b) (n - b) b r ∙ ap (λ z. after_pair z b) y

begins : (n : ℕ) → pair (triangle n) ≡ (n, 0)
unfolding pair triangle
begins zero = refl
begins (suc n) =
    let x : triangle n + suc n ≡ suc (triangle n + n) = omega arith in
    let y : n - n ≡ 0 = omega arith in
    ap pair x ∙ pair_next (triangle n + n) (n - n) n (along n n (begins n) (omega arith)) ∙ ap (λ z. after_pair z n) y

pub pair_place : (a b : ℕ) → pair (place a b) ≡ (a, b)
pair_place a b = let y : a + b - b ≡ a = omega arith in along (a + b) b (begins (a + b)) (omega arith) ∙ ap (λ z. (z, b)) y

pub high_var : (n : ℕ) → 0x100000000 ≤ n → is_var n ≡ false
unfolding is_var
high_var n h = and_right (leb 0x80000000 n) (ltb n 0x100000000) (le-ltb n 0x100000000 h)

pub mid_var : (n : ℕ) → 0x80000000 ≤ n → n < 0x100000000 → is_var n ≡ true
unfolding is_var
mid_var n l h = and_from (leb 0x80000000 n) (ltb n 0x100000000) (le-leb 0x80000000 n l) (lt-ltb n 0x100000000 h)

pub cell_of_variable : (w : ℕ) → is_var w ≡ true → cell_of w ≡ variable w
cell_of_variable w e = ap (λ b. cond b (variable w) (cond (ltb w 0x100000000) (symbol (w / 65536) (w % 65536)) (high_cell (w - 0x100000000)))) e

pub cell_of_symbol : (w : ℕ) → w < 0x80000000 → cell_of w ≡ symbol (w / 65536) (w % 65536)
cell_of_symbol w h =
    let l : w < 0x100000000 = omega arith in
    ap₂ (λ b d. cond b (variable w) (cond d (symbol (w / 65536) (w % 65536)) (high_cell (w - 0x100000000)))) (low_var w h) (lt-ltb w 0x100000000 l)

cell_of_high : (n : ℕ) → cell_of (0x100000000 + n) ≡ high_cell n
cell_of_high n =
    let w = 0x100000000 + n in
    let l : 0x100000000 ≤ w = omega arith in
    let e : w - 0x100000000 ≡ n = omega arith in
    ap₂ (λ b d. cond b (variable w) (cond d (symbol (w / 65536) (w % 65536)) (high_cell (w - 0x100000000)))) (high_var w l) (le-ltb w 0x100000000 l) ∙ ap high_cell e

high_place : (a b : ℕ) → cell_of (0x100000000 + place a b) ≡ pair_cell a b
high_place a b = cell_of_high (place a b) ∙ ap (λ x. pair_cell x.0 x.1) (pair_place a b)

pub need_cell : (w : ℕ) → need w ≡ arity (cell_of w)
unfolding need
need_cell w = go (is_var w) (ltb w 0x100000000)
  where
    go : (b d : Bool) → cond b 0 (cond d (w / 65536) (arity (high_cell (w - 0x100000000))))
        ≡ arity (cond b (variable w) (cond d (symbol (w / 65536) (w % 65536)) (high_cell (w - 0x100000000))))
    go true d = refl
    go false true = refl
    go false false = refl

-- the word of a cell as such is no variable's, and says the cell
pub code_cell : (c : Cell) → (is_var (code c) ≡ false) × (cell_of (code c) ≡ c)
code_cell (variable v) = (high_var (code (variable v)) (omega arith), high_place 0 v)
code_cell (symbol k f) = go (ltb k 32768 && ltb f 65536) refl
  where
    go : (b : Bool) → (ltb k 32768 && ltb f 65536) ≡ b
        → (is_var (cond b (k * 65536 + f) (0x100000000 + place (suc k) f)) ≡ false) × (cell_of (cond b (k * 65536 + f) (0x100000000 + place (suc k) f)) ≡ symbol k f)
    go true e =
        let p = and_parts (ltb k 32768) (ltb f 65536) e in
        let hk = ltb-true k 32768 p.0 in
        let hf = ltb-true f 65536 p.1 in
        let l : k * 65536 + f < 0x80000000 = omega arith in
        (low_var (k * 65536 + f) l, cell_of_symbol (k * 65536 + f) l ∙ ap₂ symbol (div-mul-add k 65536 f hf) (mod-mul-add k 65536 f hf))
    go false e = (high_var (0x100000000 + place (suc k) f) (omega arith), high_place (suc k) f)

pub cell_code : (c : Cell) → cell_of (code c) ≡ c
cell_code c = (code_cell c).1

pub code_var : (c : Cell) → is_var (code c) ≡ false
code_var c = (code_cell c).0

pub need_code : (c : Cell) → need (code c) ≡ arity c
need_code c = need_cell (code c) ∙ ap arity (cell_code c)

pub cells_codes : (cs : List Cell) → map cell_of (map code cs) ≡ cs
cells_codes [] = refl
cells_codes (c ∷ cs) = ap₂ {C = List Cell} (λ x y. x ∷ y) (cell_code c) (cells_codes cs)
