-- The words of a left side and of a formula, tagged. Assumes nothing.
use Rattle.std.proofs.Common.{◌≡◌, ℕ, suc, ◌+◌, ◌-◌, ◌*◌, ◌/◌, ◌%◌, ◌<◌, ◌≤◌, cond, ltb, List, [], ◌∷◌, ◌++◌, map, length, sym, refl, ap, ◌∙◌, subst, ap₂, ⊎_elim, arith}
use Rattle.std.proofs.lemmas.List.{length-map, length-append}
use Rattle.std.proofs.lemmas.Nat.{div-add-mod', div_below, mod_below}
use Rattle.std.proofs.lemmas.Bool.{and_from, lt-ltb, cases_lt}
use Rattle.cells.specs.Cells.{Cell, symbol, cell, row, IsCell, AllCells}
use Rattle.cells.specs.Rows.{Whole}
use Rattle.cells.proofs.Terms.{terms_reads}
use Rattle.cells.proofs.Words.{cell_symbol, cell_variable, is_cell_cases}
use Rattle.unification.specs.Codes.{place, code, tagged}
use Rattle.unification.specs.Memory.{need}
use Rattle.unification.specs.Rows.{Wholes}
use Rattle.unification.proofs.BridgeFacts.{tagged_wholes}
use Rattle.unification.proofs.CodeFacts.{Low}

code_word : (w : ℕ) → w < 0x80000000 → code (symbol (w / 65536) (w % 65536)) ≡ w
code_word w h =
    let k = w / 65536 in
    let f = w % 65536 in
    let a = div_below w 65536 32768 (omega arith) (omega arith) in
    let b = mod_below w 65536 (omega arith) in
    ap (λ x. cond x (k * 65536 + f) (0x100000000 + place (suc k) f)) (and_from (ltb k 32768) (ltb f 65536) (lt-ltb k 32768 a) (lt-ltb f 65536 b)) ∙ div-add-mod' w 65536

pub tagged_symbol : (base w : ℕ) → w < 0x80000000 → tagged base (cell w) ≡ w
tagged_symbol base w h = ap (tagged base) (cell_symbol w h) ∙ code_word w h

pub tagged_variable : (base w : ℕ) → 0x80000000 ≤ w → tagged base (cell w) ≡ base + (w - 0x80000000)
tagged_variable base w h = ap (tagged base) (cell_variable w h)

pub tagged_same : (ws : List ℕ) → map (tagged 0x80000000) (row ws) ≡ ws
tagged_same [] = refl
tagged_same (w ∷ ws) =
    let e : tagged 0x80000000 (cell w) ≡ w =
    ⊎_elim (λ small. tagged_symbol 0x80000000 w small) (λ big. tagged_variable 0x80000000 w big ∙ omega arith) (cases_lt w 0x80000000) in
    ap₂ {C = List ℕ} (λ x y. x ∷ y) e (tagged_same ws)

low_one : (w : ℕ) (cs : List Cell) → IsCell w → Low cs → Low (cell w ∷ cs)
low_one w cs h l =
    ⊎_elim
    (λ small. let k : w < 0x80000000 = omega arith in subst (λ c. Low (c ∷ cs)) (sym (cell_symbol w k)) l)
    (λ big. let k : w - 0x80000000 < 0x10000000 = omega (arith, big.0, big.1) in subst (λ c. Low (c ∷ cs)) (sym (cell_variable w big.0)) (k, l))
    (is_cell_cases w h)

pub low_row : (ws : List ℕ) → AllCells ws → Low (row ws)
low_row [] h = tt
low_row (w ∷ ws) h = low_one w (row ws) (h 0 (omega arith)) (low_row ws (λ k l. h (suc k) (omega arith)))

pub left_wholes : (ws : List ℕ) → AllCells ws → Whole (row ws) → Wholes need 1 (map (tagged 0x90000000) (row ws))
left_wholes ws h w = tagged_wholes 0x90000000 (omega arith) (omega arith) 1 (row ws) (low_row ws h) (terms_reads 1 (row ws) w)

pub right_wholes : (ws : List ℕ) → AllCells ws → Whole (row ws) → Wholes need 1 ws
right_wholes ws h w = subst (Wholes need 1) (tagged_same ws) (tagged_wholes 0x80000000 (omega arith) (omega arith) 1 (row ws) (low_row ws h) (terms_reads 1 (row ws) w))

-- a left side and a formula in one memory
module _ (l f mem : List ℕ) (e : mem ≡ map (tagged 0x90000000) (row l) ++ f) where
  pub left_length : length (map (tagged 0x90000000) (row l)) ≡ length l
  left_length = length-map (row l) (tagged 0x90000000) ∙ length-map l cell

  pub memory_length : length mem ≡ length l + length f
  memory_length = ap length e ∙ length-append (map (tagged 0x90000000) (row l)) f ∙ ap (λ n. n + length f) left_length
