-- The words of a memory are of 32 bits. Assumes nothing.
use Rattle.std.proofs.Common.{◌≡◌, ℕ, zero, suc, ◌+◌, ◌-◌, ◌<◌, ◌≤◌, Bool, true, false, cond, List, [], ◌∷◌, ◌++◌, map, get_or, drop, sym, refl, subst, inl, inr, ⊎_elim, arith}
use Rattle.cells.specs.Cells.{cell, row, IsCell, AllCells}
use Rattle.cells.proofs.Words.{is_cell_cases}
use Rattle.unification.specs.Codes.{is_var, tagged}
use Rattle.unification.specs.Graph.{Made}
use Rattle.unification.specs.Memory.{or_var, cell_at, over}
use Rattle.unification.proofs.BridgeFacts.{all_kinds}
use Rattle.unification.proofs.MemFacts.{var_zero}
use Rattle.unification.proofs.CodeFacts.{Plain, AllPlain, mid_var}
use Rattle.unification.proofs.TagFacts.{tagged_symbol, tagged_variable, tagged_same}

plain_tagged : (base w : ℕ) → 0x80000000 ≤ base → base ≤ 0x90000000 → IsCell w → Plain (tagged base (cell w))
plain_tagged base w lo hi h =
    ⊎_elim
    (λ small. let k : w < 0x80000000 = omega arith in subst Plain (sym (tagged_symbol base w k)) (inr k))
    (λ big.
    let a : 0x80000000 ≤ base + (w - 0x80000000) = omega (arith, big.0, big.1) in
    let b : base + (w - 0x80000000) < 0x100000000 = omega (arith, big.0, big.1) in
    subst Plain (sym (tagged_variable base w big.0)) (inl (mid_var (base + (w - 0x80000000)) a b)))
    (is_cell_cases w h)

plain_row : (base : ℕ) (ws : List ℕ) → 0x80000000 ≤ base → base ≤ 0x90000000 → AllCells ws → AllPlain (map (tagged base) (row ws))
plain_row base [] lo hi h = tt
plain_row base (w ∷ ws) lo hi h = (plain_tagged base w lo hi (h 0 (omega arith)), plain_row base ws lo hi (λ k l. h (suc k) (omega arith)))

plain_append : (a b : List ℕ) → AllPlain a → AllPlain b → AllPlain (a ++ b)
plain_append [] b h k = k
plain_append (w ∷ a) b h k = (h.0, plain_append a b h.1 k)

pub plain_memory : (l f : List ℕ) → AllCells l → AllCells f → AllPlain (map (tagged 0x90000000) (row l) ++ f)
plain_memory l f p q =
    plain_append (map (tagged 0x90000000) (row l)) f (plain_row 0x90000000 l (omega arith) (omega arith) p)
    (subst AllPlain (tagged_same f) (plain_row 0x80000000 f (omega arith) (omega arith) q))

plain_drop : (n : ℕ) (ws : List ℕ) → AllPlain ws → AllPlain (drop n ws)
plain_drop zero ws h = h
plain_drop (suc n) [] h = tt
plain_drop (suc n) (w ∷ ws) h = plain_drop n ws h.1

plain_first : (ws : List ℕ) → AllPlain ws → Plain (get_or (or_var ws) 0 0)
plain_first [] h = inl var_zero
plain_first (w ∷ ws) h = h.0

plain_cell : (mem : List ℕ) (x : ℕ) → AllPlain mem → Plain (cell_at mem x)
plain_cell mem x h = go (is_var x) refl
  where
    go : (b : Bool) → is_var x ≡ b → Plain (get_or (cond b (x ∷ []) (or_var (drop x mem))) 0 0)
    go true e = inl e
    go false e = plain_first (drop x mem) (plain_drop x mem h)

pub made_plain : (mem : List ℕ) → AllPlain mem → (R : List ℕ) → Made (over all_kinds mem) R → AllPlain R
made_plain mem h [] m = tt
made_plain mem h (w ∷ R) m = (subst Plain m.0.1 (plain_cell mem m.0.0 h), made_plain mem h R m.1)
