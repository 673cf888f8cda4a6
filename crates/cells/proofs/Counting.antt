-- Numbered lists of variables. Assumes nothing.
use Rattle.std.proofs.Common.{◌≡◌, ℕ, zero, suc, ◌+◌, min, true, eqb, List, [], ◌∷◌, ◌++◌, length, refl, ◌∙◌, subst, ⊎_elim, arith}
use Rattle.std.proofs.lemmas.Bool.{and_parts, cases_lt}
use Rattle.std.proofs.lemmas.List.{length-append}
use Rattle.cells.specs.Cells.{Cell, symbol, variable}
use Rattle.cells.specs.Substitutions.{rename}
use Rattle.cells.specs.Variables.{index, Listed, include, collect, variables, normalized}
use Rattle.cells.specs.Rules.{counts_from}
use Rattle.cells.proofs.Listing.{index_le, include_old, include_new, index_collect, listed_include, index_include}

counts_from_lem : (n : ℕ) (us : List ℕ) (k : ℕ) → counts_from n us ≡ true → index us (n + k) ≡ min k (length us)
counts_from_lem n [] k h = omega arith
counts_from_lem n (u ∷ us) zero h = let p = and_parts (eqb u n) (counts_from (suc n) us) h in let z : n + 0 ≡ n = omega arith in grind arith
counts_from_lem n (u ∷ us) (suc k) h =
    let p = and_parts (eqb u n) (counts_from (suc n) us) h in
    let e : suc n + k ≡ n + suc k = omega arith in
    let r = rw e at (counts_from_lem (suc n) us k p.1) in
    grind arith

counts_push : (n : ℕ) (us : List ℕ) (m : ℕ) → counts_from n us ≡ true → m ≡ n + length us → counts_from n (us ++ m ∷ []) ≡ true
counts_push n [] m h e = grind arith
counts_push n (u ∷ us) m h e =
    let p = and_parts (eqb u n) (counts_from (suc n) us) h in
    let r = counts_push (suc n) us m p.1 (omega arith) in
    grind arith

-- a numbered list has the numbers below its length, each at its own place
pub counts_index : (us : List ℕ) (k : ℕ) → counts_from 0 us ≡ true → index us k ≡ min k (length us)
counts_index us k h = let z : 0 + k ≡ k = omega arith in rw z at (counts_from_lem 0 us k h)

pub counts_listed : (us : List ℕ) (v : ℕ) → counts_from 0 us ≡ true → Listed us v → index us v ≡ v
counts_listed us v h l = omega (arith, counts_index us v h)

-- us is numbered as far as vs goes: so it stays as a variable is included in vs, and its number in us
counts_include : (us vs : List ℕ) (v : ℕ) → counts_from 0 us ≡ true → length us ≡ length vs → (counts_from 0 (include us (index vs v)) ≡ true) × (length (include us (index vs v)) ≡ length (include vs v))
counts_include us vs v h e =
    let i = counts_index us (index vs v) h in
    let l = index_le vs v in
    ⊎_elim
    (λ old. rw (include_old vs v old, include_old us (index vs v) (omega arith)) (h, e))
    (λ new. rw (include_new vs v new, include_new us (index vs v) (omega arith)) (counts_push 0 us (index vs v) h (omega arith), simp length-append (omega arith)))
    (cases_lt (index vs v) (length vs))

counts_collect : (us vs : List ℕ) (cs : List Cell) → counts_from 0 us ≡ true → length us ≡ length vs
    → (counts_from 0 (collect us (rename (index (collect vs cs)) cs)) ≡ true) × (length (collect us (rename (index (collect vs cs)) cs)) ≡ length (collect vs cs))
counts_collect us vs [] h e = (h, e)
counts_collect us vs (symbol k f ∷ cs) h e = counts_collect us vs cs h e
counts_collect us vs (variable v ∷ cs) h e =
    let i : index (collect (include vs v) cs) v ≡ index vs v = index_collect (include vs v) cs v (listed_include vs v) ∙ index_include vs v in
    let r = counts_include us vs v h e in
    let g = counts_collect (include us (index vs v)) (include vs v) cs r.0 r.1 in
    rw i g

pub counting : (cs : List Cell) → counts_from 0 (variables (normalized cs)) ≡ true
counting cs = (counts_collect [] [] cs refl refl).0

pub length_normalized : (cs : List Cell) → length (variables (normalized cs)) ≡ length (variables cs)
length_normalized cs = (counts_collect [] [] cs refl refl).1

pub normal_counts : (cs : List Cell) → normalized cs ≡ cs → counts_from 0 (variables cs) ≡ true
normal_counts cs e = subst (λ z. counts_from 0 (variables z) ≡ true) e (counting cs)
