-- The variables of a row: what `index`, `include` and `collect` keep. Assumes nothing.
use Rattle.std.proofs.Common.{◌≡◌, ℕ, zero, suc, ◌+◌, ◌-◌, ◌<◌, ◌≤◌, eqb, ltb, cond, ◌⊎◌, List, [], ◌∷◌, ◌++◌, length, get_or, take, sym, refl, ap, ◌∙◌, inl, inr, ⊎_elim, append_assoc, append-nil, arith}
use Rattle.std.proofs.lemmas.Bool.{cond_both, ltb-true, ltb-false, cases_lt, cases_eq}
use Rattle.std.proofs.lemmas.List.{length-append, map_more}
use Rattle.std.proofs.lemmas.List.Recursion.{is_position_or_len}
use Rattle.std.proofs.lemmas.Grind.{common_steps}
use Rattle.std.specs.List.{list_any, position, position_or_len}
use Rattle.std.specs.Option.{unwrap_or}
use Rattle.cells.specs.Cells.{Cell, symbol, variable, cell, row}
use Rattle.cells.specs.Rows.{Occurs, Stands}
use Rattle.cells.specs.Variables.{index, Listed, include, collect, variables}
use Rattle.cells.proofs.Words.{cell_symbol, cell_variable}

pub no_variable : (k f v : ℕ) → symbol k f ≡ variable v → ⊥
no_variable k f v e = let z : ◌≡◌ {A = ℕ} 0 1 = cc in omega arith

-- where a variable stands in a row of words
pub stands_word : (ws : List ℕ) (k v : ℕ) → Stands (row ws) k v → (k < length ws) × (get_or ws k 0 ≡ 2147483648 + v)
stands_word [] k v e = absurd (no_variable 0 0 v e)
stands_word (w ∷ ws) zero v e = grind arith
stands_word (w ∷ ws) (suc k) v e = let r = stands_word ws k v e in (omega arith, r.1)

pub word_stands : (ws : List ℕ) (k v : ℕ) → k < length ws → get_or ws k 0 ≡ 2147483648 + v → Stands (row ws) k v
word_stands [] k v h e = absurd (omega arith)
word_stands (w ∷ ws) zero v h e = grind arith
word_stands (w ∷ ws) (suc k) v h e = word_stands ws k v (omega arith) e

-- `index`.

-- in the library's words
pub listed_any : (us : List ℕ) (v : ℕ) → list_any (λ u. eqb u v) us ≡ ltb (index us v) (length us)
listed_any [] v = refl
listed_any (u ∷ us) v = let r = listed_any us v in grind arith

pub index_le : (us : List ℕ) (v : ℕ) → index us v ≤ length us
index_le [] v = omega arith
index_le (u ∷ us) v = let h = index_le us v in grind arith

pub index_is : (us : List ℕ) (v : ℕ) → index us v ≡ position_or_len (λ u. eqb u v) us
index_is us v = is_position_or_len (λ ws. index ws v) (λ u. eqb u v) refl (λ u ws. ap (λ n. cond (eqb u v) 0 n) (omega arith)) us

-- where v stands, or how long the list is
pub index_position : (us : List ℕ) (v : ℕ) → unwrap_or (position (λ u. eqb u v) us) (length us) ≡ index us v
index_position us v = let e = index_is us v in let l = index_le us v in grind (arith, common_steps)

-- what stands in a list stands there still in a longer one
pub index_append : (us ws : List ℕ) (v : ℕ) → Listed us v → index (us ++ ws) v ≡ index us v
index_append [] ws v h = absurd (omega arith)
index_append (u ∷ us) ws v h = let r : index us v < length us → index (us ++ ws) v ≡ index us v = index_append us ws v in grind arith

pub index_push : (us : List ℕ) (v : ℕ) → length us ≤ index us v → index (us ++ v ∷ []) v ≡ length us
index_push [] v h = grind arith
index_push (u ∷ us) v h = let r : length us ≤ index us v → index (us ++ v ∷ []) v ≡ length us = index_push us v in grind arith

-- `include` and `collect`.

pub include_old : (us : List ℕ) (v : ℕ) → Listed us v → include us v ≡ us
include_old us v h = grind arith

pub include_new : (us : List ℕ) (v : ℕ) → length us ≤ index us v → include us v ≡ us ++ v ∷ []
include_new us v h = grind arith

pub by_include : (us : List ℕ) (v : ℕ) (P : List ℕ → Type 0) → (Listed us v → P us) → (length us ≤ index us v → P (us ++ v ∷ [])) → P (include us v)
by_include us v P old new = cond_both (ltb (index us v) (length us)) us (us ++ v ∷ []) P (λ e. old (ltb-true _ _ e)) (λ e. new (ltb-false _ _ e))

pub collect_append : (us : List ℕ) (a b : List Cell) → collect us (a ++ b) ≡ collect (collect us a) b
collect_append us [] b = refl
collect_append us (symbol k f ∷ a) b = collect_append us a b
collect_append us (variable v ∷ a) b = collect_append (include us v) a b

pub variables_append : (a b : List Cell) → variables (a ++ b) ≡ collect (variables a) b
variables_append a b = collect_append [] a b

-- one more word
pub variables_more : (ws : List ℕ) (i : ℕ) → i < length ws → variables (row (take (i + 1) ws)) ≡ collect (variables (row (take i ws))) (cell (get_or ws i 0) ∷ [])
variables_more ws i h = ap variables (map_more cell ws i 0 h) ∙ variables_append (row (take i ws)) (cell (get_or ws i 0) ∷ [])

pub collect_symbol : (us : List ℕ) (w : ℕ) → w < 2147483648 → collect us (cell w ∷ []) ≡ us
collect_symbol us w h = ap (λ c. collect us (c ∷ [])) (cell_symbol w h)

pub collect_variable : (us : List ℕ) (w : ℕ) → 2147483648 ≤ w → collect us (cell w ∷ []) ≡ include us (w - 2147483648)
collect_variable us w h = ap (λ c. collect us (c ∷ [])) (cell_variable w h)

-- What a list keeps as more is collected.

include_extends : (us : List ℕ) (v : ℕ) → (ws : List ℕ) × (include us v ≡ us ++ ws)
include_extends us v = by_include us v (λ z. (ws : List ℕ) × (z ≡ us ++ ws)) (λ old. ([], sym (append-nil us))) (λ new. (v ∷ [], refl))

pub collect_extends : (us : List ℕ) (cs : List Cell) → (ws : List ℕ) × (collect us cs ≡ us ++ ws)
collect_extends us [] = ([], sym (append-nil us))
collect_extends us (symbol k f ∷ cs) = collect_extends us cs
collect_extends us (variable v ∷ cs) =
    let a = include_extends us v in
    let b = collect_extends (include us v) cs in
    (a.0 ++ b.0, b.1 ∙ ap (λ z. z ++ b.0) a.1 ∙ append_assoc us a.0 b.0)

pub index_collect : (us : List ℕ) (cs : List Cell) (v : ℕ) → Listed us v → index (collect us cs) v ≡ index us v
index_collect us cs v h = let e = collect_extends us cs in ap (λ z. index z v) e.1 ∙ index_append us e.0 v h

pub listed_collect : (us : List ℕ) (cs : List Cell) (v : ℕ) → Listed us v → Listed (collect us cs) v
listed_collect us cs v h =
    let e = collect_extends us cs in
    omega (arith, index_collect us cs v h, ap length e.1 ∙ length-append us e.0)

pub index_include : (us : List ℕ) (v : ℕ) → index (include us v) v ≡ index us v
index_include us v = by_include us v (λ z. index z v ≡ index us v) (λ old. refl) (λ new. omega (arith, index_push us v new, index_le us v))

pub length_include : (us : List ℕ) (v : ℕ) → (index us v < length (include us v)) × (length (include us v) ≤ length us + 1)
length_include us v = let n = length-append us (v ∷ []) in let i = index_le us v in (grind arith, grind arith)

pub listed_include : (us : List ℕ) (v : ℕ) → Listed (include us v) v
listed_include us v = omega (arith, index_include us v, length_include us v)

index_push_other : (us : List ℕ) (v w : ℕ) → (v ≡ w → ⊥) → length us ≤ index us w → index (us ++ v ∷ []) w ≡ suc (length us)
index_push_other [] v w n h = grind arith
index_push_other (u ∷ us) v w n h = let r : length us ≤ index us w → index (us ++ v ∷ []) w ≡ suc (length us) = index_push_other us v w n in grind arith

pub listed_push : (us : List ℕ) (v w : ℕ) → Listed (us ++ v ∷ []) w → Listed us w ⊎ (v ≡ w)
listed_push us v w h =
    ⊎_elim inl (λ new. ⊎_elim inr (λ n. absurd (omega (arith, index_push_other us v w n new, length-append us (v ∷ [])))) (cases_eq v w)) (cases_lt (index us w) (length us))

-- only v is new
listed_before : (us : List ℕ) (v w : ℕ) → Listed (include us v) w → Listed us w ⊎ (v ≡ w)
listed_before us v w = by_include us v (λ z. Listed z w → Listed us w ⊎ (v ≡ w)) (λ old h. inl h) (λ new. listed_push us v w)

length_collect : (us : List ℕ) (cs : List Cell) → length (collect us cs) ≤ length us + length cs
length_collect us [] = omega arith
length_collect us (symbol k f ∷ cs) = omega (arith, length_collect us cs)
length_collect us (variable v ∷ cs) = omega (arith, length_collect (include us v) cs, length_include us v)

pub length_variables : (cs : List Cell) → length (variables cs) ≤ length cs
length_variables cs = omega (arith, length_collect [] cs)

collect_occurs : (us : List ℕ) (cs : List Cell) (k v : ℕ) → Stands cs k v → Listed (collect us cs) v
collect_occurs us [] k v s = absurd (no_variable 0 0 v s)
collect_occurs us (symbol a f ∷ cs) zero v s = absurd (no_variable a f v s)
collect_occurs us (symbol a f ∷ cs) (suc k) v s = collect_occurs us cs k v s
collect_occurs us (variable x ∷ cs) zero v s = let e : x ≡ v = cc in rw e (listed_collect (include us v) cs v (listed_include us v))
collect_occurs us (variable x ∷ cs) (suc k) v s = collect_occurs (include us x) cs k v s

occurs_collect : (us : List ℕ) (cs : List Cell) (v : ℕ) → Listed (collect us cs) v → Listed us v ⊎ Occurs cs v
occurs_collect us [] v h = inl h
occurs_collect us (symbol k f ∷ cs) v h = ⊎_elim inl (λ o. inr (suc o.0, o.1)) (occurs_collect us cs v h)
occurs_collect us (variable x ∷ cs) v h =
    ⊎_elim (λ l. ⊎_elim inl (λ e. inr (0, ap variable e)) (listed_before us x v l)) (λ o. inr (suc o.0, o.1)) (occurs_collect (include us x) cs v h)

pub occurs_listed : (cs : List Cell) (v : ℕ) → Occurs cs v → Listed (variables cs) v
occurs_listed cs v o = collect_occurs [] cs o.0 v o.1

pub listed_occurs : (cs : List Cell) (v : ℕ) → Listed (variables cs) v → Occurs cs v
listed_occurs cs v l = ⊎_elim (λ h. absurd (omega arith)) (λ o. o) (occurs_collect [] cs v l)
