-- The test of a checked rule says what a checked rule is, and numbering makes one. Assumes nothing.
use Rattle.std.proofs.Common.{◌≡◌, ℕ, zero, suc, ◌+◌, ◌≤◌, true, not, ◌&&◌, ltb, leb, List, [], ◌∷◌, length, sym, refl, ap, ◌∙◌, subst, arith}
use lib.ListN.{length-map}
use Rattle.std.proofs.lemmas.Bool.{and_parts, and_from, leb-true, le-leb, ltb-true, lt-ltb, not-true, not_from_false}
use Rattle.cells.specs.Cells.{Cell, symbol, variable, cell, is_cell, AllCells, row, words}
use Rattle.cells.specs.Rows.{terms, Whole, Stands}
use Rattle.cells.specs.Substitutions.{rename}
use Rattle.cells.specs.Variables.{index, Listed, variables, renamed_word}
use Rattle.cells.specs.Checks.{CheckedRow}
use Rattle.cells.specs.Rules.{Sides, numbered, bare, Each, Covered, GoodSides, CheckedRule, all_cells, row_ok, listed, counts_from, rule_ok, RuleLaws}
use Rattle.cells.proofs.Terms.{terms_reads, terms_length}
use Rattle.cells.proofs.Words.{words_row}
use Rattle.cells.proofs.Listing.{index_le, length_variables}
use Rattle.cells.proofs.Renamed.{rename_same, stands_rename, rename_stands, words_rename, row_rename, renamed_cells, renamed_whole}
use Rattle.cells.proofs.Variants.{variable_laws}
use Rattle.cells.proofs.Counting.{counts_listed, counting, normal_counts}

-- The tests of the parts.

all_cells_lem : (ws : List ℕ) → all_cells ws ≡ true → AllCells ws
all_cells_lem [] h k l = absurd (omega arith)
all_cells_lem (w ∷ ws) h zero l = (and_parts (is_cell w) (all_cells ws) h).0
all_cells_lem (w ∷ ws) h (suc k) l = all_cells_lem ws (and_parts (is_cell w) (all_cells ws) h).1 k (omega arith)

cells_all : (ws : List ℕ) → AllCells ws → all_cells ws ≡ true
cells_all [] h = refl
cells_all (w ∷ ws) h = and_from (is_cell w) (all_cells ws) (h 0 (omega arith)) (cells_all ws (λ k l. h (suc k) (omega arith)))

row_checked : (limit : ℕ) (ws : List ℕ) → row_ok limit ws ≡ true → CheckedRow limit ws
row_checked limit ws h =
    let (a, t) = and_parts (leb (length ws) limit) (all_cells ws && terms 1 (row ws)) h in
    let (b, w) = and_parts (all_cells ws) (terms 1 (row ws)) t in
    let n = terms_length 1 (row ws) (terms_reads 1 (row ws) w) in
    let m = length-map ws cell in
    record { within = (omega arith, leb-true (length ws) limit a); cells = all_cells_lem ws b; whole = w }

checked_row : (limit : ℕ) (ws : List ℕ) → CheckedRow limit ws → row_ok limit ws ≡ true
checked_row limit ws c =
    and_from (leb (length ws) limit) (all_cells ws && terms 1 (row ws)) (le-leb (length ws) limit c.within.1)
    (and_from (all_cells ws) (terms 1 (row ws)) (cells_all ws c.cells) c.whole)

each_listed : (us : List ℕ) (cs : List Cell) → listed us cs ≡ true → Each (Listed us) cs
each_listed us [] h k v s = let z : ◌≡◌ {A = ℕ} 0 1 = cc in absurd (omega arith)
each_listed us (symbol a f ∷ cs) h zero v s = let z : ◌≡◌ {A = ℕ} 0 1 = cc in absurd (omega arith)
each_listed us (symbol a f ∷ cs) h (suc k) v s = each_listed us cs h k v s
each_listed us (variable u ∷ cs) h zero v s =
    let e : u ≡ v = cc in
    subst (Listed us) e (ltb-true (index us u) (length us) (and_parts (ltb (index us u) (length us)) (listed us cs) h).0)
each_listed us (variable u ∷ cs) h (suc k) v s = each_listed us cs (and_parts (ltb (index us u) (length us)) (listed us cs) h).1 k v s

listed_each : (us : List ℕ) (cs : List Cell) → Each (Listed us) cs → listed us cs ≡ true
listed_each us [] h = refl
listed_each us (symbol a f ∷ cs) h = listed_each us cs (λ k. h (suc k))
listed_each us (variable u ∷ cs) h = and_from (ltb (index us u) (length us)) (listed us cs) (lt-ltb (index us u) (length us) (h 0 u refl)) (listed_each us cs (λ k. h (suc k)))

-- Renamed rows.

bare_rename : (ρ : ℕ → ℕ) (cs : List Cell) → bare (rename ρ cs) ≡ bare cs
bare_rename ρ [] = refl
bare_rename ρ (symbol k f ∷ cs) = refl
bare_rename ρ (variable v ∷ cs) = refl

covered_rename : (ρ : ℕ → ℕ) (l r : List Cell) → Covered l r → Covered (rename ρ l) (rename ρ r)
covered_rename ρ l r h k v s =
    let (u, t, e) = rename_stands ρ r k v s in
    let (j, o) = h k u t in
    (j, subst (Stands (rename ρ l) j) e (stands_rename ρ l j u o))

-- a row that is renamed word for word the same has each variable renamed to itself
fixed : (ρ : ℕ → ℕ) (cs : List Cell) → words (rename ρ cs) ≡ words cs → rename ρ cs ≡ cs
fixed ρ [] e = refl
fixed ρ (symbol k f ∷ cs) e = let t : words (rename ρ cs) ≡ words cs = cc in ap (λ z. symbol k f ∷ z) (fixed ρ cs t)
fixed ρ (variable v ∷ cs) e =
    let t : words (rename ρ cs) ≡ words cs = cc in
    let h : 2147483648 + ρ v ≡ 2147483648 + v = cc in
    let i : ρ v ≡ v = omega arith in
    λ j. variable (i j) ∷ fixed ρ cs t j

own : (cs : List Cell) → Each (Listed (variables cs)) cs
own cs k v s = (variable_laws.listed cs v).0 (k, s)

-- sides whose variables are 0, 1, 2 and so on are numbered
unmoved : (us : List ℕ) (ws : List ℕ) → counts_from 0 us ≡ true → Each (Listed us) (row ws) → words (rename (index us) (row ws)) ≡ ws
unmoved us ws c h =
    ap words (rename_same (index us) (row ws) (λ v o. counts_listed us v c (h o.0 v o.1))) ∙ words_row ws

settled : (s : Sides) → counts_from 0 (variables (row s.left)) ≡ true → Covered (row s.left) (row s.right) → numbered s ≡ s
settled s c h =
    let l = row s.left in
    λ j. record {
      left = unmoved (variables l) s.left c (own l) j;
      right = unmoved (variables l) s.right c (λ k v t. (variable_laws.listed l v).0 (h k v t)) j;
    }

-- numbered sides pass where the sides do
renamed_checked : (us : List ℕ) (ws : List ℕ) → length us ≤ 60 → CheckedRow 60 ws → CheckedRow 60 (words (rename (index us) (row ws)))
renamed_checked us ws n c =
    let ρ = index us in
    let e = words_rename ρ ws in
    let m = ap length e ∙ length-map ws (renamed_word ρ) in
    record {
      within = (omega (arith, c.within.0), omega (arith, c.within.1));
      cells = subst AllCells (sym e) (renamed_cells ρ ws (λ v. omega (arith, index_le us v)) c.cells);
      whole = subst (λ x. Whole (row x)) (sym e) (renamed_whole ρ ws c.whole);
    }

numbers : (s : Sides) → GoodSides s → CheckedRule (numbered s)
numbers s g =
    let l = row s.left in
    let r = row s.right in
    let us = variables l in
    let n : length us ≤ 60 = omega (arith, length_variables l, length-map s.left cell, g.left.checked.within.1) in
    let el = row_rename (index us) s.left in
    let er = row_rename (index us) s.right in
    let covered : Covered (row (numbered s).left) (row (numbered s).right) = subst (λ x. Covered x (row (numbered s).right)) (sym el) (subst (Covered (rename (index us) l)) (sym er) (covered_rename (index us) l r g.covered)) in
    record {
      good = record {
        left = record { checked = renamed_checked us s.left n g.left.checked; proper = ap bare el ∙ bare_rename (index us) l ∙ g.left.proper };
        right = renamed_checked us s.right n g.right;
        covered = covered;
      };
      normal = settled (numbered s) (ap (λ x. counts_from 0 (variables x)) el ∙ counting l) covered;
    }

tested : (s : Sides) → rule_ok s ≡ true → CheckedRule s
unfolding rule_ok
tested s h =
    let l = row s.left in
    let us = variables l in
    let (a, t) = and_parts (row_ok 60 s.left) _ h in
    let (b, t) = and_parts (row_ok 60 s.right) _ t in
    let (c, t) = and_parts (not (bare l)) _ t in
    let (d, e) = and_parts (listed us (row s.right)) (counts_from 0 us) t in
    let covered : Covered l (row s.right) = λ k v x. (variable_laws.listed l v).1 (each_listed us (row s.right) d k v x) in
    record {
      good = record { left = record { checked = row_checked 60 s.left a; proper = not-true (bare l) c }; right = row_checked 60 s.right b; covered = covered };
      normal = settled s e covered;
    }

passes : (s : Sides) → CheckedRule s → rule_ok s ≡ true
unfolding rule_ok
passes s r =
    let l = row s.left in
    let us = variables l in
    let g = r.good in
    let same : rename (index us) l ≡ l = fixed (index us) l (ap (λ x. x.left) r.normal ∙ sym (words_row s.left)) in
    and_from _ _ (checked_row 60 s.left g.left.checked)
    (and_from _ _ (checked_row 60 s.right g.right)
    (and_from _ _ (not_from_false (bare l) g.left.proper)
    (and_from _ _ (listed_each us (row s.right) (λ k v x. (variable_laws.listed l v).0 (g.covered k v x))) (normal_counts l same))))

pub rule_laws : RuleLaws
rule_laws = record { checked = λ s. (tested s, passes s); numbers = numbers }
