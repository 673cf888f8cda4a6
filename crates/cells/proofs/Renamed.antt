-- Renamed rows, and their words. Assumes nothing.
use Rattle.std.proofs.Common.{◌≡◌, ℕ, zero, suc, ◌-◌, ◌<◌, List, [], ◌∷◌, map, length, get_or, sym, refl, ap, ◌∙◌, subst, arith}
use Rattle.std.proofs.lemmas.List.{length-map, get_or-map}
use Rattle.cells.specs.Cells.{Cell, symbol, variable, row, words, IsCell, AllCells}
use Rattle.cells.specs.Rows.{Occurs, Stands, Whole}
use Rattle.cells.specs.Substitutions.{renaming, rename}
use Rattle.cells.specs.Variables.{renamed_word}
use Rattle.cells.proofs.Words.{words_row}
use Rattle.cells.proofs.Substituting.{agree, twice, substitution_laws}
use Rattle.cells.proofs.Listing.{no_variable}

pub rename_agree : (ρ π : ℕ → ℕ) (cs : List Cell) → ((v : ℕ) → Occurs cs v → ρ v ≡ π v) → rename ρ cs ≡ rename π cs
rename_agree ρ π cs h = agree (renaming ρ) (renaming π) cs (λ v o. ap (λ x. variable x ∷ []) (h v o))

pub rename_twice : (ρ π : ℕ → ℕ) (cs : List Cell) → rename π (rename ρ cs) ≡ rename (λ v. π (ρ v)) cs
rename_twice ρ π cs = twice (renaming ρ) (renaming π) cs

-- renamed to themselves, where they occur
pub rename_same : (ρ : ℕ → ℕ) (cs : List Cell) → ((v : ℕ) → Occurs cs v → ρ v ≡ v) → rename ρ cs ≡ cs
rename_same ρ cs h = rename_agree ρ (λ v. v) cs h ∙ substitution_laws.same cs

pub stands_rename : (ρ : ℕ → ℕ) (cs : List Cell) (k v : ℕ) → Stands cs k v → Stands (rename ρ cs) k (ρ v)
stands_rename ρ [] k v s = absurd (no_variable 0 0 v s)
stands_rename ρ (symbol a f ∷ cs) zero v s = absurd (no_variable a f v s)
stands_rename ρ (symbol a f ∷ cs) (suc k) v s = stands_rename ρ cs k v s
stands_rename ρ (variable u ∷ cs) zero v s = let e : u ≡ v = cc in cc
stands_rename ρ (variable u ∷ cs) (suc k) v s = stands_rename ρ cs k v s

pub rename_stands : (ρ : ℕ → ℕ) (cs : List Cell) (k u : ℕ) → Stands (rename ρ cs) k u → (v : ℕ) × Stands cs k v × (ρ v ≡ u)
rename_stands ρ [] k u s = absurd (no_variable 0 0 u s)
rename_stands ρ (symbol a f ∷ cs) zero u s = absurd (no_variable a f u s)
rename_stands ρ (symbol a f ∷ cs) (suc k) u s = rename_stands ρ cs k u s
rename_stands ρ (variable v ∷ cs) zero u s = (v, refl, (cc))
rename_stands ρ (variable v ∷ cs) (suc k) u s = rename_stands ρ cs k u s

-- Renamed words.

pub row_renamed : (ρ : ℕ → ℕ) (ws : List ℕ) → row (map (renamed_word ρ) ws) ≡ rename ρ (row ws)
row_renamed ρ [] = refl
row_renamed ρ (w ∷ ws) = let r = row_renamed ρ ws in grind arith

pub words_rename : (ρ : ℕ → ℕ) (ws : List ℕ) → words (rename ρ (row ws)) ≡ map (renamed_word ρ) ws
words_rename ρ ws = ap words (sym (row_renamed ρ ws)) ∙ words_row (map (renamed_word ρ) ws)

pub row_rename : (ρ : ℕ → ℕ) (ws : List ℕ) → row (words (rename ρ (row ws))) ≡ rename ρ (row ws)
row_rename ρ ws = ap row (words_rename ρ ws) ∙ row_renamed ρ ws

pub renamed_whole : (ρ : ℕ → ℕ) (ws : List ℕ) → Whole (row ws) → Whole (row (map (renamed_word ρ) ws))
renamed_whole ρ ws h = subst Whole (sym (row_renamed ρ ws)) (substitution_laws.whole (renaming ρ) (row ws) (λ v. refl) h)

renamed_cell : (ρ : ℕ → ℕ) (w : ℕ) → ((v : ℕ) → ρ v < 64) → IsCell w → IsCell (renamed_word ρ w)
renamed_cell ρ w small h = let s = small (w - 2147483648) in grind arith

pub renamed_cells : (ρ : ℕ → ℕ) (ws : List ℕ) → ((v : ℕ) → ρ v < 64) → AllCells ws → AllCells (map (renamed_word ρ) ws)
renamed_cells ρ ws small h k l =
    let i : k < length ws = omega (arith, length-map ws (renamed_word ρ)) in
    rw (get_or-map (renamed_word ρ) ws k 0 0 i) (renamed_cell ρ (get_or ws k 0) small (h k i))
