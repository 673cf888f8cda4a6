-- The marked formulas. Assumes nothing.
use Rattle.std.proofs.Common.{◌≡◌, ℕ, ◌<◌, List, [], ◌∷◌, ◌++◌, length, get_or, sym, refl, ap, ◌∙◌, append-nil, arith}
use Rattle.cells.specs.Cells.{Cell, symbol, variable}
use Rattle.cells.specs.Rows.{Stands}
use Rattle.cells.specs.Variables.{Variant}
use Rattle.cells.proofs.Terms.{row_laws}
use Rattle.cells.proofs.Variants.{variable_laws}
use Rattle.matching.specs.Relations.{General, Unifiable}
use Rattle.matching.specs.Marked.{Marked, MarkedBinding, min_same, other_girths, f_same, f_inside, h_first, h_last, h_all}

abbrev girth : ℕ → List Cell
girth n = symbol 1 2 ∷ symbol 0 n ∷ []

-- the variable does not stand at position 0
not_before : (j : ℕ) → j < 1 → Stands min_same j 0 → ⊥
not_before j l e =
    let z : j ≡ 0 = omega arith in
    let y = ap (λ n. get_or min_same n (symbol 0 0)) (sym z) ∙ e in
    cc

second : General min_same other_girths → ⊥
second (σ, h) =
    let e : σ 0 ++ (σ 0 ++ []) ≡ girth 46 ++ girth 47 = cc in
    let f = row_laws.front (σ 0) (girth 46) (σ 0 ++ []) (girth 47) (h.whole 0) refl e in
    let a = f.0 in
    let b = f.1 in
    let z : ◌≡◌ {A = ℕ} 46 47 = cc (append-nil (σ 0)) in
    omega arith

third : Unifiable f_same f_inside → ⊥
third (σ, τ, c, p, q) =
    let e : σ 0 ++ (σ 0 ++ []) ≡ τ 0 ++ symbol 1 4 ∷ (τ 0 ++ []) = cc in
    let f = row_laws.front (σ 0) (τ 0) (σ 0 ++ []) (symbol 1 4 ∷ (τ 0 ++ [])) (p.whole 0) (q.whole 0) e in
    omega (arith, ap (λ z. length (z ++ [])) f.0, ap length f.1)

most : (d : List Cell) → General h_first d → General h_last d → General h_all d
most d (σ, p) (τ, q) =
    let e : σ 0 ++ (σ 0 ++ (σ 1 ++ [])) ≡ τ 0 ++ (τ 1 ++ (τ 1 ++ [])) = cc in
    let f = row_laws.front (σ 0) (τ 0) (σ 0 ++ (σ 1 ++ [])) (τ 1 ++ (τ 1 ++ [])) (p.whole 0) (q.whole 0) e in
    let g = row_laws.front (σ 0) (τ 1) (σ 1 ++ []) (τ 1 ++ []) (p.whole 0) (q.whole 1) f.1 in
    let a = g.0 in
    let b = g.1 in
    (λ v. σ 0, record { whole = λ v. p.whole 0; makes = cc })

no_variants : Variant h_first h_last → ⊥
no_variants h =
    let e = (variable_laws.same h_first h_last).0 h in
    cc

pub marked : Marked
marked = record {
  first = (λ v. girth 46, record { whole = λ v. refl; makes = refl });
  second = second;
  third = third;
  fourth = (λ v. symbol 1 4 ∷ variable 0 ∷ [], record { whole = λ v. refl; makes = refl });
  fifth = record {
    left = (λ v. variable 0 ∷ [], record { whole = λ v. refl; makes = refl });
    right = (λ v. variable 0 ∷ [], record { whole = λ v. refl; makes = refl });
    most = most;
    numbered = refl;
  };
  no_variants = no_variants;
  one_variable = refl;
}

pub marked_binding : MarkedBinding
marked_binding = record {
  σ = λ v. girth 46;
  turns = record { whole = λ v. refl; makes = refl };
  k = 1;
  first = record { here = refl; before = not_before };
  position = refl;
  part = refl;
}
