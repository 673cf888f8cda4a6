-- Laws of the relations. Assumes nothing.
use Rattle.std.proofs.Common.{◌≡◌, ℕ, List, [], ◌∷◌, sym, refl, ap, ◌∙◌, append-nil}
use Rattle.std.proofs.lemmas.Bool.{false≢true}
use Rattle.cells.specs.Cells.{Cell, symbol, variable}
use Rattle.cells.specs.Rows.{Whole, Occurs}
use Rattle.cells.specs.Substitutions.{substitute, renaming, rename}
use Rattle.cells.specs.Variables.{normalized, Variant}
use Rattle.cells.proofs.Substituting.{substitution_laws}
use Rattle.cells.proofs.Variants.{normalized_rename, variable_laws}
use Rattle.matching.specs.Relations.{Turns, General, Unifiable, Common, RelationLaws}

carried : (σ τ : ℕ → List Cell) (s t u : List Cell) → Turns σ s t → Turns τ t u → Turns (λ v. substitute τ (σ v)) s u
carried σ τ s t u a b = record {
  whole = λ v. substitution_laws.whole τ (σ v) b.whole (a.whole v);
  makes = sym (substitution_laws.twice σ τ s) ∙ ap (substitute τ) a.makes ∙ b.makes;
}

general_below : (s t u : List Cell) → General s t → General t u → General s u
general_below s t u (σ, a) (τ, b) = (λ v. substitute τ (σ v), carried σ τ s t u a b)

unifiable_below : (s t u : List Cell) → General t u → Unifiable s u → Unifiable s t
unifiable_below s t u g (σ, τ, c, a, b) = let h = general_below t u c g (τ, b) in (σ, h.0, c, a, h.1)

-- Variants.

general : (s t : List Cell) → Variant s t → General t s
general s t (ρ, π, x, e) = (renaming ρ, record { whole = λ v. refl; makes = e })

flip : (s t : List Cell) → Variant s t → Variant t s
flip s t h = (variable_laws.same t s).1 (sym ((variable_laws.same s t).0 h))

pub variant_general : (s t : List Cell) → Variant s t → General s t
variant_general s t h = general t s (flip s t h)

-- the variable that a row begins with, and 0 if it begins with none
abbrev begins : List Cell → ℕ
begins [] = 0
begins (symbol k f ∷ cs) = 0
begins (variable v ∷ cs) = v

-- only a row of one variable becomes a row of one variable
one_variable : (τ : ℕ → List Cell) (r : List Cell) (v : ℕ) → Whole r → substitute τ r ≡ variable v ∷ [] → r ≡ variable (begins r) ∷ []
one_variable τ [] v w e = absurd (false≢true w)
one_variable τ (symbol k f ∷ r) v w e = cc
one_variable τ (variable u ∷ []) v w e = refl
one_variable τ (variable u ∷ (c ∷ r)) v w e = absurd (false≢true w)

mutual_variant : (s t : List Cell) → General s t → General t s → Variant s t
mutual_variant s t (σ, a) (τ, b) = (variable_laws.same s t).1 (sym (ap normalized renamed ∙ normalized_rename ρ π s there))
  where
    ρ : ℕ → ℕ
    ρ v = begins (σ v)

    π : ℕ → ℕ
    π v = begins (τ v)

    back : (v : ℕ) → Occurs s v → substitute τ (σ v) ≡ variable v ∷ []
    back v o =
        let c = carried σ τ s t s a b in
        substitution_laws.determined (λ v. substitute τ (σ v)) (renaming (λ v. v)) s c.whole (λ v. refl) (c.makes ∙ sym (substitution_laws.same s)) v o

    single : (v : ℕ) → Occurs s v → σ v ≡ variable (ρ v) ∷ []
    single v o = one_variable τ (σ v) v (a.whole v) (back v o)

    there : (v : ℕ) → Occurs s v → π (ρ v) ≡ v
    there v o = ap begins (sym (append-nil (τ (ρ v))) ∙ ap (substitute τ) (sym (single v o)) ∙ back v o)

    renamed : t ≡ rename ρ s
    renamed = sym a.makes ∙ substitution_laws.agree σ (renaming ρ) s single

one_common : (s t c d : List Cell) → Common s t c → Common s t d → c ≡ d
one_common s t c d a b =
    let h = mutual_variant c d (a.most d b.left b.right) (b.most c a.left a.right) in
    sym a.numbered ∙ (variable_laws.same c d).0 h ∙ b.numbered

pub relation_laws : RelationLaws
relation_laws = record {
  carried = carried;
  instance_below = λ s t u. general_below t u s;
  unifiable_below = unifiable_below;
  mutual_variants = λ s t. (λ h. (variant_general s t h, general s t h), λ h. mutual_variant s t h.0 h.1);
  one_common = one_common;
}
