-- What matching with no bindings at hand decides. Assumes nothing.
use Rattle.std.proofs.Common.{◌≡◌, ℕ, List, [], length, take, Some, None, Decides, Option, eqb, sym, refl, ap, ◌∙◌, arith, length-take}
use lib.ListN.{length-map}
use Rattle.std.specs.List.{between}
use Rattle.std.proofs.lemmas.List.{take_all}
use Rattle.std.proofs.lemmas.Slice.{between_from_start}
use Rattle.std.specs.Option.{option_eq}
use Rattle.std.proofs.lemmas.Bool.{false≢true, eqb-true, eq-eqb}
use Rattle.cells.specs.Cells.{Cell, variable, cell, word, row}
use Rattle.cells.specs.Rows.{Whole}
use Rattle.cells.specs.Substitutions.{Substitution, substitute}
use Rattle.substitution.specs.declared.bindings.Part.{Part}
use Rattle.substitution.specs.declared.bindings.Binding.{Binding}
use Rattle.substitution.specs.Bindings.{lookup, part_of, bound_in}
use Rattle.matching.specs.Relations.{General}
use Rattle.matching.specs.Extending.{part, Agrees, AllWhole}
use Rattle.matching.proofs.Longer.{cut_back}
use Rattle.matching.specs.Fronts.{Longer, Matched, FrontMatched, Fits}

pub none_bound : (w : ℕ) (p : Part) → lookup [] w ≡ Some p → ⊥
none_bound w p e = cc

pub nothing : (source : List ℕ) (σ : ℕ → List Cell) → Agrees source [] σ
nothing source σ v p e = absurd (none_bound (word (variable v)) p e)

-- bindings to whole parts are a substitution
pub bound_whole : (source : List ℕ) (b : List Binding) → AllWhole source b → Substitution (bound_in source b)
bound_whole source b h v = by_part (lookup b (word (variable v))) (h (word (variable v)))
  where
    by_part : (o : Option Part) → ((p : Part) → o ≡ Some p → Whole (part source p)) → Whole (part_of (row source) v o)
    by_part None h = refl
    by_part (Some p) h = h p refl

pub bound_agrees : (source : List ℕ) (b : List Binding) → Agrees source b (bound_in source b)
bound_agrees source b v p e = ap (part_of (row source) v) e

-- what matching finds, some substitution does
pub fitting : (source : List ℕ) (b b' : List Binding) (s : List Cell) (at e : ℕ) → Matched source b s at e b' → AllWhole source b
    → (σ : ℕ → List Cell) × Substitution σ × Agrees source b σ × (substitute σ s ≡ between at e (row source))
fitting source b b' s at e h w =
    let σ = bound_in source b' in
    let p = bound_whole source b' (h.whole w) in
    let x = (h.exact σ p).1 (bound_agrees source b') in
    (σ, p, x.0, x.1)

module _ (source : List ℕ) (b b' : List Binding) (s : List Cell) (at : ℕ) where
  pub fits_by : (o : Option ℕ) → FrontMatched source b s at o b' → Fits source b s at o
  fits_by (Some e) h = fitting source b b' s at e h.1
  fits_by None h = h.1

  pub longer_by : (o : Option ℕ) → FrontMatched source b s at o b' → Longer b (length s) b'
  longer_by (Some e) h = h.0
  longer_by None h = h.0

module _ (source : List ℕ) (s : List Cell) (b : List Binding) where
  all : take (length source) (row source) ≡ row source
  all = take_all (length source) (row source) (simp length-map (omega arith))

  -- some substitution turns s into the whole row exactly if s takes all of it
  pub decided : (o : Option ℕ) → FrontMatched source [] s 0 o b → Decides (option_eq eqb o (Some (length source))) (General s (row source))
  decided (Some e) h = (
    (λ t.
        let f = fitting source [] b s 0 e h.1 (λ w p x. absurd (none_bound w p x)) in
        (f.0, record { whole = f.1; makes = f.3 ∙ between_from_start (row source) e ∙ ap (λ k. take k (row source)) (eqb-true e (length source) t) ∙ all })),
    (λ (σ, t).
        let x = h.1.only σ t.whole (nothing source σ) (length source) (t.makes ∙ sym all) in
        let l = ap length (sym t.makes ∙ x ∙ between_from_start (row source) e) ∙ length-take e (row source) in
        let n = length-map source cell in
        let i = h.1.inside (omega arith) in
        eq-eqb e (length source) (omega arith)),
  )
  decided None h = ((λ t. absurd (false≢true t)), (λ (σ, t). absurd (h.1 σ t.whole (nothing source σ) (length source) (t.makes ∙ sym all))))

-- what a trial keeps of a match
pub ruleset tried = (fits_by, longer_by, cut_back)
