-- Each question for a binding has one answer. Assumes nothing.
use Rattle.std.proofs.Common.{◌≡◌, ℕ, List, length, take, Some, None, Ok, Err, Option, sym, refl, ap, ◌∙◌, ⊎_elim, arith}
use Rattle.std.proofs.lemmas.List.{get_or-take, get_or_past, length-take}
use Rattle.std.proofs.lemmas.Bool.{cases_order, cases_lt}
use Rattle.cells.specs.Cells.{Cell, symbol, row}
use Rattle.cells.specs.Rows.{Occurs}
use Rattle.cells.specs.Substitutions.{substitute}
use Rattle.cells.proofs.Substituting.{substitution_laws}
use Rattle.matching.specs.declared.finding.Asked.{Asked}
use Rattle.matching.specs.declared.finding.Asked.TheVariants as asked
use Rattle.matching.specs.declared.finding.Found.{Found}
use Rattle.matching.specs.declared.fault.MatchFault.{MatchFault}
use Rattle.matching.specs.declared.fault.MatchFault.TheVariants.{Left, Formula}
use Rattle.matching.specs.Pairs.{PairFault}
use Rattle.matching.specs.Bound.{BindingAnswer, First, BoundAt, BindsIf, AskedBinding, seen, OneBindingAnswer}
use Rattle.matching.proofs.Stepping.{same_parts}
use Rattle.matching.proofs.Pairing.{one_pair_answer}

one_first : (s : List Cell) (v j k : ℕ) → First s v j → First s v k → j ≡ k
one_first s v j k a b = ⊎_elim (λ e. e) (⊎_elim (λ l. absurd (b.before j l a.here)) (λ l. absurd (a.before k l b.here))) (cases_order j k)

-- what occurs in the front of a row occurs in the row
front_occurs : (s : List Cell) (k v : ℕ) → Occurs (take k s) v → Occurs s v
front_occurs s k v (j, e) =
    ⊎_elim
    (λ l. (j, sym (get_or-take k s j (symbol 0 0) l) ∙ e))
    (λ past. let d = get_or_past (take k s) j (symbol 0 0) (omega (arith, length-take k s)) in cc)
    (cases_lt j k)

one_bound : (s t : List Cell) (v m n : ℕ) (p q : List Cell) → BoundAt s t v m p → BoundAt s t v n q → (m ≡ n) × (p ≡ q)
one_bound s t v m n p q a b =
    let σ = a.σ in
    let τ = b.σ in
    let same = substitution_laws.determined σ τ s a.turns.whole b.turns.whole (a.turns.makes ∙ sym b.turns.makes) in
    let k = one_first s v a.k b.k a.first b.first in
    let front = substitution_laws.agree σ τ (take a.k s) (λ u o. same u (front_occurs s a.k u o)) in (
      a.position ∙ ap length (front ∙ ap (λ x. substitute τ (take x s)) k) ∙ sym b.position,
      a.part ∙ same v (a.k, a.first.here) ∙ sym b.part,
    )

module _ (P : Type 0) (s : List Cell) (t : List ℕ) (v : ℕ) where
  pub one_binding : (x y : Option Found) → BindsIf P s t v x → BindsIf P s t v y → seen (Ok x) ≡ seen (Ok y)
  one_binding None None a b = refl
  one_binding None (Some y) a b = let h = b.1 in absurd (a b.0 (h.k, h.first.here))
  one_binding (Some x) None a b = let h = a.1 in absurd (b a.0 (h.k, h.first.here))
  one_binding (Some x) (Some y) a b =
      let e = one_bound s (row t) v x.at y.at (row x.cells.now) (row y.cells.now) a.1 b.1 in
      let w = same_parts x.cells.now y.cells.now e.1 in
      cc

one_asked : (a : Asked) (l f : List ℕ) (x y : Option Found) → AskedBinding a l f x → AskedBinding a l f y → seen (Ok x) ≡ seen (Ok y)
one_asked (asked.General v) l f x y a b = one_binding _ (row l) f v.0 x y a b
one_asked (asked.Variant v) l f x y a b = one_binding _ (row l) f v.0 x y a b
one_asked (asked.Instance v) l f x y a b = one_binding _ (row f) l v.0 x y a b
one_asked asked.Unifiable l f x y a b = ap (λ z. seen (Ok z)) (a ∙ sym b)

fault : (q : Asked) (l f : List ℕ) (e : MatchFault) → BindingAnswer q l f (Err e) → PairFault l f e
fault q l f (Left e) h = h
fault q l f (Formula e) h = h

pub one_binding_answer : OneBindingAnswer
one_binding_answer q l f (Ok x) (Ok y) a b = one_asked q l f x y a.2 b.2
one_binding_answer q l f (Ok x) (Err e) a b = let h = one_pair_answer l f (Ok tt) (Err e) (record { left = a.0; formula = a.1 }) (fault q l f e b) in cc
one_binding_answer q l f (Err e) (Ok y) a b = let h = one_pair_answer l f (Err e) (Ok tt) (fault q l f e a) (record { left = b.0; formula = b.1 }) in cc
one_binding_answer q l f (Err e) (Err g) a b = let h = one_pair_answer l f (Err e) (Err g) (fault q l f e a) (fault q l f g b) in ap (λ z. Err z) (cc)
