-- Matching one front of a pattern after the other. Assumes nothing.
use Rattle.std.proofs.Common.{◌≡◌, ℕ, ◌+◌, ◌-◌, ◌≤◌, List, [], ◌∷◌, ◌++◌, length, take, drop, Some, None, sym, refl, ap, ◌∙◌, append_assoc, arith, get_or, ◌<◌, length-append, take-append-drop}
use mathlib.Core.List.{map-append}
use Rattle.std.specs.List.{between}
use Rattle.std.proofs.lemmas.List.{take_at, take_more, take-map, drop-drop, append_cancel_left, append_cancel_right}
use Rattle.cells.specs.Cells.{Cell, cell, row}
use Rattle.cells.specs.Substitutions.{Substitution, substitute}
use Rattle.cells.proofs.Substituting.{substitute_append}
use Rattle.substitution.specs.declared.bindings.Binding.{Binding}
use Rattle.matching.specs.Extending.{Agrees, AllWhole}
use Rattle.matching.specs.Fronts.{Matched, Unmatched, FrontMatched}
use Rattle.matching.proofs.Longer.{longer_more}

-- what stands at a position is a part and what follows it
pub part_rest : (cs : List Cell) (at e : ℕ) → at ≤ e → drop at cs ≡ between at e cs ++ drop e cs
part_rest cs at e l =
    let z : at + (e - at) ≡ e = omega arith in
    sym (take-append-drop (e - at) (drop at cs)) ∙ ap (λ x. between at e cs ++ x) (drop-drop (e - at) at cs ∙ ap (λ n. drop n cs) z)

-- what something stands behind is a front
pub front_of : (x r t : List Cell) → x ++ r ≡ t → x ≡ take (length x) t
front_of x r t e = sym (take_at x r (length x) refl) ∙ ap (take (length x)) e

-- σ agrees with the bindings, and s turned by it, with r behind it, is what stands at the position
abbrev pub Open : List ℕ → List Binding → List Cell → List Cell → ℕ → (ℕ → List Cell) → Type 0
Open source b s r at σ = Agrees source b σ × (substitute σ s ++ r ≡ drop at (row source))

module _ (source : List ℕ) (b b' : List Binding) (s : List Cell) (at e : ℕ) where
  -- a pattern is matched if r can only be the rest of the row
  matched : at ≤ e → (at ≤ length source → e ≤ length source) → (AllWhole source b → AllWhole source b')
      → ((σ : ℕ → List Cell) (r : List Cell) → Substitution σ → Open source b s r at σ → Agrees source b' σ × (r ≡ drop e (row source)))
      → ((σ : ℕ → List Cell) → Substitution σ → Agrees source b' σ → Open source b s (drop e (row source)) at σ)
      → Matched source b s at e b'
  matched l i w there back =
      let t = part_rest (row source) at e l in
      let part = between at e (row source) in
      let rest = drop e (row source) in
      record {
        order = l;
        inside = i;
        whole = w;
        exact = λ σ p. (
          (λ x. (there σ rest p (x.0, ap (λ z. z ++ rest) x.1 ∙ sym t)).0),
          (λ a. let y = back σ p a in (y.0, append_cancel_right (substitute σ s) part rest (y.1 ∙ t))),
        );
        only = λ σ p a k x.
            let r = drop k (drop at (row source)) in
            let o : substitute σ s ++ r ≡ drop at (row source) = ap (λ z. z ++ r) x ∙ take-append-drop k (drop at (row source)) in
            let y = there σ r p (a, o) in
            append_cancel_right (substitute σ s) part rest (ap (λ z. substitute σ s ++ z) (sym y.1) ∙ o ∙ t);
      }

  module _ (m : Matched source b s at e b') (σ : ℕ → List Cell) (p : Substitution σ) where
    pub taken : (r : List Cell) → Open source b s r at σ → Agrees source b' σ × (r ≡ drop e (row source))
    taken r o =
        let f = m.only σ p o.0 (length (substitute σ s)) (front_of (substitute σ s) r (drop at (row source)) o.1) in
        ((m.exact σ p).0 (o.0, f), append_cancel_left (between at e (row source)) r (drop e (row source)) (ap (λ z. z ++ r) (sym f) ∙ o.1 ∙ part_rest (row source) at e m.order))

    given : Agrees source b' σ → Open source b s (drop e (row source)) at σ
    given a = let y = (m.exact σ p).1 a in (y.0, ap (λ z. z ++ drop e (row source)) y.1 ∙ sym (part_rest (row source) at e m.order))

module _ (source : List ℕ) (b b' : List Binding) (s t : List Cell) (at mid : ℕ) (m : Matched source b s at mid b') where
  joined : (σ : ℕ → List Cell) (r : List Cell) → substitute σ (s ++ t) ++ r ≡ substitute σ s ++ (substitute σ t ++ r)
  joined σ r = ap (λ z. z ++ r) (substitute_append σ s t) ∙ append_assoc (substitute σ s) (substitute σ t) r

  pub matched_more : (e : ℕ) (b'' : List Binding) → Matched source b' t mid e b'' → Matched source b (s ++ t) at e b''
  matched_more e b'' n =
      matched source b b'' (s ++ t) at e
      (omega (arith, m.order, n.order))
      (λ i. n.inside (m.inside i))
      (λ w. n.whole (m.whole w))
      (λ σ r p o.
      let x = taken source b b' s at mid m σ p (substitute σ t ++ r) (o.0, sym (joined σ r) ∙ o.1) in
      taken source b' b'' t mid e n σ p r x)
      (λ σ p a.
      let y = given source b' b'' t mid e n σ p a in
      let z = given source b b' s at mid m σ p y.0 in
      (z.0, joined σ (drop e (row source)) ∙ ap (λ x. substitute σ s ++ x) y.1 ∙ z.1))

  pub unmatched_more : Unmatched source b' t mid → (u : List Cell) → Unmatched source b ((s ++ t) ++ u) at
  unmatched_more n u σ p a k x =
      let left = drop k (drop at (row source)) in
      let r = substitute σ u ++ left in
      let whole = ap (λ z. z ++ left) (sym (substitute_append σ (s ++ t) u) ∙ x) ∙ take-append-drop k (drop at (row source)) in
      let o = sym (joined σ r) ∙ sym (append_assoc (substitute σ (s ++ t)) (substitute σ u) left) ∙ whole in
      let y = taken source b b' s at mid m σ p (substitute σ t ++ r) (a, o) in
      n σ p y.0 (length (substitute σ t)) (front_of (substitute σ t) r (drop mid (row source)) y.1)

-- one more cell of a pattern, after those before it
module _ (source : List ℕ) (b b' b'' : List Binding) (ps : List ℕ) (i at mid : ℕ) (l : i < length ps) (h : FrontMatched source b (take i (row ps)) at (Some mid) b') where
  abbrev c : List Cell
  c = cell (get_or ps i 0) ∷ []

  more : take (i + 1) (row ps) ≡ take i (row ps) ++ c
  more = take-map cell (i + 1) ps ∙ ap row (take_more ps i 0 l) ∙ map-append cell (take i ps) (get_or ps i 0 ∷ []) ∙ ap (λ z. z ++ c) (sym (take-map cell i ps))

  left : (take i (row ps) ++ c) ++ drop (i + 1) (row ps) ≡ row ps
  left = rw (← more) (take-append-drop (i + 1) (row ps))

  pub cell_matched : (e : ℕ) → FrontMatched source b' c mid (Some e) b'' → FrontMatched source b (take (i + 1) (row ps)) at (Some e) b''
  cell_matched e x = rw more (
    longer_more b b' b'' (length (take i (row ps))) 1 (length (take i (row ps) ++ c)) h.0 x.0 (omega (arith, length-append (take i (row ps)) c)),
    matched_more source b b' (take i (row ps)) c at mid h.1 e b'' x.1,
  )

  pub cell_unmatched : FrontMatched source b' c mid None b'' → FrontMatched source b (row ps) at None b''
  cell_unmatched x = rw (← left) (
    longer_more b b' b'' (length (take i (row ps))) 1 (length ((take i (row ps) ++ c) ++ drop (i + 1) (row ps))) h.0 x.0
        (omega (arith, length-append (take i (row ps)) c, length-append (take i (row ps) ++ c) (drop (i + 1) (row ps)))),
    unmatched_more source b b' (take i (row ps)) c at mid h.1 x.1 (drop (i + 1) (row ps)),
  )
