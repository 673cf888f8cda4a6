-- A list with bindings added behind, and what is looked up in it. Assumes nothing.
use Rattle.std.proofs.Common.{◌≡◌, ℕ, ◌+◌, ◌-◌, ◌≤◌, ◌↔◌, eqb, cond, List, [], ◌∷◌, ◌++◌, length, take, Some, None, sym, refl, ap, ◌∙◌, append_assoc, append-nil, arith, length-append}
use Rattle.std.specs.Option.{is_some}
use Rattle.std.proofs.lemmas.Grind.{common_steps}
use Rattle.std.proofs.lemmas.List.{take_at}
use Rattle.cells.specs.Cells.{Cell}
use Rattle.cells.specs.Rows.{Whole}
use Rattle.substitution.specs.declared.bindings.Part.{Part}
use Rattle.substitution.specs.declared.bindings.Binding.{Binding}
use Rattle.substitution.specs.Bindings.{binding, lookup}
use Rattle.matching.specs.Extending.{part, Agrees, AllWhole}
use Rattle.matching.specs.Fronts.{Longer}

pub longer_none : (b : List Binding) (n : ℕ) → Longer b n b
longer_none b n = record { more = []; few = omega arith; is = sym (append-nil b) }

pub longer_one : (b : List Binding) (x : Binding) → Longer b 1 (b ++ x ∷ [])
longer_one b x = record { more = x ∷ []; few = omega arith; is = refl }

pub longer_more : (b b' b'' : List Binding) (m n k : ℕ) → Longer b m b' → Longer b' n b'' → m + n ≤ k → Longer b k b''
longer_more b b' b'' m n k x y l = record {
  more = x.more ++ y.more;
  few = simp length-append (omega (arith, x.few, y.few));
  is = y.is ∙ ap (λ z. z ++ y.more) x.is ∙ append_assoc b x.more y.more;
}

-- cut back to its old length the list is the old one
pub cut_back : (b b' : List Binding) (n : ℕ) → Longer b n b' → take (length b) b' ≡ b
cut_back b b' n h = ap (take (length b)) h.is ∙ take_at b h.more (length b) refl

-- what is looked up in a list with bindings added behind
lookup_append : (b es : List Binding) (u : ℕ) → lookup (b ++ es) u ≡ cond (is_some (lookup b u)) (lookup b u) (lookup es u)
lookup_append [] es u = refl
lookup_append (x ∷ b) es u = grind (arith, common_steps, lookup_append b es u)

-- and with one more
lookup_push : (b : List Binding) (w : ℕ) (p : Part) (u : ℕ) → lookup (b ++ binding w p ∷ []) u ≡ cond (is_some (lookup b u)) (lookup b u) (cond (eqb w u) (Some p) None)
lookup_push b w p u = lookup_append b (binding w p ∷ []) u

module _ (source : List ℕ) (b : List Binding) (w : ℕ) (p : Part) (none : lookup b w ≡ None) where
  pub whole_push : Whole (part source p) → AllWhole source b → AllWhole source (b ++ binding w p ∷ [])
  whole_push h a u p' f = let e = lookup_push b w p u in let x = a u p' in grind (arith, common_steps)

  pub agrees_push : 2147483648 ≤ w → (σ : ℕ → List Cell) → (Agrees source b σ × (σ (w - 2147483648) ≡ part source p)) ↔ Agrees source (b ++ binding w p ∷ []) σ
  agrees_push big σ = (
    (λ h v p' f. let e = lookup_push b w p (2147483648 + v) in let x = h.0 v p' in let y = h.1 in grind (arith, common_steps)),
    (λ h. (
      (λ v p' f. let e = lookup_push b w p (2147483648 + v) in let x = h v p' in grind (arith, common_steps)),
      (let z : 2147483648 + (w - 2147483648) ≡ w = omega arith in let e = lookup_push b w p w in h (w - 2147483648) p (grind (arith, common_steps))),
    )),
  )
