-- What is written is the most general common row. Assumes nothing.
use Rattle.std.proofs.Common.{◌≡◌, ℕ, ◌≤◌, true, List, [], ◌∷◌, ◌++◌, length, Some, Ok, Err, sym, refl, ap, ap₂, ◌∙◌, subst, subst₂, le_refl}
use Rattle.unification.specs.declared.form.Form.{Form}
use Rattle.unification.specs.declared.form.TooLarge.{TooLarge}
use Rattle.unification.specs.Graph.{Graph, Links, Sols, Made, norm, val, Closed, Sol}
use Rattle.unification.specs.Graph.Sols.{none, more}
use Rattle.unification.specs.Close.{Out, MostGeneral, Solved}
use Rattle.unification.specs.Number.{number, after, Over, RowWritten, Wrote, FormFound}
use Rattle.unification.proofs.GraphLaws.{Laws}
use Rattle.unification.proofs.SolFacts.{sols_unique, sol_node, sol_whole, sol_solves, sol_general}
use Rattle.unification.proofs.SolveFacts.{row_of, row_of_sol}

module _ (G : Graph) (W : Laws G) (p q : ℕ) (L : Links) where
  made_append : (a b : List ℕ) → Made G a → Made G b → Made G (a ++ b)
  made_append [] b h k = k
  made_append (x ∷ a) b h k = (h.0, made_append a b h.1 k)

  sols_made : {ps row : List ℕ} → Sols G L ps row → Made G row
  sols_made none = tt
  sols_made (more {p = i} {a = a} {b = b} s t) = ((norm G L i, refl), made_append a b (sols_made s) (sols_made t))

  -- closed links that give each variable a row give a most general replacement
  pub found : Out G [] L (p ∷ []) (q ∷ []) true → Solved G L → (g : MostGeneral G p q) × Sol G L p (val G g.σ p) × Made G (val G g.σ p)
  found O S = (g, here, sols_made here)
    where
      closed : Closed G L L
      closed = subst (Closed G L) (sym O.grown) (O.closed refl)

      σ : ℕ → List ℕ
      σ = row_of G W L S

      g : MostGeneral G p q
      g = record {
        σ = σ;
        whole = sol_whole G L W closed σ (row_of_sol G W L S);
        solves = sol_solves G L W closed σ (row_of_sol G W L S) p q (O.joined refl).0;
        general = λ τ w h s. sol_general G L W closed σ (row_of_sol G W L S) τ (O.keeps refl τ w tt (h, tt)) s;
      }

      here : Sol G L p (val G σ p)
      here = sol_node G L W closed σ (row_of_sol G W L S) (length (G.term p)) p (le_refl _)

  pub form_some : Out G [] L (p ∷ []) (q ∷ []) true → Solved G L → (old new : Form) → old.cells.items ≡ [] → old.names.items ≡ [] → RowWritten G L (p ∷ []) old new → FormFound G p q (Ok (Some new))
  form_some O S old new c m R =
      let (g, here, made) = found O S in
      let e : R.row ≡ val G g.σ p = sols_unique G L R.sols here in
      let names : new.names.items ≡ after G.is_v [] (val G g.σ p) = R.names ∙ ap₂ (after G.is_v) m e in
      record {
        g = g;
        made = made;
        text = R.text ∙ ap₂ (λ x y. x ++ number G.is_v old.names.items y) c e ∙ ap (λ ms. number G.is_v ms (val G g.σ p)) m;
        within = new.within;
        few = subst (λ x. length x ≤ 64) names new.few;
      }

  pub form_over : (e e' : TooLarge) → Out G [] L (p ∷ []) (q ∷ []) true → Solved G L → (old new : Form) → old.cells.items ≡ [] → old.names.items ≡ [] → Wrote G L (p ∷ []) old new (Err e) → FormFound G p q (Err e')
  form_over e e' O S old new c m R =
      let (g, here, made) = found O S in
      record { g = g; made = made; over = subst₂ (λ x y. Over G.is_v x y (val G g.σ p)) c m (R (val G g.σ p) here) }
