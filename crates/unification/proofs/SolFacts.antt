-- The rows that closed links give: one for each place, made of the variables that are left, a most general solution. Assumes nothing.
use Rattle.std.proofs.Common.{◌≡◌, ℕ, zero, suc, pred, ◌+◌, ◌<◌, ◌≤◌, Bool, true, false, cond, List, [], ◌∷◌, ◌++◌, length, sym, refl, ap, ◌∙◌, subst, ap₂, append_assoc, append-nil, le_refl, arith, length-append}
use Rattle.unification.specs.Rows.{Wholes, image, put, WholeAt}
use Rattle.unification.specs.Graph.{Graph, Links, find, Pairs, canon, norm, Joined, val, SameVal, Sat, Closed, Sols, Sol}
use Rattle.unification.specs.Graph.Sols.{none, more}
use Rattle.unification.proofs.GraphLaws.{Laws, flat}
use Rattle.unification.proofs.RowFacts.{wholes_append, put_append}
use Rattle.unification.proofs.LinkFacts.{norm_val, closed_find, term_var}
use Rattle.unification.proofs.StepFacts.{val_is, val_sym}

module _ (G : Graph) (L : Links) where
  pub sols_unique : {ps a b : List ℕ} → Sols G L ps a → Sols G L ps b → a ≡ b
  sols_unique none none = refl
  sols_unique (more {p = p} s t) (more u v) = ap₂ {C = List ℕ} (λ x y. G.cell (norm G L p) ∷ (x ++ y)) (sols_unique s u) (sols_unique t v)

  pub sols_joined : {ps a : List ℕ} → Sols G L ps a → (qs : List ℕ) → Pairs (Joined G L) ps qs → Sols G L qs a
  sols_joined none [] h = none
  sols_joined none (q ∷ qs) h = absurd h
  sols_joined (more s t) [] h = absurd h
  sols_joined (more {p = p} {a = a} {b = b} s t) (q ∷ qs) h =
      let r : Sols G L (G.kids (norm G L q)) a = subst (λ n. Sols G L (G.kids n) a) h.0 s in
      subst (λ n. Sols G L (q ∷ qs) (G.cell n ∷ (a ++ b))) (sym h.0) (more r (sols_joined t qs h.1))

  pub sols_append : {ps qs a b : List ℕ} → Sols G L ps a → Sols G L qs b → Sols G L (ps ++ qs) (a ++ b)
  sols_append none u = u
  sols_append {qs = qs} {b = d} (more {p = p} {ps = ps} {a = a} {b = b} s t) u =
      subst (λ r. Sols G L (p ∷ (ps ++ qs)) (G.cell (norm G L p) ∷ r)) (sym (append_assoc a b d)) (more s (sols_append t u))

  module _ (W : Laws G) where
    pub sols_whole : {ps a : List ℕ} → Sols G L ps a → Wholes G.need (length ps) a
    sols_whole none = refl
    sols_whole (more {p = p} {ps = ps} {a = a} {b = b} s t) =
        let w = wholes_append G.need a b (length (G.kids (norm G L p))) (length ps) (sols_whole s) (sols_whole t) in
        let e : length (G.kids (norm G L p)) + length ps ≡ pred (suc (length ps)) + G.need (G.cell (norm G L p)) = omega (arith, W.many (norm G L p)) in
        let z : 0 < suc (length ps) = omega arith in
        (z, subst (λ n. Wholes G.need n (a ++ b)) e w)

    -- every replacement that satisfies the links is an instance of the rows that the links give
    pub sols_general : (τ : ℕ → List ℕ) → Sat G τ L → {ps a : List ℕ} → Sols G L ps a → put G.is_v τ a ≡ flat (val G τ) ps
    sols_general τ h none = refl
    sols_general τ h (more {p = p} {ps = ps} {a = a} {b = b} s t) =
        let r = norm G L p in
        let x = sols_general τ h s in
        let y = sols_general τ h t in
        ap (λ z. image G.is_v τ (G.cell r) ++ z) (put_append G.need G.is_v τ a b ∙ ap₂ (λ m n. m ++ n) x y)
        ∙ sym (append_assoc (image G.is_v τ (G.cell r)) (flat (val G τ) (G.kids r)) (flat (val G τ) ps))
        ∙ ap (λ z. z ++ flat (val G τ) ps) (sym (val_is G W τ r) ∙ sym (norm_val G W τ L p h))

    -- the replacement that gives each variable its row gives each place its row
    module _ (closed : Closed G L L) (σ : ℕ → List ℕ) (given : (c : ℕ) → G.is_v c ≡ true → Sol G L c (σ c)) where
      pub sol_list : (n : ℕ) → ((q : ℕ) → length (G.term q) ≤ n → Sol G L q (val G σ q)) → (ps : List ℕ) → length (flat G.term ps) ≤ n →
          Sols G L ps (flat (val G σ) ps)
      sol_list n f [] h = none
      sol_list n f (q ∷ qs) h =
          let e = length-append (G.term q) (flat G.term qs) in
          let a : length (G.term q) ≤ n = omega arith in
          let b : length (flat G.term qs) ≤ n = omega arith in
          sols_append (f q a) (sol_list n f qs b)

      pub sol_node : (n : ℕ) (p : ℕ) → length (G.term p) ≤ n → Sol G L p (val G σ p)
      sol_node zero p h = let e = ap length (W.term_is p) in let z : ⊥ = omega arith in absurd z
      sol_node (suc n) p h = go (λ q k. sol_node n q k) (G.is_v (G.cell p)) refl
        where
          go : ((q : ℕ) → length (G.term q) ≤ n → Sol G L q (val G σ q)) → (b : Bool) → G.is_v (G.cell p) ≡ b → Sol G L p (val G σ p)
          go f true e =
              let c = G.cell p in
              let n : G.cell c ≡ c = W.var_node c e in
              let x : canon G p ≡ c = ap (λ b. cond b c p) e in
              let y : canon G c ≡ c = ap (λ m. cond (G.is_v m) m c) n ∙ ap (λ b. cond b c c) e in
              let j : Joined G L c p = ap (find L) (y ∙ sym x) in
              let v : σ c ≡ val G σ p = sym (ap (put G.is_v σ) (term_var G W p e) ∙ ap (λ b. cond b (σ c) (c ∷ []) ++ []) e ∙ append-nil (σ c)) in
              subst (Sol G L p) v (sols_joined (given c e) (p ∷ []) (j, tt))
          go f false e =
              let k = closed_find G L L p closed e in
              let x : find L p ≡ norm G L p = ap (find L) (sym (ap (λ b. cond b (G.cell p) p) e)) in
              let len = ap length (W.term_is p) in
              let le : length (flat G.term (G.kids p)) ≤ n = omega arith in
              let F = flat (val G σ) (G.kids p) in
              let ks : Sols G L (G.kids p) F = sol_list n f (G.kids p) le in
              let kr : Sols G L (G.kids (find L p)) F = sols_joined ks (G.kids (find L p)) k.1 in
              let kn : Sols G L (G.kids (norm G L p)) F = subst (λ m. Sols G L (G.kids m) F) x kr in
              let v : ◌≡◌ {A = List ℕ} (G.cell (norm G L p) ∷ (F ++ [])) (val G σ p) =
              ap₂ {C = List ℕ} (λ m r. m ∷ r) (ap G.cell (sym x) ∙ sym k.0) (append-nil F) ∙ sym (val_sym G W σ p e) in
              subst (Sol G L p) v (more {p = p} kn none)

      -- so it makes one row of all that is joined
      pub sol_solves : (p q : ℕ) → Joined G L p q → SameVal G σ p q
      sol_solves p q j =
          sols_unique (sols_joined (sol_node (length (G.term p)) p (le_refl _)) (q ∷ []) (j, tt)) (sol_node (length (G.term q)) q (le_refl _))

      -- and every replacement that satisfies the links comes from it: what it makes of a place is an instance of what this makes of the place
      pub sol_general : (τ : ℕ → List ℕ) → Sat G τ L → (p : ℕ) → put G.is_v τ (val G σ p) ≡ val G τ p
      sol_general τ h p = sols_general τ h (sol_node (length (G.term p)) p (le_refl _)) ∙ append-nil (val G τ p)

      pub sol_whole : WholeAt G.is_v G.need σ
      sol_whole c e = sols_whole (given c e)
