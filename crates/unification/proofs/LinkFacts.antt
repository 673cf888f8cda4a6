-- Links, and what a replacement that satisfies them makes of places. Assumes nothing.
use Rattle.std.proofs.Common.{◌≡◌, ℕ, Bool, true, false, cond, eqb, ◌≢◌, ◌⊎◌, List, [], ◌∷◌, ◌++◌, length, sym, refl, ap, ◌∙◌, subst, inl, inr, arith}
use Rattle.std.proofs.lemmas.Bool.{ne_eqb, eqb-true}
use Rattle.unification.specs.Rows.{put}
use Rattle.unification.specs.Graph.{Graph, Links, follow, find, Pairs, canon, norm, Joined, val, Sat, Closed}
use Rattle.unification.proofs.GraphLaws.{Laws, flat}

pub find_append : (L M : Links) (a : ℕ) → find (L ++ M) a ≡ find M (find L a)
find_append [] M a = refl
find_append (l ∷ L) M a = find_append L M (follow l a)

-- the two ways of a link
pub follow_cases : (l : ℕ × ℕ) (a : ℕ) → ((a ≡ l.0) × (follow l a ≡ l.1)) ⊎ (follow l a ≡ a)
follow_cases l a = go (eqb a l.0) refl
  where
    go : (b : Bool) → eqb a l.0 ≡ b → ((a ≡ l.0) × (cond b l.1 a ≡ l.1)) ⊎ (cond b l.1 a ≡ a)
    go true e = inl (eqb-true a l.0 e, refl)
    go false e = inr refl

pub pairs_map : {R S : ℕ → ℕ → Type 0} (ps qs : List ℕ) → ((p q : ℕ) → R p q → S p q) → Pairs R ps qs → Pairs S ps qs
pairs_map [] [] f h = tt
pairs_map [] (q ∷ qs) f h = h
pairs_map (p ∷ ps) [] f h = h
pairs_map (p ∷ ps) (q ∷ qs) f h = (f p q h.0, pairs_map ps qs f h.1)

module _ (G : Graph) where
  pub joined_append : (L M : Links) (p q : ℕ) → Joined G L p q → Joined G (L ++ M) p q
  joined_append L M p q e = find_append L M (canon G p) ∙ ap (find M) e ∙ sym (find_append L M (canon G q))

  pub joined_trans : (L : Links) (ps qs rs : List ℕ) → Pairs (Joined G L) ps qs → Pairs (Joined G L) qs rs → Pairs (Joined G L) ps rs
  joined_trans L [] [] [] h g = tt
  joined_trans L [] [] (r ∷ rs) h g = g
  joined_trans L [] (q ∷ qs) rs h g = absurd h
  joined_trans L (p ∷ ps) [] rs h g = absurd h
  joined_trans L (p ∷ ps) (q ∷ qs) [] h g = g
  joined_trans L (p ∷ ps) (q ∷ qs) (r ∷ rs) h g = (h.0 ∙ g.0, joined_trans L ps qs rs h.1 g.1)

  pub joined_refl : (L : Links) (ps : List ℕ) → Pairs (Joined G L) ps ps
  joined_refl L [] = tt
  joined_refl L (p ∷ ps) = (refl, joined_refl L ps)

  pub closed_append : (L M N : Links) → Closed G L M → Closed G (L ++ N) M
  closed_append L [] N h = tt
  closed_append L (l ∷ M) N h = (
    (λ e. ((h.0 e).0, pairs_map (G.kids l.0) (G.kids l.1) (λ p q j. joined_append L N p q j) (h.0 e).1)),
    closed_append L M N h.1,
  )

  pub closed_join : (L M N : Links) → Closed G L M → Closed G L N → Closed G L (M ++ N)
  closed_join L [] N h g = g
  closed_join L (l ∷ M) N h g = (h.0, closed_join L M N h.1 g)

  pub sat_append : (σ : ℕ → List ℕ) (L M : Links) → Sat G σ L → Sat G σ M → Sat G σ (L ++ M)
  sat_append σ [] M h g = g
  sat_append σ (l ∷ L) M h g = (h.0, sat_append σ L M h.1 g)

  pub sat_left : (σ : ℕ → List ℕ) (L M : Links) → Sat G σ (L ++ M) → Sat G σ L
  sat_left σ [] M h = tt
  sat_left σ (l ∷ L) M h = (h.0, sat_left σ L M h.1)

  -- a link from a symbol leads on to the same symbol, with joined arguments
  pub closed_find : (K L : Links) (a : ℕ) → Closed G K L → G.is_v (G.cell a) ≡ false → (G.cell a ≡ G.cell (find L a)) × Pairs (Joined G K) (G.kids a) (G.kids (find L a))
  closed_find K [] a h s = (refl, joined_refl K (G.kids a))
  closed_find K (l ∷ L) a h s = go (λ e. closed_find K L (follow l a) h.1 e) (follow_cases l a)
    where
      go : (G.is_v (G.cell (follow l a)) ≡ false → (G.cell (follow l a) ≡ G.cell (find L (follow l a))) × Pairs (Joined G K) (G.kids (follow l a)) (G.kids (find L (follow l a)))) →
          ((a ≡ l.0) × (follow l a ≡ l.1)) ⊎ (follow l a ≡ a) →
          (G.cell a ≡ G.cell (find L (follow l a))) × Pairs (Joined G K) (G.kids a) (G.kids (find L (follow l a)))
      go rec (inl w) =
          let s' : G.is_v (G.cell l.0) ≡ false = ap (λ n. G.is_v (G.cell n)) (sym w.0) ∙ s in
          let k = h.0 s' in
          let c : G.cell a ≡ G.cell (follow l a) = ap G.cell w.0 ∙ k.0 ∙ ap G.cell (sym w.1) in
          let t : G.is_v (G.cell (follow l a)) ≡ false = ap G.is_v (sym c) ∙ s in
          let r = rec t in
          let u : Pairs (Joined G K) (G.kids a) (G.kids l.1) = subst (λ n. Pairs (Joined G K) (G.kids n) (G.kids l.1)) (sym w.0) k.1 in
          let v : Pairs (Joined G K) (G.kids a) (G.kids (follow l a)) = subst (λ n. Pairs (Joined G K) (G.kids a) (G.kids n)) (sym w.1) u in
          (c ∙ r.0, joined_trans K (G.kids a) (G.kids (follow l a)) (G.kids (find L (follow l a))) v r.1)
      go rec (inr e) =
          let t : G.is_v (G.cell (follow l a)) ≡ false = ap (λ n. G.is_v (G.cell n)) e ∙ s in
          let r = rec t in (
            ap G.cell (sym e) ∙ r.0,
            subst (λ n. Pairs (Joined G K) (G.kids n) (G.kids (find L (follow l a)))) e r.1,
          )

  module _ (W : Laws G) where
    pub kids_none : (p : ℕ) → G.is_v (G.cell p) ≡ true → G.kids p ≡ []
    kids_none p e = go (G.kids p) (W.many p ∙ W.leafy (G.cell p) e)
      where
        go : (ks : List ℕ) → length ks ≡ 0 → ks ≡ []
        go [] h = refl
        go (k ∷ ks) h = let z : ⊥ = omega arith in absurd z

    pub term_var : (p : ℕ) → G.is_v (G.cell p) ≡ true → G.term p ≡ G.cell p ∷ []
    term_var p e = W.term_is p ∙ ap (λ ks. G.cell p ∷ flat G.term ks) (kids_none p e)

    pub term_canon : (p : ℕ) → G.term p ≡ G.term (canon G p)
    term_canon p = go (G.is_v (G.cell p)) refl
      where
        go : (b : Bool) → G.is_v (G.cell p) ≡ b → G.term p ≡ G.term (cond b (G.cell p) p)
        go true e =
            let n : G.cell (G.cell p) ≡ G.cell p = W.var_node (G.cell p) e in
            let e' : G.is_v (G.cell (G.cell p)) ≡ true = ap G.is_v n ∙ e in
            term_var p e ∙ ap (λ c. c ∷ []) (sym n) ∙ sym (term_var (G.cell p) e')
        go false e = refl

    pub find_val : (σ : ℕ → List ℕ) (L : Links) (a : ℕ) → Sat G σ L → val G σ a ≡ val G σ (find L a)
    find_val σ [] a h = refl
    find_val σ (l ∷ L) a h = go (find_val σ L (follow l a) h.1) (follow_cases l a)
      where
        go : val G σ (follow l a) ≡ val G σ (find L (follow l a)) → ((a ≡ l.0) × (follow l a ≡ l.1)) ⊎ (follow l a ≡ a) → val G σ a ≡ val G σ (find L (follow l a))
        go rest (inl w) = ap (val G σ) w.0 ∙ h.0 ∙ ap (val G σ) (sym w.1) ∙ rest
        go rest (inr e) = ap (val G σ) (sym e) ∙ rest

    pub norm_val : (σ : ℕ → List ℕ) (L : Links) (p : ℕ) → Sat G σ L → val G σ p ≡ val G σ (norm G L p)
    norm_val σ L p h = ap (put G.is_v σ) (term_canon p) ∙ find_val σ L (canon G p) h

pub follow_miss : (l : ℕ × ℕ) (a : ℕ) → l.0 ≢ a → follow l a ≡ a
follow_miss l a ne = ap (λ b. cond b l.1 a) (ne_eqb a l.0 (λ e. ne (sym e)))
