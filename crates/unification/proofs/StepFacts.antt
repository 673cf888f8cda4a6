-- What one step of the closing does to the replacements: arguments taken apart, two symbols that differ, and a place inside itself. Assumes nothing.
use Rattle.std.proofs.Common.{◌≡◌, ℕ, suc, ◌<◌, ◌≤◌, false, cond, List, [], ◌∷◌, ◌++◌, length, sym, refl, ap, ap₂, ◌∙◌, inl, inr, arith, length-append}
use Rattle.unification.specs.Rows.{Wholes, image, put, WholeAt}
use Rattle.unification.specs.Graph.{Graph, In, Links, Pairs, norm, val, SameVal, Sat}
use Rattle.unification.proofs.GraphLaws.{Laws, flat}
use Rattle.unification.proofs.RowFacts.{cons_head, cons_tail, wholes_unique, put_append, put_wholes}
use Rattle.unification.proofs.LinkFacts.{norm_val}

pub flat_split : (need : ℕ → ℕ) (f : ℕ → List ℕ) → ((p : ℕ) → Wholes need 1 (f p)) → (ps qs : List ℕ) → length ps ≡ length qs →
    flat f ps ≡ flat f qs → Pairs (λ p q. f p ≡ f q) ps qs
flat_split need f w [] [] l h = tt
flat_split need f w [] (q ∷ qs) l h = let z : ⊥ = omega arith in absurd z
flat_split need f w (p ∷ ps) [] l h = let z : ⊥ = omega arith in absurd z
flat_split need f w (p ∷ ps) (q ∷ qs) l h =
    let r = wholes_unique need (f p) (f q) (flat f ps) (flat f qs) 1 (w p) (w q) h in
    let l' : length ps ≡ length qs = omega arith in
    (r.0, flat_split need f w ps qs l' r.1)

pub flat_pairs : (f : ℕ → List ℕ) (ps qs : List ℕ) → Pairs (λ p q. f p ≡ f q) ps qs → flat f ps ≡ flat f qs
flat_pairs f [] [] h = refl
flat_pairs f [] (q ∷ qs) h = absurd h
flat_pairs f (p ∷ ps) [] h = absurd h
flat_pairs f (p ∷ ps) (q ∷ qs) h = ap₂ (λ a b. a ++ b) h.0 (flat_pairs f ps qs h.1)

pub in_flat : (f : ℕ → List ℕ) (q : ℕ) (ps : List ℕ) → In q ps → length (f q) ≤ length (flat f ps)
in_flat f q [] h = absurd h
in_flat f q (p ∷ ps) (inl e) = omega (arith, ap (λ n. length (f n)) e, length-append (f p) (flat f ps))
in_flat f q (p ∷ ps) (inr h) = omega (arith, in_flat f q ps h, length-append (f p) (flat f ps))

module _ (G : Graph) (W : Laws G) where
  pub put_flat : (σ : ℕ → List ℕ) (ps : List ℕ) → put G.is_v σ (flat G.term ps) ≡ flat (val G σ) ps
  put_flat σ [] = refl
  put_flat σ (p ∷ ps) = put_append G.need G.is_v σ (G.term p) (flat G.term ps) ∙ ap (λ r. val G σ p ++ r) (put_flat σ ps)

  pub val_is : (σ : ℕ → List ℕ) (p : ℕ) → val G σ p ≡ image G.is_v σ (G.cell p) ++ flat (val G σ) (G.kids p)
  val_is σ p = ap (put G.is_v σ) (W.term_is p) ∙ ap (λ r. image G.is_v σ (G.cell p) ++ r) (put_flat σ (G.kids p))

  pub val_sym : (σ : ℕ → List ℕ) (p : ℕ) → G.is_v (G.cell p) ≡ false → val G σ p ≡ G.cell p ∷ flat (val G σ) (G.kids p)
  val_sym σ p s = val_is σ p ∙ ap (λ b. cond b (σ (G.cell p)) (G.cell p ∷ []) ++ flat (val G σ) (G.kids p)) s

  pub val_whole : (σ : ℕ → List ℕ) → WholeAt G.is_v G.need σ → (p : ℕ) → Wholes G.need 1 (val G σ p)
  val_whole σ w p = put_wholes G.need G.is_v W.leafy σ w (G.term p) 1 (W.whole p)

  -- two symbols: equal rows are the same symbol with equal arguments; so symbols that differ never become one
  pub split_cell : (σ : ℕ → List ℕ) (a b : ℕ) → G.is_v (G.cell a) ≡ false → G.is_v (G.cell b) ≡ false → SameVal G σ a b → G.cell a ≡ G.cell b
  split_cell σ a b s t e = cons_head (sym (val_sym σ a s) ∙ e ∙ val_sym σ b t)

  pub split_kids : (σ : ℕ → List ℕ) → WholeAt G.is_v G.need σ → (a b : ℕ) → G.is_v (G.cell a) ≡ false → G.is_v (G.cell b) ≡ false →
      SameVal G σ a b → Pairs (SameVal G σ) (G.kids a) (G.kids b)
  split_kids σ w a b s t e =
      let c = split_cell σ a b s t e in
      let n : length (G.kids a) ≡ length (G.kids b) = W.many a ∙ ap G.need c ∙ sym (W.many b) in
      flat_split G.need (val G σ) (val_whole σ w) (G.kids a) (G.kids b) n (cons_tail (sym (val_sym σ a s) ∙ e ∙ val_sym σ b t))

  -- equal cells with equal arguments are equal rows
  pub build : (σ : ℕ → List ℕ) (a b : ℕ) → G.cell a ≡ G.cell b → Pairs (SameVal G σ) (G.kids a) (G.kids b) → SameVal G σ a b
  build σ a b c h = val_is σ a ∙ ap₂ (λ x r. image G.is_v σ x ++ r) c (flat_pairs (val G σ) (G.kids a) (G.kids b) h) ∙ sym (val_is σ b)

  -- a place strictly inside another is strictly shorter, whatever is put for the variables
  pub inside : (σ : ℕ → List ℕ) (L : Links) (p q : ℕ) → Sat G σ L → G.is_v (G.cell (norm G L p)) ≡ false → In q (G.kids (norm G L p)) →
      length (val G σ q) < length (val G σ p)
  inside σ L p q h s i =
      let e : length (val G σ p) ≡ suc (length (flat (val G σ) (G.kids (norm G L p)))) =
      ap length (norm_val G W σ L p h ∙ val_sym σ (norm G L p) s) in
      let k = in_flat (val G σ) q (G.kids (norm G L p)) i in
      omega arith
