-- From links that are closed and have a row for each variable to the most general replacement. Assumes nothing.
use Rattle.std.proofs.Common.{◌≡◌, ℕ, zero, suc, ◌<◌, Bool, true, false, cond, eqb, ◌≢◌, ◌⊎◌, List, [], ◌∷◌, ◌++◌, length, get_or, sym, refl, ap, ◌∙◌, subst, inl, inr, arith}
use Rattle.std.proofs.lemmas.Bool.{eqb-true, eq-eqb}
use Rattle.unification.specs.Graph.{Graph, Links, follow, find, canon, norm, Joined, Sat, Closed, Sols, Sol}
use Rattle.unification.specs.Graph.Sols.{none, more}
use Rattle.unification.specs.Close.{Place, is_between, Out, Solved, Decided}
use Rattle.unification.proofs.GraphLaws.{Laws}
use Rattle.unification.proofs.LinkFacts.{kids_none, follow_miss}
use Rattle.unification.proofs.FitFacts.{between_parts}
use Rattle.unification.proofs.OutFacts.{true_not}
use Rattle.unification.proofs.SolFacts.{sols_joined, sol_solves, sol_general, sol_whole}

-- a place is where a link begins, or stands for itself
pub linked : (L : Links) (c : ℕ) → ((j : ℕ) × (j < length L) × ((get_or L j (0, 0)).0 ≡ c)) ⊎ (find L c ≡ c)
linked [] c = inr refl
linked (l ∷ L) c = go (linked L c) (eqb l.0 c) refl
  where
    go : ((j : ℕ) × (j < length L) × ((get_or L j (0, 0)).0 ≡ c)) ⊎ (find L c ≡ c) → (b : Bool) → eqb l.0 c ≡ b →
        ((j : ℕ) × (j < length (l ∷ L)) × ((get_or (l ∷ L) j (0, 0)).0 ≡ c)) ⊎ (find L (follow l c) ≡ c)
    go r true e = inl (0, omega arith, eqb-true l.0 c e)
    go (inl w) false e = inl (suc w.0, omega (arith, w.1), w.2)
    go (inr f) false e =
        let ne : l.0 ≢ c = λ s. true_not (eq-eqb l.0 c s) e in
        inr (ap (find L) (follow_miss l c ne) ∙ f)

pub ends_at : (G : Graph) (n : ℕ) (L : Links) (j : ℕ) → is_between G n L ≡ true → j < length L → Place G n (get_or L j (0, 0)).0
ends_at G n [] j h l = let z : ⊥ = omega arith in absurd z
ends_at G n (l ∷ L) zero h k = (between_parts G n l L h).0
ends_at G n (l ∷ L) (suc j) h k = ends_at G n L j (between_parts G n l L h).2 (omega arith)

module _ (G : Graph) (W : Laws G) (L : Links) where
  pub canon_var : (c : ℕ) → G.is_v c ≡ true → canon G c ≡ c
  canon_var c e = ap (λ m. cond (G.is_v m) m c) (W.var_node c e) ∙ ap (λ b. cond b c c) e

  -- a variable has a row if the place that stands for it is a variable
  pub sol_var : (c y : ℕ) → G.is_v c ≡ true → y ≡ find L c → G.is_v (G.cell y) ≡ true → (row : List ℕ) × Sol G L c row
  sol_var c y e f v =
      let n : y ≡ norm G L c = f ∙ ap (find L) (sym (canon_var c e)) in
      let k : Sols G L (G.kids (norm G L c)) [] = subst (λ m. Sols G L (G.kids m) []) n (subst (λ ks. Sols G L ks []) (sym (kids_none G W y v)) none) in
      (G.cell (norm G L c) ∷ ([] ++ []), more {p = c} k none)

  pub sol_down : (again : (a : ℕ) → find L (find L a) ≡ find L a) (c y : ℕ) → G.is_v c ≡ true → y ≡ find L c → G.is_v (G.cell y) ≡ false →
      ((row : List ℕ) × Sols G L (y ∷ []) row) → (row : List ℕ) × Sol G L c row
  sol_down again c y e f v s =
      let a : canon G y ≡ y = ap (λ b. cond b (G.cell y) y) v in
      let j : Joined G L y c = ap (find L) (a ∙ f) ∙ again c ∙ ap (find L) (sym (canon_var c e)) in
      (s.0, sols_joined G L s.1 (c ∷ []) (j, tt))

  pub solved_all : ((j : ℕ) → j < length L → G.is_v (get_or L j (0, 0)).0 ≡ true → (row : List ℕ) × Sol G L (get_or L j (0, 0)).0 row) → Solved G L
  solved_all h c e = go (linked L c)
    where
      go : ((j : ℕ) × (j < length L) × ((get_or L j (0, 0)).0 ≡ c)) ⊎ (find L c ≡ c) → (row : List ℕ) × Sol G L c row
      go (inl w) = subst (λ m. (row : List ℕ) × Sol G L m row) w.2 (h w.0 w.1 (ap G.is_v w.2 ∙ e))
      go (inr f) = sol_var c c e (sym f) (ap G.is_v (W.var_node c e) ∙ e)

  module _ (S : Solved G L) where
    pick : (c : ℕ) (b : Bool) → G.is_v c ≡ b → List ℕ
    pick c true e = (S c e).0
    pick c false e = []

    pub row_of : ℕ → List ℕ
    row_of c = pick c (G.is_v c) refl

    pub row_of_sol : (c : ℕ) → G.is_v c ≡ true → Sol G L c (row_of c)
    unfolding row_of pick
    row_of_sol c e = go (G.is_v c) refl e
      where
        go : (b : Bool) (f : G.is_v c ≡ b) → b ≡ true → Sol G L c (pick c b f)
        go true f g = (S c f).1
        go false f g = true_not g refl

-- the whole decision: closed from nothing, and with a row for each variable, or with none
module _ (G : Graph) (W : Laws G) (p q : ℕ) (L : Links) where
  pub decide_never : Out G [] L (p ∷ []) (q ∷ []) true → ((σ : ℕ → List ℕ) → Sat G σ L → ⊥) → Decided G p q false
  decide_never O f = record { yes = λ e. true_not e refl; no = λ e σ w h. f σ (O.keeps refl σ w tt (h, tt)) }

  pub decide_yes : Out G [] L (p ∷ []) (q ∷ []) true → Solved G L → Decided G p q true
  decide_yes O S = record {
    yes = λ e. record {
      σ = row_of G W L S;
      whole = sol_whole G L W closed (row_of G W L S) (row_of_sol G W L S);
      solves = sol_solves G L W closed (row_of G W L S) (row_of_sol G W L S) p q (O.joined refl).0;
      general = λ τ w h s. sol_general G L W closed (row_of G W L S) (row_of_sol G W L S) τ (O.keeps refl τ w tt (h, tt)) s;
    };
    no = λ e. true_not refl e;
  }
    where
      closed : Closed G L L
      closed = subst (Closed G L) (sym O.grown) (O.closed refl)

  pub decide : Out G [] L (p ∷ []) (q ∷ []) true → (r : Bool) → (r ≡ true → Solved G L) → (r ≡ false → (σ : ℕ → List ℕ) → Sat G σ L → ⊥) → Decided G p q r
  decide O true y f = decide_yes O (y refl)
  decide O false y f = decide_never O (f refl)
