-- The ways through one equation of the closing, each with the equations behind it. Assumes nothing.
use Rattle.std.proofs.Common.{◌≡◌, ℕ, Bool, true, false, ◌≢◌, ◌⊎◌, List, [], ◌∷◌, ◌++◌, sym, refl, ap, ◌∙◌, subst, inl, inr, true≢false, append_assoc, append-nil}
use Rattle.unification.specs.Graph.{Graph, Links, follow, find, Pairs, canon, norm, Joined, val, SameVal, Sat, ClosedAt, Closed}
use Rattle.unification.specs.Close.{WholeFor, Out}
use Rattle.unification.proofs.GraphLaws.{Laws}
use Rattle.unification.proofs.LinkFacts.{find_append, follow_cases, joined_append, closed_append, closed_join, sat_append, norm_val, pairs_map}
use Rattle.unification.proofs.StepFacts.{split_cell, split_kids}
use Rattle.unification.proofs.FitFacts.{follow_same}

pub true_not : {b : Bool} {X : Type 0} → b ≡ true → b ≡ false → X
true_not e f = absurd (true≢false (sym e ∙ f))

module _ (G : Graph) (W : Laws G) where
  pub out_none : (L : Links) → Out G L L [] [] true
  out_none L = record {
    new = [];
    grown = sym (append-nil L);
    closed = λ e. tt;
    joined = λ e. tt;
    keeps = λ e σ w h g. h;
    refutes = λ e. absurd (true≢false e);
  }

  -- the two places are joined already
  pub out_same : (L M : Links) (i j : ℕ) (ps qs : List ℕ) (r : Bool) → Joined G L i j → Out G L M ps qs r → Out G L M (i ∷ ps) (j ∷ qs) r
  out_same L M i j ps qs r e O = record {
    new = O.new;
    grown = O.grown;
    closed = O.closed;
    joined = λ t. (subst (λ X. Joined G X i j) (sym O.grown) (joined_append G L O.new i j e), O.joined t);
    keeps = λ t σ w h g. O.keeps t σ w h g.1;
    refutes = λ t σ w h g. O.refutes t σ w h g.1;
  }

  module _ (L : Links) (i j x y : ℕ) (ix : norm G L i ≡ x) (jy : norm G L j ≡ y) (rx : find L x ≡ x) (ry : find L y ≡ y) where
    abbrev K : Links
    K = L ++ ((x, y) ∷ [])

    -- what satisfies L makes of i and j what it makes of x and y
    sat_more : (σ : ℕ → List ℕ) → Sat G σ L → SameVal G σ i j → Sat G σ K
    sat_more σ h e =
        let v : SameVal G σ x y = ap (val G σ) (sym ix) ∙ sym (norm_val G W σ L i h) ∙ e ∙ norm_val G W σ L j h ∙ ap (val G σ) jy in
        sat_append G σ L ((x, y) ∷ []) h (v, tt)

    now_joined : Joined G K i j
    now_joined =
        let a : norm G K i ≡ y = find_append L ((x, y) ∷ []) (canon G i) ∙ ap (follow (x, y)) ix ∙ follow_same x y in
        let b : follow (x, y) y ≡ y = other (follow_cases (x, y) y) in
        let c : norm G K j ≡ y = find_append L ((x, y) ∷ []) (canon G j) ∙ ap (follow (x, y)) jy ∙ b in
        a ∙ sym c
      where
        other : ((y ≡ x) × (follow (x, y) y ≡ y)) ⊎ (follow (x, y) y ≡ y) → follow (x, y) y ≡ y
        other (inl u) = u.1
        other (inr u) = u

    regroup : (N : Links) → K ++ N ≡ L ++ ((x, y) ∷ N)
    regroup N = append_assoc L ((x, y) ∷ []) N

    -- a link that the rest keeps, and whose arguments need nothing, or are joined in the end
    pub out_link : (M : Links) (ps qs : List ℕ) (r : Bool) → (r ≡ true → ClosedAt G M x y) → Out G K M ps qs r → Out G L M (i ∷ ps) (j ∷ qs) r
    out_link M ps qs r c O = record {
      new = (x, y) ∷ O.new;
      grown = O.grown ∙ regroup O.new;
      closed = λ t. (c t, O.closed t);
      joined = λ t. (subst (λ X. Joined G X i j) (sym O.grown) (joined_append G K O.new i j now_joined), O.joined t);
      keeps = λ t σ w h g. O.keeps t σ w (sat_more σ h g.0) g.1;
      refutes = λ t σ w h g. O.refutes t σ w (sat_more σ h g.0) g.1;
    }

    -- a variable
    pub out_bind : (M : Links) (ps qs : List ℕ) (r : Bool) → G.is_v (G.cell x) ≡ true → Out G K M ps qs r → Out G L M (i ∷ ps) (j ∷ qs) r
    out_bind M ps qs r v O = out_link M ps qs r (λ t s. true_not v s) O

    module _ (sx : G.is_v (G.cell x) ≡ false) (sy : G.is_v (G.cell y) ≡ false) where
      same_xy : (σ : ℕ → List ℕ) → Sat G σ L → SameVal G σ i j → SameVal G σ x y
      same_xy σ h e = ap (val G σ) (sym ix) ∙ sym (norm_val G W σ L i h) ∙ e ∙ norm_val G W σ L j h ∙ ap (val G σ) jy

      -- two symbols that differ
      pub out_clash : (ps qs : List ℕ) → G.cell x ≢ G.cell y → Out G L L (i ∷ ps) (j ∷ qs) false
      out_clash ps qs ne = record {
        new = [];
        grown = sym (append-nil L);
        closed = λ e. true_not e refl;
        joined = λ e. true_not e refl;
        keeps = λ e. true_not e refl;
        refutes = λ t σ w h g. ne (split_cell G W σ x y sx sy (same_xy σ h g.0));
      }

      -- one symbol, whose arguments do not become one
      pub out_down_no : (M : Links) (ps qs : List ℕ) → Out G K M (G.kids x) (G.kids y) false → Out G L M (i ∷ ps) (j ∷ qs) false
      out_down_no M ps qs O = record {
        new = (x, y) ∷ O.new;
        grown = O.grown ∙ regroup O.new;
        closed = λ e. true_not e refl;
        joined = λ e. true_not e refl;
        keeps = λ e. true_not e refl;
        refutes = λ t σ w h g. O.refutes refl σ w (sat_more σ h g.0) (split_kids G W σ w x y sx sy (same_xy σ h g.0));
      }

      -- one symbol, whose arguments become one
      pub out_down : (M N : Links) (ps qs : List ℕ) (r : Bool) → G.cell x ≡ G.cell y → Out G K M (G.kids x) (G.kids y) true → Out G M N ps qs r →
          Out G L N (i ∷ ps) (j ∷ qs) r
      out_down M N ps qs r c O P = record {
        new = (x, y) ∷ (O.new ++ P.new);
        grown = all;
        closed = λ t. (
          (λ s. (c, subst (λ X. Pairs (Joined G X) (G.kids x) (G.kids y)) (sym P.grown) (pairs_map (G.kids x) (G.kids y) (λ p q e. joined_append G M P.new p q e) (O.joined refl)))),
          closed_join G N O.new P.new (subst (λ X. Closed G X O.new) (sym P.grown) (closed_append G M O.new P.new (O.closed refl))) (P.closed t),
        );
        joined = λ t. (subst (λ X. Joined G X i j) (sym (all ∙ sym (regroup (O.new ++ P.new)))) (joined_append G K (O.new ++ P.new) i j now_joined), P.joined t);
        keeps = λ t σ w h g. P.keeps t σ w (mid σ w h g.0) g.1;
        refutes = λ t σ w h g. P.refutes t σ w (mid σ w h g.0) g.1;
      }
        where
          all : N ≡ L ++ ((x, y) ∷ (O.new ++ P.new))
          all = P.grown ∙ ap (λ X. X ++ P.new) O.grown ∙ append_assoc K O.new P.new ∙ regroup (O.new ++ P.new)

          mid : (σ : ℕ → List ℕ) → WholeFor G σ → Sat G σ L → SameVal G σ i j → Sat G σ M
          mid σ w h e = O.keeps refl σ w (sat_more σ h e) (split_kids G W σ w x y sx sy (same_xy σ h e))

  -- the same with the two sides exchanged
  pub pairs_sym : {R : ℕ → ℕ → Type 0} → ((p q : ℕ) → R p q → R q p) → (ps qs : List ℕ) → Pairs R ps qs → Pairs R qs ps
  pairs_sym f [] [] h = tt
  pairs_sym f [] (q ∷ qs) h = h
  pairs_sym f (p ∷ ps) [] h = h
  pairs_sym f (p ∷ ps) (q ∷ qs) h = (f p q h.0, pairs_sym f ps qs h.1)

  pub out_sym : (L M : Links) (ps qs : List ℕ) (r : Bool) → Out G L M ps qs r → Out G L M qs ps r
  out_sym L M ps qs r O = record {
    new = O.new;
    grown = O.grown;
    closed = O.closed;
    joined = λ t. pairs_sym (λ p q e. sym e) ps qs (O.joined t);
    keeps = λ t σ w h g. O.keeps t σ w h (pairs_sym (λ p q e. sym e) qs ps g);
    refutes = λ t σ w h g. O.refutes t σ w h (pairs_sym (λ p q e. sym e) qs ps g);
  }
