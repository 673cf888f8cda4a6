-- A new link between two places that stand for themselves leaves the list in order, with room. Assumes nothing.
use Rattle.std.proofs.Common.{◌≡◌, ℕ, zero, suc, ◌+◌, ◌<◌, ◌≤◌, Bool, true, false, cond, ◌&&◌, eqb, ◌≢◌, ◌⊎◌, [], ◌∷◌, ◌++◌, length, sym, refl, ap, ◌∙◌, subst, ap₂, inl, inr, ⊎_elim, true≢false, le_refl, add-one, arith, length-append}
use Rattle.std.proofs.lemmas.Bool.{false≢true, eqb-true, eq-eqb, cases_eq, and_parts, and_from, or_cases, or_left, or_right}
use Rattle.unification.specs.Graph.{Graph, Links, follow, find, canon, norm}
use Rattle.unification.specs.Close.{roots, is_place, Place, is_between, Fit}
use Rattle.unification.proofs.GraphLaws.{Laws}
use Rattle.unification.proofs.LinkFacts.{find_append, follow_cases}

pub follow_same : (x y : ℕ) → follow (x, y) x ≡ y
follow_same x y = ap (λ b. cond b y x) (eq-eqb x x refl)

module _ (G : Graph) (L : Links) (x y : ℕ) (ne : x ≢ y) (again : (a : ℕ) → find L (find L a) ≡ find L a) (rx : find L x ≡ x) (ry : find L y ≡ y) where
  abbrev M : Links
  M = L ++ ((x, y) ∷ [])

  find_more : (a : ℕ) → find M a ≡ follow (x, y) (find L a)
  find_more a = find_append L ((x, y) ∷ []) a

  pub again_more : (a : ℕ) → find M (find M a) ≡ find M a
  again_more a = go (follow_cases (x, y) (find L a))
    where
      go : ((find L a ≡ x) × (follow (x, y) (find L a) ≡ y)) ⊎ (follow (x, y) (find L a) ≡ find L a) → find M (find M a) ≡ find M a
      go (inl w) =
          let e : find M a ≡ y = find_more a ∙ w.1 in
          let f : find M y ≡ y = find_more y ∙ ap (follow (x, y)) ry ∙ other (follow_cases (x, y) y) in
          ap (find M) e ∙ f ∙ sym e
        where
          other : ((y ≡ x) × (follow (x, y) y ≡ y)) ⊎ (follow (x, y) y ≡ y) → follow (x, y) y ≡ y
          other (inl u) = u.1
          other (inr u) = u
      go (inr u) =
          let e : find M a ≡ find L a = find_more a ∙ u in
          ap (find M) e ∙ find_more (find L a) ∙ ap (follow (x, y)) (again a) ∙ u ∙ sym e

  -- a place that still stands for itself did so before, and x does no more
  pub root_was : (a : ℕ) → find M a ≡ a → find L a ≡ a
  root_was a h = go (follow_cases (x, y) (find L a))
    where
      go : ((find L a ≡ x) × (follow (x, y) (find L a) ≡ y)) ⊎ (follow (x, y) (find L a) ≡ find L a) → find L a ≡ a
      go (inl w) =
          let e : a ≡ y = sym h ∙ find_more a ∙ w.1 in
          let z : x ≡ y = sym w.0 ∙ ap (find L) e ∙ ry in
          absurd (ne z)
      go (inr u) = sym u ∙ sym (find_more a) ∙ h

  pub root_gone : find M x ≡ y
  root_gone = find_more x ∙ ap (follow (x, y)) rx ∙ follow_same x y

  bit_le : (a : ℕ) → cond (eqb (find M a) a) 1 0 ≤ cond (eqb (find L a) a) 1 0
  bit_le a = go (eqb (find M a) a) refl
    where
      go : (b : Bool) → eqb (find M a) a ≡ b → cond b 1 0 ≤ cond (eqb (find L a) a) 1 0
      go true e =
          let h : find M a ≡ a = eqb-true (find M a) a e in
          let k : eqb (find L a) a ≡ true = eq-eqb (find L a) a (root_was a h) in
          subst (λ b. 1 ≤ cond b 1 0) (sym k) (le_refl 1)
      go false e = omega arith

  bit_x : (a : ℕ) → a ≡ x → cond (eqb (find M a) a) 1 0 + 1 ≤ cond (eqb (find L a) a) 1 0
  bit_x a e = go (eqb (find M a) a) refl
    where
      k : eqb (find L a) a ≡ true
      k = eq-eqb (find L a) a (ap (find L) e ∙ rx ∙ sym e)

      go : (b : Bool) → eqb (find M a) a ≡ b → cond b 1 0 + 1 ≤ cond (eqb (find L a) a) 1 0
      go true f =
          let h : find M a ≡ a = eqb-true (find M a) a f in
          let z : x ≡ y = sym e ∙ sym h ∙ ap (find M) e ∙ root_gone in
          absurd (ne z)
      go false f = subst (λ b. 0 + 1 ≤ cond b 1 0) (sym k) (le_refl 1)

  pub roots_le : (n : ℕ) → roots G M n ≤ roots G L n
  roots_le zero = le_refl 0
  roots_le (suc n) = let i = roots_le n in let b = bit_le (canon G n) in omega arith

  pub roots_fall : (n p : ℕ) → p < n → canon G p ≡ x → roots G M n + 1 ≤ roots G L n
  roots_fall zero p h e = let z : ⊥ = omega arith in absurd z
  roots_fall (suc n) p h e = go (λ k. roots_fall n p k e) (eqb p n) refl
    where
      go : (p < n → roots G M n + 1 ≤ roots G L n) → (b : Bool) → eqb p n ≡ b → roots G M (suc n) + 1 ≤ roots G L (suc n)
      go rec true f =
          let s : p ≡ n = eqb-true p n f in
          let i = roots_le n in
          let b = bit_x (canon G n) (ap (canon G) (sym s) ∙ e) in
          omega arith
      go rec false f =
          let ns : p ≢ n = λ s. true≢false (sym (eq-eqb p n s) ∙ f) in
          let k : p < n = omega arith in
          let i = rec k in
          let b = bit_le (canon G n) in
          omega arith

pub place_from : (G : Graph) (n at a : ℕ) → at < n → canon G at ≡ a → Place G n a
place_from G zero at a h e = let z : ⊥ = omega arith in absurd z
place_from G (suc n) at a h e =
    ⊎_elim
    (λ s. or_left (eqb (canon G n) a) (is_place G n a) (eq-eqb (canon G n) a (ap (canon G) (sym s) ∙ e)))
    (λ ne. or_right (eqb (canon G n) a) (is_place G n a) (place_from G n at a (omega arith) e))
    (cases_eq at n)

pub place_at : (G : Graph) (n a : ℕ) → Place G n a → (at : ℕ) × (at < n) × (canon G at ≡ a)
place_at G zero a P = absurd (false≢true P)
place_at G (suc n) a P =
    ⊎_elim
    (λ e. (n, omega arith, eqb-true (canon G n) a e))
    (λ Q. let r = place_at G n a Q in (r.0, omega (arith, r.1), r.2))
    (or_cases (eqb (canon G n) a) (is_place G n a) P)

-- the first link, and the others
pub between_parts : (G : Graph) (n : ℕ) (l : ℕ × ℕ) (L : Links) → is_between G n (l ∷ L) ≡ true → Place G n l.0 × Place G n l.1 × (is_between G n L ≡ true)
between_parts G n l L h =
    let a = and_parts (is_place G n l.0 && is_place G n l.1) (is_between G n L) h in
    let b = and_parts (is_place G n l.0) (is_place G n l.1) a.0 in
    (b.0, b.1, a.1)

pub ends_append : (G : Graph) (n : ℕ) (L M : Links) → is_between G n L ≡ true → is_between G n M ≡ true → is_between G n (L ++ M) ≡ true
ends_append G n [] M h g = g
ends_append G n (l ∷ L) M h g =
    let a = and_parts (is_place G n l.0 && is_place G n l.1) (is_between G n L) h in
    and_from (is_place G n l.0 && is_place G n l.1) (is_between G n (L ++ M)) a.0 (ends_append G n L M a.1 g)

-- what a place comes to is a place
pub find_place : (G : Graph) (n : ℕ) (L : Links) (a : ℕ) → is_between G n L ≡ true → Place G n a → Place G n (find L a)
find_place G n [] a h p = p
find_place G n (l ∷ L) a h p = find_place G n L (follow l a) ends.2 (go (follow_cases l a))
  where
    ends : Place G n l.0 × Place G n l.1 × (is_between G n L ≡ true)
    ends = between_parts G n l L h

    go : ((a ≡ l.0) × (follow l a ≡ l.1)) ⊎ (follow l a ≡ a) → Place G n (follow l a)
    go (inl w) = subst (Place G n) (sym w.1) ends.1
    go (inr e) = subst (Place G n) (sym e) p

pub norm_place : (G : Graph) (n : ℕ) (L : Links) → is_between G n L ≡ true → (i : ℕ) → i < n → Place G n (norm G L i)
norm_place G n L b i h = find_place G n L (canon G i) b (place_from G n i (canon G i) h refl)

-- a place whose cell is not bound is one of the first n
pub place_node : (G : Graph) → Laws G → (n x : ℕ) → Place G n x → G.is_v (G.cell x) ≡ false → x < n
place_node G W n x P v = go (G.is_v (G.cell at)) refl
  where
    at : ℕ
    at = (place_at G n x P).0

    is : canon G at ≡ x
    is = (place_at G n x P).2

    go : (b : Bool) → G.is_v (G.cell at) ≡ b → x < n
    go true e =
        let s : G.cell at ≡ x = sym (ap (λ b. cond b (G.cell at) at) e) ∙ is in
        let b : G.is_v x ≡ true = subst (λ k. G.is_v k ≡ true) s e in
        absurd (true≢false (sym (ap G.is_v (W.var_node x b) ∙ b) ∙ v))
    go false e =
        let s : at ≡ x = sym (ap (λ b. cond b (G.cell at) at) e) ∙ is in
        subst (λ k. k < n) s (place_at G n x P).1

module _ (G : Graph) (n cap : ℕ) (L : Links) (F : Fit G n cap L) (x y : ℕ) (ne : x ≢ y) (rx : find L x ≡ x) (ry : find L y ≡ y) (px : Place G n x) (py : Place G n y) where
  -- there is room for one link more
  pub room_more : length L < cap
  room_more =
      let P = place_at G n x px in
      let f = roots_fall G L x y ne F.again rx ry n P.0 P.1 P.2 in
      omega (arith, F.room)

  pub fit_more : Fit G n cap (L ++ ((x, y) ∷ []))
  fit_more = record {
    again = again_more G L x y ne F.again rx ry;
    ends = ends_append G n L ((x, y) ∷ []) F.ends (and_from (is_place G n x && is_place G n y) true (and_from (is_place G n x) (is_place G n y) px py) refl);
    room =
        let P = place_at G n x px in
        let f = roots_fall G L x y ne F.again rx ry n P.0 P.1 P.2 in
        let l = length-append L ((x, y) ∷ []) in
        omega (arith, F.room);
  }

pub roots_none : (G : Graph) (n : ℕ) → roots G [] n ≡ n
roots_none G zero = refl
roots_none G (suc n) = ap₂ (λ a b. a + cond b 1 0) (roots_none G n) (eq-eqb (canon G n) (canon G n) refl) ∙ add-one n

pub fit_none : (G : Graph) (n cap : ℕ) → n ≤ cap → Fit G n cap []
fit_none G n cap h = record { again = λ a. refl; ends = refl; room = omega (arith, roots_none G n) }
