-- Rows of words: the whole ones, and what a replacement makes of them. Assumes nothing.
use Rattle.std.proofs.Common.{◌≡◌, ℕ, pred, ◌+◌, ◌<◌, Bool, true, false, cond, List, [], ◌∷◌, ◌++◌, sym, refl, ap, ◌∙◌, subst, ap₂, append_assoc, arith}
use Rattle.unification.specs.Rows.{Wholes, image, put, WholeAt}

-- a variable is a whole row by itself
abbrev pub Leafy : (ℕ → Bool) → (ℕ → ℕ) → Type 0
Leafy is_v need = (c : ℕ) → is_v c ≡ true → need c ≡ 0

-- the first cell and the rest of two equal rows
pub cons_head : {a b : ℕ} {xs ys : List ℕ} → ◌≡◌ {A = List ℕ} (a ∷ xs) (b ∷ ys) → a ≡ b
cons_head e = cc

pub cons_tail : {a b : ℕ} {xs ys : List ℕ} → ◌≡◌ {A = List ℕ} (a ∷ xs) (b ∷ ys) → xs ≡ ys
cons_tail e = cc

module _ (need : ℕ → ℕ) where
  pub wholes_append : (xs ys : List ℕ) (k j : ℕ) → Wholes need k xs → Wholes need j ys → Wholes need (k + j) (xs ++ ys)
  wholes_append [] ys k j h g =
      let e : j ≡ k + j = omega arith in
      subst (λ n. Wholes need n ys) e g
  wholes_append (c ∷ cs) ys k j h g =
      let p : 0 < k = h.0 in
      let e : pred k + need c + j ≡ pred (k + j) + need c = omega arith in
      let q : 0 < k + j = omega arith in
      (q, subst (λ n. Wholes need n (cs ++ ys)) e (wholes_append cs ys (pred k + need c) j h.1 g))

  -- k whole rows at the head of a row are its only k whole rows there
  pub wholes_unique : (xs ys us vs : List ℕ) (k : ℕ) → Wholes need k xs → Wholes need k ys → xs ++ us ≡ ys ++ vs → (xs ≡ ys) × (us ≡ vs)
  wholes_unique [] [] us vs k h g e = (refl, e)
  wholes_unique [] (y ∷ ys) us vs k h g e = let p : 0 < k = g.0 in let z : ⊥ = omega arith in absurd z
  wholes_unique (x ∷ xs) [] us vs k h g e = let p : 0 < k = h.0 in let z : ⊥ = omega arith in absurd z
  wholes_unique (x ∷ xs) (y ∷ ys) us vs k h g e =
      let a : x ≡ y = cons_head e in
      let t : xs ++ us ≡ ys ++ vs = cons_tail e in
      let g' : Wholes need (pred k + need x) ys = subst (λ c. Wholes need (pred k + need c) ys) (sym a) g.1 in
      let r = wholes_unique xs ys us vs (pred k + need x) h.1 g' t in
      (ap₂ {C = List ℕ} (λ c cs. c ∷ cs) a r.0, r.1)

  module _ (is_v : ℕ → Bool) where
    pub put_append : (σ : ℕ → List ℕ) (xs ys : List ℕ) → put is_v σ (xs ++ ys) ≡ put is_v σ xs ++ put is_v σ ys
    put_append σ [] ys = refl
    put_append σ (c ∷ cs) ys =
        ap (λ r. image is_v σ c ++ r) (put_append σ cs ys) ∙ sym (append_assoc (image is_v σ c) (put is_v σ cs) (put is_v σ ys))

    module _ (leafy : Leafy is_v need) where
      -- the image of one cell, with the rows that follow it, is whole as the cell was
      pub image_wholes : (σ : ℕ → List ℕ) → WholeAt is_v need σ → (c : ℕ) (b : Bool) → is_v c ≡ b → (k : ℕ) → 0 < k → (r : List ℕ) →
          Wholes need (pred k + need c) r → Wholes need k (cond b (σ c) (c ∷ []) ++ r)
      image_wholes σ w c true e k p r h =
          let z : need c ≡ 0 = leafy c e in
          let g = wholes_append (σ c) r 1 (pred k + need c) (w c e) h in
          let q : 1 + (pred k + need c) ≡ k = omega arith in
          subst (λ n. Wholes need n (σ c ++ r)) q g
      image_wholes σ w c false e k p r h = (p, h)

      pub put_wholes : (σ : ℕ → List ℕ) → WholeAt is_v need σ → (xs : List ℕ) (k : ℕ) → Wholes need k xs → Wholes need k (put is_v σ xs)
      put_wholes σ w [] k h = h
      put_wholes σ w (c ∷ cs) k h = image_wholes σ w c (is_v c) refl k h.0 (put is_v σ cs) (put_wholes σ w cs (pred k + need c) h.1)
