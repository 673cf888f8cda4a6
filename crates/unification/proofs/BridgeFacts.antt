-- Rows of words with variables of two kinds, and rows of cells with a substitution for each kind. Assumes nothing.
use Rattle.std.proofs.Common.{◌≡◌, ◌≢◌, ℕ, zero, suc, ◌+◌, ◌-◌, ◌<◌, ◌≤◌, Bool, true, false, cond, leb, List, [], ◌∷◌, ◌++◌, map, Decides, sym, refl, ap, ◌∙◌, subst, ap₂, arith}
use Rattle.std.proofs.lemmas.List.{map-append}
use Rattle.std.proofs.lemmas.Bool.{le-leb, lt-leb}
use Rattle.cells.specs.Cells.{Cell, symbol, variable, arity}
use Rattle.cells.specs.Rows.{Whole}
use Rattle.cells.specs.Substitutions.{Substitution, substitute}
use Rattle.cells.proofs.Terms.{Terms, reads_terms, terms_reads}
use Rattle.matching.specs.Relations.{General, Unifiable}
use Rattle.unification.specs.declared.kinds.Kinds.{Kinds}
use Rattle.unification.specs.Codes.{is_var, code, tagged}
use Rattle.unification.specs.Memory.{need, binds}
use Rattle.unification.specs.Rows.{Wholes, image, put, WholeAt}
use Rattle.unification.proofs.MemFacts.{need_var}
use Rattle.unification.proofs.CodeFacts.{cell_of, Low, mid_var, need_cell, need_code, cell_code, code_var}

-- every variable may be bound
abbrev pub all_kinds : Kinds
all_kinds = record { formula = true; rule = true; tree = true }

abbrev pub bound : ℕ → Bool
bound c = binds all_kinds c

-- some replacement of the variables of is_v makes one row of s and t
pub record Relates (is_v : ℕ → Bool) (need : ℕ → ℕ) (s t : List ℕ) (r : Bool) : Type 0 where
  pub yes : r ≡ true → (σ : ℕ → List ℕ) × WholeAt is_v need σ × (put is_v σ s ≡ put is_v σ t)
  pub no : r ≡ false → (σ : ℕ → List ℕ) → WholeAt is_v need σ → put is_v σ s ≢ put is_v σ t

pub bound_var : (c : ℕ) → bound c ≡ is_var c
unfolding binds
bound_var c = go (is_var c) (leb 0xA0000000 c) (leb 0x90000000 c)
  where
    go : (v a b : Bool) → cond v (cond a true (cond b true true)) false ≡ v
    go true true b = refl
    go true false true = refl
    go true false false = refl
    go false a b = refl

pub wholes_terms : (n : ℕ) (ws : List ℕ) → Wholes need n ws → Terms n (map cell_of ws)
wholes_terms n [] h = h
wholes_terms zero (w ∷ ws) h = let p : 0 < 0 = h.0 in absurd (omega arith)
wholes_terms (suc n) (w ∷ ws) h =
    let e : n + need w ≡ arity (cell_of w) + n = omega (arith, need_cell w) in
    subst (λ k. Terms k (map cell_of ws)) e (wholes_terms (n + need w) ws h.1)

pub wholes_whole : (ws : List ℕ) → Wholes need 1 ws → Whole (map cell_of ws)
wholes_whole ws h = reads_terms 1 (map cell_of ws) (wholes_terms 1 ws h)

codes_wholes : (n : ℕ) (cs : List Cell) → Terms n cs → Wholes need n (map code cs)
codes_wholes n [] h = h
codes_wholes zero (c ∷ cs) h = absurd h
codes_wholes (suc n) (c ∷ cs) h =
    let z : 0 < suc n = omega arith in
    let e : arity c + n ≡ n + need (code c) = omega (arith, need_code c) in
    (z, subst (λ k. Wholes need k (map code cs)) e (codes_wholes (arity c + n) cs h))

pub image_code : (σ : ℕ → List ℕ) (c : Cell) → image bound σ (code c) ≡ code c ∷ []
image_code σ c = ap (λ b. cond b (σ (code c)) (code c ∷ [])) (bound_var (code c) ∙ code_var c)

-- one side, with its variables counted from `base`
module _ (base : ℕ) (low : 0x80000000 ≤ base) (high : base ≤ 0x90000000) where
  tag_var : (v : ℕ) → v < 0x10000000 → is_var (base + v) ≡ true
  tag_var v h = mid_var (base + v) (omega arith) (omega arith)

  tag_bound : (v : ℕ) → v < 0x10000000 → bound (base + v) ≡ true
  tag_bound v h = bound_var (base + v) ∙ tag_var v h

  pub tagged_wholes : (n : ℕ) (cs : List Cell) → Low cs → Terms n cs → Wholes need n (map (tagged base) cs)
  tagged_wholes n [] l h = h
  tagged_wholes zero (c ∷ cs) l h = absurd h
  tagged_wholes (suc n) (symbol k f ∷ cs) l h =
      let z : 0 < suc n = omega arith in
      let e : k + n ≡ n + need (code (symbol k f)) = omega (arith, need_code (symbol k f)) in
      (z, subst (λ m. Wholes need m (map (tagged base) cs)) e (tagged_wholes (k + n) cs l h))
  tagged_wholes (suc n) (variable v ∷ cs) l h =
      let z : 0 < suc n = omega arith in
      let e : 0 + n ≡ n + need (base + v) = omega (arith, need_var (base + v) (tag_var v l.0)) in
      (z, subst (λ m. Wholes need m (map (tagged base) cs)) e (tagged_wholes (0 + n) cs l.1 h))

  -- what a replacement of words puts for the variables of the side
  reading : (ℕ → List ℕ) → ℕ → List Cell
  reading σ v = cond (bound (base + v)) (map cell_of (σ (base + v))) (variable v ∷ [])

  reading_whole : (σ : ℕ → List ℕ) → WholeAt bound need σ → Substitution (reading σ)
  unfolding reading
  reading_whole σ w v = go (bound (base + v)) refl
    where
      go : (b : Bool) → bound (base + v) ≡ b → Whole (cond b (map cell_of (σ (base + v))) (variable v ∷ []))
      go true e = wholes_whole (σ (base + v)) (w (base + v) e)
      go false e = refl

  reading_put : (σ : ℕ → List ℕ) (cs : List Cell) → Low cs → substitute (reading σ) cs ≡ map cell_of (put bound σ (map (tagged base) cs))
  unfolding reading
  reading_put σ [] l = refl
  reading_put σ (symbol k f ∷ cs) l =
      ap₂ {C = List Cell} (λ x y. x ∷ y) (sym (cell_code (symbol k f))) (reading_put σ cs l)
      ∙ ap (λ x. map cell_of (x ++ put bound σ (map (tagged base) cs))) (sym (image_code σ (symbol k f)))
  reading_put σ (variable v ∷ cs) l =
      ap₂ (λ b y. cond b (map cell_of (σ (base + v))) (variable v ∷ []) ++ y) (tag_bound v l.0) (reading_put σ cs l.1)
      ∙ sym (map-append cell_of (σ (base + v)) (put bound σ (map (tagged base) cs)))
      ∙ ap (λ b. map cell_of (cond b (σ (base + v)) ((base + v) ∷ []) ++ put bound σ (map (tagged base) cs))) (sym (tag_bound v l.0))

  pub makes_general : (σ : ℕ → List ℕ) (cs : List Cell) → WholeAt bound need σ → Low cs → General cs (map cell_of (put bound σ (map (tagged base) cs)))
  makes_general σ cs w l = (reading σ, record { whole = reading_whole σ w; makes = reading_put σ cs l })

  -- and the other way round
  pub writing_put : (σ : ℕ → List Cell) (τ : ℕ → List ℕ) → ((v : ℕ) → v < 0x10000000 → τ (base + v) ≡ map code (σ v)) → (cs : List Cell) → Low cs
      → put bound τ (map (tagged base) cs) ≡ map code (substitute σ cs)
  writing_put σ τ f [] l = refl
  writing_put σ τ f (symbol k g ∷ cs) l = ap₂ (λ x y. x ++ y) (image_code τ (symbol k g)) (writing_put σ τ f cs l)
  writing_put σ τ f (variable v ∷ cs) l =
      ap₂ (λ b y. cond b (τ (base + v)) ((base + v) ∷ []) ++ y) (tag_bound v l.0) (writing_put σ τ f cs l.1)
      ∙ ap (λ x. x ++ map code (substitute σ cs)) (f v l.0)
      ∙ sym (map-append code (σ v) (substitute σ cs))

-- both sides: rule variables from 0x90000000, formula variables from 0x80000000
unfoldable pub joint : (ℕ → List Cell) → (ℕ → List Cell) → ℕ → List ℕ
joint σ τ c = cond (leb 0x90000000 c) (map code (σ (c - 0x90000000))) (map code (τ (c - 0x80000000)))

pub joint_whole : (σ τ : ℕ → List Cell) → Substitution σ → Substitution τ → (c : ℕ) → Wholes need 1 (joint σ τ c)
unfolding joint
joint_whole σ τ a b c = go (leb 0x90000000 c)
  where
    go : (d : Bool) → Wholes need 1 (cond d (map code (σ (c - 0x90000000))) (map code (τ (c - 0x80000000))))
    go true = codes_wholes 1 (σ (c - 0x90000000)) (terms_reads 1 (σ (c - 0x90000000)) (a (c - 0x90000000)))
    go false = codes_wholes 1 (τ (c - 0x80000000)) (terms_reads 1 (τ (c - 0x80000000)) (b (c - 0x80000000)))

pub joint_left : (σ τ : ℕ → List Cell) (v : ℕ) → joint σ τ (0x90000000 + v) ≡ map code (σ v)
unfolding joint
joint_left σ τ v =
    let c = 0x90000000 + v in
    let e : c - 0x90000000 ≡ v = omega arith in
    ap (λ b. cond b (map code (σ (c - 0x90000000))) (map code (τ (c - 0x80000000)))) (le-leb 0x90000000 c (omega arith)) ∙ ap (λ x. map code (σ x)) e

pub joint_right : (σ τ : ℕ → List Cell) (v : ℕ) → v < 0x10000000 → joint σ τ (0x80000000 + v) ≡ map code (τ v)
unfolding joint
joint_right σ τ v h =
    let c = 0x80000000 + v in
    let e : c - 0x80000000 ≡ v = omega arith in
    ap (λ b. cond b (map code (σ (c - 0x90000000))) (map code (τ (c - 0x80000000)))) (lt-leb 0x90000000 c (omega arith)) ∙ ap (λ x. map code (τ x)) e

module _ (s t : List Cell) (p : Low s) (q : Low t) where
  pub left_general : (σ : ℕ → List ℕ) → WholeAt bound need σ → General s (map cell_of (put bound σ (map (tagged 0x90000000) s)))
  left_general σ w = makes_general 0x90000000 (omega arith) (omega arith) σ s w p

  pub right_general : (σ : ℕ → List ℕ) → WholeAt bound need σ → General t (map cell_of (put bound σ (map (tagged 0x80000000) t)))
  right_general σ w = makes_general 0x80000000 (omega arith) (omega arith) σ t w q

  pub left_put : (σ τ : ℕ → List Cell) → put bound (joint σ τ) (map (tagged 0x90000000) s) ≡ map code (substitute σ s)
  left_put σ τ = writing_put 0x90000000 (omega arith) (omega arith) σ (joint σ τ) (λ v h. joint_left σ τ v) s p

  pub right_put : (σ τ : ℕ → List Cell) → put bound (joint σ τ) (map (tagged 0x80000000) t) ≡ map code (substitute τ t)
  right_put σ τ = writing_put 0x80000000 (omega arith) (omega arith) τ (joint σ τ) (λ v h. joint_right σ τ v h) t q

  pub unified : (r : Bool) → Relates bound need (map (tagged 0x90000000) s) (map (tagged 0x80000000) t) r → Decides r (Unifiable s t)
  unified r R = (yes, no r refl)
    where
      yes : r ≡ true → Unifiable s t
      yes e =
          let (σ, w, h) = R.yes e in
          let (α, a) = left_general σ w in
          let (β, b) = subst (λ x. General t (map cell_of x)) (sym h) (right_general σ w) in
          (α, β, map cell_of (put bound σ (map (tagged 0x90000000) s)), a, b)

      no : (b : Bool) → r ≡ b → Unifiable s t → r ≡ true
      no true e u = e
      no false e u =
          let (σ, τ, c, a, b) = u in
          absurd (R.no e (joint σ τ) (λ x k. joint_whole σ τ a.whole b.whole x) (left_put σ τ ∙ ap (map code) (a.makes ∙ sym b.makes) ∙ sym (right_put σ τ)))
