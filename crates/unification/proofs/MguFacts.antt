-- Two whole rows of cells, of any size, that one substitution makes one have a most general such substitution. Assumes nothing.
use Rattle.std.proofs.Common.{◌≡◌, ℕ, zero, suc, ◌+◌, ◌*◌, ◌/◌, ◌%◌, ◌<◌, Bool, true, false, cond, List, [], ◌∷◌, ◌++◌, map, length, sym, refl, ap, ◌∙◌, subst, ap₂, append-nil, arith}
use Rattle.std.proofs.lemmas.List.{map-append}
use Rattle.std.proofs.lemmas.Bool.{eq-eqb}
use Rattle.cells.specs.Cells.{Cell, symbol, variable, arity}
use Rattle.cells.specs.Rows.{Whole}
use Rattle.cells.specs.Substitutions.{Substitution, substitute}
use Rattle.cells.proofs.Terms.{Terms, reads_terms, terms_reads}
use Rattle.unification.specs.Codes.{pair, place}
use Rattle.unification.specs.Rows.{Wholes, put, WholeAt}
use Rattle.unification.proofs.CodeFacts.{pair_place}
use Rattle.unification.proofs.RunFacts.{general_exists}
use Rattle.unification.proofs.StackFacts.{even, place_of, odd_place, half_place, stack_graph, text_at, stack_laws, stack_inner, two_good, stands}

-- each cell as a word, variables as the even ones
abbrev num : Cell → ℕ
num (symbol k f) = place_of (place k f)
num (variable v) = 2 * v

cel : ℕ → Cell
cel w = cond (even w) (variable (w / 2)) (symbol (pair (w / 2)).0 (pair (w / 2)).1)

needs : ℕ → ℕ
needs w = arity (cel w)

even_double : (v : ℕ) → even (2 * v) ≡ true
even_double v = eq-eqb (2 * v % 2) 0 (omega arith)

cel_even : (w : ℕ) → even w ≡ true → cel w ≡ variable (w / 2)
unfolding cel
cel_even w e = ap (λ b. cond b (variable (w / 2)) (symbol (pair (w / 2)).0 (pair (w / 2)).1)) e

cel_odd : (w : ℕ) → even w ≡ false → (k : ℕ) × (f : ℕ) × (cel w ≡ symbol k f)
unfolding cel
cel_odd w e = ((pair (w / 2)).0, (pair (w / 2)).1, ap (λ b. cond b (variable (w / 2)) (symbol (pair (w / 2)).0 (pair (w / 2)).1)) e)

cel_num : (c : Cell) → cel (num c) ≡ c
unfolding cel
cel_num (variable v) = let h : 2 * v / 2 ≡ v = omega arith in cel_even (2 * v) (even_double v) ∙ ap variable h
cel_num (symbol k f) =
    ap₂ (λ b n. cond b (variable n) (symbol (pair n).0 (pair n).1)) (odd_place (place k f)) (half_place (place k f))
    ∙ ap (λ x. symbol x.0 x.1) (pair_place k f)

cells_nums : (cs : List Cell) → map cel (map num cs) ≡ cs
cells_nums [] = refl
cells_nums (c ∷ cs) = ap₂ {C = List Cell} (λ x y. x ∷ y) (cel_num c) (cells_nums cs)

leaf : (w : ℕ) → even w ≡ true → needs w ≡ 0
unfolding needs
leaf w e = ap arity (cel_even w e)

nums_wholes : (n : ℕ) (cs : List Cell) → Terms n cs → Wholes needs n (map num cs)
unfolding needs
nums_wholes n [] h = h
nums_wholes zero (c ∷ cs) h = absurd h
nums_wholes (suc n) (c ∷ cs) h =
    let z : 0 < suc n = omega arith in
    let e : arity c + n ≡ n + arity (cel (num c)) = omega (arith, ap arity (cel_num c)) in
    (z, subst (λ k. Wholes needs k (map num cs)) e (nums_wholes (arity c + n) cs h))

wholes_cells : (n : ℕ) (ws : List ℕ) → Wholes needs n ws → Terms n (map cel ws)
unfolding needs
wholes_cells n [] h = h
wholes_cells zero (w ∷ ws) h = let p : 0 < 0 = h.0 in absurd (omega arith)
wholes_cells (suc n) (w ∷ ws) h =
    let e : n + needs w ≡ arity (cel w) + n = omega arith in
    subst (λ k. Terms k (map cel ws)) e (wholes_cells (n + needs w) ws h.1)

-- a replacement of words as a substitution, and the other way round
seen : (ℕ → List ℕ) → ℕ → List Cell
seen σ v = map cel (σ (2 * v))

written : (ℕ → List Cell) → ℕ → List ℕ
written τ w = map num (τ (w / 2))

seen_put : (σ : ℕ → List ℕ) (cs : List Cell) → map cel (put even σ (map num cs)) ≡ substitute (seen σ) cs
unfolding seen
seen_put σ [] = refl
seen_put σ (symbol k f ∷ cs) =
    ap (λ b. map cel (cond b (σ (num (symbol k f))) (num (symbol k f) ∷ []) ++ put even σ (map num cs))) (odd_place (place k f))
    ∙ ap₂ {C = List Cell} (λ x y. x ∷ y) (cel_num (symbol k f)) (seen_put σ cs)
seen_put σ (variable v ∷ cs) =
    ap (λ b. map cel (cond b (σ (2 * v)) ((2 * v) ∷ []) ++ put even σ (map num cs))) (even_double v)
    ∙ map-append cel (σ (2 * v)) (put even σ (map num cs))
    ∙ ap (λ x. map cel (σ (2 * v)) ++ x) (seen_put σ cs)

written_put : (τ : ℕ → List Cell) (cs : List Cell) → put even (written τ) (map num cs) ≡ map num (substitute τ cs)
unfolding written
written_put τ [] = refl
written_put τ (symbol k f ∷ cs) =
    ap₂ (λ b y. cond b (written τ (num (symbol k f))) (num (symbol k f) ∷ []) ++ y) (odd_place (place k f)) (written_put τ cs)
written_put τ (variable v ∷ cs) =
    let h : 2 * v / 2 ≡ v = omega arith in
    ap₂ (λ b y. cond b (written τ (2 * v)) ((2 * v) ∷ []) ++ y) (even_double v) (written_put τ cs)
    ∙ ap (λ n. map num (τ n) ++ map num (substitute τ cs)) h
    ∙ sym (map-append num (τ v) (substitute τ cs))

read_put : (τ : ℕ → List Cell) (R : List ℕ) → substitute τ (map cel R) ≡ map cel (put even (written τ) R)
unfolding written
read_put τ [] = refl
read_put τ (w ∷ R) = go (read_put τ R) (even w) refl
  where
    go : substitute τ (map cel R) ≡ map cel (put even (written τ) R) → (b : Bool) → even w ≡ b
        → substitute τ (cel w ∷ map cel R) ≡ map cel (cond b (written τ w) (w ∷ []) ++ put even (written τ) R)
    go r true e =
        ap (λ c. substitute τ (c ∷ map cel R)) (cel_even w e)
        ∙ ap₂ (λ x y. x ++ y) (sym (cells_nums (τ (w / 2)))) r
        ∙ sym (map-append cel (map num (τ (w / 2))) (put even (written τ) R))
    go r false e =
        let (k, f, s) = cel_odd w e in
        ap (λ c. substitute τ (c ∷ map cel R)) s ∙ ap₂ {C = List Cell} (λ x y. x ∷ y) (sym s) r

written_whole : (τ : ℕ → List Cell) → Substitution τ → (w : ℕ) → Wholes needs 1 (written τ w)
unfolding written
written_whole τ h w = nums_wholes 1 (τ (w / 2)) (terms_reads 1 (τ (w / 2)) (h (w / 2)))

seen_whole : (σ : ℕ → List ℕ) → WholeAt even needs σ → Substitution (seen σ)
unfolding seen
seen_whole σ h v = reads_terms 1 (map cel (σ (2 * v))) (wholes_cells 1 (σ (2 * v)) (h (2 * v) (even_double v)))

-- a most general substitution that makes one of a and b
pub record MostGeneral (a b : List Cell) : Type 0 where
  pub μ : ℕ → List Cell
  pub whole : Substitution μ
  pub same : substitute μ a ≡ substitute μ b
  pub most : (τ : ℕ → List Cell) → Substitution τ → substitute τ a ≡ substitute τ b → substitute τ (substitute μ a) ≡ substitute τ a

module _ (a b : List Cell) (wa : Whole a) (wb : Whole b) where
  abbrev A : List ℕ
  A = map num a

  abbrev B : List ℕ
  B = map num b

  ua : Wholes needs 1 A
  ua = nums_wholes 1 a (terms_reads 1 a wa)

  ub : Wholes needs 1 B
  ub = nums_wholes 1 b (terms_reads 1 b wb)

  second : (q : ℕ) × (q < place_of (length (A ++ B))) × (text_at needs leaf (A ++ B) q ≡ B)
  second = subst (λ x. (q : ℕ) × (q < place_of (length (A ++ x))) × (text_at needs leaf (A ++ x) q ≡ B)) (append-nil B) (stands needs leaf A B [] ub)

  pub most_general : (τ : ℕ → List Cell) → Substitution τ → substitute τ a ≡ substitute τ b → MostGeneral a b
  most_general τ h e =
      let good = two_good needs leaf A B ua ub in
      let (p, lp, one) = stands needs leaf [] A B ua in
      let (q, lq, two) = second in
      let (g, made) = general_exists (stack_graph needs leaf (A ++ B)) (stack_laws needs leaf (A ++ B) good) (place_of (length (A ++ B))) (stack_inner needs leaf (A ++ B) good) p q lp lq
      (written τ) (λ w k. written_whole τ h w)
      (ap (put even (written τ)) one ∙ written_put τ a ∙ ap (map num) e ∙ sym (written_put τ b) ∙ ap (put even (written τ)) (sym two)) in
      record {
        μ = seen g.σ;
        whole = seen_whole g.σ g.whole;
        same = sym (seen_put g.σ a) ∙ ap (map cel) (ap (put even g.σ) (sym one) ∙ g.solves ∙ ap (put even g.σ) two) ∙ seen_put g.σ b;
        most = λ ρ k f.
            ap (substitute ρ) (sym (seen_put g.σ a))
            ∙ read_put ρ (put even g.σ A)
            ∙ ap (map cel)
            (ap (λ x. put even (written ρ) (put even g.σ x)) (sym one)
            ∙ g.general (written ρ) (λ w j. written_whole ρ k w) (ap (put even (written ρ)) one ∙ written_put ρ a ∙ ap (map num) f ∙ sym (written_put ρ b) ∙ ap (put even (written ρ)) (sym two)) p
            ∙ ap (put even (written ρ)) one
            ∙ written_put ρ a)
            ∙ cells_nums (substitute ρ a);
      }
