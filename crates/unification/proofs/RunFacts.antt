-- Closing and solving as such, without a program: rows that one replacement makes one have a most general one. Assumes nothing.
use Rattle.std.proofs.Common.{◌≡◌, ℕ, zero, suc, ◌+◌, ◌<◌, ◌≤◌, Bool, true, false, eqb, ◌≢◌, List, [], ◌∷◌, ◌++◌, length, sym, refl, ap, ◌∙◌, subst, inl, inr, le_refl, arith, length-append}
use Rattle.std.proofs.lemmas.Bool.{eqb-true, eqb-false}
use Rattle.unification.specs.Graph.{Graph, Links, find, canon, norm, In, val, SameVal, Sat, Sols, Sol, Made}
use Rattle.unification.specs.Graph.Sols.{none, more}
use Rattle.unification.specs.Close.{Place, Fit, Out, WholeFor, MostGeneral, Solved}
use Rattle.unification.proofs.GraphLaws.{Laws}
use Rattle.unification.proofs.LinkFacts.{kids_none, norm_val}
use Rattle.unification.proofs.StepFacts.{val_sym, inside}
use Rattle.unification.proofs.FitFacts.{place_node, norm_place, room_more, fit_more, fit_none}
use Rattle.unification.proofs.OutFacts.{out_none, out_same, out_bind, out_clash, out_down_no, out_down, out_sym}
use Rattle.unification.proofs.SolFacts.{sols_append}
use Rattle.unification.proofs.FormFacts.{found}

abbrev pub Below : ℕ → List ℕ → Type 0
Below n [] = Unit {0}
Below n (p ∷ ps) = (p < n) × Below n ps

module _ (G : Graph) (W : Laws G) (n cap : ℕ) (inner : (x : ℕ) → x < n → Below n (G.kids x)) where
  abbrev Ran : Links → List ℕ → List ℕ → Type 0
  Ran L ps qs = (M : Links) × (r : Bool) × Fit G n cap M × Out G L M ps qs r

  abbrev Run : ℕ → Type 0
  Run fuel = (ps qs : List ℕ) (L : Links) → Fit G n cap L → cap ≤ length L + fuel → Below n ps → Below n qs → length ps ≡ length qs
      → Ran L ps qs

  norm_root : (L : Links) → Fit G n cap L → (i : ℕ) → find L (norm G L i) ≡ norm G L i
  norm_root L F i = F.again (canon G i)

  longer : (L M : Links) (ps qs : List ℕ) (r : Bool) → Out G L M ps qs r → length L ≤ length M
  longer L M ps qs r O = omega (arith, ap length O.grown ∙ length-append L O.new)

  -- one equation between places that are not joined, with room for one link more
  part : (fuel : ℕ) → Run fuel → (i j : ℕ) (ps qs : List ℕ) (L : Links) → Fit G n cap L → cap ≤ length L + suc fuel → i < n → j < n → Below n ps → Below n qs → length ps ≡ length qs
      → norm G L i ≢ norm G L j → Ran L (i ∷ ps) (j ∷ qs)
  part fuel rec i j ps qs L F c hi hj bp bq l ne = by (G.is_v (G.cell x)) refl (G.is_v (G.cell y)) refl
    where
      x : ℕ
      x = norm G L i

      y : ℕ
      y = norm G L j

      rx : find L x ≡ x
      rx = norm_root L F i

      ry : find L y ≡ y
      ry = norm_root L F j

      px : Place G n x
      px = norm_place G n L F.ends i hi

      py : Place G n y
      py = norm_place G n L F.ends j hj

      grown : (a b : ℕ) → cap ≤ length (L ++ ((a, b) ∷ [])) + fuel
      grown a b = omega (arith, length-append L ((a, b) ∷ []))

      fxy : Fit G n cap (L ++ ((x, y) ∷ []))
      fxy = fit_more G n cap L F x y ne rx ry px py

      fyx : Fit G n cap (L ++ ((y, x) ∷ []))
      fyx = fit_more G n cap L F y x (λ e. ne (sym e)) ry rx py px

      down : (sx : G.is_v (G.cell x) ≡ false) (sy : G.is_v (G.cell y) ≡ false) → G.cell x ≡ G.cell y
          → (M : Links) (r : Bool) → Fit G n cap M → Out G (L ++ ((x, y) ∷ [])) M (G.kids x) (G.kids y) r → Ran L (i ∷ ps) (j ∷ qs)
      down sx sy e M false E O = (M, false, E, out_down_no G W L i j x y refl refl rx ry sx sy M ps qs O)
      down sx sy e M true E O =
          let m : cap ≤ length M + fuel = omega (arith, longer (L ++ ((x, y) ∷ [])) M (G.kids x) (G.kids y) true O, grown x y) in
          let (N, r, E', P) = rec ps qs M E m bp bq l in
          (N, r, E', out_down G W L i j x y refl refl rx ry sx sy M N ps qs r e O P)

      same : (sx : G.is_v (G.cell x) ≡ false) (sy : G.is_v (G.cell y) ≡ false) → (b : Bool) → eqb (G.cell x) (G.cell y) ≡ b
          → Ran L (i ∷ ps) (j ∷ qs)
      same sx sy false t = (L, false, F, out_clash G W L i j x y refl refl rx ry sx sy ps qs (eqb-false (G.cell x) (G.cell y) t))
      same sx sy true t =
          let e = eqb-true (G.cell x) (G.cell y) t in
          let k : length (G.kids x) ≡ length (G.kids y) = W.many x ∙ ap G.need e ∙ sym (W.many y) in
          let (M, r, E, O) = rec (G.kids x) (G.kids y) (L ++ ((x, y) ∷ [])) fxy (grown x y) (inner x (place_node G W n x px sx)) (inner y (place_node G W n y py sy)) k in
          down sx sy e M r E O

      by : (b : Bool) → G.is_v (G.cell x) ≡ b → (d : Bool) → G.is_v (G.cell y) ≡ d → Ran L (i ∷ ps) (j ∷ qs)
      by true vx d vy =
          let (M, r, E, O) = rec ps qs (L ++ ((x, y) ∷ [])) fxy (grown x y) bp bq l in
          (M, r, E, out_bind G W L i j x y refl refl rx ry M ps qs r vx O)
      by false vx true vy =
          let (M, r, E, O) = rec ps qs (L ++ ((y, x) ∷ [])) fyx (grown y x) bp bq l in (
            M,
            r,
            E,
            out_sym G W L M (j ∷ qs) (i ∷ ps) r
                (out_bind G W L j i y x refl refl ry rx M qs ps r vy (out_sym G W (L ++ ((y, x) ∷ [])) M ps qs r O)),
          )
      by false vx false vy = same vx vy (eqb (G.cell x) (G.cell y)) refl

  step : (fuel : ℕ) → ((m : ℕ) → fuel ≡ suc m → Run m) → Run fuel
  step fuel rec [] [] L F c bp bq l = (L, true, F, out_none G W L)
  step fuel rec [] (j ∷ qs) L F c bp bq l = absurd (omega arith)
  step fuel rec (i ∷ ps) [] L F c bp bq l = absurd (omega arith)
  step fuel rec (i ∷ ps) (j ∷ qs) L F c bp bq l =
      by (λ L F c. step fuel rec ps qs L F c bp.1 bq.1 (omega arith)) (eqb (norm G L i) (norm G L j)) refl
    where
      apart : norm G L i ≢ norm G L j → (k : ℕ) → fuel ≡ k → Ran L (i ∷ ps) (j ∷ qs)
      apart ne zero e =
          absurd (omega (arith, room_more G n cap L F (norm G L i) (norm G L j) ne (norm_root L F i) (norm_root L F j) (norm_place G n L F.ends i bp.0) (norm_place G n L F.ends j bq.0)))
      apart ne (suc k) e =
          let c' : cap ≤ length L + suc k = omega arith in
          part k (rec k e) i j ps qs L F c' bp.0 bq.0 bp.1 bq.1 (omega arith) ne

      by : ((L : Links) → Fit G n cap L → cap ≤ length L + fuel → Ran L ps qs)
          → (b : Bool) → eqb (norm G L i) (norm G L j) ≡ b → Ran L (i ∷ ps) (j ∷ qs)
      by again true t = let (M, r, E, O) = again L F c in (M, r, E, out_same G W L M i j ps qs r (eqb-true (norm G L i) (norm G L j) t) O)
      by again false t = apart (eqb-false (norm G L i) (norm G L j) t) fuel refl

  pub run : (fuel : ℕ) → Run fuel
  run zero = step zero (λ m e. absurd (omega arith))
  run (suc fuel) = step (suc fuel) (λ m e. let s : fuel ≡ m = omega arith in subst Run s (run fuel))

-- what one replacement satisfies has a row for each place: each way down makes that replacement's row shorter
module _ (G : Graph) (W : Laws G) (L : Links) (τ : ℕ → List ℕ) (h : Sat G τ L) where
  rows : (m : ℕ) → ((q : ℕ) → length (val G τ q) ≤ m → (row : List ℕ) × Sol G L q row) → (ps : List ℕ) → ((q : ℕ) → In q ps → length (val G τ q) ≤ m) → (row : List ℕ) × Sols G L ps row
  rows m f [] b = ([], none)
  rows m f (p ∷ ps) b =
      let (x, s) = f p (b p (inl refl)) in
      let (y, t) = rows m f ps (λ q i. b q (inr i)) in
      (x ++ y, sols_append G L s t)

  top : (p : ℕ) → (row : List ℕ) × Sols G L (G.kids (norm G L p)) row → (row : List ℕ) × Sol G L p row
  top p (a, s) = (G.cell (norm G L p) ∷ (a ++ []), more {p = p} s none)

  top_var : (p : ℕ) → G.is_v (G.cell (norm G L p)) ≡ true → (row : List ℕ) × Sol G L p row
  top_var p v = top p ([], subst (λ ks. Sols G L ks []) (sym (kids_none G W (norm G L p) v)) none)

  node : (m p : ℕ) → length (val G τ p) ≤ m → (row : List ℕ) × Sol G L p row
  node zero p l = by (G.is_v (G.cell (norm G L p))) refl
    where
      by : (b : Bool) → G.is_v (G.cell (norm G L p)) ≡ b → (row : List ℕ) × Sol G L p row
      by true v = top_var p v
      by false v = let e = ap length (norm_val G W τ L p h ∙ val_sym G W τ (norm G L p) v) in absurd (omega arith)
  node (suc m) p l = by (λ q k. node m q k) (G.is_v (G.cell (norm G L p))) refl
    where
      by : ((q : ℕ) → length (val G τ q) ≤ m → (row : List ℕ) × Sol G L q row) → (b : Bool) → G.is_v (G.cell (norm G L p)) ≡ b → (row : List ℕ) × Sol G L p row
      by rec true v = top_var p v
      by rec false v = top p (rows m rec (G.kids (norm G L p)) (λ q i. omega (arith, inside G W τ L p q h v i)))

  pub solved_by : Solved G L
  solved_by c e = node (length (val G τ c)) c (le_refl _)

-- so rows that some replacement makes one have a most general such replacement
pub general_exists : (G : Graph) → Laws G → (n : ℕ) → ((x : ℕ) → x < n → Below n (G.kids x)) → (p q : ℕ) → p < n → q < n → (τ : ℕ → List ℕ) → WholeFor G τ → SameVal G τ p q
    → (g : MostGeneral G p q) × Made G (val G g.σ p)
general_exists G W n inner p q hp hq τ w e = by (run G W n n inner n (p ∷ []) (q ∷ []) [] (fit_none G n n (le_refl n)) (omega arith) (hp, tt) (hq, tt) refl)
  where
    by : (M : Links) × (r : Bool) × Fit G n n M × Out G [] M (p ∷ []) (q ∷ []) r → (g : MostGeneral G p q) × Made G (val G g.σ p)
    by (M, false, E, O) = absurd (O.refutes refl τ w tt (e, tt))
    by (M, true, E, O) =
        let (g, here, made) = found G W p q M O (solved_by G W M τ (O.keeps refl τ w tt (e, tt))) in
        (g, made)
