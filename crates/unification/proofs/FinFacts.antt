-- The ways through one place of the walk. Assumes nothing.
use Rattle.std.proofs.Common.{◌≡◌, ℕ, zero, suc, ◌<◌, ◌≤◌, Bool, true, false, ◌⊎◌, List, [], ◌∷◌, ◌++◌, length, replicate, set, sym, refl, ap, ◌∙◌, subst, inl, inr, le_refl, arith, get_or-set_other, get_or-set_same}
use Rattle.std.proofs.lemmas.List.Sums.{sum_by-set}
use Rattle.std.proofs.lemmas.Bool.{cases_eq}
use Rattle.unification.specs.Graph.{Graph, Links, norm, val, Sols}
use Rattle.unification.specs.Graph.Sols.{none, more}
use Rattle.unification.specs.declared.unifier.walking.Mark.{Mark}
use Rattle.unification.specs.declared.unifier.walking.Mark.TheVariants.{New, Open, Done}
use Rattle.unification.specs.Finite.{newness, fresh, mark_at, Above, Ended, Fin}
use Rattle.unification.proofs.GraphLaws.{Laws}
use Rattle.unification.proofs.LinkFacts.{norm_val, kids_none}
use Rattle.unification.proofs.StepFacts.{val_sym, in_flat}
use Rattle.unification.proofs.OutFacts.{true_not}

all_new : (n o : ℕ) → mark_at (replicate n New) o ≡ New
all_new zero o = refl
all_new (suc n) zero = refl
all_new (suc n) (suc o) = all_new n o

pub none_open : (n o : ℕ) → mark_at (replicate n New) o ≡ Open → ⊥
none_open n o h = let e = all_new n o in cc

pub none_done : (n o : ℕ) → mark_at (replicate n New) o ≡ Done → ⊥
none_done n o h = let e = all_new n o in cc

module _ (G : Graph) (W : Laws G) (L : Links) where
  pub fin_none : (marks : List Mark) → Ended G L marks → Fin G L marks marks [] true
  fin_none marks d = record
      { fewer = le_refl (fresh marks); opened = λ e o h. h; done = λ e. d; rows = λ e. ([], none); never = λ e. true_not refl e }

  -- the first place has its row, and the marks are as they should be for the places behind it
  pub record Past (marks after : List Mark) (x : ℕ) : Type 0 where
    pub fewer : fresh after ≤ fresh marks
    pub opened : (o : ℕ) → mark_at after o ≡ Open → mark_at marks o ≡ Open
    pub done : Ended G L after
    pub first : (row : List ℕ) × Sols G L (G.kids x) row

  pub past_open : (marks after : List Mark) (x i : ℕ) (ps : List ℕ) → Past marks after x → Above G L marks (i ∷ ps) → Above G L after ps
  past_open marks after x i ps P O o h σ s q k = O o (P.opened o h) σ s q (inr k)

  module _ (i x : ℕ) (ix : x ≡ norm G L i) where
    pub past_fin : (m₀ m₁ m₂ : List Mark) (ps : List ℕ) (r : Bool) → Past m₀ m₁ x → Fin G L m₁ m₂ ps r → Fin G L m₀ m₂ (i ∷ ps) r
    past_fin m₀ m₁ m₂ ps r P F = record {
      fewer = omega (arith, P.fewer, F.fewer);
      opened = λ e o h. P.opened o (F.opened e o h);
      done = F.done;
      rows = λ e.
          let a = P.first in
          let b = F.rows e in
          (G.cell (norm G L i) ∷ (a.0 ++ b.0), more {p = i} (subst (λ n. Sols G L (G.kids n) a.0) ix a.1) b.1);
      never = F.never;
    }

    pub past_var : (marks : List Mark) → Ended G L marks → G.is_v (G.cell x) ≡ true → Past marks marks x
    past_var marks d v = record {
      fewer = le_refl (fresh marks);
      opened = λ o h. h;
      done = d;
      first = ([], subst (λ ks. Sols G L ks []) (sym (kids_none G W x v)) none);
    }

    pub past_done : (marks : List Mark) → Ended G L marks → mark_at marks x ≡ Done → Past marks marks x
    past_done marks d h = record { fewer = le_refl (fresh marks); opened = λ o h. h; done = d; first = d x h }

    -- a place inside itself
    pub fin_cycle : (marks : List Mark) (ps : List ℕ) → Above G L marks (i ∷ ps) → mark_at marks x ≡ Open → Fin G L marks marks (i ∷ ps) false
    fin_cycle marks ps O h = record {
      fewer = le_refl (fresh marks);
      opened = λ e. true_not e refl;
      done = λ e. true_not e refl;
      rows = λ e. true_not e refl;
      never = λ e σ s.
          let a = O x h σ s i (inl refl) in
          let b : length (val G σ i) ≡ length (val G σ x) = ap length (norm_val G W σ L i s ∙ ap (val G σ) (sym ix)) in
          let z : ⊥ = omega arith in z;
    }

    module _ (marks : List Mark) (low : x < length marks) (s : G.is_v (G.cell x) ≡ false) where
      -- to walk below x, x is open
      pub down_open : (ps : List ℕ) → Above G L marks (i ∷ ps) → Above G L (set marks x Open) (G.kids x)
      down_open ps O o h σ sat q k = go (cases_eq o x)
        where
          below : length (val G σ q) < length (val G σ x)
          below =
              let a = ap length (val_sym G W σ x s) in
              let b = in_flat (val G σ) q (G.kids x) k in
              omega arith

          go : (o ≡ x) ⊎ (o ≡ x → ⊥) → length (val G σ q) < length (val G σ o)
          go (inl e) = subst (λ m. length (val G σ q) < length (val G σ m)) (sym e) below
          go (inr ne) =
              let a = O o (sym (get_or-set_other marks x o Open New ne) ∙ h) σ sat i (inl refl) in
              let b : length (val G σ i) ≡ length (val G σ x) = ap length (norm_val G W σ L i sat ∙ ap (val G σ) (sym ix)) in
              let c = below in
              omega arith

      pub down_done : Ended G L marks → Ended G L (set marks x Open)
      down_done d o h = go (cases_eq o x)
        where
          go : (o ≡ x) ⊎ (o ≡ x → ⊥) → (row : List ℕ) × Sols G L (G.kids o) row
          go (inl e) =
              let a : mark_at (set marks x Open) o ≡ Open = ap (mark_at (set marks x Open)) e ∙ get_or-set_same marks x Open New low in
              let z : ⊥ = cc in absurd z
          go (inr ne) = d o (sym (get_or-set_other marks x o Open New ne) ∙ h)

      pub down_no : (after : List Mark) (ps : List ℕ) → Fin G L (set marks x Open) after (G.kids x) false → Fin G L marks after (i ∷ ps) false
      down_no after ps F = record {
        fewer = omega (arith, F.fewer, sum_by-set newness marks x Open New low);
        opened = λ e. true_not e refl;
        done = λ e. true_not e refl;
        rows = λ e. true_not e refl;
        never = F.never;
      }

      pub down_past : (after : List Mark) → length after ≡ length marks → Fin G L (set marks x Open) after (G.kids x) true → Past marks (set after x Done) x
      down_past after len F = record {
        fewer = omega (arith, F.fewer, sum_by-set newness marks x Open New low, sum_by-set newness after x Done New (omega arith));
        opened = λ o h. was o h (cases_eq o x);
        done = λ o h. has o h (cases_eq o x);
        first = F.rows refl;
      }
        where
          here : mark_at (set after x Done) x ≡ Done
          here = let l : x < length after = omega arith in get_or-set_same after x Done New l

          was : (o : ℕ) → mark_at (set after x Done) o ≡ Open → (o ≡ x) ⊎ (o ≡ x → ⊥) → mark_at marks o ≡ Open
          was o h (inl e) =
              let a : mark_at (set after x Done) o ≡ Done = ap (mark_at (set after x Done)) e ∙ here in
              let z : ⊥ = cc in absurd z
          was o h (inr ne) = sym (get_or-set_other marks x o Open New ne) ∙ F.opened refl o (sym (get_or-set_other after x o Done New ne) ∙ h)

          has : (o : ℕ) → mark_at (set after x Done) o ≡ Done → (o ≡ x) ⊎ (o ≡ x → ⊥) → (row : List ℕ) × Sols G L (G.kids o) row
          has o h (inl e) = subst (λ m. (row : List ℕ) × Sols G L (G.kids m) row) (sym e) (F.rows refl)
          has o h (inr ne) = F.done refl o (sym (get_or-set_other after x o Done New ne) ∙ h)
