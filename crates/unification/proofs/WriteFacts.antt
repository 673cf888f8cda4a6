-- The ways through one row that is written. Assumes nothing.
use Rattle.std.proofs.Common.{◌≡◌, ℕ, suc, ◌+◌, ◌<◌, ◌≤◌, Bool, true, false, cond, ltb, List, [], ◌∷◌, Ok, Err, Result, ◌++◌, length, sym, refl, ap, ◌∙◌, subst, ap₂, inl, inr, append_assoc, append-nil, le_refl, arith, length-append}
use Rattle.unification.specs.declared.form.Form.{Form}
use Rattle.unification.specs.declared.form.TooLarge.{TooLarge}
use Rattle.unification.specs.Graph.{Graph, Links, norm, Sols}
use Rattle.unification.specs.Graph.Sols.{none, more}
use Rattle.cells.specs.Variables.{index, include}
use Rattle.unification.specs.Number.{met, number, after, Over, RowWritten, Wrote}
use Rattle.unification.proofs.GraphLaws.{Laws}
use Rattle.unification.proofs.LinkFacts.{kids_none}
use Rattle.unification.proofs.SolFacts.{sols_unique}

module _ (is_v : ℕ → Bool) where
  pub after_append : (ms a b : List ℕ) → after is_v ms (a ++ b) ≡ after is_v (after is_v ms a) b
  after_append ms [] b = refl
  after_append ms (c ∷ a) b = after_append (met is_v ms c) a b

  pub number_append : (ms a b : List ℕ) → number is_v ms (a ++ b) ≡ number is_v ms a ++ number is_v (after is_v ms a) b
  number_append ms [] b = refl
  number_append ms (c ∷ a) b = ap {B = List ℕ} (λ r. cond (is_v c) (0x80000000 + index ms c) c ∷ r) (number_append (met is_v ms c) a b)

  pub number_length : (ms a : List ℕ) → length (number is_v ms a) ≡ length a
  number_length ms [] = refl
  number_length ms (c ∷ a) = ap suc (number_length (met is_v ms c) a)

  named_le : (ms : List ℕ) (c : ℕ) (b : Bool) → length ms ≤ length (cond b ms (ms ++ (c ∷ [])))
  named_le ms c true = le_refl (length ms)
  named_le ms c false = omega (arith, length-append ms (c ∷ []))

  met_le : (ms : List ℕ) (c : ℕ) (b : Bool) → length ms ≤ length (cond b (include ms c) ms)
  met_le ms c true = named_le ms c (ltb (index ms c) (length ms))
  met_le ms c false = le_refl (length ms)

  pub after_le : (ms a : List ℕ) → length ms ≤ length (after is_v ms a)
  after_le ms [] = le_refl (length ms)
  after_le ms (c ∷ a) = omega (arith, met_le ms c (is_v c), after_le (met is_v ms c) a)

module _ (G : Graph) (W : Laws G) (L : Links) where
  pub w_none : (form : Form) → Wrote G L [] form form (Ok tt)
  w_none form = record { row = []; sols = none; text = sym (append-nil form.cells.items); names = refl }

  module _ (i x : ℕ) (ix : x ≡ norm G L i) (old : Form) where
    -- what the first place gives: its cell and the rows of its arguments
    first_row : {ps row : List ℕ} → Sols G L (i ∷ ps) row → (a : List ℕ) × (b : List ℕ) × Sols G L (G.kids x) a × Sols G L ps b × (row ≡ G.cell x ∷ (a ++ b))
    first_row (more {a = a} {b = b} s t) =
        (a, b, subst (λ n. Sols G L (G.kids n) a) (sym ix) s, t, ap {B = List ℕ} (λ n. G.cell n ∷ (a ++ b)) (sym ix))

    pub w_names : (ps : List ℕ) (new : Form) (e : TooLarge) → G.is_v (G.cell x) ≡ true → 64 < length (include old.names.items (G.cell x)) → Wrote G L (i ∷ ps) old new (Err e)
    w_names ps new e v h row s =
        let ms = old.names.items in
        let r = first_row s in
        let m : met G.is_v ms (G.cell x) ≡ include ms (G.cell x) = ap (λ b. cond b (include ms (G.cell x)) ms) v in
        let l : 64 < length (met G.is_v ms (G.cell x)) = subst (λ n. 64 < length n) (sym m) h in
        let g = after_le G.is_v (met G.is_v ms (G.cell x)) (r.0 ++ r.1) in
        inr (subst (λ w. 64 < length (after G.is_v ms w)) (sym r.4) (omega arith))

    -- the first place's row is written
    pub record First (mid : Form) : Type 0 where
      pub row : List ℕ
      pub sols : Sols G L (G.kids x) row
      pub text : mid.cells.items ≡ old.cells.items ++ number G.is_v old.names.items (G.cell x ∷ row)
      pub names : mid.names.items ≡ after G.is_v old.names.items (G.cell x ∷ row)

    pub first_then : (ps : List ℕ) (mid new : Form) (r : Result (Unit {0}) TooLarge) → First mid → Wrote G L ps mid new r → Wrote G L (i ∷ ps) old new r
    first_then ps mid new (Ok u) F R =
        let ms = old.names.items in
        let out = old.cells.items in
        let a = F.row in
        let b = R.row in
        let c = G.cell x in
        record {
          row = G.cell (norm G L i) ∷ (a ++ b);
          sols = more {p = i} (subst (λ n. Sols G L (G.kids n) a) ix F.sols) R.sols;
          text =
              subst (λ n. new.cells.items ≡ out ++ number G.is_v ms (G.cell n ∷ (a ++ b))) ix
              (R.text ∙ ap₂ (λ u v. u ++ number G.is_v v b) F.text F.names
              ∙ append_assoc out (number G.is_v ms (c ∷ a)) (number G.is_v (after G.is_v ms (c ∷ a)) b)
              ∙ ap (λ u. out ++ u) (sym (number_append G.is_v ms (c ∷ a) b)));
          names = subst (λ n. new.names.items ≡ after G.is_v ms (G.cell n ∷ (a ++ b))) ix (R.names ∙ ap (λ v. after G.is_v v b) F.names ∙ sym (after_append G.is_v ms (c ∷ a) b));
        }
    first_then ps mid new (Err e) F R = λ row s.
        let t = first_row s in
        let a = F.row in
        let c = G.cell x in
        let ea : t.0 ≡ a = sols_unique G L t.2 F.sols in
        let er : row ≡ c ∷ (a ++ t.1) = t.4 ∙ ap {B = List ℕ} (λ u. c ∷ (u ++ t.1)) ea in
        subst (Over G.is_v old.cells.items old.names.items) (sym er) (widen a t.1 F.text F.names (R t.1 t.3))
      where
        widen : (a b : List ℕ) → mid.cells.items ≡ old.cells.items ++ number G.is_v old.names.items (G.cell x ∷ a) → mid.names.items ≡ after G.is_v old.names.items (G.cell x ∷ a)
            → Over G.is_v mid.cells.items mid.names.items b → Over G.is_v old.cells.items old.names.items (G.cell x ∷ (a ++ b))
        widen a b e f (inl h) =
            inl (omega (arith, ap length e, length-append old.cells.items (number G.is_v old.names.items (G.cell x ∷ a)), number_length G.is_v old.names.items (G.cell x ∷ a), length-append a b))
        widen a b e f (inr h) =
            inr (subst (λ w. 64 < length w) (ap (λ v. after G.is_v v b) f ∙ sym (after_append G.is_v old.names.items (G.cell x ∷ a) b)) h)

    -- a variable
    pub first_var : (mid : Form) (id : ℕ) → G.is_v (G.cell x) ≡ true → id ≡ index old.names.items (G.cell x) → mid.names.items ≡ include old.names.items (G.cell x)
        → mid.cells.items ≡ old.cells.items ++ (0x80000000 + id) ∷ [] → First mid
    first_var mid id v e m t = record {
      row = [];
      sols = subst (λ ks. Sols G L ks []) (sym (kids_none G W x v)) none;
      text = t ∙ ap (λ w. old.cells.items ++ (w ∷ [])) (ap (λ n. 0x80000000 + n) e ∙ ap (λ b. cond b (0x80000000 + index old.names.items (G.cell x)) (G.cell x)) (sym v));
      names = m ∙ ap (λ b. cond b (include old.names.items (G.cell x)) old.names.items) (sym v);
    }

    -- a symbol, with what its arguments gave
    module _ (one mid : Form) (s : G.is_v (G.cell x) ≡ false) (t : one.cells.items ≡ old.cells.items ++ G.cell x ∷ []) (m : one.names.items ≡ old.names.items) where
      same : met G.is_v old.names.items (G.cell x) ≡ one.names.items
      same = ap (λ b. cond b (include old.names.items (G.cell x)) old.names.items) s ∙ sym m

      pub first_sym : RowWritten G L (G.kids x) one mid → First mid
      first_sym R = record {
        row = R.row;
        sols = R.sols;
        text =
            R.text ∙ ap (λ w. w ++ number G.is_v one.names.items R.row) t
            ∙ append_assoc old.cells.items (G.cell x ∷ []) (number G.is_v one.names.items R.row)
            ∙ ap₂ (λ w z. old.cells.items ++ (w ∷ number G.is_v z R.row)) (ap (λ b. cond b (0x80000000 + index old.names.items (G.cell x)) (G.cell x)) (sym s)) (sym same);
        names = R.names ∙ ap (λ z. after G.is_v z R.row) (sym same);
      }

      pub w_down : (ps : List ℕ) (new : Form) (e e' : TooLarge) → Wrote G L (G.kids x) one mid (Err e) → Wrote G L (i ∷ ps) old new (Err e')
      w_down ps new e e' R row q = let t = first_row q in subst (Over G.is_v old.cells.items old.names.items) (sym t.4) (widen t.0 t.1 (R t.0 t.2))
        where
          widen : (a b : List ℕ) → Over G.is_v one.cells.items one.names.items a → Over G.is_v old.cells.items old.names.items (G.cell x ∷ (a ++ b))
          widen a b (inl l) = inl (omega (arith, ap length t, length-append old.cells.items (G.cell x ∷ []), length-append a b))
          widen a b (inr l) =
              let g = after_le G.is_v (after G.is_v one.names.items a) b in
              let e : after G.is_v (met G.is_v old.names.items (G.cell x)) (a ++ b) ≡ after G.is_v (after G.is_v one.names.items a) b =
              ap (λ z. after G.is_v z (a ++ b)) same ∙ after_append G.is_v one.names.items a b in
              inr (subst (λ w. 64 < length w) (sym e) (omega arith))
