-- One cell of a pattern against a row. Assumes nothing.
use Rattle.std.proofs.Common.{◌≡◌, ℕ, ◌+◌, ◌-◌, ◌<◌, ◌≤◌, Bool, true, false, ◌↔◌, List, [], ◌∷◌, ◌++◌, zero, suc, length, get_or, take, drop, Some, None, Option, eqb, Decides, sym, refl, ap, ◌∙◌, subst, ⊎_elim, append-nil, arith, take-append-drop}
use Rattle.std.specs.Bool.{then_some}
use Rattle.std.specs.List.{between}
use Rattle.std.proofs.lemmas.Bool.{false≢true, eq-eqb, ne_eqb, cases_eq, cases_lt}
use Rattle.std.proofs.lemmas.Grind.{common_steps}
use Rattle.std.proofs.lemmas.List.{drop_more, take-map, drop-map}
use Rattle.cells.specs.Cells.{Cell, cell, word, row, words}
use Rattle.cells.specs.Rows.{terms, Whole, Ends}
use Rattle.cells.specs.Substitutions.{Substitution, substitute}
use Rattle.cells.proofs.Words.{cell_symbol, cell_variable, word_cell, words_row}
use Rattle.cells.proofs.Terms.{row_laws}
use Rattle.substitution.specs.declared.bindings.Part.{Part}
use Rattle.substitution.specs.declared.bindings.Binding.{Binding}
use Rattle.substitution.specs.Bindings.{binding, lookup}
use Rattle.matching.specs.Extending.{part, Agrees, AllWhole}
use Rattle.matching.specs.Fronts.{Matched, FrontMatched}
use Rattle.matching.proofs.Longer.{longer_none, longer_one, whole_push, agrees_push}
use Rattle.matching.proofs.Fronting.{part_rest}

-- A part in words and in cells.

pub row_part : (source : List ℕ) (n i : ℕ) → take n (drop i (row source)) ≡ row (take n (drop i source))
row_part source n i = simp (drop-map cell, take-map cell)

pub same_parts : (x y : List ℕ) → row x ≡ row y → x ≡ y
same_parts x y e = sym (words_row x) ∙ ap words e ∙ words_row y

pub row_more : (source : List ℕ) (at : ℕ) → at < length source → drop at (row source) ≡ cell (get_or source at 0) ∷ drop (at + 1) (row source)
row_more source at l = drop-map cell at source ∙ ap row (drop_more source at 0 l) ∙ ap (λ z. cell (get_or source at 0) ∷ z) (sym (drop-map cell (at + 1) source))

-- a whole part has a cell
whole_after : (cs : List Cell) (at e : ℕ) → Whole (between at e cs) → at < e
whole_after cs at e w =
    ⊎_elim (λ l. l)
    (λ past. let z : e - at ≡ 0 = omega arith in absurd (false≢true (subst (λ n. terms 1 (take n (drop at cs)) ≡ true) z w)))
    (cases_lt at e)

-- what stands where a whole row begins, and what follows it
pub rest : (source : List ℕ) (at e : ℕ) → Ends source at (Some e) → (at < e) × (drop at (row source) ≡ between at e (row source) ++ drop e (row source))
rest source at e ends = let l = whole_after (row source) at e ends.1 in (l, part_rest (row source) at e (omega arith))

one_cell : (c d : Cell) (ds : List Cell) (k : ℕ) → c ∷ [] ≡ take k (d ∷ ds) → c ≡ d
one_cell c d ds zero e = cc
one_cell c d ds (suc k) e = cc

module _ (source : List ℕ) (b : List Binding) (w at : ℕ) where
  module _ (small : w < 2147483648) where
    same : (σ : ℕ → List Cell) → substitute σ (cell w ∷ []) ≡ cell w ∷ []
    same σ = simp (cell_symbol w small)

    matched : at < length source → get_or source at 0 ≡ w → FrontMatched source b (cell w ∷ []) at (Some (at + 1)) b
    matched l x =
        let z : at + 1 - at ≡ 1 = omega arith in
        let part : cell w ∷ [] ≡ between at (at + 1) (row source) = let e = row_more source at l in grind (arith, common_steps) in (
          longer_none b 1,
          record {
            order = omega arith;
            inside = λ i. omega arith;
            whole = λ a. a;
            exact = λ σ p. ((λ x. x.0), (λ a. (a, same σ ∙ part)));
            only = λ σ p a k x. same σ ∙ part;
          },
        )

    unmatched : at < length source → (get_or source at 0 ≡ w → ⊥) → FrontMatched source b (cell w ∷ []) at None b
    unmatched l n = (
      longer_none b 1,
      (λ σ p a k x.
          let c = one_cell (cell w) (cell (get_or source at 0)) (drop (at + 1) (row source)) k (sym (same σ) ∙ x ∙ ap (take k) (row_more source at l)) in
          n (sym (word_cell (get_or source at 0)) ∙ ap word (sym c) ∙ word_cell w)),
    )

    pub symbol_step : (x : ℕ) (o : Option ℕ) → at < length source → x ≡ get_or source at 0 → o ≡ then_some (eqb x w) (at + 1) → FrontMatched source b (cell w ∷ []) at o b
    symbol_step x o l e is =
        ⊎_elim (λ same. rw (is, eq-eqb x w same) (matched l (sym e ∙ same))) (λ other. rw (is, ne_eqb x w other) (unmatched l (λ h. other (e ∙ h)))) (cases_eq x w)

  module _ (big : 2147483648 ≤ w) where
    image : (σ : ℕ → List Cell) → substitute σ (cell w ∷ []) ≡ σ (w - 2147483648)
    image σ = ap (λ c. substitute σ (c ∷ [])) (cell_variable w big) ∙ append-nil (σ (w - 2147483648))

    pub none_step : (o : Option ℕ) → o ≡ None → Ends source at o → FrontMatched source b (cell w ∷ []) at o b
    none_step o is h = rw is (
      longer_none b 1,
      (λ σ p a k x.
          let none : Ends source at None = rw is at h in
          let z : at + k - at ≡ k = omega arith in
          none (at + k) (subst Whole (sym (image σ) ∙ x ∙ ap (λ n. take n (drop at (row source))) (sym z)) (p (w - 2147483648)))),
    )

    module _ (e : ℕ) (ends : Ends source at (Some e)) where
      -- what is put for the variable there can only be that part
      only_part : (σ : ℕ → List Cell) → Substitution σ → (k : ℕ) → substitute σ (cell w ∷ []) ≡ take k (drop at (row source)) → σ (w - 2147483648) ≡ between at e (row source)
      only_part σ p k x =
          let here = drop at (row source) in
          let o = ap (λ z. z ++ drop k here) (sym (image σ) ∙ x) ∙ take-append-drop k here ∙ (rest source at e ends).1 in
          (row_laws.front (σ (w - 2147483648)) (between at e (row source)) (drop k here) (drop e (row source)) (p (w - 2147483648)) ends.1 o).0

      variable_matched : (b' : List Binding) → (AllWhole source b → AllWhole source b')
          → ((σ : ℕ → List Cell) → (Agrees source b σ × (σ (w - 2147483648) ≡ between at e (row source))) ↔ Agrees source b' σ) → Matched source b (cell w ∷ []) at e b'
      variable_matched b' whole h =
          let l = (rest source at e ends).0 in
          record {
            order = omega arith;
            inside = λ i. ends.0;
            whole = whole;
            exact = λ σ p. ((λ x. (h σ).0 (x.0, sym (image σ) ∙ x.1)), (λ a. let y = (h σ).1 a in (y.0, image σ ∙ y.1)));
            only = λ σ p a k x. image σ ∙ only_part σ p k x;
          }

      -- the variable is bound to a part
      module _ (q : Part) (found : lookup b w ≡ Some q) where
        bound : (σ : ℕ → List Cell) → Agrees source b σ → σ (w - 2147483648) ≡ part source q
        bound σ a = let z : 2147483648 + (w - 2147483648) ≡ w = omega arith in a (w - 2147483648) q (ap (lookup b) z ∙ found)

        pub bound_step : (r : Bool) → Decides r (take q.len (drop q.at source) ≡ between at e source) → FrontMatched source b (cell w ∷ []) at (then_some r e) b
        bound_step true d =
            let same : part source q ≡ between at e (row source) = row_part source q.len q.at ∙ ap row (d.0 refl) ∙ sym (row_part source (e - at) at) in
            (longer_none b 1, variable_matched b (λ a. a) (λ σ. ((λ h. h.0), (λ a. (a, bound σ a ∙ same)))))
        bound_step false d = (
          longer_none b 1,
          (λ σ p a k x.
              let same = sym (bound σ a) ∙ only_part σ p k x in
              false≢true (d.1 (same_parts _ _ (sym (row_part source q.len q.at) ∙ same ∙ row_part source (e - at) at)))),
        )

      -- it is not, and is bound to that part
      pub free_step : (o : Option ℕ) (b' : List Binding) → lookup b w ≡ None → o ≡ Some e → b' ≡ b ++ binding w (record { at = at; len = e - at }) ∷ [] → FrontMatched source b (cell w ∷ []) at o b'
      free_step o b' none is new =
          let q : Part = record { at = at; len = e - at } in
          rw (is, new) (longer_one b (binding w q), variable_matched (b ++ binding w q ∷ []) (whole_push source b w q none ends.1) (agrees_push source b w q none big))

-- what one cell of a pattern answers
pub ruleset steps = (symbol_step, none_step, free_step)
