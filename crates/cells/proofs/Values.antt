-- The laws of interpretations. Assumes nothing.
use Rattle.std.proofs.Common.{◌≡◌, ℕ, zero, suc, ◌+◌, List, [], ◌∷◌, ◌++◌, map, length, take, drop, sym, refl, ap, ◌∙◌, arith, length-drop}
use lib.ListN.{length-map}
use Rattle.std.specs.List.{AllByRecursion, flat_map}
use Rattle.std.proofs.lemmas.List.{take-append-le, drop-append-le, take_all}
use Rattle.cells.specs.Cells.{Cell, symbol, variable}
use Rattle.cells.specs.Rows.{Whole}
use Rattle.cells.specs.Substitutions.{Substitution, substitute}
use Rattle.cells.specs.Interpretations.{Interpretation, values, first, value, through, ValueLaws}
use Rattle.cells.proofs.Terms.{Terms, terms_reads}

module _ {V : Type 0} (i : Interpretation V) where
  -- n rows have n values
  length_values : (n : ℕ) (a : List Cell) → Terms n a → length (values i a) ≡ n
  length_values n [] p = sym p
  length_values zero (c ∷ a) p = absurd p
  length_values (suc n) (symbol k f ∷ a) p = let h = length_values (k + n) a p in let l = length-drop k (values i a) in omega arith
  length_values (suc n) (variable v ∷ a) p = let h = length_values (0 + n) a p in omega arith

  -- and those of what follows come after them
  values_append : (n : ℕ) (a b : List Cell) → Terms n a → values i (a ++ b) ≡ values i a ++ values i b
  values_append n [] b p = refl
  values_append zero (c ∷ a) b p = absurd p
  values_append (suc n) (symbol k f ∷ a) b p =
      let h = values_append (k + n) a b p in
      let l = length_values (k + n) a p in
      let t = take-append-le k (values i a) (values i b) (omega arith) in
      let d = drop-append-le k (values i a) (values i b) (omega arith) in
      λ j. i.symbols k f ((ap (take k) h ∙ t) j) ∷ (ap (drop k) h ∙ d) j
  values_append (suc n) (variable v ∷ a) b p = ap (λ z. i.variables v ∷ z) (values_append (0 + n) a b p)

  -- a whole row's value, and then those of what follows
  values_whole : (p b : List Cell) → Whole p → values i (p ++ b) ≡ value i p ∷ values i b
  values_whole p b w =
      let t = terms_reads 1 p w in
      values_append 1 p b t ∙ ap (λ z. z ++ values i b) (one (values i p) (length_values 1 p t))
    where
      one : (xs : List V) → length xs ≡ 1 → xs ≡ first (i.symbols 0 0 []) xs ∷ []
      one [] e = absurd (omega arith)
      one (x ∷ []) e = refl
      one (x ∷ y ∷ xs) e = absurd (omega arith)

  values_joined : (args : List (List Cell)) → AllByRecursion Whole args → values i (flat_map (λ a. a) args) ≡ map (value i) args
  values_joined [] w = refl
  values_joined (a ∷ args) w = values_whole a (flat_map (λ a. a) args) w.0 ∙ ap (λ z. value i a ∷ z) (values_joined args w.1)

  values_front : (a b c : List Cell) → values i b ≡ values i c → values i (a ++ b) ≡ values i (a ++ c)
  values_front [] b c e = e
  values_front (symbol k f ∷ a) b c e = ap (λ z. i.symbols k f (take k z) ∷ drop k z) (values_front a b c e)
  values_front (variable v ∷ a) b c e = ap (λ z. i.variables v ∷ z) (values_front a b c e)

  values_substitute : (σ : ℕ → List Cell) (cs : List Cell) → Substitution σ → values i (substitute σ cs) ≡ values (through i σ) cs
  values_substitute σ [] w = refl
  values_substitute σ (symbol k f ∷ cs) w = ap (λ z. i.symbols k f (take k z) ∷ drop k z) (values_substitute σ cs w)
  values_substitute σ (variable v ∷ cs) w = values_whole (σ v) (substitute σ cs) (w v) ∙ ap (λ z. value i (σ v) ∷ z) (values_substitute σ cs w)

  applied : (f : ℕ) (args : List (List Cell)) → AllByRecursion Whole args → value i (symbol (length args) f ∷ flat_map (λ a. a) args) ≡ i.symbols (length args) f (map (value i) args)
  applied f args w =
      let e = values_joined args w in
      ap (λ z. i.symbols (length args) f (take (length args) z)) e ∙ ap (i.symbols (length args) f) (take_all (length args) (map (value i) args) (simp length-map (omega arith)))

pub value_laws : {V : Type 0} → ValueLaws V
value_laws = record {
  single = λ i v. refl;
  applied = applied;
  substituted = λ i σ cs w. ap (first (i.symbols 0 0 [])) (values_substitute i σ cs w);
  spliced = λ i a p q b wp wq e. ap (first (i.symbols 0 0 [])) (values_front i a (p ++ b) (q ++ b) (values_whole i p b wp ∙ ap (λ z. z ∷ values i b) e ∙ sym (values_whole i q b wq)));
}
