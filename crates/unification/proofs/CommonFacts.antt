-- The common form of rows of cells, from the most general replacement of words. Assumes nothing.
use Rattle.std.proofs.Common.{◌≡◌, ℕ, suc, ◌+◌, ◌<◌, true, cond, List, [], ◌∷◌, ◌++◌, map, length, sym, refl, ap, ◌∙◌, subst, ap₂, inl, inr}
use Rattle.std.proofs.lemmas.Nat.{div-add-mod'}
use Rattle.std.proofs.lemmas.List.{map-append, length-map}
use Rattle.cells.specs.Cells.{Cell, word, words}
use Rattle.cells.specs.Substitutions.{substitute, rename}
use Rattle.cells.specs.Variables.{index, include, collect, variables, normalized, Variant}
use Rattle.cells.proofs.Listing.{index_collect, index_include, listed_include}
use Rattle.cells.proofs.Variants.{variables_rename, variable_laws}
use Rattle.matching.specs.Relations.{General, Common}
use Rattle.matching.proofs.Relating.{relation_laws}
use Rattle.unification.specs.Codes.{is_var, code, tagged}
use Rattle.unification.specs.Memory.{need}
use Rattle.unification.specs.Rows.{Wholes, image, put, WholeAt}
use Rattle.unification.specs.Number.{number, after, met}
use Rattle.unification.proofs.MemFacts.{low_var}
use Rattle.unification.proofs.CodeFacts.{cell_of, Low, Plain, AllPlain, cell_of_variable, cell_of_symbol, cells_codes}
use Rattle.unification.proofs.BridgeFacts.{bound_var, wholes_whole, joint, joint_whole, left_general, right_general, left_put, right_put, bound}

-- what a replacement makes of a plain row, read as cells
plain_put : (τ : ℕ → List ℕ) (R : List ℕ) → AllPlain R → substitute (λ v. map cell_of (τ v)) (map cell_of R) ≡ map cell_of (put bound τ R)
plain_put τ [] h = refl
plain_put τ (w ∷ R) h = one h.0 (plain_put τ R h.1)
  where
    one : Plain w → substitute (λ v. map cell_of (τ v)) (map cell_of R) ≡ map cell_of (put bound τ R)
        → substitute (λ v. map cell_of (τ v)) (cell_of w ∷ map cell_of R) ≡ map cell_of (image bound τ w ++ put bound τ R)
    one (inl v) r =
        ap (λ c. substitute (λ v. map cell_of (τ v)) (c ∷ map cell_of R)) (cell_of_variable w v)
        ∙ ap (λ x. map cell_of (τ w) ++ x) r
        ∙ sym (map-append cell_of (τ w) (put bound τ R))
        ∙ ap (λ b. map cell_of (cond b (τ w) (w ∷ []) ++ put bound τ R)) (sym (bound_var w ∙ v))
    one (inr l) r =
        ap (λ c. substitute (λ v. map cell_of (τ v)) (c ∷ map cell_of R)) (cell_of_symbol w l)
        ∙ ap₂ {C = List Cell} (λ c x. c ∷ x) (sym (cell_of_symbol w l)) r
        ∙ ap (λ b. map cell_of (cond b (τ w) (w ∷ []) ++ put bound τ R)) (sym (bound_var w ∙ low_var w l))

-- the numbered words of a plain row are those of its numbered form
met_variable : (us : List ℕ) (w : ℕ) → is_var w ≡ true → met bound us w ≡ include us w
met_variable us w v = ap (λ b. cond b (include us w) us) (bound_var w ∙ v)

met_symbol : (us : List ℕ) (w : ℕ) → w < 0x80000000 → met bound us w ≡ us
met_symbol us w l = ap (λ b. cond b (include us w) us) (bound_var w ∙ low_var w l)

pub after_collect : (us R : List ℕ) → AllPlain R → after bound us R ≡ collect us (map cell_of R)
after_collect us [] h = refl
after_collect us (w ∷ R) h = one (λ us. after_collect us R h.1) h.0
  where
    one : ((us : List ℕ) → after bound us R ≡ collect us (map cell_of R)) → Plain w → after bound (met bound us w) R ≡ collect us (cell_of w ∷ map cell_of R)
    one rec (inl v) =
        ap (λ x. after bound x R) (met_variable us w v) ∙ rec (include us w) ∙ ap (λ c. collect us (c ∷ map cell_of R)) (sym (cell_of_variable w v))
    one rec (inr l) =
        ap (λ x. after bound x R) (met_symbol us w l) ∙ rec us ∙ ap (λ c. collect us (c ∷ map cell_of R)) (sym (cell_of_symbol w l))

number_words : (us R : List ℕ) → AllPlain R → number bound us R ≡ words (rename (index (collect us (map cell_of R))) (map cell_of R))
number_words us [] h = refl
number_words us (w ∷ R) h = one (λ us. number_words us R h.1) h.0
  where
    one : ((us : List ℕ) → number bound us R ≡ words (rename (index (collect us (map cell_of R))) (map cell_of R))) → Plain w → number bound us (w ∷ R) ≡ words (rename (index (collect us (cell_of w ∷ map cell_of R))) (cell_of w ∷ map cell_of R))
    one rec (inl v) =
        let U = collect (include us w) (map cell_of R) in
        let i : index us w ≡ index U w = sym (index_include us w) ∙ sym (index_collect (include us w) (map cell_of R) w (listed_include us w)) in
        ap₂ {C = List ℕ} (λ b x. cond b (0x80000000 + index us w) w ∷ number bound x R) (bound_var w ∙ v) (met_variable us w v)
        ∙ ap₂ {C = List ℕ} (λ n x. (0x80000000 + n) ∷ x) i (rec (include us w))
        ∙ ap (λ c. words (rename (index (collect us (c ∷ map cell_of R))) (c ∷ map cell_of R))) (sym (cell_of_variable w v))
    one rec (inr l) =
        ap₂ {C = List ℕ} (λ b x. cond b (0x80000000 + index us w) w ∷ number bound x R) (bound_var w ∙ low_var w l) (met_symbol us w l)
        ∙ ap₂ {C = List ℕ} (λ n x. n ∷ x) (sym (div-add-mod' w 65536)) (rec us)
        ∙ ap (λ c. words (rename (index (collect us (c ∷ map cell_of R))) (c ∷ map cell_of R))) (sym (cell_of_symbol w l))

pub form_of : List ℕ → List Cell
form_of R = normalized (map cell_of R)

pub form_words : (R : List ℕ) → AllPlain R → number bound [] R ≡ words (form_of R)
unfolding form_of
form_words R h = number_words [] R h

pub form_length : (R : List ℕ) → AllPlain R → length R ≡ length (form_of R)
form_length R h = sym (number_length [] R) ∙ ap length (form_words R h) ∙ length-map (form_of R) word
  where
    number_length : (us R : List ℕ) → length (number bound us R) ≡ length R
    number_length us [] = refl
    number_length us (w ∷ R) = ap suc (number_length (met bound us w) R)

variant_variables : (s t : List Cell) → Variant s t → length (variables s) ≡ length (variables t)
variant_variables s t (ρ, π, x, e) =
    ap (λ c. length (variables c)) (sym e) ∙ ap length (variables_rename ρ π t (λ v o. x.there v)) ∙ length-map (variables t) ρ

pub form_variables : (R : List ℕ) → AllPlain R → length (after bound [] R) ≡ length (variables (form_of R))
unfolding form_of
form_variables R h = ap length (after_collect [] R h) ∙ variant_variables (map cell_of R) (normalized (map cell_of R)) (variable_laws.variant (map cell_of R))

module _ (s t : List Cell) (p : Low s) (q : Low t) (σ : ℕ → List ℕ) (w : WholeAt bound need σ)
    (same : put bound σ (map (tagged 0x90000000) s) ≡ put bound σ (map (tagged 0x80000000) t))
    (general : (τ : ℕ → List ℕ) → WholeAt bound need τ → put bound τ (map (tagged 0x90000000) s) ≡ put bound τ (map (tagged 0x80000000) t)
    → put bound τ (put bound σ (map (tagged 0x90000000) s)) ≡ put bound τ (map (tagged 0x90000000) s))
    (plain : AllPlain (put bound σ (map (tagged 0x90000000) s))) where
  pub form_common : Common s t (form_of (put bound σ (map (tagged 0x90000000) s)))
  unfolding form_of
  form_common = record {
    left = chain s both (normalized both) (left_general s t p q σ w) ways.0;
    right = chain t both (normalized both) (subst (λ x. General t (map cell_of x)) (sym same) (right_general s t p q σ w)) ways.0;
    most = λ d a b. chain (normalized both) both d ways.1 (most d a b);
    numbered = variable_laws.again both;
  }
    where
      both : List Cell
      both = map cell_of (put bound σ (map (tagged 0x90000000) s))

      chain : (a b c : List Cell) → General a b → General b c → General a c
      chain a b c g h = relation_laws.instance_below c a b g h

      ways : General both (normalized both) × General (normalized both) both
      ways = (relation_laws.mutual_variants both (normalized both)).0 (variable_laws.variant both)

      most : (d : List Cell) → General s d → General t d → General both d
      most d (α, a) (β, b) =
          let τ = joint α β in
          let k : (c : ℕ) → Wholes need 1 (τ c) = joint_whole α β a.whole b.whole in
          let l = left_put s t p q α β ∙ ap (map code) a.makes in
          let r = right_put s t p q α β ∙ ap (map code) b.makes in (
            λ v. map cell_of (τ v),
            record {
              whole = λ v. wholes_whole (τ v) (k v);
              makes = plain_put τ (put bound σ (map (tagged 0x90000000) s)) plain ∙ ap (map cell_of) (general τ (λ c e. k c) (l ∙ sym r) ∙ l) ∙ cells_codes d;
            },
          )
