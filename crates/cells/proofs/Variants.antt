-- Variants and numbered forms. Assumes nothing.
use Rattle.std.proofs.Common.{◌≡◌, ℕ, suc, ◌≤◌, cond, eqb, List, [], ◌∷◌, ◌++◌, map, length, sym, refl, ap, ◌∙◌, subst, ⊎_elim, arith}
use Rattle.std.specs.List.{AllByRecursion}
use Rattle.std.proofs.lemmas.List.{length-map, map_push}
use Rattle.std.proofs.ByRecursion.{All-push}
use Rattle.cells.specs.Cells.{Cell, symbol, variable}
use Rattle.cells.specs.Rows.{Occurs}
use Rattle.cells.specs.Substitutions.{rename}
use Rattle.cells.specs.Variables.{index, Listed, include, collect, variables, normalized, Exchange, Variant, VariableLaws}
use Rattle.cells.proofs.Listing.{index_append, index_push, listed_push, by_include, occurs_listed, listed_occurs}
use Rattle.cells.proofs.Renamed.{rename_agree, rename_twice, rename_same}

-- Renaming one to one: π takes the variables of the row back.

abbrev Back : (ℕ → ℕ) → (ℕ → ℕ) → ℕ → Type 0
Back ρ π v = π (ρ v) ≡ v

module _ (ρ π : ℕ → ℕ) where
  pub index_map : (us : List ℕ) (v : ℕ) → AllByRecursion (Back ρ π) us → Back ρ π v → index (map ρ us) (ρ v) ≡ index us v
  index_map [] v all b = refl
  index_map (u ∷ us) v all b = let a = all.0 in let r = index_map us v all.1 b in grind arith

  include_map : (us : List ℕ) (v : ℕ) → AllByRecursion (Back ρ π) us → Back ρ π v → include (map ρ us) (ρ v) ≡ map ρ (include us v)
  include_map us v all b = let i = index_map us v all b in let l = length-map us ρ in let m = map_push ρ us v in grind arith

  include_back : (us : List ℕ) (v : ℕ) → AllByRecursion (Back ρ π) us → Back ρ π v → AllByRecursion (Back ρ π) (include us v)
  include_back us v all b = by_include us v (AllByRecursion (Back ρ π)) (λ old. all) (λ new. All-push (Back ρ π) us v all b)

  collect_map : (us : List ℕ) (cs : List Cell) → AllByRecursion (Back ρ π) us → ((v : ℕ) → Occurs cs v → Back ρ π v)
      → (collect (map ρ us) (rename ρ cs) ≡ map ρ (collect us cs)) × AllByRecursion (Back ρ π) (collect us cs)
  collect_map us [] all h = (refl, all)
  collect_map us (symbol k f ∷ cs) all h = collect_map us cs all (λ v o. h v (suc o.0, o.1))
  collect_map us (variable v ∷ cs) all h =
      let b = h v (0, refl) in
      let r = collect_map (include us v) cs (include_back us v all b) (λ u o. h u (suc o.0, o.1)) in
      (ap (λ z. collect z (rename ρ cs)) (include_map us v all b) ∙ r.0, r.1)

  pub variables_rename : (cs : List Cell) → ((v : ℕ) → Occurs cs v → Back ρ π v) → variables (rename ρ cs) ≡ map ρ (variables cs)
  variables_rename cs h = (collect_map [] cs tt h).0

  pub normalized_rename : (cs : List Cell) → ((v : ℕ) → Occurs cs v → Back ρ π v) → normalized (rename ρ cs) ≡ normalized cs
  normalized_rename cs h =
      ap (λ us. rename (index us) (rename ρ cs)) (variables_rename cs h)
      ∙ rename_twice ρ (index (map ρ (variables cs))) cs
      ∙ rename_agree (λ v. index (map ρ (variables cs)) (ρ v)) (index (variables cs)) cs (λ v o. index_map (variables cs) v (collect_map [] cs tt h).1 (h v o))

-- Variants.

abbrev swap : ℕ → ℕ → ℕ → ℕ
swap a b x = cond (eqb x a) b (cond (eqb x b) a x)

swap_twice : (a b x : ℕ) → swap a b (swap a b x) ≡ x
swap_twice a b x = grind arith

-- an exchange of each variable of the list for its place
record Numbering (us : List ℕ) : Type 0 where
  ρ : ℕ → ℕ
  π : ℕ → ℕ
  exchange : Exchange ρ π
  places : (v : ℕ) → Listed us v → π v ≡ index us v

-- the new variable is exchanged for the next place, where another stood
numbering_push : (us : List ℕ) (v : ℕ) → length us ≤ index us v → Numbering us → Numbering (us ++ v ∷ [])
numbering_push us v new b =
    let to = swap (length us) (b.π v) in
    let e = b.exchange in
    record {
      ρ = λ x. b.ρ (to x);
      π = λ x. to (b.π x);
      exchange = record {
        there = λ x. ap to (e.there (to x)) ∙ swap_twice (length us) (b.π v) x;
        back = λ x. ap b.ρ (swap_twice (length us) (b.π v) (b.π x)) ∙ e.back x;
      };
      places = λ w l. ⊎_elim
          (λ old.
          let p = b.places w old in
          let i = index_append us (v ∷ []) w old in
          let other : b.π w ≡ b.π v → ⊥ = λ q. let same : w ≡ v = sym (e.back w) ∙ ap b.ρ q ∙ e.back v in omega (arith, ap (index us) same) in
          grind arith)
          (λ same. let i = index_push us v new in rw (← same) (grind arith))
          (listed_push us v w l);
    }

numbering_collect : (us : List ℕ) (cs : List Cell) → Numbering us → Numbering (collect us cs)
numbering_collect us [] b = b
numbering_collect us (symbol k f ∷ cs) b = numbering_collect us cs b
numbering_collect us (variable v ∷ cs) b = numbering_collect (include us v) cs (by_include us v Numbering (λ old. b) (λ new. numbering_push us v new b))

numbering : (cs : List Cell) → Numbering (variables cs)
numbering cs = numbering_collect [] cs (record { ρ = λ v. v; π = λ v. v; exchange = record { there = λ v. refl; back = λ v. refl }; places = λ v h. absurd (omega arith) })

variant : (s : List Cell) → Variant s (normalized s)
variant s =
    let b = numbering s in (
      b.ρ,
      b.π,
      b.exchange,
      rename_twice (index (variables s)) b.ρ s
          ∙ rename_same (λ v. b.ρ (index (variables s) v)) s (λ v o. ap b.ρ (sym (b.places v (occurs_listed s v o))) ∙ b.exchange.back v),
    )

flip : (s t : List Cell) → Variant s t → Variant t s
flip s t h = (
  h.1,
  h.0,
  record { there = h.2.back; back = h.2.there },
  ap (rename h.1) (sym h.3) ∙ rename_twice h.0 h.1 t ∙ rename_same (λ v. h.1 (h.0 v)) t (λ v o. h.2.there v),
)

chain : (r s t : List Cell) → Variant r s → Variant s t → Variant r t
chain r s t a b = (
  λ v. a.0 (b.0 v),
  λ v. b.1 (a.1 v),
  record {
    there = λ v. ap b.1 (a.2.there (b.0 v)) ∙ b.2.there v;
    back = λ v. ap a.0 (b.2.back (a.1 v)) ∙ a.2.back v;
  },
  sym (rename_twice b.0 a.0 t) ∙ ap (rename a.0) b.3 ∙ a.3,
)

same_form : (s t : List Cell) → Variant s t → normalized s ≡ normalized t
same_form s t h = ap normalized (sym h.3) ∙ normalized_rename h.0 h.1 t (λ v o. h.2.there v)

pub variable_laws : VariableLaws
variable_laws = record {
  listed = λ cs v. (occurs_listed cs v, listed_occurs cs v);
  same = λ s t. (same_form s t, λ e. chain s (normalized s) t (variant s) (subst (λ x. Variant x t) (sym e) (flip t (normalized t) (variant t))));
  variant = variant;
  again = λ s. sym (same_form s (normalized s) (variant s));
}
