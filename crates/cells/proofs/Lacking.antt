-- Words whose variable a list lacks. Assumes nothing.
use Rattle.std.proofs.Common.{◌≡◌, ℕ, ◌+◌, ◌-◌, ◌<◌, ◌≤◌, not, true, false, leb, List, [], ◌∷◌, ◌++◌, length, get_or, take, sym, Some, None, ap, ◌∙◌, subst, ⊎_elim, arith}
use Rattle.std.proofs.lemmas.Bool.{and_parts, and_cases, leb-true, leb-false, cases_lt}
use Rattle.std.proofs.lemmas.List.Quantifiers.{position-Some}
use Rattle.std.proofs.lemmas.Grind.{common_steps}
use Rattle.std.proofs.lemmas.List.Sums.{prefix_len_passes}
use Rattle.std.specs.List.{position, position_or_len}
use Rattle.cells.specs.Cells.{cell, row}
use Rattle.cells.specs.Rows.{Stands}
use Rattle.cells.specs.Variables.{index, Listed, lacking, collect, variables}
use Rattle.cells.specs.Rules.{Each, FirstWithout}
use Rattle.cells.proofs.Listing.{stands_word, word_stands, variables_more, collect_symbol, collect_variable, include_old, include_new}

pub lacking_new : (us : List ℕ) (w : ℕ) → lacking us w ≡ true → (2147483648 ≤ w) × (length us ≤ index us (w - 2147483648))
lacking_new us w h =
    let p = and_parts (leb 2147483648 w) (leb (length us) (index us (w - 2147483648))) h in
    (leb-true 2147483648 w p.0, leb-true (length us) (index us (w - 2147483648)) p.1)

lacking_old : (us : List ℕ) (w : ℕ) → lacking us w ≡ false → 2147483648 ≤ w → Listed us (w - 2147483648)
lacking_old us w h big =
    ⊎_elim (λ a. absurd (omega (arith, leb-false 2147483648 w a))) (λ a. leb-false (length us) (index us (w - 2147483648)) a)
    (and_cases (leb 2147483648 w) (leb (length us) (index us (w - 2147483648))) h)

stands_listed : (us ws : List ℕ) (i u : ℕ) → lacking us (get_or ws i 0) ≡ false → Stands (row ws) i u → Listed us u
stands_listed us ws i u h s =
    let e = stands_word ws i u s in
    let same : get_or ws i 0 - 2147483648 ≡ u = omega arith in
    subst (Listed us) same (lacking_old us (get_or ws i 0) h (omega arith))

pub found_new : (us ws : List ℕ) (p : ℕ) → position (lacking us) ws ≡ Some p → FirstWithout (Listed us) (row ws) p
found_new us ws p e =
    let f = position-Some (lacking us) ws p 0 e in
    let (big, new) = lacking_new us (get_or ws p 0) f.1 in
    record { v = get_or ws p 0 - 2147483648; here = word_stands ws p _ f.0 (omega arith); lacks = λ l. omega arith; before = λ k u l s. stands_listed us ws k u (f.2 k l) s }

pub found_none : (us ws : List ℕ) → position (lacking us) ws ≡ None → Each (Listed us) (row ws)
found_none us ws e k v s =
    let l = (stands_word ws k v s).0 in
    let far : length ws ≤ position_or_len (lacking us) ws = grind (arith, common_steps) in
    let h = prefix_len_passes (λ w. not (lacking us w)) ws k 0 (omega arith) in
    stands_listed us ws k v (grind arith) s

-- The variables of one word more.
module _ (ws us : List ℕ) (i : ℕ) (l : i < length ws) (e : us ≡ variables (row (take i ws))) where
  next : variables (row (take (i + 1) ws)) ≡ collect us (cell (get_or ws i 0) ∷ [])
  next = variables_more ws i l ∙ ap (λ z. collect z (cell (get_or ws i 0) ∷ [])) (sym e)

  pub names_new : lacking us (get_or ws i 0) ≡ true → us ++ (get_or ws i 0 - 2147483648) ∷ [] ≡ variables (row (take (i + 1) ws))
  names_new h =
      let (big, new) = lacking_new us (get_or ws i 0) h in
      sym (next ∙ collect_variable us (get_or ws i 0) big ∙ include_new us (get_or ws i 0 - 2147483648) new)

  pub names_old : lacking us (get_or ws i 0) ≡ false → us ≡ variables (row (take (i + 1) ws))
  names_old h =
      sym (next ∙ ⊎_elim (λ small. collect_symbol us (get_or ws i 0) small) (λ big. collect_variable us (get_or ws i 0) big ∙ include_old us (get_or ws i 0 - 2147483648) (lacking_old us (get_or ws i 0) h big)) (cases_lt (get_or ws i 0) 2147483648))
