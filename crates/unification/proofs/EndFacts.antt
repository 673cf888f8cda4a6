-- Where the row at a place of a memory ends, in the words of the cells layer. Assumes nothing.
use Rattle.std.proofs.Common.{◌≡◌, ℕ, zero, suc, ◌+◌, ◌-◌, ◌<◌, ◌≤◌, true, List, [], ◌∷◌, length, get_or, take, drop, Some, None, Option, sym, refl, ap, ◌∙◌, subst, arith, length-take, length-drop, take-append-drop}
use lib.ListN.{length-map}
use Rattle.std.proofs.lemmas.Bool.{false≢true}
use Rattle.std.proofs.lemmas.List.{drop-map, take-map}
use Rattle.cells.specs.Cells.{arity, cell, row}
use Rattle.cells.specs.Rows.{terms, Whole, Ends}
use Rattle.cells.proofs.Terms.{row_laws}
use Rattle.unification.specs.Memory.{Has, need, size}
use Rattle.unification.proofs.DownFacts.{need_arity}

-- words of 32 bits
abbrev pub Small : List ℕ → Type 0
Small ws = (i : ℕ) → get_or ws i 0 < 0x100000000

has_terms : (ws : List ℕ) (n : ℕ) → Small ws → Has n ws → terms n (row (take (size n ws) ws)) ≡ true
has_terms [] zero f h = refl
has_terms [] (suc n) f h = absurd (false≢true h)
has_terms (c ∷ cs) zero f h = refl
has_terms (c ∷ cs) (suc n) f h =
    let e : n + need c ≡ arity (cell c) + n = omega (arith, need_arity c (f 0)) in
    subst (λ m. terms m (row (take (size (n + need c) cs) cs)) ≡ true) e (has_terms cs (n + need c) (λ i. f (suc i)) h)

size_within : (ws : List ℕ) (n : ℕ) → size n ws ≤ length ws
size_within [] n = omega arith
size_within (c ∷ cs) zero = omega arith
size_within (c ∷ cs) (suc n) = omega (arith, size_within cs (n + need c))

pub end_within : (ws : List ℕ) (at : ℕ) → at < length ws → at + size 1 (drop at ws) ≤ length ws
end_within ws at h = omega (arith, size_within (drop at ws) 1, length-drop at ws)

size_some : (ws : List ℕ) → Has 1 ws → 0 < size 1 ws
size_some [] h = absurd (false≢true h)
size_some (c ∷ cs) h = omega arith

module _ (ws : List ℕ) (at : ℕ) (f : (i : ℕ) → get_or (drop at ws) i 0 < 0x100000000) (low : at < length ws) (h : Has 1 (drop at ws)) where
  front : Whole (take (size 1 (drop at ws)) (drop at (row ws)))
  front = subst Whole (sym (take-map cell (size 1 (drop at ws)) (drop at ws)) ∙ ap (take (size 1 (drop at ws))) (sym (drop-map cell at ws))) (has_terms (drop at ws) 1 f h)

  pub ended : (r : Option ℕ) → Ends ws at r → r ≡ Some (at + size 1 (drop at ws))
  ended None e =
      let z : size 1 (drop at ws) ≡ at + size 1 (drop at ws) - at = omega arith in
      absurd (e (at + size 1 (drop at ws)) (subst (λ k. Whole (take k (drop at (row ws)))) z front))
  ended (Some e) (within, whole) =
      let d = drop at (row ws) in
      let m = size 1 (drop at ws) in
      let same = (row_laws.front (take (e - at) d) (take m d) (drop (e - at) d) (drop m d) whole front (take-append-drop (e - at) d ∙ sym (take-append-drop m d))).0 in
      let long : length d ≡ length ws - at = length-drop at (row ws) ∙ ap (λ n. n - at) (length-map ws cell) in
      let few = size_within (drop at ws) 1 in
      ap Some (omega (arith, ap length same, length-take (e - at) d, length-take m d, size_some (drop at ws) h, length-drop at ws))
