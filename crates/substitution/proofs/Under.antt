-- The pieces of a row under bindings. Assumes nothing.
use Rattle.std.proofs.Common.{◌≡◌, ℕ, ◌+◌, ◌-◌, ◌<◌, ◌≤◌, List, [], ◌∷◌, ◌++◌, length, get_or, take, drop, sym, refl, ap, ◌∙◌, append-nil, arith, length-append, take-append-drop}
use mathlib.Core.List.{map-append}
use borrow.Rule.Slice.PartMut.{put_mid}
use Rattle.std.proofs.lemmas.Grind.{common_steps}
use Rattle.std.proofs.lemmas.List.{take_more, take-map, drop-map}
use Rattle.substitution.specs.declared.bindings.Binding.{Binding}
use Rattle.cells.specs.Cells.{cell, row, words}
use Rattle.cells.proofs.Words.{cell_variable, words_row}
use Rattle.cells.proofs.Substituting.{substitute_append}
use Rattle.substitution.specs.Bindings.{under}

-- a part of a row, in words
pub words_part : (source : List ℕ) (n at : ℕ) → words (take n (drop at (row source))) ≡ take n (drop at source)
words_part source n at = simp (drop-map cell, take-map cell, words_row)

module _ (source : List ℕ) (b : List Binding) where
  under_append : (x y : List ℕ) → under source b (x ++ y) ≡ under source b x ++ under source b y
  under_append x y = simp (map-append, substitute_append)

  -- one more piece
  pub under_more : (x : List ℕ) (i j : ℕ) → j ≡ i + 1 → i < length x → under source b (take j x) ≡ under source b (take i x) ++ under source b (get_or x i 0 ∷ [])
  under_more x i j e l = rw e (rw (take_more x i 0 l) (under_append (take i x) (get_or x i 0 ∷ [])))

  pub length_under_more : (x : List ℕ) (i j : ℕ) → j ≡ i + 1 → i < length x → length (under source b (take j x)) ≡ length (under source b (take i x)) + length (under source b (get_or x i 0 ∷ []))
  length_under_more x i j e l = rw (under_more x i j e l) (length-append (under source b (take i x)) (under source b (get_or x i 0 ∷ [])))

  -- the pieces up to position i are no longer than the whole
  pub under_fits : (x : List ℕ) (i : ℕ) → i < length x → length (under source b (take i x)) + length (under source b (get_or x i 0 ∷ [])) ≤ length (under source b x)
  under_fits x i l =
      let j = i + 1 in
      let whole = under_append (take j x) (drop j x) in
      let more = under_more x i j refl l in
      let same = take-append-drop j x in
      grind (arith, length-append)

-- one more piece behind what is written
pub written_more : (front piece out : List ℕ) (n k : ℕ) → n ≡ length front → k ≡ length piece → put_mid n (n + k - n) (front ++ drop n out) piece ≡ (front ++ piece) ++ drop (n + k) out
written_more front piece out n k e f = grind (arith, common_steps)

-- what is put for a variable
pub ruleset parts = (append-nil, cell_variable, words_part)

-- what a loop over a pattern has of it
pub ruleset pieces = (under_more, length_under_more, under_fits, written_more)
