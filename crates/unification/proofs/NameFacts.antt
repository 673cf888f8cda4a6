-- Where a variable stands among those met. Assumes nothing.
use Rattle.std.proofs.Common.{◌≡◌, ℕ, ◌<◌, ◌==◌, cond, ltb, List, [], ◌∷◌, ◌++◌, length, Some, None, Option, refl, subst, arith}
use Rattle.std.proofs.lemmas.Bool.{ltb-true, ltb-false, cond_both}
use Rattle.std.specs.List.{position}
use Rattle.cells.proofs.Listing.{index_is, index_le, include_old, include_new}
use Rattle.cells.specs.Variables.{index, include}

-- what its place among those met says of a variable's number, and of the list that then has it
abbrev pub Says : List ℕ → ℕ → Option ℕ → Type 0
Says ms c None = (length ms ≡ index ms c) × (include ms c ≡ ms ++ c ∷ [])
Says ms c (Some i) = (i ≡ index ms c) × (i < length ms) × (include ms c ≡ ms)

pub place_says : (ms : List ℕ) (c : ℕ) → Says ms c (position (λ w. w == c) ms)
place_says ms c =
    subst (λ n. Says ms c (cond (ltb n (length ms)) (Some n) None)) (index_is ms c)
    (cond_both (ltb (index ms c) (length ms)) (Some (index ms c)) None (Says ms c)
    (λ e. let h = ltb-true _ _ e in (refl, h, include_old ms c h))
    (λ e. let h = ltb-false _ _ e in (omega (arith, index_le ms c), include_new ms c h)))
