-- Where what is put for a pattern's variable stands in the row that it becomes. Assumes nothing.
use Rattle.std.proofs.Common.{◌≡◌, ℕ, ◌+◌, ◌-◌, ◌<◌, ◌≤◌, List, [], ◌∷◌, ◌++◌, length, take, drop, Some, None, Option, eqb, get_or, sym, refl, ⊎_elim, ap, ◌∙◌, subst, arith, length-append, length-take, length-drop, take-append-drop}
use lib.ListN.{length-map}
use Rattle.std.specs.List.{between, AllWithin, HoldsAt}
use Rattle.std.specs.Bool.{then_some}
use Rattle.std.specs.Option.{IsSome, MatchOption}
use Rattle.std.proofs.lemmas.Bool.{cases_lt}
use Rattle.std.proofs.lemmas.List.{drop_more, get_or_past}
use Rattle.cells.specs.Cells.{Cell, symbol, variable, cell, row}
use Rattle.cells.specs.Rows.{Whole, Stands, Occurs, Ends}
use Rattle.cells.specs.Substitutions.{substitute}
use Rattle.cells.proofs.Listing.{stands_word, word_stands}
use Rattle.cells.proofs.Words.{cell_symbol}
use Rattle.cells.proofs.Terms.{row_laws}
use Rattle.cells.proofs.Substituting.{substitute_append}
use Rattle.matching.specs.Relations.{Turns, General}
use Rattle.matching.specs.Walking.{Passed, Reached}
use Rattle.matching.specs.Bound.{First, BoundAt}
use Rattle.matching.proofs.Fronting.{front_of, taken}
use Rattle.matching.proofs.Stepping.{rest, row_part, row_more, symbol_step, none_step, free_step}
use Rattle.matching.proofs.Generality.{nothing}
use Rattle.matching.proofs.Longer.{longer_none}

-- the first place of a variable, by the words
pub first_by : (ps : List ℕ) (v : ℕ) (o : Option ℕ)
    → MatchOption o (AllWithin (λ w. w ≡ 2147483648 + v → ⊥) ps 0 (length ps)) (λ k. (k < length ps) × HoldsAt (λ w. w ≡ 2147483648 + v) ps k × AllWithin (λ w. w ≡ 2147483648 + v → ⊥) ps 0 k)
    → MatchOption o (Occurs (row ps) v → ⊥) (λ k. First (row ps) v k)
first_by ps v None h = λ (k, e). let x = stands_word ps k v e in h k 0 (omega arith) x.0 x.1
first_by ps v (Some k) (l, here, before) = record { here = word_stands ps k v l (here 0); before = λ j l e. before j 0 (omega arith) l (stands_word ps j v e).1 }

-- what is put for the cells before k, and for the others
parts : (s t : List Cell) (k : ℕ) (σ : ℕ → List Cell) → Turns σ s t → substitute σ (take k s) ++ substitute σ (drop k s) ≡ t
parts s t k σ h = sym (substitute_append σ (take k s) (drop k s)) ∙ ap (substitute σ) (take-append-drop k s) ∙ h.makes

-- a cell matched with no bindings at hand
module _ (target : List ℕ) (w at : ℕ) where
  pub pass_symbol : (x : ℕ) (o : Option ℕ) → w < 2147483648 → at < length target → x ≡ get_or target at 0 → o ≡ then_some (eqb x w) (at + 1) → Passed target (cell w) at o
  pass_symbol x o small l e is = ([], symbol_step target [] w at small x o l e is)

  pub pass_past : (o : Option ℕ) → w < 2147483648 → length target ≤ at → o ≡ None → Passed target (cell w) at o
  pass_past o small l is = rw is (
    [],
    (
      longer_none [] 1,
      (λ σ p a k x.
          let same : substitute σ (cell w ∷ []) ≡ cell w ∷ [] = simp (cell_symbol w small) in
          let one : 1 ≡ length (take k (drop at (row target))) = ap length (sym same ∙ x) in
          omega (arith, one, length-take k (drop at (row target)), length-drop at (row target), length-map target cell)),
    ),
  )

  pub pass_variable : 2147483648 ≤ w → (o : Option ℕ) → Ends target at o → Passed target (cell w) at o
  pass_variable big None ends = ([], none_step target [] w at big None refl ends)
  pass_variable big (Some e) ends = (_, free_step target [] w at big e ends (Some e) _ refl refl refl)

-- what one cell of a pattern passes
pub ruleset passing = (pass_symbol, pass_past, pass_variable)

-- the pattern's cell at k is passed
module _ (ps target : List ℕ) (k at : ℕ) (low : k < length ps) (r : Reached (row ps) target k at) where
  abbrev first : List Cell
  first = cell (get_or ps k 0) ∷ []

  step : (σ : ℕ → List Cell) → Turns σ (row ps) (row target) → substitute σ first ++ substitute σ (drop (k + 1) (row ps)) ≡ drop at (row target)
  step σ t = sym (substitute_append σ first (drop (k + 1) (row ps))) ∙ ap (substitute σ) (sym (row_more ps k low)) ∙ r.rest σ t

  pub passes : (o : Option ℕ) → Passed target (cell (get_or ps k 0)) at o → General (row ps) (row target) → IsSome o
  passes (Some e) h g = refl
  passes None (b, h) (σ, t) =
      let x = substitute σ first in
      absurd (h.1 σ t.whole (nothing target σ) (length x) (front_of x (substitute σ (drop (k + 1) (row ps))) (drop at (row target)) (step σ t)))

  pub passed : (o : Option ℕ) (e : ℕ) → o ≡ Some e → Passed target (cell (get_or ps k 0)) at o → Reached (row ps) target (k + 1) e
  passed o e is h =
      let (b, m) = subst (Passed target (cell (get_or ps k 0)) at) is h in
      record { inside = m.1.inside r.inside; rest = λ σ t. (taken target [] b first at e m.1 σ t.whole (substitute σ (drop (k + 1) (row ps))) (nothing target σ, step σ t)).1 }

-- what a variable's place leaves of the row
from_place : (s : List Cell) (k v : ℕ) → Stands s k v → drop k s ≡ variable v ∷ drop (k + 1) s
from_place s k v e = ⊎_elim (λ l. drop_more s k (symbol 0 0) l ∙ ap (λ c. c ∷ drop (k + 1) s) e) (λ past. let d = get_or_past s k (symbol 0 0) past in cc) (cases_lt k (length s))

module _ (s : List Cell) (target : List ℕ) (k v at : ℕ) (f : First s v k) (r : Reached s target k at) where
  -- what is put for v begins there
  begins : (σ : ℕ → List Cell) → Turns σ s (row target) → σ v ++ substitute σ (drop (k + 1) s) ≡ drop at (row target)
  begins σ t = ap (substitute σ) (sym (from_place s k v f.here)) ∙ r.rest σ t

  pub bound_at : (o : Option ℕ) (e : ℕ) → o ≡ Some e → Ends target at o → General s (row target) → BoundAt s (row target) v at (row (take (e - at) (drop at target)))
  bound_at o e is h (σ, t) =
      let ends : Ends target at (Some e) = rw is at h in
      let whole = ap length (parts s (row target) k σ t) in
      let front = length-append (substitute σ (take k s)) (substitute σ (drop k s)) in
      let tail = ap length (r.rest σ t) ∙ length-drop at (row target) in
      let n = length-map target cell in
      let i = r.inside in
      record {
        σ = σ;
        turns = t;
        k = k;
        first = f;
        position = omega arith;
        part = sym (row_part target (e - at) at) ∙ sym (row_laws.front (σ v) (between at e (row target)) (substitute σ (drop (k + 1) s)) (drop e (row target)) (t.whole v) ends.1 (begins σ t ∙ (rest target at e ends).1)).0;
      }

  pub ends_some : (o : Option ℕ) → Ends target at o → General s (row target) → IsSome o
  ends_some (Some e) h g = refl
  ends_some None none (σ, t) =
      let n : at + length (σ v) - at ≡ length (σ v) = omega arith in
      let same = front_of (σ v) (substitute σ (drop (k + 1) s)) (drop at (row target)) (begins σ t) ∙ ap (λ n. take n (drop at (row target))) (sym n) in
      absurd (none (at + length (σ v)) (subst Whole same (t.whole v)))

-- where a part that is bound begins and ends
pub ruleset places = (passes, passed, ends_some)
