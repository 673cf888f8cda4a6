-- What a walk down the links answers: a row for each place, or that no replacement satisfies the links. Assumes nothing.
use Rattle.std.specs.Prelude.{◌≡◌, ℕ, ◌<◌, ◌≤◌, Bool, true, false, List, length, slice_index_or, sum_by}
use Rattle.unification.specs.declared.unifier.walking.Mark.{Mark}
use Rattle.unification.specs.declared.unifier.walking.Mark.TheVariants.{New, Open, Done}
use Rattle.unification.specs.Graph.{Graph, Links, In, val, Sat, Sols}

abbrev pub newness : Mark → ℕ
newness New = 1
newness Open = 0
newness Done = 0

-- how many places are not yet met
abbrev pub fresh : List Mark → ℕ
fresh marks = sum_by newness marks

abbrev pub mark_at : List Mark → ℕ → Mark
mark_at marks o = slice_index_or marks o New

-- what is being walked is longer than the places, whatever satisfies the links
abbrev pub Above : Graph → Links → List Mark → List ℕ → Type 0
Above G L marks ps = (o : ℕ) → mark_at marks o ≡ Open → (σ : ℕ → List ℕ) → Sat G σ L → (q : ℕ) → In q ps → length (val G σ q) < length (val G σ o)

-- what is done has its row
abbrev pub Ended : Graph → Links → List Mark → Type 0
Ended G L marks = (o : ℕ) → mark_at marks o ≡ Done → (row : List ℕ) × Sols G L (G.kids o) row

pub record Fin (G : Graph) (L : Links) (marks after : List Mark) (ps : List ℕ) (r : Bool) : Type 0 where
  pub fewer : fresh after ≤ fresh marks
  pub opened : r ≡ true → (o : ℕ) → mark_at after o ≡ Open → mark_at marks o ≡ Open
  pub done : r ≡ true → Ended G L after
  pub rows : r ≡ true → (row : List ℕ) × Sols G L ps row
  pub never : r ≡ false → (σ : ℕ → List ℕ) → Sat G σ L → ⊥
