-- Rows of cells in prefix order, over any choice of which cells are variables (is_v) and how many rows follow a cell (need). Assumes nothing.
use Rattle.std.specs.Prelude.{◌≡◌, ℕ, pred, ◌+◌, ◌<◌, Bool, true, cond, List, [], ◌∷◌, ◌++◌}

-- exactly k whole rows, one behind the other
abbrev pub Wholes : (ℕ → ℕ) → ℕ → List ℕ → Type 0
Wholes need k [] = k ≡ 0
Wholes need k (c ∷ cs) = (0 < k) × Wholes need (pred k + need c) cs

-- what a replacement makes of one cell, and of a row
abbrev pub image : (ℕ → Bool) → (ℕ → List ℕ) → ℕ → List ℕ
image is_v σ c = cond (is_v c) (σ c) (c ∷ [])

abbrev pub put : (ℕ → Bool) → (ℕ → List ℕ) → List ℕ → List ℕ
put is_v σ [] = []
put is_v σ (c ∷ cs) = image is_v σ c ++ put is_v σ cs

-- a replacement puts a whole row for each variable
abbrev pub WholeAt : (ℕ → Bool) → (ℕ → ℕ) → (ℕ → List ℕ) → Type 0
WholeAt is_v need σ = (c : ℕ) → is_v c ≡ true → Wholes need 1 (σ c)
