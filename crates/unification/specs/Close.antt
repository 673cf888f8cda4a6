-- What closing a list of links under equations answers. Assumes nothing.
use Rattle.std.specs.Prelude.{◌≡◌, ℕ, zero, suc, ◌+◌, ◌≤◌, Bool, true, false, cond, ◌&&◌, ◌||◌, List, [], ◌∷◌, ◌++◌, length, ◌==◌}
use Rattle.unification.specs.Rows.{WholeAt, put}
use Rattle.unification.specs.Graph.{Graph, Links, find, Pairs, canon, norm, Joined, val, SameVal, Sat, Closed, Sol}

-- how many of the places below n stand for themselves
abbrev pub roots : Graph → Links → ℕ → ℕ
roots G L zero = 0
roots G L (suc n) = roots G L n + cond (norm G L n == canon G n) 1 0

-- whether it is a place of the first n, or the variable that stands at one
abbrev pub is_place : Graph → ℕ → ℕ → Bool
is_place G zero a = false
is_place G (suc n) a = (canon G n == a) || is_place G n a

abbrev pub Place : Graph → ℕ → ℕ → Type 0
Place G n a = is_place G n a ≡ true

-- whether each link is between two such places
abbrev pub is_between : Graph → ℕ → Links → Bool
is_between G n [] = true
is_between G n (l ∷ L) = (is_place G n l.0 && is_place G n l.1) && is_between G n L

-- the links are in order: each place that one leads to stands for itself, and there is room for a link from each
pub record Fit (G : Graph) (n cap : ℕ) (L : Links) : Type 0 where
  pub again : (a : ℕ) → find L (find L a) ≡ find L a
  pub ends : is_between G n L ≡ true
  pub room : length L + roots G L n ≤ cap

abbrev pub WholeFor : Graph → (ℕ → List ℕ) → Type 0
WholeFor G σ = WholeAt G.is_v G.need σ

-- the links L became M, and the answer is r, for the equations between the places ps and qs
pub record Out (G : Graph) (L M : Links) (ps qs : List ℕ) (r : Bool) : Type 0 where
  pub new : Links
  pub grown : M ≡ L ++ new
  pub closed : r ≡ true → Closed G M new
  pub joined : r ≡ true → Pairs (Joined G M) ps qs
  pub keeps : r ≡ true → (σ : ℕ → List ℕ) → WholeFor G σ → Sat G σ L → Pairs (SameVal G σ) ps qs → Sat G σ M
  pub refutes : r ≡ false → (σ : ℕ → List ℕ) → WholeFor G σ → Sat G σ L → Pairs (SameVal G σ) ps qs → ⊥

-- a replacement that makes one row of the rows at p and q, such that each other such replacement makes instances of what it makes
pub record MostGeneral (G : Graph) (p q : ℕ) : Type 0 where
  pub σ : ℕ → List ℕ
  pub whole : WholeFor G σ
  pub solves : SameVal G σ p q
  pub general : (τ : ℕ → List ℕ) → WholeFor G τ → SameVal G τ p q → (s : ℕ) → put G.is_v τ (val G σ s) ≡ val G τ s

abbrev pub Solved : Graph → Links → Type 0
Solved G L = (c : ℕ) → G.is_v c ≡ true → (row : List ℕ) × Sol G L c row

-- the answer of a decision with its reason on both sides
pub record Decided (G : Graph) (p q : ℕ) (r : Bool) : Type 0 where
  pub yes : r ≡ true → MostGeneral G p q
  pub no : r ≡ false → (σ : ℕ → List ℕ) → WholeFor G σ → SameVal G σ p q → ⊥
