-- Terms that share a memory: each place has a cell, the places of its arguments and the row that stands there.
-- A variable's own cell is a place too. A list of links says which places were made one. Assumes nothing.
use Rattle.std.specs.Prelude.{◌≡◌, ℕ, Bool, false, cond, ◌⊎◌, List, [], ◌∷◌, ◌++◌, ◌==◌, fold}
use Rattle.unification.specs.Rows.{put}

-- is_v: the cells that are variables and may be bound; need: how many rows follow a cell
pub record Graph : Type 0 where
  pub is_v : ℕ → Bool
  pub need : ℕ → ℕ
  pub cell : ℕ → ℕ
  pub kids : ℕ → List ℕ
  pub term : ℕ → List ℕ

abbrev pub Links : Type 0
Links = List (ℕ × ℕ)

abbrev pub follow : ℕ × ℕ → ℕ → ℕ
follow l a = cond (a == l.0) l.1 a

-- the place that stands for the place a: each link in turn
abbrev pub find : Links → ℕ → ℕ
find L a = fold (λ at l. follow l at) a L

abbrev pub Pairs : (ℕ → ℕ → Type 0) → List ℕ → List ℕ → Type 0
Pairs R [] [] = Unit {0}
Pairs R [] (q ∷ qs) = ⊥
Pairs R (p ∷ ps) [] = ⊥
Pairs R (p ∷ ps) (q ∷ qs) = R p q × Pairs R ps qs

abbrev pub In : ℕ → List ℕ → Type 0
In q [] = ⊥
In q (p ∷ ps) = (q ≡ p) ⊎ In q ps

abbrev pub canon : Graph → ℕ → ℕ
canon G p = cond (G.is_v (G.cell p)) (G.cell p) p

abbrev pub norm : Graph → Links → ℕ → ℕ
norm G L p = find L (canon G p)

abbrev pub Joined : Graph → Links → ℕ → ℕ → Type 0
Joined G L p q = norm G L p ≡ norm G L q

-- what a replacement makes of the row at a place
abbrev pub val : Graph → (ℕ → List ℕ) → ℕ → List ℕ
val G σ p = put G.is_v σ (G.term p)

abbrev pub SameVal : Graph → (ℕ → List ℕ) → ℕ → ℕ → Type 0
SameVal G σ p q = val G σ p ≡ val G σ q

-- a replacement that makes each link's two ends one row
abbrev pub Sat : Graph → (ℕ → List ℕ) → Links → Type 0
Sat G σ [] = Unit {0}
Sat G σ (l ∷ L) = SameVal G σ l.0 l.1 × Sat G σ L

-- each link of M from a symbol leads to the same symbol, and the arguments are joined by L
abbrev pub ClosedAt : Graph → Links → ℕ → ℕ → Type 0
ClosedAt G L a b = G.is_v (G.cell a) ≡ false → (G.cell a ≡ G.cell b) × Pairs (Joined G L) (G.kids a) (G.kids b)

abbrev pub Closed : Graph → Links → Links → Type 0
Closed G L [] = Unit {0}
Closed G L (l ∷ M) = ClosedAt G L l.0 l.1 × Closed G L M

-- the rows that the links give to a list of places, if they give one: no way down from a place comes back to it
pub data Sols (G : Graph) (L : Links) : List ℕ → List ℕ → Type 0 where
  none : Sols G L [] []
  more : {p : ℕ} {ps a b : List ℕ} → Sols G L (G.kids (norm G L p)) a → Sols G L ps b → Sols G L (p ∷ ps) (G.cell (norm G L p) ∷ (a ++ b))

abbrev pub Sol : Graph → Links → ℕ → List ℕ → Type 0
Sol G L p r = Sols G L (p ∷ []) r

-- each word of the row stands at some place
abbrev pub Made : Graph → List ℕ → Type 0
Made G [] = Unit {0}
Made G (w ∷ ws) = ((x : ℕ) × (G.cell x ≡ w)) × Made G ws
