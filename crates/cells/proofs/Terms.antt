-- Laws of rows: what is read of one, its fronts and its parts. Assumes nothing.
use Rattle.std.proofs.Common.{◌≡◌, ℕ, zero, suc, ◌+◌, ◌-◌, ◌<◌, ◌≤◌, true, List, [], ◌∷◌, ◌++◌, length, get_or, take, drop, sym, refl, ap, ◌∙◌, subst, ⊎_elim, append_assoc, append-nil, add_assoc, zero-add, arith, length-append, length-drop, take-append-drop, length-take}
use lib.ListN.{length-map}
use Rattle.std.specs.List.{between}
use Rattle.std.proofs.lemmas.Bool.{false≢true, cases_lt}
use Rattle.std.proofs.lemmas.List.{get_or-map, take-take, take_at, drop_all}
use Rattle.std.proofs.lemmas.List.Edits.{between_more}
use Rattle.cells.specs.Cells.{Cell, symbol, variable, arity, cell, row}
use Rattle.cells.specs.Rows.{terms, Whole, WholeRow, WholeRows, single, applied, none, more, RowLaws}

-- from n rows to come, reading cs leaves m to come
abbrev pub Reads : ℕ → List Cell → ℕ → Type 0
Reads n [] m = n ≡ m
Reads zero (c ∷ cs) m = ⊥
Reads (suc n) (c ∷ cs) m = Reads (arity c + n) cs m

-- cs is n whole rows
abbrev pub Terms : ℕ → List Cell → Type 0
Terms n cs = Reads n cs 0

pub reads_terms : (n : ℕ) (cs : List Cell) → Terms n cs → terms n cs ≡ true
reads_terms zero [] p = refl
reads_terms (suc n) [] p = absurd (omega arith)
reads_terms zero (c ∷ cs) p = absurd p
reads_terms (suc n) (c ∷ cs) p = reads_terms (arity c + n) cs p

pub terms_reads : (n : ℕ) (cs : List Cell) → terms n cs ≡ true → Terms n cs
terms_reads zero [] p = refl
terms_reads (suc n) [] p = absurd (false≢true p)
terms_reads zero (c ∷ cs) p = absurd (false≢true p)
terms_reads (suc n) (c ∷ cs) p = terms_reads (arity c + n) cs p

pub reads_append : (n : ℕ) (a : List Cell) (m : ℕ) (b : List Cell) (k : ℕ) → Reads n a m → Reads m b k → Reads n (a ++ b) k
reads_append n [] m b k p q = rw p q
reads_append zero (c ∷ a) m b k p q = absurd p
reads_append (suc n) (c ∷ a) m b k p q = reads_append (arity c + n) a m b k p q

pub reads_split : (n : ℕ) (a b : List Cell) (k : ℕ) → Reads n (a ++ b) k → (m : ℕ) × Reads n a m × Reads m b k
reads_split n [] b k p = (n, refl, p)
reads_split zero (c ∷ a) b k p = absurd p
reads_split (suc n) (c ∷ a) b k p = reads_split (arity c + n) a b k p

-- what is read from n is read from n + j, with j more left
pub reads_frame : (j n : ℕ) (a : List Cell) (m : ℕ) → Reads n a m → Reads (n + j) a (m + j)
reads_frame j n [] m p = ap (λ x. x + j) p
reads_frame j zero (c ∷ a) m p = absurd p
reads_frame j (suc n) (c ∷ a) m p =
    let e : suc n + j ≡ suc (n + j) = omega arith in
    let h : Reads (arity c + (n + j)) a (m + j) = rw add_assoc at (reads_frame j (arity c + n) a m p) in
    subst (λ x. Reads x (c ∷ a) (m + j)) (sym e) h

-- a whole row, read with n more to come
pub reads_whole : (n : ℕ) (a : List Cell) → Terms 1 a → Reads (suc n) a n
reads_whole n a p =
    let e : 1 + n ≡ suc n = omega arith in
    let z : 0 + n ≡ n = omega arith in
    subst (λ x. Reads x a n) e (subst (Reads (1 + n) a) z (reads_frame n 1 a 0 p))

pub reads_same : (n : ℕ) (a : List Cell) (m k : ℕ) → Reads n a m → Reads n a k → m ≡ k
reads_same n [] m k p q = sym p ∙ q
reads_same zero (c ∷ a) m k p q = absurd p
reads_same (suc n) (c ∷ a) m k p q = reads_same (arity c + n) a m k p q

reads_zero : (cs : List Cell) (m : ℕ) → Reads 0 cs m → m ≡ 0
reads_zero [] m p = sym p
reads_zero (c ∷ cs) m p = absurd p

-- n rows begin in only one way
pub same_front : (n : ℕ) (a b x y : List Cell) → Terms n a → Terms n b → a ++ x ≡ b ++ y → (a ≡ b) × (x ≡ y)
same_front n [] [] x y p q e = (refl, e)
same_front zero [] (d ∷ b) x y p q e = absurd q
same_front (suc n) [] (d ∷ b) x y p q e = absurd (omega arith)
same_front zero (c ∷ a) b x y p q e = absurd p
same_front (suc n) (c ∷ a) [] x y p q e = absurd (omega arith)
same_front (suc n) (c ∷ a) (d ∷ b) x y p q e =
    let h : c ≡ d = cc in
    let t : a ++ x ≡ b ++ y = cc in
    let r = same_front (arity c + n) a b x y p (subst (λ z. Terms (arity z + n) b) (sym h) q) t in
    let u = r.0 in
    ((cc), r.1)

-- n + m rows are n rows and then m rows
pub terms_split : (m n : ℕ) (cs : List Cell) → Terms (n + m) cs → (a : List Cell) × (b : List Cell) × (cs ≡ a ++ b) × Terms n a × Terms m b
terms_split m zero cs p = ([], cs, refl, refl, rw zero-add at p)
terms_split m (suc n) [] p = absurd (omega arith)
terms_split m (suc n) (c ∷ cs) p =
    let e : suc n + m ≡ suc (n + m) = omega arith in
    let h : Terms (arity c + (n + m)) cs = subst (λ x. Terms x (c ∷ cs)) e p in
    let r = terms_split m (arity c + n) cs (rw (← add_assoc) at h) in
    (c ∷ r.0, r.1, ap (λ z. c ∷ z) r.2, r.3, r.4)

-- each row has a cell
pub terms_length : (n : ℕ) (cs : List Cell) → Terms n cs → n ≤ length cs
terms_length n [] p = omega arith
terms_length zero (c ∷ cs) p = absurd p
terms_length (suc n) (c ∷ cs) p = let h = terms_length (arity c + n) cs p in omega arith

-- at each position of n rows one begins
terms_at : (n : ℕ) (cs : List Cell) (i : ℕ) → Terms n cs → i < length cs → (a : List Cell) × (b : List Cell) × (drop i cs ≡ a ++ b) × Terms 1 a
terms_at n cs i p l =
    let s = reads_split n (take i cs) (drop i cs) 0 (rw take-append-drop p) in
    begins s.0 (drop i cs) (simp length-drop (omega arith)) s.2
  where
    begins : (k : ℕ) (d : List Cell) → 0 < length d → Terms k d → (a : List Cell) × (b : List Cell) × (d ≡ a ++ b) × Terms 1 a
    begins zero [] l q = absurd (omega arith)
    begins zero (c ∷ d) l q = absurd q
    begins (suc k) d l q =
        let e : suc k ≡ 1 + k = omega arith in
        let s = terms_split k 1 d (subst (λ x. Terms x d) e q) in
        (s.0, s.1, s.2, s.3)

part : (cs : List Cell) (at : ℕ) → Whole cs → at < length cs → (e : ℕ) × (e ≤ length cs) × Whole (between at e cs)
part cs at w l =
    let (a, b, e, p) = terms_at 1 cs at (terms_reads 1 cs w) l in
    let n = ap length e ∙ length-append a b in
    let m = length-drop at cs in
    let z : at + length a - at ≡ length a = omega arith in
    (at + length a, omega arith, rw (z, e, take_at a b (length a) refl) (reads_terms 1 a p))

-- One more cell of a row that is read from `at` on.
pub reads_next : (ws : List ℕ) (at e need : ℕ) → at ≤ e → e < length ws → 0 < need → Reads 1 (between at e (row ws)) need
    → Reads 1 (between at (e + 1) (row ws)) (need - 1 + arity (cell (get_or ws e 0)))
reads_next ws at e need a l p r =
    let c = cell (get_or ws e 0) in
    let lr : e < length (row ws) = simp length-map (omega arith) in
    let h = between_more (row ws) at e (cell 0) a lr ∙ ap (λ x. between at e (row ws) ++ x ∷ []) (get_or-map cell ws e 0 (cell 0) l) in
    subst (λ z. Reads 1 z (need - 1 + arity c)) (sym h) (reads_append 1 (between at e (row ws)) need (c ∷ []) (need - 1 + arity c) r (one need p))
  where
    one : (n : ℕ) → 0 < n → Reads n (cell (get_or ws e 0) ∷ []) (n - 1 + arity (cell (get_or ws e 0)))
    one zero p = absurd (omega arith)
    one (suc n) p = omega arith

-- Where more rows are to come than cells are left, no front is whole.
pub no_whole : (d : List Cell) (j need : ℕ) → Reads 1 (take j d) need → length d - j < need → (k : ℕ) → Whole (take k d) → ⊥
no_whole d j need r l k w =
    let t = terms_reads 1 (take k d) w in
    ⊎_elim
    (λ less.
    let (m, p, q) = reads_split 1 (take k d) (drop k (take j d)) need (fronts k j (omega arith) (λ z. Reads 1 z need) r) in
    let z : m ≡ 0 = reads_same 1 (take k d) m 0 p t in
    let n = reads_zero (drop k (take j d)) need (subst (λ x. Reads x (drop k (take j d)) need) z q) in
    omega arith)
    (λ more.
    let (m, p, q) = reads_split 1 (take j d) (drop j (take k d)) 0 (fronts j k more (λ z. Terms 1 z) t) in
    let z : m ≡ need = reads_same 1 (take j d) m need p r in
    let n = terms_length m (drop j (take k d)) q in
    let a = length-drop j (take k d) in
    let b = length-take k d in
    omega arith)
    (cases_lt k j)
  where
    fronts : (i n : ℕ) → i ≤ n → (P : List Cell → Type 0) → P (take n d) → P (take i d ++ drop i (take n d))
    fronts i n h P x = subst (λ z. P (z ++ drop i (take n d))) (take-take i n d h) (subst P (sym (take-append-drop i (take n d))) x)

pub none_past : (ws : List ℕ) (at : ℕ) → length ws ≤ at → (e : ℕ) → Whole (between at e (row ws)) → ⊥
none_past ws at l e w = false≢true (empty (e - at) (subst (λ z. terms 1 (take (e - at) z) ≡ true) (drop_all at (row ws) (simp length-map l)) w))
  where
    empty : (n : ℕ) → terms 1 (take n []) ≡ true → mathlib.Core.Bool.false ≡ true
    empty zero p = p
    empty (suc n) p = p

splice : (n : ℕ) (a p q b : List Cell) → Terms 1 p → Terms 1 q → Terms n (a ++ (p ++ b)) → Terms n (a ++ (q ++ b))
splice n a p q b wp wq h = let (m, x, y) = reads_split n a (p ++ b) 0 h in at m x y
  where
    none_of : (p : List Cell) → Terms 1 p → Reads 0 (p ++ b) 0 → ⊥
    none_of [] w y = omega arith
    none_of (c ∷ p) w y = y

    at : (m : ℕ) → Reads n a m → Reads m (p ++ b) 0 → Terms n (a ++ (q ++ b))
    at zero x y = absurd (none_of p wp y)
    at (suc m) x y =
        let (k, u, v) = reads_split (suc m) p b 0 y in
        let z : k ≡ m = reads_same (suc m) p k m u (reads_whole m p wp) in
        reads_append n a (suc m) (q ++ b) 0 x (reads_append (suc m) q m b 0 (reads_whole m q wq) (subst (λ k. Reads k b 0) z v))

mutual
  counted : {cs : List Cell} → WholeRow cs → Terms 1 cs
  counted (single v) = refl
  counted (applied k f cs r) = let e : k ≡ k + 0 = omega arith in subst (λ x. Terms x cs) e (counts r)

  counts : {n : ℕ} {cs : List Cell} → WholeRows n cs → Terms n cs
  counts none = refl
  counts (more n a b p q) = reads_append (suc n) a n b 0 (reads_whole n a (counted p)) (counts q)

rows_split : (m k : ℕ) (cs : List Cell) → WholeRows (k + m) cs → (a : List Cell) × (b : List Cell) × (cs ≡ a ++ b) × WholeRows k a × WholeRows m b
rows_split m zero cs r = ([], cs, refl, none, rw zero-add at r)
rows_split m (suc k) cs r =
    let e : suc k + m ≡ suc (k + m) = omega arith in
    let (a, b, x, p, q) = uncons (subst (λ n. WholeRows n cs) e r) in
    let (c, d, y, u, v) = rows_split m k b q in
    (a ++ c, d, x ∙ ap (λ z. a ++ z) y ∙ sym (append_assoc a c d), more k a c p u, v)
  where
    uncons : {n : ℕ} {cs : List Cell} → WholeRows (suc n) cs → (a : List Cell) × (b : List Cell) × (cs ≡ a ++ b) × WholeRow a × WholeRows n b
    uncons (more n a b p q) = (a, b, refl, p, q)

rows : (n : ℕ) (cs : List Cell) → Terms n cs → WholeRows n cs
rows zero [] p = none
rows (suc n) [] p = absurd (omega arith)
rows zero (c ∷ cs) p = absurd p
rows (suc n) (c ∷ cs) p =
    let (a, b, e, u, v) = rows_split n (arity c) cs (rows (arity c + n) cs p) in
    subst (λ z. WholeRows (suc n) (c ∷ z)) (sym e) (more n (c ∷ a) b (begun c a u) v)
  where
    nothing : (a : List Cell) → WholeRows 0 a → a ≡ []
    nothing a none = refl

    begun : (c : Cell) (a : List Cell) → WholeRows (arity c) a → WholeRow (c ∷ a)
    begun (symbol k f) a u = applied k f a u
    begun (variable v) a u = subst (λ z. WholeRow (variable v ∷ z)) (sym (nothing a u)) (single v)

whole_row : (cs : List Cell) → Terms 1 cs → WholeRow cs
whole_row cs p = only (rows 1 cs p)
  where
    only : {cs : List Cell} → WholeRows 1 cs → WholeRow cs
    only (more n a b p q) = rw (empty q, append-nil) p
      where
        empty : {b : List Cell} → WholeRows 0 b → b ≡ []
        empty none = refl

pub row_laws : RowLaws
row_laws = record {
  counted = λ cs. (λ w. whole_row cs (terms_reads 1 cs w), λ r. reads_terms 1 cs (counted r));
  front = λ a b x y p q e. same_front 1 a b x y (terms_reads 1 a p) (terms_reads 1 b q) e;
  part = part;
  spliced = λ a p q b wp wq w. reads_terms 1 (a ++ (q ++ b)) (splice 1 a p q b (terms_reads 1 p wp) (terms_reads 1 q wq) (terms_reads 1 (a ++ (p ++ b)) w));
}
