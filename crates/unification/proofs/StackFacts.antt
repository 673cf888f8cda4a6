-- Whole rows of words of any size as a graph: variables are the even words, and the place of a cell counts the cells behind it. Assumes nothing.
use Rattle.std.proofs.Common.{◌≡◌, ℕ, zero, suc, pred, ◌+◌, ◌*◌, ◌/◌, ◌%◌, ◌<◌, ◌≤◌, Bool, true, false, cond, eqb, List, [], ◌∷◌, ◌++◌, map, length, take, drop, sym, refl, ap, ◌∙◌, subst, ap₂, append_assoc, append-nil, arith, length-append, length-drop, take-add}
use Rattle.std.proofs.lemmas.List.{take-map, drop-map, length-take-le, drop-drop}
use Rattle.std.proofs.lemmas.Bool.{eq-eqb, ne_eqb}
use Rattle.unification.specs.Rows.{Wholes}
use Rattle.unification.specs.Graph.{Graph}
use Rattle.unification.proofs.GraphLaws.{Laws, flat}
use Rattle.unification.proofs.RowFacts.{wholes_append}
use Rattle.unification.proofs.RunFacts.{Below}

abbrev pub even : ℕ → Bool
even w = eqb (w % 2) 0

abbrev pub place_of : ℕ → ℕ
place_of n = 2 * n + 1

pub odd_place : (n : ℕ) → even (place_of n) ≡ false
odd_place n = ne_eqb (place_of n % 2) 0 (λ e. omega arith)

pub half_place : (n : ℕ) → place_of n / 2 ≡ n
half_place n = omega arith

abbrev flatten : List (List ℕ) → List ℕ
flatten [] = []
flatten (r ∷ rs) = r ++ flatten rs

flatten_append : (a b : List (List ℕ)) → flatten (a ++ b) ≡ flatten a ++ flatten b
flatten_append [] b = refl
flatten_append (r ∷ a) b = ap (λ x. r ++ x) (flatten_append a b) ∙ sym (append_assoc r (flatten a) (flatten b))

flatten_map : (f : ℕ → List ℕ) (ps : List ℕ) → flatten (map f ps) ≡ flat f ps
flatten_map f [] = refl
flatten_map f (p ∷ ps) = ap (λ x. f p ++ x) (flatten_map f ps)

below_more : (m n : ℕ) (ps : List ℕ) → m ≤ n → Below m ps → Below n ps
below_more m n [] l h = tt
below_more m n (p ∷ ps) l h = (omega (arith, h.0), below_more m n ps l h.1)

below_take : (n k : ℕ) (ps : List ℕ) → Below n ps → Below n (take k ps)
below_take n zero ps h = tt
below_take n (suc k) [] h = tt
below_take n (suc k) (p ∷ ps) h = (h.0, below_take n k ps h.1)

below_drop : (n k : ℕ) (ps : List ℕ) → Below n ps → Below n (drop k ps)
below_drop n zero ps h = h
below_drop n (suc k) [] h = tt
below_drop n (suc k) (p ∷ ps) h = below_drop n k ps h.1

-- the cells from the one that has q behind it
abbrev from_end : List ℕ → ℕ → List ℕ
from_end [] q = []
from_end (c ∷ cs) q = cond (eqb q (length cs)) (c ∷ cs) (from_end cs q)

from_end_is : (pre : List ℕ) (c : ℕ) (cs : List ℕ) → from_end (pre ++ c ∷ cs) (length cs) ≡ c ∷ cs
from_end_is [] c cs = ap (λ b. cond b (c ∷ cs) (from_end cs (length cs))) (eq-eqb (length cs) (length cs) refl)
from_end_is (x ∷ pre) c cs =
    ap (λ b. cond b (x ∷ (pre ++ c ∷ cs)) (from_end (pre ++ c ∷ cs) (length cs))) (ne_eqb (length cs) (length (pre ++ c ∷ cs)) (λ e. omega (arith, length-append pre (c ∷ cs))))
    ∙ from_end_is pre c cs

from_end_part : (mem : List ℕ) (q : ℕ) → (pre : List ℕ) × (mem ≡ pre ++ from_end mem q)
from_end_part [] q = ([], refl)
from_end_part (c ∷ cs) q = go (from_end_part cs q) (eqb q (length cs))
  where
    go : (pre : List ℕ) × (cs ≡ pre ++ from_end cs q) → (b : Bool) → (pre : List ℕ) × (◌≡◌ {A = List ℕ} (c ∷ cs) (pre ++ cond b (c ∷ cs) (from_end cs q)))
    go r true = ([], refl)
    go (pre, e) false = (c ∷ pre, ap (λ x. c ∷ x) e)

module _ (need : ℕ → ℕ) (leaf : (w : ℕ) → even w ≡ true → need w ≡ 0) where
  -- the places, and the rows, that begin one behind the other
  abbrev stack : List ℕ → List ℕ
  stack [] = []
  stack (c ∷ cs) = place_of (length cs) ∷ drop (need c) (stack cs)

  abbrev texts : List ℕ → List (List ℕ)
  texts [] = []
  texts (c ∷ cs) = (c ∷ flatten (take (need c) (texts cs))) ∷ drop (need c) (texts cs)

  abbrev head_of : List ℕ → ℕ
  head_of [] = 0
  head_of (c ∷ cs) = c

  abbrev kids_of : List ℕ → List ℕ
  kids_of [] = []
  kids_of (c ∷ cs) = take (need c) (stack cs)

  abbrev text_of : List ℕ → List ℕ
  text_of [] = 0 ∷ []
  text_of (c ∷ cs) = c ∷ flatten (take (need c) (texts cs))

  abbrev pub cell_at : List ℕ → ℕ → ℕ
  cell_at mem x = cond (even x) x (head_of (from_end mem (x / 2)))

  abbrev kids_at_lem : List ℕ → ℕ → List ℕ
  kids_at_lem mem x = cond (even x) [] (kids_of (from_end mem (x / 2)))

  abbrev pub text_at : List ℕ → ℕ → List ℕ
  text_at mem x = cond (even x) (x ∷ []) (text_of (from_end mem (x / 2)))

  abbrev pub stack_graph : List ℕ → Graph
  stack_graph mem = record { is_v = even; need = need; cell = cell_at mem; kids = kids_at_lem mem; term = text_at mem }

  -- each cell has its arguments behind it
  abbrev Good : List ℕ → Type 0
  Good [] = Unit {0}
  Good (c ∷ cs) = (need c ≤ length (stack cs)) × Good cs

  stack_texts : (cs : List ℕ) → length (stack cs) ≡ length (texts cs)
  stack_texts [] = refl
  stack_texts (c ∷ cs) = omega (arith, length-drop (need c) (stack cs), length-drop (need c) (texts cs), stack_texts cs)

  wholes_good : (k : ℕ) (cs : List ℕ) → Wholes need k cs → (length (stack cs) ≡ k) × Good cs
  wholes_good k [] h = (sym h, tt)
  wholes_good k (c ∷ cs) h =
      let p = h.0 in
      let (l, g) = wholes_good (pred k + need c) cs h.1 in
      (omega (arith, length-drop (need c) (stack cs)), (omega arith, g))

  good_part : (pre cs : List ℕ) → Good (pre ++ cs) → Good cs
  good_part [] cs g = g
  good_part (c ∷ pre) cs g = good_part pre cs g.1

  -- the first k rows of a list are its first k whole rows
  texts_rows : (k : ℕ) (a b : List ℕ) → Wholes need k a → (flatten (take k (texts (a ++ b))) ≡ a) × (drop k (texts (a ++ b)) ≡ texts b)
  texts_rows k [] b h = (ap (λ n. flatten (take n (texts b))) h, ap (λ n. drop n (texts b)) h)
  texts_rows zero (c ∷ a) b h = let p : 0 < 0 = h.0 in absurd (omega arith)
  texts_rows (suc k) (c ∷ a) b h =
      let T = texts (a ++ b) in
      let (x, y) = texts_rows (k + need c) a b h.1 in
      let e : k + need c ≡ need c + k = omega arith in (
        ap (λ z. c ∷ z) (sym (flatten_append (take (need c) T) (take k (drop (need c) T))) ∙ ap flatten (sym (take-add (need c) k T)) ∙ ap (λ n. flatten (take n T)) (sym e) ∙ x),
        drop-drop k (need c) T ∙ ap (λ n. drop n T) (sym e) ∙ y,
      )

  abbrev AllWhole : List (List ℕ) → Type 0
  AllWhole [] = Unit {0}
  AllWhole (r ∷ rs) = Wholes need 1 r × AllWhole rs

  whole_take : (k : ℕ) (rs : List (List ℕ)) → AllWhole rs → AllWhole (take k rs)
  whole_take zero rs h = tt
  whole_take (suc k) [] h = tt
  whole_take (suc k) (r ∷ rs) h = (h.0, whole_take k rs h.1)

  whole_drop : (k : ℕ) (rs : List (List ℕ)) → AllWhole rs → AllWhole (drop k rs)
  whole_drop zero rs h = h
  whole_drop (suc k) [] h = tt
  whole_drop (suc k) (r ∷ rs) h = whole_drop k rs h.1

  flatten_whole : (rs : List (List ℕ)) → AllWhole rs → Wholes need (length rs) (flatten rs)
  flatten_whole [] h = refl
  flatten_whole (r ∷ rs) h =
      let e : 1 + length rs ≡ suc (length rs) = omega arith in
      subst (λ n. Wholes need n (r ++ flatten rs)) e (wholes_append need r (flatten rs) 1 (length rs) h.0 (flatten_whole rs h.1))

  text_whole : (c : ℕ) (cs : List ℕ) → need c ≤ length (stack cs) → AllWhole (texts cs) → Wholes need 1 (text_of (c ∷ cs))
  text_whole c cs l h =
      let e : length (take (need c) (texts cs)) ≡ need c = length-take-le (need c) (texts cs) (omega (arith, stack_texts cs)) in
      let z : 0 < 1 = omega arith in
      let k : length (take (need c) (texts cs)) ≡ 0 + need c = omega arith in
      (z, subst (λ n. Wholes need n (flatten (take (need c) (texts cs)))) k (flatten_whole (take (need c) (texts cs)) (whole_take (need c) (texts cs) h)))

  texts_whole : (cs : List ℕ) → Good cs → AllWhole (texts cs)
  texts_whole [] g = tt
  texts_whole (c ∷ cs) g = let h = texts_whole cs g.1 in (text_whole c cs g.0 h, whole_drop (need c) (texts cs) h)

  stack_below : (cs : List ℕ) → Below (place_of (length cs)) (stack cs)
  stack_below [] = tt
  stack_below (c ∷ cs) =
      let l : place_of (length cs) ≤ place_of (suc (length cs)) = omega arith in
      (omega arith, below_more (place_of (length cs)) (place_of (suc (length cs))) (drop (need c) (stack cs)) l (below_drop (place_of (length cs)) (need c) (stack cs) (stack_below cs)))

  module _ (mem : List ℕ) (good : Good mem) where
    -- what stands at a place
    here : (pre : List ℕ) (c : ℕ) (cs : List ℕ) → mem ≡ pre ++ c ∷ cs → text_at mem (place_of (length cs)) ≡ text_of (c ∷ cs)
    here pre c cs e =
        ap₂ (λ b q. cond b (place_of (length cs) ∷ []) (text_of (from_end mem q))) (odd_place (length cs)) (half_place (length cs))
        ∙ ap (λ m. text_of (from_end m (length cs))) e ∙ ap text_of (from_end_is pre c cs)

    texts_stack : (pre cs : List ℕ) → mem ≡ pre ++ cs → texts cs ≡ map (text_at mem) (stack cs)
    texts_stack pre [] e = refl
    texts_stack pre (c ∷ cs) e =
        let r = texts_stack (pre ++ c ∷ []) cs (e ∙ sym (append_assoc pre (c ∷ []) cs)) in
        ap₂ {C = List (List ℕ)} (λ x y. x ∷ y) (sym (here pre c cs e)) (ap (drop (need c)) r ∙ drop-map (text_at mem) (need c) (stack cs))

    part_good : (q : ℕ) → Good (from_end mem q)
    part_good q = let (pre, e) = from_end_part mem q in good_part pre (from_end mem q) (subst Good e good)

    D_whole : (D : List ℕ) → Good D → Wholes need 1 (text_of D)
    D_whole [] g = (omega arith, omega (arith, leaf 0 refl))
    D_whole (c ∷ cs) g = text_whole c cs g.0 (texts_whole cs g.1)

    D_many : (D : List ℕ) → Good D → length (kids_of D) ≡ need (head_of D)
    D_many [] g = sym (leaf 0 refl)
    D_many (c ∷ cs) g = length-take-le (need c) (stack cs) g.0

    D_is : (D : List ℕ) → (pre : List ℕ) → mem ≡ pre ++ D → text_of D ≡ head_of D ∷ flat (text_at mem) (kids_of D)
    D_is [] pre e = refl
    D_is (c ∷ cs) pre e =
        let r = texts_stack (pre ++ c ∷ []) cs (e ∙ sym (append_assoc pre (c ∷ []) cs)) in
        ap (λ x. c ∷ x) (ap (λ x. flatten (take (need c) x)) r ∙ ap flatten (take-map (text_at mem) (need c) (stack cs)) ∙ flatten_map (text_at mem) (take (need c) (stack cs)))

    D_below : (D : List ℕ) → (pre : List ℕ) → mem ≡ pre ++ D → Below (place_of (length mem)) (kids_of D)
    D_below [] pre e = tt
    D_below (c ∷ cs) pre e =
        let l : place_of (length cs) ≤ place_of (length mem) = omega (arith, ap length e ∙ length-append pre (c ∷ cs)) in
        below_take (place_of (length mem)) (need c) (stack cs) (below_more (place_of (length cs)) (place_of (length mem)) (stack cs) l (stack_below cs))

    pub stack_laws : Laws (stack_graph mem)
    stack_laws = record {
      leafy = leaf;
      whole = λ p. w p (even p) refl;
      term_is = λ p. i p (even p) refl;
      many = λ p. m p (even p) refl;
      var_node = λ c e. ap (λ b. cond b c (head_of (from_end mem (c / 2)))) e;
    }
      where
        w : (p : ℕ) (b : Bool) → even p ≡ b → Wholes need 1 (cond b (p ∷ []) (text_of (from_end mem (p / 2))))
        w p true e = (omega arith, omega (arith, leaf p e))
        w p false e = D_whole (from_end mem (p / 2)) (part_good (p / 2))

        i : (p : ℕ) (b : Bool) → even p ≡ b → ◌≡◌ {A = List ℕ} (cond b (p ∷ []) (text_of (from_end mem (p / 2))))
            (cond b p (head_of (from_end mem (p / 2))) ∷ flat (text_at mem) (cond b [] (kids_of (from_end mem (p / 2)))))
        i p true e = refl
        i p false e = let (pre, r) = from_end_part mem (p / 2) in D_is (from_end mem (p / 2)) pre r

        m : (p : ℕ) (b : Bool) → even p ≡ b → length (cond b [] (kids_of (from_end mem (p / 2)))) ≡ need (cond b p (head_of (from_end mem (p / 2))))
        m p true e = sym (leaf p e)
        m p false e = D_many (from_end mem (p / 2)) (part_good (p / 2))

    pub stack_inner : (x : ℕ) → x < place_of (length mem) → Below (place_of (length mem)) (kids_at_lem mem x)
    stack_inner x h = go (even x)
      where
        go : (b : Bool) → Below (place_of (length mem)) (cond b [] (kids_of (from_end mem (x / 2))))
        go true = tt
        go false = let (pre, r) = from_end_part mem (x / 2) in D_below (from_end mem (x / 2)) pre r

  -- two whole rows, one behind the other
  pub two_good : (a b : List ℕ) → Wholes need 1 a → Wholes need 1 b → Good (a ++ b)
  two_good a b u v = (wholes_good (1 + 1) (a ++ b) (wholes_append need a b 1 1 u v)).1

  row_text : (pre a b : List ℕ) → Wholes need 1 a → (text_at (pre ++ (a ++ b)) (place_of (pred (length (a ++ b)))) ≡ a) × (pred (length (a ++ b)) < length (a ++ b))
  row_text pre [] b u = absurd (omega arith)
  row_text pre (c ∷ a) b u = (
    ap₂ (λ x q. cond x (place_of (length (a ++ b)) ∷ []) (text_of (from_end (pre ++ (c ∷ (a ++ b))) q))) (odd_place (length (a ++ b))) (half_place (length (a ++ b)))
        ∙ ap text_of (from_end_is pre c (a ++ b))
        ∙ sym (append-nil (text_of (c ∷ (a ++ b))))
        ∙ (texts_rows 1 (c ∷ a) b u).0,
    omega arith,
  )

  pub stands : (pre a b : List ℕ) → Wholes need 1 a → (p : ℕ) × (p < place_of (length (pre ++ (a ++ b)))) × (text_at (pre ++ (a ++ b)) p ≡ a)
  stands pre a b u =
      let (e, l) = row_text pre a b u in
      (place_of (pred (length (a ++ b))), omega (arith, length-append pre (a ++ b)), e)
