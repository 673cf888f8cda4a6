-- What the closing over a memory needs at each step. Assumes nothing.
use Rattle.std.proofs.Common.{◌≡◌, ℕ, suc, ◌+◌, ◌-◌, ◌/◌, ◌<◌, ◌≤◌, Bool, true, false, cond, leb, ◌≢◌, List, [], ◌∷◌, ◌++◌, length, get_or, drop, sym, refl, ap, ◌∙◌, subst, ⊎_elim, true≢false, zero-add, arith, drop-drop}
use Rattle.std.specs.Borrow.{Bor}
use Rattle.std.proofs.lemmas.Bool.{cases_lt, lt-leb, le-leb}
use Rattle.cells.specs.Cells.{arity, cell}
use Rattle.cells.proofs.Words.{cell_symbol, cell_variable}
use Rattle.unification.specs.declared.kinds.Kinds.{Kinds}
use Rattle.unification.specs.declared.unifier.Unifier.{Unifier}
use Rattle.unification.specs.Graph.{Graph, Links, find, canon, norm}
use Rattle.unification.specs.Codes.{is_var}
use Rattle.unification.specs.Memory.{need, binds, size, Has, cell_at, places_from, kids_at, Memory, over}
use Rattle.unification.specs.Close.{Place, Fit, Out}
use Rattle.unification.specs.Unifiers.{graph_of, Root}
use Rattle.unification.proofs.GraphLaws.{Laws}
use Rattle.unification.proofs.MemFacts.{laws, has_step, has_drop, cell_low, low_var, var_word, need_word}
use Rattle.unification.proofs.FitFacts.{place_at, place_node, room_more, fit_more}
use Rattle.unification.proofs.OutFacts.{true_not, out_same, out_bind, out_clash, out_down_no, out_down, out_sym}

pub binds_var : (kinds : Kinds) (c : ℕ) → binds kinds c ≡ true → is_var c ≡ true
unfolding binds
binds_var kinds c e = go (is_var c) refl
  where
    go : (b : Bool) → is_var c ≡ b → b ≡ true
    go true v = refl
    go false v = absurd (true≢false (sym e ∙ ap (λ b. cond b (cond (leb 0xA0000000 c) kinds.tree (cond (leb 0x90000000 c) kinds.rule kinds.formula)) false) v))

pub binds_word : (kinds : Kinds) (c : ℕ) → c < 0x100000000 → binds kinds c ≡ cond (leb 0x80000000 c) (cond (leb 0xA0000000 c) kinds.tree (cond (leb 0x90000000 c) kinds.rule kinds.formula)) false
unfolding binds
binds_word kinds c h = ap (λ b. cond b (cond (leb 0xA0000000 c) kinds.tree (cond (leb 0x90000000 c) kinds.rule kinds.formula)) false) (var_word c h)

-- the arity of a word is that of its cell
pub need_arity : (c : ℕ) → c < 0x100000000 → arity (cell c) ≡ need c
need_arity c h = sym (need_word c h ∙ ap (λ b. cond b 0 (c / 65536)) (var_word c h) ∙ ⊎_elim
    (λ l. ap (λ b. cond b 0 (c / 65536)) (lt-leb 0x80000000 c l) ∙ sym (ap arity (cell_symbol c l)))
    (λ l. ap (λ b. cond b 0 (c / 65536)) (le-leb 0x80000000 c l) ∙ sym (ap arity (cell_variable c l)))
    (cases_lt c 0x80000000))

pub need_of : (mem : List ℕ) (x w m : ℕ) → w < 0x100000000 → w ≡ cell_at mem x → m ≡ arity (cell w) → m ≡ need (cell_at mem x)
need_of mem x w m h e a = a ∙ need_arity w h ∙ ap need e

pub need_small : (c : ℕ) → c < 0x100000000 → need c < 65536
need_small c h = subst (λ n. n < 65536) (sym (need_word c h)) (go (is_var c))
  where
    go : (b : Bool) → cond b 0 (c / 65536) < 65536
    go true = omega arith
    go false = omega arith

-- the first of n rows, and those behind it
module _ (mem : List ℕ) (n i : ℕ) (ne : n ≡ 0 → ⊥) (h : Has n (drop i mem)) where
  pub places_first : places_from mem i n ≡ i ∷ places_from mem (i + size 1 (drop i mem)) (n - 1)
  places_first = let k : n ≡ suc (n - 1) = omega arith in ap (places_from mem i) k

  module _ (e : ℕ) (end : e ≡ i + size 1 (drop i mem)) where
    pub rest_has : Has (n - 1) (drop e mem)
    rest_has =
        let k : n ≡ 1 + (n - 1) = omega arith in
        subst (λ e. Has (n - 1) (drop e mem)) (sym end)
        (subst (Has (n - 1)) (drop-drop (size 1 (drop i mem)) i mem) (has_drop (drop i mem) 1 (n - 1) (subst (λ m. Has m (drop i mem)) k h)))

    pub places_cons : places_from mem i n ≡ i ∷ places_from mem e (n - 1)
    places_cons = places_first ∙ ap (λ e. i ∷ places_from mem e (n - 1)) (sym end)

module _ (mem : List ℕ) (M : Memory mem) (kinds : Kinds) where
  pub law : Laws (over kinds mem)
  law = laws mem M (binds kinds) (binds_var kinds)

  pub kids_has : (x : ℕ) → x < length mem → Has (need (cell_at mem x)) (drop (x + 1) mem)
  kids_has x h =
      let one : 0 < 1 = omega arith in
      let s = has_step mem x 1 one (M.whole x h) in
      let v : is_var x ≡ false = low_var x (omega (arith, M.short)) in
      let e : 1 - 1 + need (get_or mem x 0) ≡ need (cell_at mem x) = zero-add (need (get_or mem x 0)) ∙ ap need (sym (cell_low mem x v h)) in
      subst (λ k. Has k (drop (x + 1) mem)) e s.has

  -- a place that is no variable is a position
  pub place_low : (x : ℕ) → Place (over kinds mem) (length mem) x → is_var x ≡ false → x < length mem
  place_low x P v = go (binds kinds (cell_at mem at)) refl
    where
      at : ℕ
      at = (place_at (over kinds mem) (length mem) x P).0

      is : canon (over kinds mem) at ≡ x
      is = (place_at (over kinds mem) (length mem) x P).2

      go : (b : Bool) → binds kinds (cell_at mem at) ≡ b → x < length mem
      go true e =
          let s : cell_at mem at ≡ x = sym (ap (λ b. cond b (cell_at mem at) at) e) ∙ is in
          true_not (subst (λ k. is_var k ≡ true) s (binds_var kinds (cell_at mem at) e)) v
      go false e =
          let s : at ≡ x = sym (ap (λ b. cond b (cell_at mem at) at) e) ∙ is in
          subst (λ k. k < length mem) s (place_at (over kinds mem) (length mem) x P).1

  -- one whose cell is not bound is a position
  pub place_sym : (x : ℕ) → Place (over kinds mem) (length mem) x → binds kinds (cell_at mem x) ≡ false → x < length mem
  place_sym x P v = place_node (over kinds mem) law (length mem) x P v

pub law_of : (u : Unifier) → Laws (graph_of u)
law_of u = law u.cells.now u.memory u.kinds

-- a link between two places that stand for themselves
module _ (u : Unifier) (x y : ℕ) (from : Root u x) (to : Root u y) (ne : x ≢ y) where
  pub link_room : length u.links.items < 512
  link_room = room_more (graph_of u) (length u.cells.now) 512 u.links.items u.fit x y ne from.itself to.itself from.place to.place

  pub link_fit : Fit (graph_of u) (length u.cells.now) 512 (u.links.items ++ ((x, y) ∷ []))
  link_fit = fit_more (graph_of u) (length u.cells.now) 512 u.links.items u.fit x y ne from.itself to.itself from.place to.place

-- the places x and y stand for those at i and j
pub record Heads (u : Unifier) (i j x y : ℕ) : Type 0 where
  pub rx : find u.links.items x ≡ x
  pub ry : find u.links.items y ≡ y
  pub ex : x ≡ norm (graph_of u) u.links.items i
  pub ey : y ≡ norm (graph_of u) u.links.items j

-- what becomes of the equations behind one that turned the links L into K becomes of all
abbrev pub Wrap : Graph → Links → Links → ℕ → ℕ → Type 0
Wrap G L K i j = (N : Links) (ps qs : List ℕ) (r : Bool) → Out G K N ps qs r → Out G L N (i ∷ ps) (j ∷ qs) r

-- after one equation
pub record Headed (u v : Unifier) (i j : ℕ) : Type 0 where
  pub cells : v.cells ≡ u.cells
  pub kinds : v.kinds ≡ u.kinds
  pub longer : length u.links.items ≤ length v.links.items
  pub wrap : Wrap (graph_of u) u.links.items v.links.items i j

module _ (u : Unifier) (i j x y : ℕ) (H : Heads u i j x y) where
  abbrev mem : List ℕ
  mem = u.cells.now

  abbrev L : Links
  L = u.links.items

  abbrev G : Graph
  G = graph_of u

  abbrev W : Laws G
  W = law_of u

  pub wrap_same : x ≡ y → Wrap G L L i j
  wrap_same e N ps qs b O = out_same G W L N i j ps qs b (sym H.ex ∙ e ∙ H.ey) O

  pub wrap_bind : binds u.kinds (cell_at mem x) ≡ true → Wrap G L (L ++ ((x, y) ∷ [])) i j
  wrap_bind v N ps qs b O = out_bind G W L i j x y (sym H.ex) (sym H.ey) H.rx H.ry N ps qs b v O

  pub wrap_back : binds u.kinds (cell_at mem y) ≡ true → Wrap G L (L ++ ((y, x) ∷ [])) i j
  wrap_back v N ps qs b O =
      out_sym G W L N (j ∷ qs) (i ∷ ps) b
      (out_bind G W L j i y x (sym H.ey) (sym H.ex) H.ry H.rx N qs ps b v (out_sym G W (L ++ ((y, x) ∷ [])) N ps qs b O))

  module _ (sx : binds u.kinds (cell_at mem x) ≡ false) (sy : binds u.kinds (cell_at mem y) ≡ false) where
    pub clash : (ps qs : List ℕ) → cell_at mem x ≢ cell_at mem y → Out G L L (i ∷ ps) (j ∷ qs) false
    clash ps qs ne = out_clash G W L i j x y (sym H.ex) (sym H.ey) H.rx H.ry sx sy ps qs ne

    pub down_no : (N : Links) (ps qs : List ℕ) → Out G (L ++ ((x, y) ∷ [])) N (kids_at mem x) (kids_at mem y) false → Out G L N (i ∷ ps) (j ∷ qs) false
    down_no N ps qs O = out_down_no G W L i j x y (sym H.ex) (sym H.ey) H.rx H.ry sx sy N ps qs O

    pub wrap_down : cell_at mem x ≡ cell_at mem y → (K : Links) → Out G (L ++ ((x, y) ∷ [])) K (kids_at mem x) (kids_at mem y) true → Wrap G L K i j
    wrap_down c K O N ps qs b P = out_down G W L i j x y (sym H.ex) (sym H.ey) H.rx H.ry sx sy K N ps qs b c O P

  pub kids_out : (m : ℕ) → m ≡ need (cell_at mem x) → m ≡ need (cell_at mem y) → (N K : Links) (r : Bool) → N ≡ L ++ ((x, y) ∷ [])
      → Out G N K (places_from mem (x + 1) m) (places_from mem (y + 1) m) r → Out G (L ++ ((x, y) ∷ [])) K (kids_at mem x) (kids_at mem y) r
  kids_out m mx my N K r e O =
      subst (λ X. Out G X K (kids_at mem x) (kids_at mem y) r) e
      (subst (λ k. Out G N K (kids_at mem x) (places_from mem (y + 1) k) r) my
      (subst (λ k. Out G N K (places_from mem (x + 1) k) (places_from mem (y + 1) m) r) mx O))

-- the equations behind, in the memory as it was
pub along : (k l : Kinds) (a b : Bor (List ℕ)) → k ≡ l → a ≡ b → (L M : Links) (i j n : ℕ) (r : Bool)
    → Out (over k a.now) L M (places_from a.now i n) (places_from a.now j n) r → Out (over l b.now) L M (places_from b.now i n) (places_from b.now j n) r
along k l a b e f L M i j n r O =
    subst (λ b. Out (over l b.now) L M (places_from b.now i n) (places_from b.now j n) r) f
    (subst (λ k. Out (over k a.now) L M (places_from a.now i n) (places_from a.now j n) r) e O)

pub same_graph : (k l : Kinds) (a b : Bor (List ℕ)) → k ≡ l → a ≡ b → over k a.now ≡ over l b.now
same_graph k l a b e f = ap (λ k. over k a.now) e ∙ ap (λ b. over l b.now) f
