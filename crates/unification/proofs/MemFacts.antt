-- The places of a memory obey the laws of a graph. Assumes nothing.
use Rattle.std.proofs.Common.{◌≡◌, ℕ, zero, suc, pred, ◌+◌, ◌-◌, ◌/◌, ◌<◌, ◌≤◌, Bool, true, false, cond, ◌&&◌, ltb, leb, List, [], ◌∷◌, ◌++◌, length, get_or, take, drop, sym, refl, ap, ◌∙◌, subst, ap₂, add-zero, zero-add, arith, length-drop, get_or-drop, drop-cons, drop-drop, take-add}
use Rattle.std.proofs.lemmas.Bool.{false≢true, lt-ltb, lt-leb}
use Rattle.cells.specs.Cells.{arity}
use Rattle.unification.specs.Rows.{Wholes}
use Rattle.unification.specs.Codes.{is_var, high_cell}
use Rattle.unification.specs.Memory.{Has, need, size, or_var, from, cell_at, term_at, places_from, kids_at, graph, Memory}
use Rattle.unification.proofs.GraphLaws.{Laws, flat}

pub has_all : (cs : List ℕ) (k : ℕ) → Wholes need k cs → Has k cs
has_all [] zero h = refl
has_all [] (suc k) h = let z : ⊥ = omega arith in absurd z
has_all (c ∷ cs) zero h = refl
has_all (c ∷ cs) (suc k) h = has_all cs (k + need c) h.1

pub has_le : (cs : List ℕ) (k : ℕ) → Has k cs → k ≤ length cs
has_le [] zero h = omega arith
has_le [] (suc k) h = absurd (false≢true h)
has_le (c ∷ cs) zero h = omega arith
has_le (c ∷ cs) (suc k) h = omega (arith, has_le cs (k + need c) h)

pub has_fewer : (cs : List ℕ) (j k : ℕ) → Has (j + k) cs → Has j cs
has_fewer [] zero k h = refl
has_fewer [] (suc j) k h = let e : suc j + k ≡ suc (j + k) = omega arith in subst (λ n. Has n []) e h
has_fewer (c ∷ cs) zero k h = refl
has_fewer (c ∷ cs) (suc j) k h =
    let e : suc j + k ≡ suc (j + k) = omega arith in
    let g : Has (j + k + need c) cs = subst (λ n. Has n (c ∷ cs)) e h in
    let d : j + k + need c ≡ j + need c + k = omega arith in
    has_fewer cs (j + need c) k (subst (λ n. Has n cs) d g)

-- the first k rows are k whole rows
pub has_wholes : (cs : List ℕ) (k : ℕ) → Has k cs → Wholes need k (take (size k cs) cs)
has_wholes [] zero h = refl
has_wholes [] (suc k) h = absurd (false≢true h)
has_wholes (c ∷ cs) zero h = refl
has_wholes (c ∷ cs) (suc k) h = ((let z : 0 < suc k = omega arith in z), has_wholes cs (k + need c) h)

-- j rows and then k rows
pub has_drop : (cs : List ℕ) (j k : ℕ) → Has (j + k) cs → Has k (drop (size j cs) cs)
has_drop [] zero k h = subst (λ n. Has n []) (zero-add k) h
has_drop [] (suc j) k h = let e : suc j + k ≡ suc (j + k) = omega arith in absurd (false≢true (subst (λ n. Has n []) e h))
has_drop (c ∷ cs) zero k h = subst (λ n. Has n (c ∷ cs)) (zero-add k) h
has_drop (c ∷ cs) (suc j) k h =
    let e : suc j + k ≡ suc (j + k) = omega arith in
    let g : Has (j + k + need c) cs = subst (λ n. Has n (c ∷ cs)) e h in
    let d : j + k + need c ≡ j + need c + k = omega arith in
    has_drop cs (j + need c) k (subst (λ n. Has n cs) d g)

pub size_zero : (cs : List ℕ) → size 0 cs ≡ 0
size_zero [] = refl
size_zero (c ∷ cs) = refl

pub size_add : (cs : List ℕ) (j k : ℕ) → Has (j + k) cs → size (j + k) cs ≡ size j cs + size k (drop (size j cs) cs)
size_add [] zero k h = refl
size_add [] (suc j) k h = let e : suc j + k ≡ suc (j + k) = omega arith in absurd (false≢true (subst (λ n. Has n []) e h))
size_add (c ∷ cs) zero k h = ap (λ n. size n (c ∷ cs)) (zero-add k) ∙ sym (zero-add (size k (c ∷ cs)))
size_add (c ∷ cs) (suc j) k h =
    let e : suc j + k ≡ suc (j + k) = omega arith in
    let g : Has (j + k + need c) cs = subst (λ n. Has n (c ∷ cs)) e h in
    let d : j + k + need c ≡ j + need c + k = omega arith in
    let r = size_add cs (j + need c) k (subst (λ n. Has n cs) d g) in
    let x = ap (λ n. size n (c ∷ cs)) e in
    let y = ap (λ n. size n cs) d in
    omega arith

pub suffix_has : (mem : List ℕ) (k n : ℕ) → Wholes need k mem → n < length mem → Has 1 (drop n mem)
suffix_has [] k n h l = let z : ⊥ = omega arith in absurd z
suffix_has (c ∷ cs) k zero h l =
    let p : 0 < k = h.0 in
    let e : k ≡ 1 + pred k = omega arith in
    has_fewer (c ∷ cs) 1 (pred k) (subst (λ n. Has n (c ∷ cs)) e (has_all (c ∷ cs) k h))
suffix_has (c ∷ cs) k (suc n) h l = suffix_has cs (pred k + need c) n h.1 (omega arith)

pub drop_tail : (mem : List ℕ) (n c : ℕ) (cs : List ℕ) → drop n mem ≡ c ∷ cs → drop (n + 1) mem ≡ cs
drop_tail mem n c cs e = sym (drop-drop 1 n mem) ∙ ap (drop 1) e

pub drop_lt : (mem : List ℕ) (n c : ℕ) (cs : List ℕ) → drop n mem ≡ c ∷ cs → n < length mem
drop_lt mem n c cs e = let x = sym (length-drop n mem) ∙ ap length e in omega arith

pub many_places : (mem : List ℕ) (q k : ℕ) → length (places_from mem q k) ≡ k
many_places mem q zero = refl
many_places mem q (suc k) = ap suc (many_places mem (q + size 1 (drop q mem)) k)

pub need_var : (c : ℕ) → is_var c ≡ true → need c ≡ 0
unfolding need
need_var c e = ap (λ b. cond b 0 (cond (ltb c 0x100000000) (c / 65536) (arity (high_cell (c - 0x100000000))))) e

and_true : (b : Bool) → (b && true) ≡ b
and_true true = refl
and_true false = refl

-- of 32 bits the top bit says it all
pub var_word : (c : ℕ) → c < 0x100000000 → is_var c ≡ leb 0x80000000 c
unfolding is_var
var_word c h = ap (λ b. leb 0x80000000 c && b) (lt-ltb c 0x100000000 h) ∙ and_true (leb 0x80000000 c)

pub need_word : (c : ℕ) → c < 0x100000000 → need c ≡ cond (is_var c) 0 (c / 65536)
unfolding need
need_word c h = ap (λ b. cond (is_var c) 0 (cond b (c / 65536) (arity (high_cell (c - 0x100000000))))) (lt-ltb c 0x100000000 h)

pub low_var : (n : ℕ) → n < 0x80000000 → is_var n ≡ false
low_var n h = let l : n < 0x100000000 = omega arith in var_word n l ∙ lt-leb 0x80000000 n h

pub var_zero : is_var 0x80000000 ≡ true
unfolding is_var
var_zero = refl

module _ (mem : List ℕ) (M : Memory mem) where
  pub from_low : (n c : ℕ) (cs : List ℕ) → drop n mem ≡ c ∷ cs → from mem n ≡ c ∷ cs
  from_low n c cs e =
      let l = drop_lt mem n c cs e in
      let v : is_var n ≡ false = low_var n (omega (arith, M.short)) in
      ap (λ b. cond b (n ∷ []) (or_var (drop n mem))) v ∙ ap or_var e

  pub term_low : (n c : ℕ) (cs : List ℕ) → drop n mem ≡ c ∷ cs → term_at mem n ≡ take (size 1 (drop n mem)) (drop n mem)
  term_low n c cs e = ap (λ D. take (size 1 D) D) (from_low n c cs e ∙ sym e)

  -- k rows from a place on are the rows at the k places
  pub flat_places : (k q : ℕ) → Has k (drop q mem) → flat (term_at mem) (places_from mem q k) ≡ take (size k (drop q mem)) (drop q mem)
  flat_places zero q h = ap (λ n. take n (drop q mem)) (sym (size_zero (drop q mem)))
  flat_places (suc k) q h = go (λ q' h'. flat_places k q' h') (drop q mem) refl h
    where
      go : ((q' : ℕ) → Has k (drop q' mem) → flat (term_at mem) (places_from mem q' k) ≡ take (size k (drop q' mem)) (drop q' mem)) →
          (D : List ℕ) → drop q mem ≡ D → Has (suc k) D → flat (term_at mem) (places_from mem q (suc k)) ≡ take (size (suc k) (drop q mem)) (drop q mem)
      go rec [] e g = absurd (false≢true g)
      go rec (c ∷ cs) e g =
          let D = drop q mem in
          let m = size 1 D in
          let n : suc k ≡ 1 + k = omega arith in
          let H : Has (1 + k) D = subst (λ j. Has j D) n (subst (Has (suc k)) (sym e) g) in
          let dd : drop m D ≡ drop (q + m) mem = drop-drop m q mem in
          let hk : Has k (drop (q + m) mem) = subst (Has k) dd (has_drop D 1 k H) in
          let r : flat (term_at mem) (places_from mem (q + m) k) ≡ take (size k (drop m D)) (drop m D) =
          rec (q + m) hk ∙ ap (λ X. take (size k X) X) (sym dd) in
          let sz : size (suc k) D ≡ m + size k (drop m D) = ap (λ j. size j D) n ∙ size_add D 1 k H in
          ap₂ (λ x y. x ++ y) (term_low q c cs e) r
          ∙ sym (take-add m (size k (drop m D)) D)
          ∙ ap (λ j. take j D) (sym sz)

  module _ (is_v : ℕ → Bool) (kinds : (c : ℕ) → is_v c ≡ true → is_var c ≡ true) where
    -- one cell that is a variable
    single : (v : ℕ) → is_var v ≡ true → Wholes need 1 (take (size 1 (v ∷ [])) (v ∷ []))
    single v e = ((let z : 0 < 1 = omega arith in z), (let n = need_var v e in omega arith))

    whole_at : (p : ℕ) → Wholes need 1 (term_at mem p)
    whole_at p = go (is_var p) refl
      where
        low : (D : List ℕ) → drop p mem ≡ D → Wholes need 1 (take (size 1 (or_var D)) (or_var D))
        low [] e = single 0x80000000 var_zero
        low (c ∷ cs) e = has_wholes (c ∷ cs) 1 (subst (Has 1) e (M.whole p (drop_lt mem p c cs e)))

        go : (b : Bool) → is_var p ≡ b → Wholes need 1 (take (size 1 (cond b (p ∷ []) (or_var (drop p mem)))) (cond b (p ∷ []) (or_var (drop p mem))))
        go true e = single p e
        go false e = low (drop p mem) refl

    no_kids : (n v : ℕ) → is_var v ≡ true → ◌≡◌ {A = List ℕ} (v ∷ []) (v ∷ flat (term_at mem) (places_from mem (n + 1) (need v)))
    no_kids n v e = ap (λ k. v ∷ flat (term_at mem) (places_from mem (n + 1) k)) (sym (need_var v e))

    term_at_lem : (p : ℕ) → term_at mem p ≡ cell_at mem p ∷ flat (term_at mem) (kids_at mem p)
    term_at_lem p = go (is_var p) refl
      where
        low : (D : List ℕ) → drop p mem ≡ D → take (size 1 (or_var D)) (or_var D) ≡ get_or (or_var D) 0 0 ∷ flat (term_at mem) (places_from mem (p + 1) (need (get_or (or_var D) 0 0)))
        low [] e = no_kids p 0x80000000 var_zero
        low (c ∷ cs) e =
            let t : drop (p + 1) mem ≡ cs = drop_tail mem p c cs e in
            let h : Has 1 (c ∷ cs) = subst (Has 1) e (M.whole p (drop_lt mem p c cs e)) in
            let z : 0 + need c ≡ need c = zero-add (need c) in
            let g : Has (need c) (drop (p + 1) mem) = subst (Has (need c)) (sym t) (subst (λ k. Has k cs) z h) in
            let r = flat_places (need c) (p + 1) g ∙ ap (λ X. take (size (need c) X) X) t in
            ap (λ k. c ∷ take (size k cs) cs) z ∙ ap (λ x. c ∷ x) (sym r)

        go : (b : Bool) → is_var p ≡ b → take (size 1 (cond b (p ∷ []) (or_var (drop p mem)))) (cond b (p ∷ []) (or_var (drop p mem)))
            ≡ get_or (cond b (p ∷ []) (or_var (drop p mem))) 0 0 ∷ flat (term_at mem) (places_from mem (p + 1) (need (get_or (cond b (p ∷ []) (or_var (drop p mem))) 0 0)))
        go true e = no_kids p p e
        go false e = low (drop p mem) refl

    var_at : (c : ℕ) → is_v c ≡ true → cell_at mem c ≡ c
    var_at c e = ap (λ b. get_or (cond b (c ∷ []) (or_var (drop c mem))) 0 0) (kinds c e)

    pub laws : Laws (graph is_v mem)
    laws = record {
      leafy = λ c e. need_var c (kinds c e);
      whole = whole_at;
      term_is = term_at_lem;
      many = λ p. many_places mem (p + 1) (need (cell_at mem p));
      var_node = var_at;
    }

-- one cell on in a row of which `left` rows are still to come
pub record Stepped (mem : List ℕ) (at left : ℕ) : Type 0 where
  pub low : at < length mem
  pub has : Has (left - 1 + need (get_or mem at 0)) (drop (at + 1) mem)
  pub same : at + 1 + size (left - 1 + need (get_or mem at 0)) (drop (at + 1) mem) ≡ at + size left (drop at mem)

pub has_step : (mem : List ℕ) (at left : ℕ) → 0 < left → Has left (drop at mem) → Stepped mem at left
has_step mem at zero p h = let z : ⊥ = omega arith in absurd z
has_step mem at (suc l) p h = go (drop at mem) refl h
  where
    go : (D : List ℕ) → drop at mem ≡ D → Has (suc l) D → Stepped mem at (suc l)
    go [] e g = absurd (false≢true g)
    go (c ∷ cs) e g =
        let t : drop (at + 1) mem ≡ cs = drop_tail mem at c cs e in
        let v : get_or mem at 0 ≡ c = ap (λ n. get_or mem n 0) (sym (add-zero at)) ∙ sym (get_or-drop at mem 0 0) ∙ ap (λ D. get_or D 0 0) e in
        let k : l + need c ≡ suc l - 1 + need (get_or mem at 0) = (let w = ap need v in omega arith) in
        let r : at + 1 + size (l + need c) cs ≡ at + size (suc l) (c ∷ cs) = omega arith in
        record {
          low = drop_lt mem at c cs e;
          has = subst (λ n. Has n (drop (at + 1) mem)) k (subst (Has (l + need c)) (sym t) g);
          same = ap₂ (λ n D. at + 1 + size n D) (sym k) t ∙ r ∙ ap (λ D. at + size (suc l) D) (sym e);
        }

pub cell_low : (mem : List ℕ) (n : ℕ) → is_var n ≡ false → n < length mem → cell_at mem n ≡ get_or mem n 0
cell_low mem n v h =
    ap (λ b. get_or (cond b (n ∷ []) (or_var (drop n mem))) 0 0) v ∙ ap (λ D. get_or (or_var D) 0 0) (drop-cons mem n 0 h)
