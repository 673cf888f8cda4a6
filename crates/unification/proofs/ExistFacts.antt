-- Unifiable rows have a common form. Assumes nothing.
use Rattle.std.proofs.Common.{◌≡◌, ℕ, zero, suc, ◌+◌, ◌*◌, ◌/◌, ◌%◌, ◌≤◌, Bool, true, false, cond, List, [], ◌∷◌, ◌++◌, length, take, sym, refl, ap, ◌∙◌, subst, ap₂, add-zero, zero-add, arith, length-append}
use Rattle.std.proofs.lemmas.List.{take_at}
use Rattle.std.proofs.lemmas.Bool.{eq-eqb}
use Rattle.cells.specs.Cells.{Cell, symbol, variable, arity}
use Rattle.cells.specs.Rows.{Whole}
use Rattle.cells.specs.Substitutions.{Substitution, substitute, renaming, rename}
use Rattle.cells.specs.Variables.{index, collect, variables, include, normalized}
use Rattle.cells.proofs.Terms.{Reads, Terms, reads_terms, reads_append, reads_same}
use Rattle.cells.proofs.Substituting.{substitute_append, reads_substitute, substitution_laws}
use Rattle.cells.proofs.Variants.{variable_laws}
use Rattle.matching.specs.Relations.{General, Unifiable, Common}
use Rattle.matching.proofs.Relating.{relation_laws}
use Rattle.unification.proofs.StackFacts.{even, place_of, odd_place, half_place}
use Rattle.unification.proofs.MguFacts.{MostGeneral, most_general}

substitute_rename : (τ σ : ℕ → List Cell) (ρ : ℕ → ℕ) → ((v : ℕ) → τ (ρ v) ≡ σ v) → (cs : List Cell) → substitute τ (rename ρ cs) ≡ substitute σ cs
substitute_rename τ σ ρ f [] = refl
substitute_rename τ σ ρ f (symbol k g ∷ cs) = ap (λ z. symbol k g ∷ z) (substitute_rename τ σ ρ f cs)
substitute_rename τ σ ρ f (variable v ∷ cs) = ap₂ (λ x y. x ++ y) (f v) (substitute_rename τ σ ρ f cs)

-- The two rows with variables that differ: even ones and odd ones.

abbrev evens : ℕ → ℕ
evens v = 2 * v

joint : (ℕ → List Cell) → (ℕ → List Cell) → ℕ → List Cell
joint α β u = cond (even u) (α (u / 2)) (β (u / 2))

joint_evens : (α β : ℕ → List Cell) (v : ℕ) → joint α β (evens v) ≡ α v
unfolding joint
joint_evens α β v =
    let h : 2 * v / 2 ≡ v = omega arith in
    ap (λ b. cond b (α (2 * v / 2)) (β (2 * v / 2))) (eq-eqb (2 * v % 2) 0 (omega arith)) ∙ ap α h

joint_odds : (α β : ℕ → List Cell) (v : ℕ) → joint α β (place_of v) ≡ β v
unfolding joint
joint_odds α β v = ap (λ b. cond b (α (place_of v / 2)) (β (place_of v / 2))) (odd_place v) ∙ ap β (half_place v)

joint_whole : (α β : ℕ → List Cell) → Substitution α → Substitution β → Substitution (joint α β)
unfolding joint
joint_whole α β a b u = go (even u)
  where
    go : (d : Bool) → Whole (cond d (α (u / 2)) (β (u / 2)))
    go true = a (u / 2)
    go false = b (u / 2)

module _ (s t : List Cell) (ws : Whole s) (wt : Whole t) where
  abbrev a : List Cell
  a = rename evens s

  abbrev b : List Cell
  b = rename place_of t

  joint_left : (α β : ℕ → List Cell) → substitute (joint α β) a ≡ substitute α s
  joint_left α β = substitute_rename (joint α β) α evens (joint_evens α β) s

  joint_right : (α β : ℕ → List Cell) → substitute (joint α β) b ≡ substitute β t
  joint_right α β = substitute_rename (joint α β) β place_of (joint_odds α β) t

  chain : (x y z : List Cell) → General x y → General y z → General x z
  chain x y z g h = relation_laws.instance_below z x y g h

  from_general : MostGeneral a b → (c : List Cell) × Common s t c
  from_general M =
      let R = substitute M.μ a in
      let ways = (relation_laws.mutual_variants R (normalized R)).0 (variable_laws.variant R) in
      let left : General s R = (λ v. M.μ (evens v), record { whole = λ v. M.whole (evens v); makes = sym (substitute_rename M.μ (λ v. M.μ (evens v)) evens (λ v. refl) s) }) in
      let right : General t R =
      (λ v. M.μ (place_of v), record { whole = λ v. M.whole (place_of v); makes = sym (substitute_rename M.μ (λ v. M.μ (place_of v)) place_of (λ v. refl) t) ∙ sym M.same }) in (
        normalized R,
        record {
          left = chain s R (normalized R) left ways.0;
          right = chain t R (normalized R) right ways.0;
          most = λ d (α, x) (β, y).
              chain (normalized R) R d ways.1 (
                joint α β,
                record {
                  whole = joint_whole α β x.whole y.whole;
                  makes =
                      M.most (joint α β) (joint_whole α β x.whole y.whole) (joint_left α β ∙ x.makes ∙ sym y.makes ∙ sym (joint_right α β)) ∙ joint_left α β ∙ x.makes;
                },
              );
          numbered = variable_laws.again R;
        },
      )

  common_whole : Unifiable s t → (c : List Cell) × Common s t c
  common_whole (α, β, c, x, y) =
      from_general
      (most_general a b (substitution_laws.whole (renaming evens) s (λ v. refl) ws) (substitution_laws.whole (renaming place_of) t (λ v. refl) wt)
      (joint α β) (joint_whole α β x.whole y.whole) (joint_left α β ∙ x.makes ∙ sym y.makes ∙ sym (joint_right α β)))

-- Rows that are not whole are made so: a symbol in front, and constants behind.

pad : ℕ → List Cell
pad zero = []
pad (suc m) = symbol 0 0 ∷ pad m

pad_terms : (m : ℕ) → Terms m (pad m)
unfolding pad
pad_terms zero = refl
pad_terms (suc m) = subst (λ n. Terms n (pad m)) (sym (zero-add m)) (pad_terms m)

pad_same : (σ : ℕ → List Cell) (m : ℕ) → substitute σ (pad m) ≡ pad m
unfolding pad
pad_same σ zero = refl
pad_same σ (suc m) = ap (λ z. symbol 0 0 ∷ z) (pad_same σ m)

pad_collect : (us : List ℕ) (x : List Cell) (m : ℕ) → collect us (x ++ pad m) ≡ collect us x
unfolding pad
pad_collect us [] zero = refl
pad_collect us [] (suc m) = pad_collect us [] m
pad_collect us (symbol k f ∷ x) m = pad_collect us x m
pad_collect us (variable v ∷ x) m = pad_collect (include us v) x m

reads_any : (n : ℕ) (cs : List Cell) → length cs ≤ n → (m : ℕ) × Reads n cs m
reads_any n [] h = (n, refl)
reads_any zero (c ∷ cs) h = absurd (omega arith)
reads_any (suc n) (c ∷ cs) h = reads_any (arity c + n) cs (omega arith)

module _ (n m : ℕ) where
  abbrev wrap : List Cell → List Cell
  wrap x = symbol n 0 ∷ (x ++ pad m)

  wrap_whole : (x : List Cell) → Reads n x m → Whole (wrap x)
  wrap_whole x r = reads_terms 1 (wrap x) (subst (λ k. Terms k (x ++ pad m)) (sym (add-zero n)) (reads_append n x m (pad m) 0 r (pad_terms m)))

  wrap_put : (σ : ℕ → List Cell) (x : List Cell) → substitute σ (wrap x) ≡ wrap (substitute σ x)
  wrap_put σ x = ap (λ z. symbol n 0 ∷ z) (substitute_append σ x (pad m) ∙ ap (λ z. substitute σ x ++ z) (pad_same σ m))

  unwrap : (x y : List Cell) → wrap x ≡ wrap y → x ≡ y
  unwrap x y e =
      let t : x ++ pad m ≡ y ++ pad m = cc in
      let l : length x ≡ length y = omega (arith, sym (length-append x (pad m)) ∙ ap length t ∙ length-append y (pad m)) in
      sym (take_at x (pad m) (length x) refl) ∙ ap (take (length x)) t ∙ take_at y (pad m) (length x) (sym l)

  wrap_normal : (x : List Cell) → normalized (wrap x) ≡ wrap (normalized x)
  wrap_normal x = ap (λ us. rename (index us) (wrap x)) (pad_collect [] x m) ∙ wrap_put (renaming (index (variables x))) x

  wrap_general : (x d : List Cell) → General x d → General (wrap x) (wrap d)
  wrap_general x d (σ, a) = (σ, record { whole = a.whole; makes = wrap_put σ x ∙ ap wrap a.makes })

  unwrap_common : (s t c : List Cell) → Common (wrap s) (wrap t) c → (x : List Cell) × Common s t x
  unwrap_common s t c C =
      let (α, a) = C.left in
      let (β, b) = C.right in
      let x = substitute α s in
      let e : c ≡ wrap x = sym a.makes ∙ wrap_put α s in (
        x,
        record {
          left = (α, record { whole = a.whole; makes = refl });
          right = (β, record { whole = b.whole; makes = unwrap (substitute β t) x (sym (wrap_put β t) ∙ b.makes ∙ e) });
          most = λ d g h.
              let (ρ, r) = C.most (wrap d) (wrap_general s d g) (wrap_general t d h) in
              (ρ, record { whole = r.whole; makes = unwrap (substitute ρ x) d (sym (wrap_put ρ x) ∙ ap (substitute ρ) (sym e) ∙ r.makes) });
          numbered = unwrap (normalized x) x (sym (wrap_normal x) ∙ ap normalized (sym e) ∙ C.numbered ∙ e);
        },
      )

pub common_exists : (s t : List Cell) → Unifiable s t → (c : List Cell) × Common s t c
common_exists s t (σ, τ, c, a, b) =
    let n = length s + length t in
    let (m, r) = reads_any n s (omega arith) in
    let (k, q) = reads_any n t (omega arith) in
    let e : substitute σ s ≡ substitute τ t = a.makes ∙ sym b.makes in
    let i : k ≡ m = reads_same n (substitute τ t) k m (reads_substitute τ b.whole n t k q) (subst (λ x. Reads n x m) e (reads_substitute σ a.whole n s m r)) in
    let (d, C) = common_whole (wrap n m s) (wrap n m t) (wrap_whole n m s r) (wrap_whole n m t (subst (Reads n t) i q)) (
      σ,
      τ,
      wrap n m c,
      record { whole = a.whole; makes = wrap_put n m σ s ∙ ap (wrap n m) a.makes },
      record { whole = b.whole; makes = wrap_put n m τ t ∙ ap (wrap n m) b.makes },
    ) in
    unwrap_common n m s t d C
