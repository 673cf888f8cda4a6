-- The decision over a memory of two rows, as a relation of the two rows. Assumes nothing.
use Rattle.std.proofs.Common.{◌≡◌, ℕ, zero, suc, ◌+◌, ◌<◌, Bool, cond, List, [], ◌∷◌, ◌++◌, length, take, drop, sym, refl, ap, ◌∙◌, append-nil, arith, length-append, take_at}
use lib.Seq.{drop-append_seam}
use Rattle.unification.specs.declared.kinds.Kinds.{Kinds}
use Rattle.unification.specs.Rows.{Wholes, put}
use Rattle.unification.specs.Memory.{need, binds, size, or_var, from, term_at, Memory, over}
use Rattle.unification.specs.Close.{Decided}
use Rattle.unification.proofs.RowFacts.{wholes_append}
use Rattle.unification.proofs.BridgeFacts.{Relates}
use Rattle.unification.proofs.MemFacts.{low_var, suffix_has}

pub size_whole : (s t : List ℕ) (k : ℕ) → Wholes need k s → size k (s ++ t) ≡ length s
size_whole [] [] k h = refl
size_whole [] (c ∷ t) k h = ap (λ n. size n (c ∷ t)) h
size_whole (c ∷ s) t zero h = let p : 0 < 0 = h.0 in let z : ⊥ = omega arith in absurd z
size_whole (c ∷ s) t (suc k) h = ap suc (size_whole s t (k + need c) h.1)

-- a whole row that stands at a place is the row there
pub term_stands : (mem : List ℕ) (p : ℕ) (s t : List ℕ) → p < 0x80000000 → drop p mem ≡ s ++ t → Wholes need 1 s → term_at mem p ≡ s
term_stands mem p s t h e w =
    ap (λ D. take (size 1 D) D) at ∙ ap (λ n. take n (s ++ t)) (size_whole s t 1 w) ∙ take_at s t (length s) refl
  where
    solid : (s t : List ℕ) → Wholes need 1 s → or_var (s ++ t) ≡ s ++ t
    solid [] t w = let z : ⊥ = omega arith in absurd z
    solid (c ∷ s) t w = refl

    at : from mem p ≡ s ++ t
    at = ap (λ b. cond b (p ∷ []) (or_var (drop p mem))) (low_var p h) ∙ ap or_var e ∙ solid s t w

pub two_rows : (s t : List ℕ) → Wholes need 1 s → Wholes need 1 t → length (s ++ t) < 0x80000000 → Memory (s ++ t)
two_rows s t u v h = record { whole = λ p l. suffix_has (s ++ t) (1 + 1) p (wholes_append need s t 1 1 u v) l; short = h }

module _ (kinds : Kinds) (a b : List ℕ) (u : Wholes need 1 a) (v : Wholes need 1 b) (h : length (a ++ b) < 0x80000000) where
  pub first : term_at (a ++ b) 0 ≡ a
  first = let z : 0 < 0x80000000 = omega arith in term_stands (a ++ b) 0 a b z refl u

  pub second : term_at (a ++ b) (length a) ≡ b
  second =
      let z : length a < 0x80000000 = omega (arith, length-append a b) in
      term_stands (a ++ b) (length a) b [] z (drop-append_seam a b ∙ sym (append-nil b)) v

  pub relates : (x : Bool) → Decided (over kinds (a ++ b)) 0 (length a) x → Relates (binds kinds) need a b x
  relates x D = record {
    yes = λ e.
        let g = D.yes e in
        (g.σ, g.whole, ap (put (binds kinds) g.σ) (sym first) ∙ g.solves ∙ ap (put (binds kinds) g.σ) second);
    no = λ e σ w q. D.no e σ w (ap (put (binds kinds) σ) first ∙ q ∙ ap (put (binds kinds) σ) (sym second));
  }
