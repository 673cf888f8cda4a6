-- Laws of substitutions. Assumes nothing.
use Rattle.std.proofs.Common.{◌≡◌, ℕ, zero, suc, ◌+◌, List, [], ◌∷◌, ◌++◌, sym, refl, ap, ◌∙◌, subst, append_assoc, zero-add, arith}
use Rattle.cells.specs.Cells.{Cell, symbol, variable}
use Rattle.cells.specs.Rows.{Occurs, Stands}
use Rattle.cells.specs.Substitutions.{Substitution, substitute, rename, SubstitutionLaws}
use Rattle.cells.proofs.Terms.{Reads, reads_terms, terms_reads, reads_append, reads_whole, same_front}

pub substitute_append : (σ : ℕ → List Cell) (a b : List Cell) → substitute σ (a ++ b) ≡ substitute σ a ++ substitute σ b
substitute_append σ [] b = refl
substitute_append σ (symbol k f ∷ a) b = ap (λ z. symbol k f ∷ z) (substitute_append σ a b)
substitute_append σ (variable v ∷ a) b = ap (λ z. σ v ++ z) (substitute_append σ a b) ∙ sym (append_assoc (σ v) (substitute σ a) (substitute σ b))

-- a substitution leaves what is read
pub reads_substitute : (σ : ℕ → List Cell) → Substitution σ → (n : ℕ) (cs : List Cell) (m : ℕ) → Reads n cs m → Reads n (substitute σ cs) m
reads_substitute σ w n [] m p = p
reads_substitute σ w zero (c ∷ cs) m p = absurd p
reads_substitute σ w (suc n) (symbol k f ∷ cs) m p = reads_substitute σ w (k + n) cs m p
reads_substitute σ w (suc n) (variable v ∷ cs) m p =
    reads_append (suc n) (σ v) n (substitute σ cs) m (reads_whole n (σ v) (terms_reads 1 (σ v) (w v))) (reads_substitute σ w n cs m (rw zero-add at p))

pub twice : (σ τ : ℕ → List Cell) (cs : List Cell) → substitute τ (substitute σ cs) ≡ substitute (λ v. substitute τ (σ v)) cs
twice σ τ [] = refl
twice σ τ (symbol k f ∷ cs) = ap (λ z. symbol k f ∷ z) (twice σ τ cs)
twice σ τ (variable v ∷ cs) = substitute_append τ (σ v) (substitute σ cs) ∙ ap (λ z. substitute τ (σ v) ++ z) (twice σ τ cs)

same : (cs : List Cell) → rename (λ v. v) cs ≡ cs
same [] = refl
same (symbol k f ∷ cs) = ap (λ z. symbol k f ∷ z) (same cs)
same (variable v ∷ cs) = ap (λ z. variable v ∷ z) (same cs)

pub agree : (σ τ : ℕ → List Cell) (cs : List Cell) → ((v : ℕ) → Occurs cs v → σ v ≡ τ v) → substitute σ cs ≡ substitute τ cs
agree σ τ [] h = refl
agree σ τ (symbol k f ∷ cs) h = ap (λ z. symbol k f ∷ z) (agree σ τ cs (λ v o. h v (suc o.0, o.1)))
agree σ τ (variable v ∷ cs) h = λ j. h v (0, refl) j ++ agree σ τ cs (λ u o. h u (suc o.0, o.1)) j

determined : (σ τ : ℕ → List Cell) (cs : List Cell) → Substitution σ → Substitution τ → substitute σ cs ≡ substitute τ cs → (k v : ℕ) → Stands cs k v → σ v ≡ τ v
determined σ τ [] p q e k v s = let z : ◌≡◌ {A = ℕ} 0 1 = cc in absurd (omega arith)
determined σ τ (symbol a f ∷ cs) p q e zero v s = let z : ◌≡◌ {A = ℕ} 0 1 = cc in absurd (omega arith)
determined σ τ (symbol a f ∷ cs) p q e (suc k) v s = let t : substitute σ cs ≡ substitute τ cs = cc in determined σ τ cs p q t k v s
determined σ τ (variable u ∷ cs) p q e zero v s =
    let h : u ≡ v = cc in
    subst (λ x. σ x ≡ τ x) h (same_front 1 (σ u) (τ u) (substitute σ cs) (substitute τ cs) (terms_reads 1 (σ u) (p u)) (terms_reads 1 (τ u) (q u)) e).0
determined σ τ (variable u ∷ cs) p q e (suc k) v s =
    determined σ τ cs p q (same_front 1 (σ u) (τ u) (substitute σ cs) (substitute τ cs) (terms_reads 1 (σ u) (p u)) (terms_reads 1 (τ u) (q u)) e).1 k v s

pub substitution_laws : SubstitutionLaws
substitution_laws = record {
  whole = λ σ cs p w. reads_terms 1 (substitute σ cs) (reads_substitute σ p 1 cs 0 (terms_reads 1 cs w));
  append = substitute_append;
  twice = twice;
  same = same;
  agree = agree;
  determined = λ σ τ cs p q e v o. determined σ τ cs p q e o.0 v o.1;
}
