use Rattle.std.proofs.Common.{◌≡◌, ℕ, zero, suc, ◌-◌, List, [], ◌∷◌, ◌++◌, map, length, take, drop, sym, refl, ap, ◌∙◌, subst, arith}
use native.Mathlib.Nat.{sub-zero}
use Rattle.cells.specs.Cells.{AllCells, row}
use Rattle.cells.specs.Rows.{Whole}
use Rattle.cells.specs.Variables.{index, renamed_word}
use Rattle.cells.specs.Records.{row_words}
use Rattle.cells.proofs.Listing.{index_le}
use Rattle.cells.proofs.Renamed.{words_rename, renamed_whole, renamed_cells}
use Rattle.cells.proofs.row.renaming.RuleSide.renamed.Goals as goal

take_over : (f : ℕ → ℕ) (n : ℕ) (ws : List ℕ) → take n (map f (take n ws) ++ drop n ws) ≡ map f (take n ws)
take_over f zero ws = refl
take_over f (suc n) [] = refl
take_over f (suc n) (w ∷ ws) = ap (λ z. f w ∷ z) (take_over f n ws)

-- the front of the cells after the call
front : (us vs ws now : List ℕ) (n : ℕ) → us ≡ vs → now ≡ map (renamed_word (index us)) (take (n - 0) ws) → take n (now ++ drop (n - 0) ws) ≡ map (renamed_word (index vs)) (take n ws)
front us vs ws now n p q = let z = sub-zero n in let e = take_over (renamed_word (index vs)) n ws in cc

pub rename_words-requires : goal.rename_words-requires
rename_words-requires c =
    c.deref.ensures.1

pub invariant_of-result : goal.invariant_of-result
invariant_of-result c =
    let n = c.args.names.now in
    let x = c.args.self.now in
    let ρ = index n.items in
    let e = front c.deref.result.now n.items x.cells c.rename_words.new.cells x.count c.deref.ensures.0 c.rename_words.ensures in record {
      fits = x.fits;
      good = subst AllCells (sym e) (renamed_cells ρ (row_words x) (λ v. omega (arith, ap length c.deref.ensures.0, c.deref.ensures.1, index_le n.items v)) x.good);
      whole = subst (λ ws. Whole (row ws)) (sym e) (renamed_whole ρ (row_words x) x.whole);
    }

pub returns : goal.returns
returns c =
    let n = c.args.names.now in
    let x = c.args.self.now in
    front c.deref.result.now n.items x.cells c.rename_words.new.cells x.count c.deref.ensures.0 c.rename_words.ensures
    ∙ sym (words_rename (index n.items) (row_words x))
