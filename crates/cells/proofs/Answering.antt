-- Each check has one answer. Assumes nothing.
use Rattle.std.proofs.Common.{◌≡◌, ℕ, ◌<◌, ◌≤◌, true, false, List, length, take, drop, Ok, Err, sym, refl, ap, ◌∙◌, subst, ⊎_elim, arith, take-append-drop}
use lib.ListN.{length-map}
use Rattle.std.proofs.lemmas.List.{take_all, length-take-le}
use Rattle.std.proofs.lemmas.Bool.{cases_order, true≢false}
use Rattle.refusals.specs.declared.CellFault.{CellFault}
use Rattle.refusals.specs.declared.CellFault.TheVariants.{Length, NoCell, EndsEarly, LeftOver}
use Rattle.refusals.specs.declared.RuleFault.{RuleFault}
use Rattle.refusals.specs.declared.RuleFault.TheVariants.{Cells, BareVariable, NewVariable}
use Rattle.refusals.specs.declared.Side.TheVariants.{Left, Right}
use Rattle.cells.specs.Cells.{Cell, cell, row}
use Rattle.cells.specs.Rows.{Whole, Stands, Occurs}
use Rattle.cells.specs.Checks.{CheckedRow, RowFault, OneRowAnswer}
use Rattle.cells.specs.Rules.{Sides, bare, GoodSides, SidesFault, OneSidesAnswer}
use Rattle.cells.proofs.Terms.{same_front, terms_reads}

-- only one front of a row is whole
one_front : (cs : List Cell) (p q : ℕ) → p ≤ length cs → q ≤ length cs → Whole (take p cs) → Whole (take q cs) → p ≡ q
one_front cs p q lp lq wp wq =
    let r = same_front 1 (take p cs) (take q cs) (drop p cs) (drop q cs) (terms_reads 1 (take p cs) wp) (terms_reads 1 (take q cs) wq) (take-append-drop p cs ∙ sym (take-append-drop q cs)) in
    sym (length-take-le p cs lp) ∙ ap length r.0 ∙ length-take-le q cs lq

-- the lowest of its kind is one
lowest : (P : ℕ → Type 0) (p q : ℕ) → (P p → ⊥) → (P q → ⊥) → ((k : ℕ) → k < p → P k) → ((k : ℕ) → k < q → P k) → p ≡ q
lowest P p q a b x y = ⊎_elim (λ e. e) (⊎_elim (λ l. absurd (a (y p l))) (λ l. absurd (b (x q l)))) (cases_order p q)

module _ (limit : ℕ) (ws : List ℕ) where
  passes : (f : CellFault) → CheckedRow limit ws → RowFault limit ws f → ⊥
  passes (Length n) a b = b.1 a.within
  passes (NoCell p) a b = b.1.here (a.cells p b.1.inside)
  passes (EndsEarly n) a b = b.3 (length ws) (subst Whole (sym (take_all (length ws) (row ws) (simp length-map (omega arith)))) a.whole)
  passes (LeftOver p) a b =
      let m = length-map ws cell in
      let l = b.2 in
      let e = one_front (row ws) p (length ws) (omega arith) (omega arith) b.3 (subst Whole (sym (take_all (length ws) (row ws) (omega arith))) a.whole) in
      omega arith

  one_fault : (f g : CellFault) → RowFault limit ws f → RowFault limit ws g → f ≡ g
  one_fault (Length n) (Length m) a b = ap Length (a.0 ∙ sym b.0)
  one_fault (Length n) (NoCell q) a b = absurd (a.1 b.0)
  one_fault (Length n) (EndsEarly q) a b = absurd (a.1 b.0)
  one_fault (Length n) (LeftOver q) a b = absurd (a.1 b.0)
  one_fault (NoCell p) (Length m) a b = absurd (b.1 a.0)
  one_fault (NoCell p) (NoCell q) a b = ap NoCell (lowest _ p q a.1.here b.1.here a.1.before b.1.before)
  one_fault (NoCell p) (EndsEarly q) a b = absurd (a.1.here (b.1 p a.1.inside))
  one_fault (NoCell p) (LeftOver q) a b = absurd (a.1.here (b.1 p a.1.inside))
  one_fault (EndsEarly p) (Length m) a b = absurd (b.1 a.0)
  one_fault (EndsEarly p) (NoCell q) a b = absurd (b.1.here (a.1 q b.1.inside))
  one_fault (EndsEarly p) (EndsEarly q) a b = ap EndsEarly (a.2 ∙ sym b.2)
  one_fault (EndsEarly p) (LeftOver q) a b = absurd (a.3 q b.3)
  one_fault (LeftOver p) (Length m) a b = absurd (b.1 a.0)
  one_fault (LeftOver p) (NoCell q) a b = absurd (b.1.here (a.1 q b.1.inside))
  one_fault (LeftOver p) (EndsEarly q) a b = absurd (b.3 p a.3)
  one_fault (LeftOver p) (LeftOver q) a b =
      let m = length-map ws cell in
      let x = a.2 in
      let y = b.2 in
      ap LeftOver (one_front (row ws) p q (omega arith) (omega arith) a.3 b.3)

pub one_row_answer : OneRowAnswer
one_row_answer limit ws (Ok u) (Ok v) a b = refl
one_row_answer limit ws (Ok u) (Err g) a b = absurd (passes limit ws g a b)
one_row_answer limit ws (Err f) (Ok v) a b = absurd (passes limit ws f b a)
one_row_answer limit ws (Err f) (Err g) a b = ap Err (one_fault limit ws f g a b)

bare_or_not : (l : List Cell) → bare l ≡ true → bare l ≡ false → ⊥
bare_or_not l a b = true≢false (sym a ∙ b)

sides_pass : (s : Sides) (f : RuleFault) → GoodSides s → SidesFault s f → ⊥
sides_pass s (Cells Left f) a b = passes 60 s.left f a.left.checked b
sides_pass s (Cells Right f) a b = passes 60 s.right f a.right b.1
sides_pass s BareVariable a b = bare_or_not (row s.left) b.1 a.left.proper
sides_pass s (NewVariable p) a b = let n = b.2 in n.lacks (a.covered p n.v n.here)

one_sides_fault : (s : Sides) (f g : RuleFault) → SidesFault s f → SidesFault s g → f ≡ g
one_sides_fault s (Cells Left f) (Cells Left g) a b = ap (Cells Left) (one_fault 60 s.left f g a b)
one_sides_fault s (Cells Left f) (Cells Right g) a b = absurd (passes 60 s.left f b.0.checked a)
one_sides_fault s (Cells Left f) BareVariable a b = absurd (passes 60 s.left f b.0 a)
one_sides_fault s (Cells Left f) (NewVariable q) a b = absurd (passes 60 s.left f b.0.checked a)
one_sides_fault s (Cells Right f) (Cells Left g) a b = absurd (passes 60 s.left g a.0.checked b)
one_sides_fault s (Cells Right f) (Cells Right g) a b = ap (Cells Right) (one_fault 60 s.right f g a.1 b.1)
one_sides_fault s (Cells Right f) BareVariable a b = absurd (bare_or_not (row s.left) b.1 a.0.proper)
one_sides_fault s (Cells Right f) (NewVariable q) a b = absurd (passes 60 s.right f b.1 a.1)
one_sides_fault s BareVariable (Cells Left g) a b = absurd (passes 60 s.left g a.0 b)
one_sides_fault s BareVariable (Cells Right g) a b = absurd (bare_or_not (row s.left) a.1 b.0.proper)
one_sides_fault s BareVariable BareVariable a b = refl
one_sides_fault s BareVariable (NewVariable q) a b = absurd (bare_or_not (row s.left) a.1 b.0.proper)
one_sides_fault s (NewVariable p) (Cells Left g) a b = absurd (passes 60 s.left g a.0.checked b)
one_sides_fault s (NewVariable p) (Cells Right g) a b = absurd (passes 60 s.right g a.1 b.1)
one_sides_fault s (NewVariable p) BareVariable a b = absurd (bare_or_not (row s.left) b.1 a.0.proper)
one_sides_fault s (NewVariable p) (NewVariable q) a b =
    let m = a.2 in
    let n = b.2 in
    let P : ℕ → Type 0 = λ k. (v : ℕ) → Stands (row s.right) k v → Occurs (row s.left) v in
    ap NewVariable (lowest P p q (λ h. m.lacks (h m.v m.here)) (λ h. n.lacks (h n.v n.here)) (λ k l u. m.before k u l) (λ k l u. n.before k u l))

pub one_sides_answer : OneSidesAnswer
one_sides_answer s (Ok u) (Ok v) a b = refl
one_sides_answer s (Ok u) (Err g) a b = absurd (sides_pass s g a b)
one_sides_answer s (Err f) (Ok v) a b = absurd (sides_pass s f b a)
one_sides_answer s (Err f) (Err g) a b = ap Err (one_sides_fault s f g a b)
