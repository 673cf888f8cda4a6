-- Writing the common form has one answer. Assumes nothing.
use Rattle.std.proofs.Common.{◌≡◌, ℕ, ◌<◌, ◌≤◌, List, ◌++◌, length, drop, Some, None, Ok, Err, sym, refl, ap, ◌∙◌, ⊎_elim, arith}
use Rattle.cells.specs.Cells.{Cell, row, words}
use Rattle.cells.specs.Variables.{variables}
use Rattle.matching.specs.declared.fault.MatchFault.{MatchFault}
use Rattle.matching.specs.Relations.{Unifiable, Common}
use Rattle.matching.specs.Pairs.{GoodPair, PairFault}
use Rattle.matching.proofs.Relating.{relation_laws}
use Rattle.matching.proofs.Pairing.{one_pair_answer}
use Rattle.unification.specs.declared.fault.FormFault.TheVariants.{ShortBuffer, Rows, TooLarge}
use Rattle.unification.specs.Forms.{Fitting, Passing, OneFormAnswer}
use Rattle.unification.specs.FormsOfRows.{OneRowsFormAnswer}

-- rows with a common form are unifiable
common_unifies : (s t c : List Cell) → Common s t c → Unifiable s t
common_unifies s t c h = (h.left.0, h.right.0, c, h.left.1, h.right.1)

-- a form that fits is not too large
fits_or_passes : (s t c d : List Cell) (n : ℕ) → Fitting s t c n → Passing s t d → ⊥
fits_or_passes s t c d n a b =
    let e = relation_laws.one_common s t c d a.common b.common in
    let long = ap length e in
    let many = ap (λ x. length (variables x)) e in
    ⊎_elim (λ l. let i = a.long in let w = a.within in omega arith) (λ l. let w = a.few in omega arith) b.over

-- a buffer with room is not short
room_or_short : (old : List ℕ) (n : ℕ) → 256 ≤ length old → n ≡ length old → n < 256 → ⊥
room_or_short old n a b c = omega arith

module _ (s t : List Cell) (old new new' : List ℕ) where
  one_written : (n m : ℕ) (c d : List Cell) → Fitting s t c n → Fitting s t d m → new ≡ words c ++ drop n old → new' ≡ words d ++ drop m old → (n ≡ m) × (new ≡ new')
  one_written n m c d a b x y =
      let e = relation_laws.one_common s t c d a.common b.common in
      let k : n ≡ m = a.long ∙ ap length e ∙ sym b.long in
      (k, x ∙ ap (λ z. words z ++ drop n old) e ∙ ap (λ z. words d ++ drop z old) k ∙ sym y)

pub one_form_answer : OneFormAnswer
one_form_answer s t old new new' (Err (Rows e)) y a b = absurd a
one_form_answer s t old new new' x (Err (Rows e)) a b = absurd b
one_form_answer s t old new new' (Err (ShortBuffer n)) (Err (ShortBuffer m)) a b = (ap (λ x. Err (ShortBuffer x)) (a.0 ∙ sym b.0), a.2 ∙ sym b.2)
one_form_answer s t old new new' (Err (ShortBuffer n)) (Err TooLarge) a b = absurd (room_or_short old n b.0 a.0 a.1)
one_form_answer s t old new new' (Err (ShortBuffer n)) (Ok None) a b = absurd (room_or_short old n b.0 a.0 a.1)
one_form_answer s t old new new' (Err (ShortBuffer n)) (Ok (Some m)) a b = absurd (room_or_short old n b.0 a.0 a.1)
one_form_answer s t old new new' (Err TooLarge) (Err (ShortBuffer n)) a b = absurd (room_or_short old n a.0 b.0 b.1)
one_form_answer s t old new new' (Ok None) (Err (ShortBuffer n)) a b = absurd (room_or_short old n a.0 b.0 b.1)
one_form_answer s t old new new' (Ok (Some m)) (Err (ShortBuffer n)) a b = absurd (room_or_short old n a.0 b.0 b.1)
one_form_answer s t old new new' (Ok None) (Ok None) a b = (refl, a.1 ∙ sym b.1)
one_form_answer s t old new new' (Ok None) (Ok (Some m)) a b = let w = b.1 in absurd (a.2 (common_unifies s t w.0 w.1.common))
one_form_answer s t old new new' (Ok None) (Err TooLarge) a b = let w = b.2 in absurd (a.2 (common_unifies s t w.0 w.1.common))
one_form_answer s t old new new' (Ok (Some n)) (Ok None) a b = let w = a.1 in absurd (b.2 (common_unifies s t w.0 w.1.common))
one_form_answer s t old new new' (Ok (Some n)) (Ok (Some m)) a b =
    let v = a.1 in
    let w = b.1 in
    let e = one_written s t old new new' n m v.0 w.0 v.1 w.1 v.2 w.2 in
    (ap (λ x. Ok (Some x)) e.0, e.1)
one_form_answer s t old new new' (Ok (Some n)) (Err TooLarge) a b = let v = a.1 in let w = b.2 in absurd (fits_or_passes s t v.0 w.0 n v.1 w.1)
one_form_answer s t old new new' (Err TooLarge) (Ok None) a b = let w = a.2 in absurd (b.2 (common_unifies s t w.0 w.1.common))
one_form_answer s t old new new' (Err TooLarge) (Ok (Some m)) a b = let v = a.2 in let w = b.1 in absurd (fits_or_passes s t w.0 v.0 m w.1 v.1)
one_form_answer s t old new new' (Err TooLarge) (Err TooLarge) a b = (refl, a.1 ∙ sym b.1)

module _ (l f : List ℕ) where
  rows_pass : (e : MatchFault) → GoodPair l f → PairFault l f e → ⊥
  rows_pass e a b =
      let h = one_pair_answer l f (Ok tt) (Err e) a b in
      let z : ◌≡◌ {A = ℕ} 0 1 = cc in
      omega arith

  one_rows : (e g : MatchFault) → PairFault l f e → PairFault l f g → e ≡ g
  one_rows e g a b = let h = one_pair_answer l f (Err e) (Err g) a b in cc

pub one_rows_form_answer : OneRowsFormAnswer
one_rows_form_answer l f old new new' (Err (Rows e)) (Err (Rows g)) a b = (ap (λ x. Err (Rows x)) (one_rows l f e g a.1 b.1), a.2 ∙ sym b.2)
one_rows_form_answer l f old new new' (Err (Rows e)) (Err (ShortBuffer n)) a b = absurd (room_or_short old n a.0 b.0 b.1)
one_rows_form_answer l f old new new' (Err (Rows e)) (Err TooLarge) a b = absurd (rows_pass l f e b.0 a.1)
one_rows_form_answer l f old new new' (Err (Rows e)) (Ok y) a b = absurd (rows_pass l f e b.0 a.1)
one_rows_form_answer l f old new new' (Err (ShortBuffer n)) (Err (Rows e)) a b = absurd (room_or_short old n b.0 a.0 a.1)
one_rows_form_answer l f old new new' (Err TooLarge) (Err (Rows e)) a b = absurd (rows_pass l f e a.0 b.1)
one_rows_form_answer l f old new new' (Ok x) (Err (Rows e)) a b = absurd (rows_pass l f e a.0 b.1)
one_rows_form_answer l f old new new' (Err (ShortBuffer n)) (Err (ShortBuffer m)) a b = one_form_answer (row l) (row f) old new new' (Err (ShortBuffer n)) (Err (ShortBuffer m)) a b
one_rows_form_answer l f old new new' (Err (ShortBuffer n)) (Err TooLarge) a b = one_form_answer (row l) (row f) old new new' (Err (ShortBuffer n)) (Err TooLarge) a b.1
one_rows_form_answer l f old new new' (Err (ShortBuffer n)) (Ok y) a b = one_form_answer (row l) (row f) old new new' (Err (ShortBuffer n)) (Ok y) a b.1
one_rows_form_answer l f old new new' (Err TooLarge) (Err (ShortBuffer n)) a b = one_form_answer (row l) (row f) old new new' (Err TooLarge) (Err (ShortBuffer n)) a.1 b
one_rows_form_answer l f old new new' (Err TooLarge) (Err TooLarge) a b = one_form_answer (row l) (row f) old new new' (Err TooLarge) (Err TooLarge) a.1 b.1
one_rows_form_answer l f old new new' (Err TooLarge) (Ok y) a b = one_form_answer (row l) (row f) old new new' (Err TooLarge) (Ok y) a.1 b.1
one_rows_form_answer l f old new new' (Ok x) (Err (ShortBuffer n)) a b = one_form_answer (row l) (row f) old new new' (Ok x) (Err (ShortBuffer n)) a.1 b
one_rows_form_answer l f old new new' (Ok x) (Err TooLarge) a b = one_form_answer (row l) (row f) old new new' (Ok x) (Err TooLarge) a.1 b.1
one_rows_form_answer l f old new new' (Ok x) (Ok y) a b = one_form_answer (row l) (row f) old new new' (Ok x) (Ok y) a.1 b.1
