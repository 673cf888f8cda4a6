-- From the form of a memory's rows to the common form of a left side and a formula. Assumes nothing.
use Rattle.std.proofs.Common.{◌≡◌, ℕ, ◌<◌, ◌≤◌, Bool, List, ◌++◌, map, length, Some, None, Ok, Err, Option, Result, sym, ap, ◌∙◌, subst, subst₂, inl, inr, ⊎_elim, arith, length-take}
use Rattle.std.specs.Prelude as prelude
use Rattle.std.proofs.lemmas.List.{length-map}
use Rattle.cells.specs.Cells.{word, row, AllCells}
use Rattle.cells.specs.Rows.{Whole}
use Rattle.cells.specs.Records.{row_words}
use Rattle.cells.specs.declared.row.Row.{Row}
use Rattle.matching.specs.Relations.{Unifiable, Common}
use Rattle.unification.specs.declared.form.Form.{Form}
use Rattle.unification.specs.declared.form.TooLarge.{TooLarge}
use Rattle.unification.specs.declared.kinds.Kinds.{Kinds}
use Rattle.unification.specs.Codes.{tagged, code}
use Rattle.unification.specs.Rows.{put}
use Rattle.unification.specs.Graph.{val}
use Rattle.unification.specs.Memory.{need, term_at, Memory, over}
use Rattle.unification.specs.Close.{MostGeneral, Decided}
use Rattle.unification.specs.Number as number
use Rattle.unification.specs.Forms.{Formed}
use Rattle.unification.proofs.RelFacts.{first, second, two_rows, relates}
use Rattle.unification.proofs.BridgeFacts.{Relates, joint, joint_whole, left_put, right_put, unified, all_kinds, bound}
use Rattle.unification.proofs.TagFacts.{low_row, left_wholes, right_wholes, tagged_same, left_length, memory_length}
use Rattle.unification.proofs.CommonFacts.{form_of, form_words, form_length, form_variables, form_common}
use Rattle.unification.proofs.PlainFacts.{plain_memory, made_plain}
use Rattle.unification.proofs.CodeFacts.{AllPlain}

module _ (l f : List ℕ) (p : AllCells l) (q : AllCells f) (u : Whole (row l)) (v : Whole (row f)) (h : length (map (tagged 0x90000000) (row l) ++ f) < 0x80000000) where
  one : term_at (map (tagged 0x90000000) (row l) ++ f) 0 ≡ map (tagged 0x90000000) (row l)
  one = first all_kinds (map (tagged 0x90000000) (row l)) f (left_wholes l p u) (right_wholes f q v) h

  two : term_at (map (tagged 0x90000000) (row l) ++ f) (length (map (tagged 0x90000000) (row l))) ≡ map (tagged 0x80000000) (row f)
  two = second all_kinds (map (tagged 0x90000000) (row l)) f (left_wholes l p u) (right_wholes f q v) h ∙ sym (tagged_same f)

  module _ (g : MostGeneral (over all_kinds (map (tagged 0x90000000) (row l) ++ f)) 0 (length (map (tagged 0x90000000) (row l))))
      (m : AllPlain (val (over all_kinds (map (tagged 0x90000000) (row l) ++ f)) g.σ 0)) where
    common_of : Common (row l) (row f) (form_of (val (over all_kinds (map (tagged 0x90000000) (row l) ++ f)) g.σ 0))
    common_of =
        subst (λ x. Common (row l) (row f) (form_of (put bound g.σ x))) (sym one)
        (form_common (row l) (row f) (low_row l p) (low_row f q) g.σ g.whole
        (ap (put bound g.σ) (sym one) ∙ g.solves ∙ ap (put bound g.σ) two)
        (λ τ w e.
        ap (λ x. put bound τ (put bound g.σ x)) (sym one)
        ∙ g.general τ w (ap (put bound τ) one ∙ e ∙ ap (put bound τ) (sym two)) 0
        ∙ ap (put bound τ) one)
        (subst (λ x. AllPlain (put bound g.σ x)) one m))

  pub formed : (r : Result (Option Form) TooLarge) → number.FormFound (over all_kinds (map (tagged 0x90000000) (row l) ++ f)) 0 (length (map (tagged 0x90000000) (row l))) r
      → Formed (row l) (row f) r
  formed (Ok None) C = λ (σ, τ, c, a, b).
      C (joint σ τ) (λ x k. joint_whole σ τ a.whole b.whole x)
      (ap (put bound (joint σ τ)) one
      ∙ left_put (row l) (row f) (low_row l p) (low_row f q) σ τ
      ∙ ap (map code) (a.makes ∙ sym b.makes)
      ∙ sym (right_put (row l) (row f) (low_row l p) (low_row f q) σ τ)
      ∙ ap (put bound (joint σ τ)) (sym two))
  formed (Ok (Some form)) C =
      let R = val (over all_kinds (map (tagged 0x90000000) (row l) ++ f)) C.g.σ 0 in
      let m = made_plain (map (tagged 0x90000000) (row l) ++ f) (plain_memory l f p q) R C.made in
      let text = C.text ∙ form_words R m in (
        form_of R,
        record { common = common_of C.g m; long = ap length text ∙ length-map (form_of R) word; within = C.within; few = subst (λ n. n ≤ 64) (form_variables R m) C.few },
        text,
      )
  formed (Err e) C =
      let R = val (over all_kinds (map (tagged 0x90000000) (row l) ++ f)) C.g.σ 0 in
      let m = made_plain (map (tagged 0x90000000) (row l) ++ f) (plain_memory l f p q) R C.made in (
        form_of R,
        record {
          common = common_of C.g m;
          over = ⊎_elim (λ x. inl (omega (arith, form_length R m))) (λ x. inr (subst (λ n. 64 < n) (form_variables R m) x)) C.over;
        },
      )

-- in a memory that holds the two
module _ (l f mem : List ℕ) (e : mem ≡ map (tagged 0x90000000) (row l) ++ f) (p : AllCells l) (q : AllCells f) (u : Whole (row l)) (v : Whole (row f)) (h : length mem < 0x80000000) where
  low : length (map (tagged 0x90000000) (row l) ++ f) < 0x80000000
  low = subst (λ m. length m < 0x80000000) e h

  pub memory_holds : Memory mem
  memory_holds = subst Memory (sym e) (two_rows (map (tagged 0x90000000) (row l)) f (left_wholes l p u) (right_wholes f q v) low)

  pub memory_formed : (r : Result (Option Form) TooLarge) → number.FormFound (over all_kinds mem) 0 (length l) r → Formed (row l) (row f) r
  memory_formed r C =
      formed l f p q u v low r
      (subst (λ m. number.FormFound (over all_kinds m) 0 (length (map (tagged 0x90000000) (row l))) r) e
      (subst (λ n. number.FormFound (over all_kinds mem) 0 n r) (sym (left_length l f mem e)) C))

  pub memory_decided : (r : Bool) → Decided (over all_kinds mem) 0 (length l) r → prelude.Decides r (Unifiable (row l) (row f))
  memory_decided r D =
      unified (row l) (row f) (low_row l p) (low_row f q) r
      (subst (λ y. Relates bound need (map (tagged 0x90000000) (row l)) y r) (sym (tagged_same f))
      (relates all_kinds (map (tagged 0x90000000) (row l)) f (left_wholes l p u) (right_wholes f q v) low r
      (subst (λ m. Decided (over all_kinds m) 0 (length (map (tagged 0x90000000) (row l))) r) e
      (subst (λ n. Decided (over all_kinds mem) 0 n r) (sym (left_length l f mem e)) D))))

-- of checked rows
module _ (x : Row 60) (y : Row 256) (mem : List ℕ) (e : mem ≡ map (tagged 0x90000000) (row (row_words x)) ++ row_words y) where
  short : length mem < 0x80000000
  short =
      let a = length-take x.count x.cells in
      let b = length-take y.count y.cells in
      omega (arith, memory_length (row_words x) (row_words y) mem e, x.fits, y.fits)

  pub pair_memory : Memory mem
  pair_memory = memory_holds (row_words x) (row_words y) mem e x.good y.good x.whole y.whole short

  module _ (kinds : Kinds) (n : ℕ) (ek : kinds ≡ all_kinds) (en : n ≡ length (row_words x)) where
    pub pair_decided : (r : Bool) → Decided (over kinds mem) 0 n r → prelude.Decides r (Unifiable (row (row_words x)) (row (row_words y)))
    pair_decided r D =
        memory_decided (row_words x) (row_words y) mem e x.good y.good x.whole y.whole short r
        (subst₂ (λ k n. Decided (over k mem) 0 n r) ek en D)

    pub pair_formed : (r : Result (Option Form) TooLarge) → number.FormFound (over kinds mem) 0 n r → Formed (row (row_words x)) (row (row_words y)) r
    pair_formed r C =
        memory_formed (row_words x) (row_words y) mem e x.good y.good x.whole y.whole short r
        (subst₂ (λ k n. number.FormFound (over k mem) 0 n r) ek en C)
