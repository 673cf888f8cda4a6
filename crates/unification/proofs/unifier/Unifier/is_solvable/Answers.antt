use Rattle.std.proofs.Common.{◌≡◌, ℕ, true, List, length, get_or, sym, refl, ap, ◌∙◌, subst, arith, below_more}
use Rattle.unification.specs.declared.unifier.Unifier.{Unifier}
use Rattle.unification.specs.declared.unifier.walking.Mark.{Mark}
use Rattle.unification.specs.declared.unifier.walking.Mark.TheVariants.{Open}
use Rattle.unification.specs.Graph.{Sol}
use Rattle.unification.specs.Memory.{binds}
use Rattle.unification.specs.Finite.{mark_at, Ended}
use Rattle.unification.specs.Close.{Place}
use Rattle.unification.specs.Unifiers.{graph_of}
use Rattle.unification.proofs.OutFacts.{true_not}
use Rattle.unification.proofs.DownFacts.{law_of}
use Rattle.unification.proofs.FinFacts.{none_open, none_done}
use Rattle.unification.proofs.SolveFacts.{ends_at, sol_var, sol_down, solved_all}
use Rattle.unification.proofs.unifier.Unifier.is_solvable.Goals as goal
use Rattle.unification.proofs.unifier.Unifier.is_solvable.Goals.{then-binds+else-not-binds, else-not-binds-via-then-not-binds+else-not-finite_rows, else-not-binds-via-else-not-binds, else-binds}

pub loop-from-init : goal.loop-from-init
loop-from-init c = record {
  sheet = refl;
  closed = λ o h. none_open 512 o h;
  ended = λ o h. absurd (none_done 512 o h);
  rows = λ j h. absurd (omega arith);
}

pub resolve-root-requires : goal.resolve-root-requires
resolve-root-requires c =
    let u = c.args.self.now in
    let e = c.as_slice-from-items.ensures.value in
    subst (λ L. Place (graph_of u) (length u.cells.now) (get_or {A = ℕ × ℕ} L c.loop-from.from-index (0, 0)).0) (sym e)
    (ends_at (graph_of u) (length u.cells.now) u.links.items c.loop-from.from-index u.fit.ends (omega (arith, c.loop-from-test.true, ap length e)))

-- what is kept, and that the place has its row
record Kept (u : Unifier) (marks : List Mark) (x : ℕ) : Type 0 where
  pub sheet : length marks ≡ 512
  pub closed : (o : ℕ) → mark_at marks o ≡ Open → ⊥
  pub ended : Ended (graph_of u) u.links.items marks
  pub has : binds u.kinds x ≡ true → (row : List ℕ) × Sol (graph_of u) u.links.items x row

pub loop-from-preserved : goal.loop-from-preserved
loop-from-preserved c =
    let u = c.args.self.now in
    let mem = u.cells.now in
    let G = graph_of u in
    let W = law_of u in
    let L = u.links.items in
    let i = c.loop-from.from-index in
    let x = (get_or c.as_slice-from-items.result.now i (0, 0)).0 in
    let I = c.loop-from.invariant in
    let K : Kept u c.if-binds.marks x = elim c.if-binds.branch [
      | then-binds+else-not-binds w ↦
          subst (λ ms. Kept u ms x) (sym w.marks-is)
          (elim w.else-not-binds.branch [
            | else-not-binds-via-then-not-binds+else-not-finite_rows w' ↦
                (let sy = ap (binds u.kinds) (sym w.resolve-root.ensures.cell) ∙ sym w'.if-not-binds.ensures in
                let F = w'.if-not-finite_rows.ensures in
                subst (λ ms. Kept u ms x) (sym w'.marks-is) (record {
                  sheet = omega (arith, I.sheet, w'.finite_rows.auto.marks);
                  closed = λ o h. I.closed o (F.opened refl o h);
                  ended = F.done refl;
                  has = λ v. sol_down G W L u.fit.again x w.resolve-root.result.0 v w.resolve-root.ensures.place sy (F.rows refl);
                }))
            | else-not-binds-via-else-not-binds w' ↦
                (let sy = ap (binds u.kinds) (sym w.resolve-root.ensures.cell) ∙ sym w'.if-not-binds.ensures in
                subst (λ ms. Kept u ms x) (sym w'.marks-is) (record {
                  sheet = I.sheet;
                  closed = I.closed;
                  ended = I.ended;
                  has = λ v. sol_var G W L x w.resolve-root.result.0 v w.resolve-root.ensures.place sy;
                }))
          ])
      | else-binds w ↦
          subst (λ ms. Kept u ms x) (sym w.marks-is) (record {
            sheet = I.sheet;
            closed = I.closed;
            ended = I.ended;
            has = λ v. true_not v (sym w.if-binds.ensures);
          })
    ] in
    record {
      sheet = K.sheet;
      closed = K.closed;
      ended = K.ended;
      rows = below_more (λ j. binds u.kinds (get_or c.as_slice-from-items.result.now j (0, 0)).0 ≡ true → (row : List ℕ) × Sol G L (get_or c.as_slice-from-items.result.now j (0, 0)).0 row) i I.rows K.has;
    }

pub returns-clause-yes : goal.returns-clause-yes
returns-clause-yes c =
    let u = c.args.self.now in
    let e = c.as_slice-from-items.ensures.value in
    λ _. solved_all (graph_of u) (law_of u) u.links.items (λ j h.
    subst (λ L. binds u.kinds (get_or {A = ℕ × ℕ} L j (0, 0)).0 ≡ true → (row : List ℕ) × Sol (graph_of u) u.links.items (get_or {A = ℕ × ℕ} L j (0, 0)).0 row) e
    (c.loop-from.invariant.rows j (omega (arith, c.loop-from-test.false, ap length e))))
