use Rattle.std.proofs.Common.{◌≡◌, ℕ, ◌+◌, ◌-◌, ◌<◌, true, false, length, drop, set, sym, ap, ◌∙◌, subst, arith, length-set}
use Rattle.std.proofs.lemmas.List.Sums.{sum_by-set}
use Rattle.unification.specs.declared.unifier.walking.Mark.TheVariants.{New, Open}
use Rattle.unification.specs.Memory.{Has, need, size, binds, cell_at, kids_at, places_from}
use Rattle.unification.specs.Finite.{newness, Above, Fin}
use Rattle.unification.specs.Unifiers.{graph_of}
use Rattle.unification.proofs.DownFacts.{law_of, places_first, kids_has, need_of, need_small}
use Rattle.unification.proofs.FinFacts.{Past, fin_none, fin_cycle, down_open, down_done, down_no, down_past, past_var, past_done, past_open, past_fin}
use Rattle.unification.proofs.unifier.Unifier.+finite_rows.Goals as goal
use Rattle.unification.proofs.unifier.Unifier.+finite_rows.Goals.{then-not-binds+in-New+else-not-finite_rows, then-not-binds+in-Done, else-not-binds, After-next}

pub returns-then-n-eq0 : goal.returns-then-n-eq0
returns-then-n-eq0 t c =
    let u = c.args.self.now in
    let G = graph_of u in
    let marks = c.args.marks.now in
    subst (λ n. Fin G u.links.items marks marks (places_from u.cells.now c.args.i n) true) (sym c.if-n-eq0.true)
    (fin_none G (law_of u) u.links.items marks c.requires.ended)

pub returns-in-Open : goal.returns-in-Open
returns-in-Open t c =
    let u = c.args.self.now in
    let G = graph_of u in
    let W = law_of u in
    let L = u.links.items in
    let marks = c.args.marks.now in
    let mem = u.cells.now in
    let pc = places_first mem c.args.n c.args.i c.if-n-eq0.false c.requires.left in
    let ps = places_from mem (c.args.i + size 1 (drop c.args.i mem)) (c.args.n - 1) in
    subst (λ P. Fin G L marks marks P false) (sym pc)
    (fin_cycle G W L c.args.i c.head-x.result.0 c.head-x.ensures.place marks ps (subst (Above G L marks) pc c.requires.above) c.in-Open.is)

pub finite_rows-requires : goal.finite_rows-requires
finite_rows-requires t c =
    let u = c.args.self.now in
    let mem = u.cells.now in
    let G = graph_of u in
    let W = law_of u in
    let L = u.links.items in
    let marks = c.args.marks.now in
    let x = c.head-x.result.0 in
    let pc = places_first mem c.args.n c.args.i c.if-n-eq0.false c.requires.left in
    let ps = places_from mem (c.args.i + size 1 (drop c.args.i mem)) (c.args.n - 1) in
    let low : x < length mem = c.head-x.ensures.low (sym c.if-not-binds.ensures) in
    let lm : x < length marks = omega (arith, c.requires.sheet) in
    let sx : binds u.kinds (cell_at mem x) ≡ false = ap (binds u.kinds) (sym c.head-x.ensures.cell) ∙ sym c.if-not-binds.ensures in
    let em = need_of mem x c.head-x.result.1 c.arity_of.result (omega arith) c.head-x.ensures.cell c.arity_of.ensures in
    let small = need_small c.head-x.result.1 (omega arith) in
    let z = sum_by-set newness marks x Open New lm in (
      omega (arith, c.decreases, em, ap need c.head-x.ensures.cell, ap newness c.in-New.is),
      (
        subst (λ k. Has k (drop (x + 1) mem)) (sym em) (kids_has mem u.memory u.kinds x low),
        (
          simp length-set c.requires.sheet,
          (
            subst (λ k. Above G L (set marks x Open) (places_from mem (x + 1) k)) (sym em) (down_open G W L c.args.i x c.head-x.ensures.place marks lm sx ps (subst (Above G L marks) pc c.requires.above)),
            down_done G W L c.args.i x c.head-x.ensures.place marks lm sx c.requires.ended,
          ),
        ),
      ),
    )

pub returns-then-not-finite_rows : goal.returns-then-not-finite_rows
returns-then-not-finite_rows t c =
    let u = c.args.self.now in
    let mem = u.cells.now in
    let G = graph_of u in
    let W = law_of u in
    let L = u.links.items in
    let marks = c.args.marks.now in
    let x = c.head-x.result.0 in
    let pc = places_first mem c.args.n c.args.i c.if-n-eq0.false c.requires.left in
    let ps = places_from mem (c.args.i + size 1 (drop c.args.i mem)) (c.args.n - 1) in
    let low : x < length mem = c.head-x.ensures.low (sym c.if-not-binds.ensures) in
    let lm : x < length marks = omega (arith, c.requires.sheet) in
    let sx : binds u.kinds (cell_at mem x) ≡ false = ap (binds u.kinds) (sym c.head-x.ensures.cell) ∙ sym c.if-not-binds.ensures in
    let em = need_of mem x c.head-x.result.1 c.arity_of.result (omega arith) c.head-x.ensures.cell c.arity_of.ensures in
    let F : Fin G L (set marks x Open) c.finite_rows.new.marks (kids_at mem x) false =
    subst (λ k. Fin G L (set marks x Open) c.finite_rows.new.marks (places_from mem (x + 1) k) false) em c.if-not-finite_rows.ensures in
    subst (λ P. Fin G L marks c.finite_rows.new.marks P false) (sym pc) (down_no G W L c.args.i x c.head-x.ensures.place marks lm sx c.finite_rows.new.marks ps F)

past : (t : ℕ) (c : After-next t) → Past (graph_of c.args.self.now) (law_of c.args.self.now) c.args.self.now.links.items c.args.marks.now c.if-not-binds.marks c.head-x.result.0
past t c =
    let u = c.args.self.now in
    let mem = u.cells.now in
    let G = graph_of u in
    let W = law_of u in
    let L = u.links.items in
    let marks = c.args.marks.now in
    let x = c.head-x.result.0 in
    elim c.if-not-binds.branch [
      | then-not-binds+in-New+else-not-finite_rows w ↦
          (let mid = w.finite_rows.new.marks in
          let low : x < length mem = c.head-x.ensures.low (sym w.if-not-binds.ensures) in
          let lm : x < length marks = omega (arith, c.requires.sheet) in
          let sx : binds u.kinds (cell_at mem x) ≡ false = ap (binds u.kinds) (sym c.head-x.ensures.cell) ∙ sym w.if-not-binds.ensures in
          let em : w.arity_of.result ≡ need (cell_at mem x) = need_of mem x c.head-x.result.1 w.arity_of.result (omega arith) c.head-x.ensures.cell w.arity_of.ensures in
          let ln : length mid ≡ length marks = omega (arith, w.finite_rows.auto.marks, length-set marks x Open) in
          let F : Fin G L (set marks x Open) mid (kids_at mem x) true = subst (λ k. Fin G L (set marks x Open) mid (places_from mem (x + 1) k) true) em w.if-not-finite_rows.ensures in
          subst (λ A. Past G W L marks A x) (sym w.marks-is) (down_past G W L c.args.i x c.head-x.ensures.place marks lm sx mid ln F))
      | then-not-binds+in-Done w ↦ subst (λ A. Past G W L marks A x) (sym w.marks-is) (past_done G W L c.args.i x c.head-x.ensures.place marks c.requires.ended w.in-Done.is)
      | else-not-binds w ↦ subst (λ A. Past G W L marks A x) (sym w.marks-is) (past_var G W L c.args.i x c.head-x.ensures.place marks c.requires.ended (ap (binds u.kinds) (sym c.head-x.ensures.cell) ∙ sym w.if-not-binds.ensures))
    ]

pub finite_rows-requires-2 : goal.finite_rows-requires-2
finite_rows-requires-2 t c =
    let u = c.args.self.now in
    let mem = u.cells.now in
    let G = graph_of u in
    let W = law_of u in
    let L = u.links.items in
    let marks = c.args.marks.now in
    let P = past t c in
    let ps = places_from mem c.next.result (c.args.n - 1) in (
      omega (arith, c.decreases, P.fewer),
      (
        c.next.ensures.rest,
        (
          omega (arith, c.requires.sheet, c.if-not-binds.auto.marks),
          (past_open G W L marks c.if-not-binds.marks c.head-x.result.0 c.args.i ps P (subst (Above G L marks) c.next.ensures.places c.requires.above), P.done),
        ),
      ),
    )

pub returns : goal.returns
returns t c =
    let u = c.args.self.now in
    let mem = u.cells.now in
    let G = graph_of u in
    let W = law_of u in
    let L = u.links.items in
    let marks = c.args.marks.now in
    let last = c.finite_rows-2.new.marks in
    let ps = places_from mem c.next.result (c.args.n - 1) in
    subst (λ Q. Fin G L marks last Q c.finite_rows-2.result) (sym c.next.ensures.places)
    (past_fin G W L c.args.i c.head-x.result.0 c.head-x.ensures.place marks c.if-not-binds.marks last ps c.finite_rows-2.result (past t (goal.at.returns t c).After-next) c.finite_rows-2.ensures)
