use Rattle.std.proofs.Common.{◌≡◌, ℕ, ◌+◌, ◌-◌, true, false, ◌∷◌, length, drop, sym, refl, ap, ◌∙◌, subst, subst₂, arith, length-append}
use Rattle.unification.specs.Memory.{Has, need, binds, places_from}
use Rattle.unification.specs.Close.{Out}
use Rattle.unification.specs.Unifiers.{graph_of}
use Rattle.unification.proofs.OutFacts.{out_none}
use Rattle.unification.proofs.DownFacts.{law_of, places_first, kids_has, need_arity, need_small, Heads, Wrap, Headed, link_room, wrap_same, wrap_bind, wrap_back, wrap_down, clash, down_no, kids_out, along}
use Rattle.unification.proofs.unifier.Unifier.+unify_rows.Goals as goal
use Rattle.unification.proofs.unifier.Unifier.+unify_rows.Goals.{then-x-y+then-binds, then-x-y+else-binds+then-binds-2, then-x-y+else-binds+else-binds-2+else-c-d+else-not-unify_rows, else-x-y, After-head-y, Joined-x-y}

heads : (t : ℕ) (c : After-head-y t) → Heads c.args.self.now c.args.i c.args.j c.head-x.result.0 c.head-y.result.0
heads t c = record { rx = c.head-x.ensures.root.itself; ry = c.head-y.ensures.root.itself; ex = c.head-x.ensures.place; ey = c.head-y.ensures.place }

pub returns-then-n-eq0-clause-out : goal.returns-then-n-eq0-clause-out
returns-then-n-eq0-clause-out t c =
    let u = c.args.self.now in
    let mem = u.cells.now in
    let G = graph_of u in
    let L = u.links.items in
    subst (λ n. Out G L L (places_from mem c.args.i n) (places_from mem c.args.j n) true) (sym c.if-n-eq0.true)
    (out_none G (law_of u) L)

pub returns-then-c-d-clause-out : goal.returns-then-c-d-clause-out
returns-then-c-d-clause-out t c =
    let u = c.args.self.now in
    let mem = u.cells.now in
    let at = (goal.at.returns-then-c-d-clause-out t c).After-head-y in
    let sx = ap (binds u.kinds) (sym c.head-x.ensures.cell) ∙ sym c.if-binds.ensures in
    let sy = ap (binds u.kinds) (sym c.head-y.ensures.cell) ∙ sym c.if-binds-2.ensures in
    subst₂ (λ P Q. Out (graph_of u) u.links.items u.links.items P Q false) (sym (places_first mem c.args.n c.args.i c.if-n-eq0.false c.requires.left)) (sym (places_first mem c.args.n c.args.j c.if-n-eq0.false c.requires.right))
    (clash c.args.self.now c.args.i c.args.j c.head-x.result.0 c.head-y.result.0 (heads t at) sx sy _ _ (λ e. c.if-c-d.true (c.head-x.ensures.cell ∙ e ∙ sym c.head-y.ensures.cell)))

pub unify_rows-requires : goal.unify_rows-requires
unify_rows-requires t c =
    let u = c.args.self.now in
    let mem = u.cells.now in
    let v = c.link-else-c-d.ensures in
    let room = link_room u c.head-x.result.0 c.head-y.result.0 c.head-x.ensures.root c.head-y.ensures.root c.if-x-y.true in
    let longer = ap length v.links in
    let many = c.arity_of.ensures ∙ need_arity c.head-x.result.1 (omega arith) in
    let mx = many ∙ ap need c.head-x.ensures.cell in
    let my = many ∙ ap need (c.if-c-d.false ∙ c.head-y.ensures.cell) in (
      omega (arith, c.decreases, longer, length-append {A = ℕ × ℕ}, many, need_small c.head-x.result.1 (omega arith)),
      (
        subst₂ (λ k b. Has k (drop (c.head-x.result.0 + 1) b.now)) (sym mx) (sym v.cells) (kids_has mem u.memory u.kinds c.head-x.result.0 (c.head-x.ensures.low (sym c.if-binds.ensures))),
        subst₂ (λ k b. Has k (drop (c.head-y.result.0 + 1) b.now)) (sym my) (sym v.cells) (kids_has mem u.memory u.kinds c.head-y.result.0 (c.head-y.ensures.low (sym c.if-binds-2.ensures))),
      ),
    )

pub returns-then-not-unify_rows-clause-out : goal.returns-then-not-unify_rows-clause-out
returns-then-not-unify_rows-clause-out t c =
    let u = c.args.self.now in
    let mem = u.cells.now in
    let v = c.link-else-c-d.new.self in
    let at = (goal.at.returns-then-not-unify_rows-clause-out t c).After-head-y in
    let sx = ap (binds u.kinds) (sym c.head-x.ensures.cell) ∙ sym c.if-binds.ensures in
    let sy = ap (binds u.kinds) (sym c.head-y.ensures.cell) ∙ sym c.if-binds-2.ensures in
    let many = c.arity_of.ensures ∙ need_arity c.head-x.result.1 (omega arith) in
    let mx = many ∙ ap need c.head-x.ensures.cell in
    let my = many ∙ ap need (c.if-c-d.false ∙ c.head-y.ensures.cell) in
    let K = c.unify_rows.new.self.links.items in
    let O = along v.kinds u.kinds v.cells u.cells c.link-else-c-d.ensures.kinds c.link-else-c-d.ensures.cells v.links.items K (c.head-x.result.0 + 1) (c.head-y.result.0 + 1) c.arity_of.result false c.if-not-unify_rows.ensures.out in
    subst₂ (λ P Q. Out (graph_of u) u.links.items K P Q false) (sym (places_first mem c.args.n c.args.i c.if-n-eq0.false c.requires.left)) (sym (places_first mem c.args.n c.args.j c.if-n-eq0.false c.requires.right))
    (down_no c.args.self.now c.args.i c.args.j c.head-x.result.0 c.head-y.result.0 (heads t at) sx sy K _ _ (kids_out c.args.self.now c.args.i c.args.j c.head-x.result.0 c.head-y.result.0 (heads t at) c.arity_of.result mx my v.links.items K false c.link-else-c-d.ensures.links O))

-- whichever way the first equation went
headed : (t : ℕ) (c : Joined-x-y t) → Heads c.args.self.now c.args.i c.args.j c.head-x.result.0 c.head-y.result.0 → Headed c.args.self.now c.if-x-y.self c.args.i c.args.j
headed t c h =
    let u = c.args.self.now in
    let mem = u.cells.now in
    let G = graph_of u in
    elim c.if-x-y.branch [
      | then-x-y+then-binds w ↦
          subst (λ v. Headed u v c.args.i c.args.j) (sym w.self-is) (record {
            cells = w.link.ensures.cells;
            kinds = w.link.ensures.kinds;
            longer = omega (arith, ap length w.link.ensures.links, length-append {A = ℕ × ℕ});
            wrap = subst (λ K. Wrap G u.links.items K c.args.i c.args.j) (sym w.link.ensures.links)
                (wrap_bind c.args.self.now c.args.i c.args.j c.head-x.result.0 c.head-y.result.0 h (ap (binds u.kinds) (sym c.head-x.ensures.cell) ∙ sym w.if-binds.ensures));
          })
      | then-x-y+else-binds+then-binds-2 w ↦
          subst (λ v. Headed u v c.args.i c.args.j) (sym w.self-is) (record {
            cells = w.link-then-binds-2.ensures.cells;
            kinds = w.link-then-binds-2.ensures.kinds;
            longer = omega (arith, ap length w.link-then-binds-2.ensures.links, length-append {A = ℕ × ℕ});
            wrap = subst (λ K. Wrap G u.links.items K c.args.i c.args.j) (sym w.link-then-binds-2.ensures.links)
                (wrap_back c.args.self.now c.args.i c.args.j c.head-x.result.0 c.head-y.result.0 h (ap (binds u.kinds) (sym c.head-y.ensures.cell) ∙ sym w.if-binds-2.ensures));
          })
      | then-x-y+else-binds+else-binds-2+else-c-d+else-not-unify_rows w ↦
          (let sx = ap (binds u.kinds) (sym c.head-x.ensures.cell) ∙ sym w.if-binds.ensures in
          let sy = ap (binds u.kinds) (sym c.head-y.ensures.cell) ∙ sym w.if-binds-2.ensures in
          let many = w.arity_of.ensures ∙ need_arity c.head-x.result.1 (omega arith) in
          let mx = many ∙ ap need c.head-x.ensures.cell in
          let my = many ∙ ap need (w.if-c-d.false ∙ c.head-y.ensures.cell) in
          let K = w.unify_rows.new.self.links.items in
          let v = w.link-else-c-d.new.self in
          let e = w.link-else-c-d.ensures in
          let O = along v.kinds u.kinds v.cells u.cells e.kinds e.cells v.links.items K (c.head-x.result.0 + 1) (c.head-y.result.0 + 1) w.arity_of.result true w.if-not-unify_rows.ensures.out in
          subst (λ v. Headed u v c.args.i c.args.j) (sym w.self-is) (record {
            cells = w.unify_rows.ensures.cells ∙ e.cells;
            kinds = w.unify_rows.ensures.kinds ∙ e.kinds;
            longer = omega (arith, ap length e.links, length-append {A = ℕ × ℕ}, ap length O.grown);
            wrap = wrap_down c.args.self.now c.args.i c.args.j c.head-x.result.0 c.head-y.result.0 h sx sy (sym c.head-x.ensures.cell ∙ w.if-c-d.false ∙ c.head-y.ensures.cell) K
                (kids_out c.args.self.now c.args.i c.args.j c.head-x.result.0 c.head-y.result.0 h w.arity_of.result mx my v.links.items K true e.links O);
          }))
      | else-x-y w ↦
          subst (λ v. Headed u v c.args.i c.args.j) (sym w.self-is) (record {
            cells = refl;
            kinds = refl;
            longer = omega arith;
            wrap = wrap_same c.args.self.now c.args.i c.args.j c.head-x.result.0 c.head-y.result.0 h w.if-x-y.false;
          })
    ]

pub next-next_i-requires-clause-rows : goal.next-next_i-requires-clause-rows
next-next_i-requires-clause-rows t c =
    let here = goal.at.next-next_i-requires-clause-rows t c in
    let D = headed t here.Joined-x-y (heads t here.After-head-y) in
    subst (λ b. Has c.args.n (drop c.args.i b.now)) (sym D.cells) c.requires.left

pub next-next_j-requires-clause-rows : goal.next-next_j-requires-clause-rows
next-next_j-requires-clause-rows t c =
    let here = goal.at.next-next_j-requires-clause-rows t c in
    let D = headed t here.Joined-x-y (heads t here.After-head-y) in
    subst (λ b. Has c.args.n (drop c.args.j b.now)) (sym D.cells) c.requires.right

pub unify_rows-requires-2 : goal.unify_rows-requires-2
unify_rows-requires-2 t c =
    let u = c.args.self.now in
    let here = goal.at.unify_rows-requires-2 t c in
    let D = headed t here.Joined-x-y (heads t here.After-head-y) in (
      omega (arith, c.decreases, D.longer),
      (
        c.next-next_i.ensures.rest,
        c.next-next_j.ensures.rest,
      ),
    )

pub returns-clause-out : goal.returns-clause-out
returns-clause-out t c =
    let u = c.args.self.now in
    let mem = u.cells.now in
    let v = c.if-x-y.self in
    let here = goal.at.returns-clause-out t c in
    let D = headed t here.Joined-x-y (heads t here.After-head-y) in
    let N = c.unify_rows-2.new.self.links.items in
    subst₂ (λ P Q. Out (graph_of u) u.links.items N P Q c.unify_rows-2.result)
    (sym (subst (λ b. places_from b.now c.args.i c.args.n ≡ c.args.i ∷ places_from b.now c.next-next_i.result (c.args.n - 1)) D.cells c.next-next_i.ensures.places))
    (sym (subst (λ b. places_from b.now c.args.j c.args.n ≡ c.args.j ∷ places_from b.now c.next-next_j.result (c.args.n - 1)) D.cells c.next-next_j.ensures.places))
    (D.wrap N _ _ c.unify_rows-2.result
    (along v.kinds u.kinds v.cells u.cells D.kinds D.cells v.links.items N c.next-next_i.result c.next-next_j.result (c.args.n - 1) c.unify_rows-2.result c.unify_rows-2.ensures.out))
