use Rattle.std.proofs.Common.{◌≡◌, ◌-◌, take, refl, subst, arith, rules}
use Rattle.cells.specs.Cells.{row}
use Rattle.cells.specs.Rows.{Whole}
use Rattle.cells.proofs.check.check_row.Goals as goal

pub returns-in_default-term_end : goal.returns-in_default-term_end
returns-in_default-term_end c = (
  (search rules, omega arith),
  c.in_default.ensures,
  refl,
  λ k w. let z : k ≡ k - 0 = omega arith in c.in_default-term_end.ensures k (subst (λ n. Whole (take n (row c.args.cells.now))) z w),
)
