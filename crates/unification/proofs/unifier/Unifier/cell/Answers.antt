use Rattle.std.proofs.Common.{◌≡◌, false, sym, arith}
use Rattle.unification.specs.Codes.{is_var}
use Rattle.unification.proofs.MemFacts.{low_var, cell_low}
use Rattle.unification.proofs.unifier.Unifier.cell.Goals as goal

pub bounds-self-place : goal.bounds-self-place
bounds-self-place c = c.requires (low_var c.args.place (omega arith))

pub returns-else-place-ge-VARIABLE : goal.returns-else-place-ge-VARIABLE
returns-else-place-ge-VARIABLE c =
    let v : is_var c.args.place ≡ false = low_var c.args.place (omega arith) in
    sym (cell_low c.args.self.now.cells.now c.args.place v (c.requires v))
