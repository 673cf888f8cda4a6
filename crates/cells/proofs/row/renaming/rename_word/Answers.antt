use Rattle.std.proofs.Common.{◌-◌, rules}
use Rattle.cells.proofs.Listing.{index_position}
use Rattle.cells.proofs.row.renaming.rename_word.Goals as goal

pub returns-then-w-ge-VARIABLE : goal.returns-then-w-ge-VARIABLE
returns-then-w-ge-VARIABLE c =
    let e = index_position c.args.list.now (c.args.w - 2147483648) in
    search rules
