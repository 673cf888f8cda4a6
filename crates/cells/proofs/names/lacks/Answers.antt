use Rattle.std.proofs.Common.{◌-◌, rules}
use Rattle.cells.proofs.Listing.{listed_any}
use Rattle.cells.proofs.names.lacks.Goals as goal

pub returns-then-w-ge-VARIABLE : goal.returns-then-w-ge-VARIABLE
returns-then-w-ge-VARIABLE c = let e = listed_any c.args.names.now (c.args.w - 2147483648) in search rules
