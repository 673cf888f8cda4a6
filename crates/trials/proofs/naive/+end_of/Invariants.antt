use Rattle.std.proofs.Common.{◌-◌, ◌<◌, length}
use Rattle.trials.proofs.naive.+end_of.Given as goal

-- each call begins further on
abbrev pub decreases-end_of : goal.decreases-end_of
decreases-end_of l = length l.cells.now - l.at

abbrev pub invariant-loop : goal.invariant-loop
invariant-loop l = l.at < l.next
