use Rattle.std.proofs.Common.{◌+◌, ◌≤◌}
use Rattle.trials.proofs.rows.random_row.Given as goal

abbrev pub invariant-loop-need : goal.invariant-loop-need
invariant-loop-need l = l.need + l.room ≤ 256

-- arguments use up room
abbrev pub decreases-loop-need : goal.decreases-loop-need
decreases-loop-need l = l.need + l.room
