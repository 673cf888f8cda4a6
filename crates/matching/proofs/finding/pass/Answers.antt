use Rattle.std.proofs.Common.{[], arith}
use Rattle.matching.proofs.Stepping.{symbol_step}
use Rattle.matching.proofs.finding.pass.Goals as goal

pub returns-then-w-lt-VARIABLE : goal.returns-then-w-lt-VARIABLE
returns-then-w-lt-VARIABLE c = ([], grind (arith, symbol_step))
