use Rattle.std.proofs.Common.{rules}
use Rattle.substitution.specs.Bindings.{bindings_list}
use Rattle.matching.proofs.Fronting.{cell_matched, cell_unmatched}
use Rattle.matching.proofs.matcher.match_front.Goals as goal

pub returns-in_err-end : goal.returns-in_err-end
returns-in_err-end c =
    let b = bindings_list c.args.list.now in
    let h = cell_unmatched c.args.target.now b (bindings_list c.loop-w.list) (bindings_list c.extend_by.new.list) c.args.pattern.now c.loop-w.w-index c.args.at c.loop-w.end c.loop-w-test.true c.loop-w.invariant c.in_err-end.ensures.matched in
    search rules

pub loop-w-preserved : goal.loop-w-preserved
loop-w-preserved c =
    let b = bindings_list c.args.list.now in
    cell_matched c.args.target.now b (bindings_list c.loop-w.list) (bindings_list c.extend_by.new.list) c.args.pattern.now c.loop-w.w-index c.args.at c.loop-w.end c.loop-w-test.true c.loop-w.invariant c.in_ok-end.end c.in_ok-end.ensures.matched
