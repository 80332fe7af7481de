use Rattle.std.proofs.Common.{◌∙◌, rules}
use Rattle.window.proofs.Steps.{each_more, each_broke, each_done, passed}
use Rattle.window.proofs.Window.drain_all.Goals as goal

pub loop-index-preserved : goal.loop-index-preserved
loop-index-preserved g c = record {
  kept = search rules;
  left = each_more _ _ _ c.loop-index-test.true c.drain.ensures.did c.in_ok-drain.was ∙ c.loop-index.invariant.left;
}

pub returns-clause-did : goal.returns-clause-did
returns-clause-did g c = each_done _ _ _ _ c.loop-index-test.false ∙ c.loop-index.invariant.left

pub returns-in_err-drain-clause-did : goal.returns-in_err-drain-clause-did
returns-in_err-drain-clause-did g c =
    passed c.from_residual.ensures.1 (each_broke _ _ _ c.loop-index-test.true c.drain.ensures.did c.in_err-drain.was ∙ c.loop-index.invariant.left)
