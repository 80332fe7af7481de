use Rattle.std.proofs.Common.{◌∙◌, rules}
use Rattle.window.proofs.Steps.{each_more, each_broke, each_done, passed}
use Rattle.window.proofs.Keeping.{lanes_did, sent_on}
use Rattle.window.proofs.Window.tell.Goals as goal

pub loop-index-preserved : goal.loop-index-preserved
loop-index-preserved g c = record {
  kept = search rules;
  checked = c.loop-index.invariant.checked;
  left = each_more _ _ _ c.loop-index-test.true (sent_on _ _ c.lane_down.ensures c.send.ensures.did) c.in_ok-send.was ∙ c.loop-index.invariant.left;
}

pub returns-clause-did : goal.returns-clause-did
returns-clause-did g c = lanes_did c.loop-index.invariant.checked (each_done _ _ _ _ c.loop-index-test.false ∙ c.loop-index.invariant.left)

pub returns-in_err-send-clause-did : goal.returns-in_err-send-clause-did
returns-in_err-send-clause-did g c =
    passed c.from_residual.ensures.1
    (lanes_did c.loop-index.invariant.checked (each_broke _ _ _ c.loop-index-test.true (sent_on _ _ c.lane_down.ensures c.send.ensures.did) c.in_err-send.was ∙ c.loop-index.invariant.left))
