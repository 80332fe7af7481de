use Rattle.std.proofs.Common.{Ok, refl, ap, ◌∙◌}
use Rattle.window.proofs.Steps.{passed}
use Rattle.window.proofs.Drains.{drain_done, drain_stop, drain_broke, drain_more, drain_falls, holds_after}
use Rattle.window.proofs.Keeping.{kept_joins, taken_from}
use Rattle.window.proofs.Window.drain.Goals as goal

pub loop-byte-smaller : goal.loop-byte-smaller
loop-byte-smaller g c =
    drain_falls _ (g.W.Way.arrived c.args.place.index) c.loop-byte.self.checked.books _ _ (taken_from _ c.lane.ensures c.take.ensures.did) (c.in_ok-byte.was ∙ ap Ok c.in-Some.is)
    (holds_after _ _ c.arrive.ensures.did (g.met.W.Way.holds _ _ _))

pub loop-byte-preserved : goal.loop-byte-preserved
loop-byte-preserved g c = record {
  kept = kept_joins _ g.met.P.Post.joins (kept_joins _ g.met.P.Post.joins c.loop-byte.invariant.kept (record { became = c.take.ensures.became; used = refl })) c.arrive.ensures.kept;
  left = drain_more _ _ _ _ _ (taken_from _ c.lane.ensures c.take.ensures.did) (c.in_ok-byte.was ∙ ap Ok c.in-Some.is) c.arrive.ensures.did c.in_ok-arrive.was (holds_after _ _ c.arrive.ensures.did (g.met.W.Way.holds _ _ _)) ∙ c.loop-byte.invariant.left;
}

pub returns-in_err-byte-clause-did : goal.returns-in_err-byte-clause-did
returns-in_err-byte-clause-did g c =
    passed c.from_residual.ensures.1 (drain_stop _ _ _ _ _ (taken_from _ c.lane.ensures c.take.ensures.did) c.in_err-byte.was ∙ c.loop-byte.invariant.left)

pub returns-in_err-arrive-clause-kept : goal.returns-in_err-arrive-clause-kept
returns-in_err-arrive-clause-kept g c =
    kept_joins _ g.met.P.Post.joins (kept_joins _ g.met.P.Post.joins c.loop-byte.invariant.kept (record { became = c.take.ensures.became; used = refl })) c.arrive.ensures.kept

pub returns-in_err-arrive-clause-did : goal.returns-in_err-arrive-clause-did
returns-in_err-arrive-clause-did g c =
    passed c.from_residual-in_err-arrive.ensures.1
    (drain_broke _ _ _ _ _ (taken_from _ c.lane.ensures c.take.ensures.did) (c.in_ok-byte.was ∙ ap Ok c.in-Some.is) c.arrive.ensures.did c.in_err-arrive.was ∙ c.loop-byte.invariant.left)

pub returns-clause-did : goal.returns-clause-did
returns-clause-did g c = drain_done _ _ _ _ _ (taken_from _ c.lane.ensures c.take.ensures.did) (c.in_ok-byte.was ∙ ap Ok c.in_default.is) ∙ c.loop-byte.invariant.left
