use Rattle.std.proofs.Common.{[], ◌++◌, sym, refl, ◌∙◌, inl, arith}
use Rattle.bit_post.specs.Sending.{start}
use Rattle.bit_post.specs.Running.{attempt_fails, failing_few}
use Rattle.bit_post.proofs.Retrials.{retry_more, retry_done, sent_few}
use Rattle.bit_post.proofs.exchange.sending.Sending.until_acknowledged.Goals as goal

pub attempts-init : goal.attempts-init
attempts-init g c = (
  refl,
  record {
    there_empty = c.empty-2.ensures.only.others c.args.self.lane (λ e. c.args.self.apart (sym e)) ∙ c.empty.ensures.empty;
    back_empty = c.empty-2.ensures.empty;
    outcomes = [];
    wire_ran = g.met.W.Wire.rests c.empty-2.new.wire;
    failing = start;
    troubles = omega arith;
    puts = refl;
    delivery = inl (c.requires.agree, refl);
  },
)

pub attempt-requires-clause-few : goal.attempt-requires-clause-few
attempt-requires-clause-few g c =
    let h = c.attempts.invariant.1 in
    let law = g.met.W.Wire.sound c.empty-2.new.wire in
    omega (arith, law.bounded, h.troubles, h.puts, failing_few h.failing)

pub attempts-smaller : goal.attempts-smaller
attempts-smaller g c =
    let tried = c.attempt.ensures.tried in
    omega (arith, tried.troubles, (attempt_fails tried.by_attempt c.if-attempt.false).0)

pub attempts-preserved : goal.attempts-preserved
attempts-preserved g c =
    let w = g.W.Wire in
    let s = c.args.self in
    let did = c.attempt.ensures in (
      did.same ∙ c.attempts.invariant.0,
      retry_more s.bit s.lane s.back s.byte _ (w.lanes c.attempts.wire) (w.lanes c.attempt.new.wire) _ _ _ _ _ _ _ _ _ _ (w.ran c.empty-2.new.wire c.attempts.wire) (w.ran c.attempts.wire c.attempt.new.wire) (w.ran c.empty-2.new.wire c.attempt.new.wire) (g.met.W.Wire.goes _ _ _)
          c.if-attempt.false c.attempts.invariant.1 did.tried did.far did.clear did.clean,
    )

pub returns-clause-sent : goal.returns-clause-sent
returns-clause-sent g c =
    let w = g.W.Wire in
    let s = c.args.self in
    retry_done s.bit s.lane s.back s.byte _ (w.lanes c.attempts.wire) _ _ _ _ _ _ _ _ _ (w.ran c.empty-2.new.wire c.attempts.wire) (w.ran c.attempts.wire c.attempt.new.wire) (w.ran c.args.wire.now c.attempt.new.wire) (λ xs ys a b. g.met.W.Wire.goes _ _ _ [] (xs ++ ys) (g.met.W.Wire.goes _ _ _ [] [] c.empty.ensures.only.rest c.empty-2.ensures.only.rest) (g.met.W.Wire.goes _ _ _ xs ys a b))
    c.if-attempt.true (c.empty-2.ensures.only.calm ∙ c.empty.ensures.only.calm) c.attempts.invariant.1 c.attempt.ensures.tried

pub returns-clause-few : goal.returns-clause-few
returns-clause-few g c = sent_few _ _ _ _ (returns-clause-sent g c) (g.met.W.Wire.sound c.args.wire.now).bounded
