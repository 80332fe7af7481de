use Rattle.std.proofs.Common.{rules, ◌≡◌, [], ◌∷◌, ◌++◌, Ok, refl, ap, ◌∙◌, subst, arith}
use Rattle.std.proofs.lemmas.List.{append-nil}
use Rattle.wire.specs.Wires.{copies}
use Rattle.bit_post.specs.Frames.{data_frame}
use Rattle.bit_post.specs.declared.frame.Frame.TheVariants.{Data}
use Rattle.bit_post.proofs.Attempting.{answering_frame, answering_more, answering_all}
use Rattle.bit_post.proofs.exchange.sending.Sending.attempt.Goals as goal

-- every frame on the way is the data frame that was sent
pub answer-requires-clause-ready : goal.answer-requires-clause-ready
answer-requires-clause-ready g c =
    let w = g.W.Wire in
    let s = c.args.self in
    let h = c.loop-number.invariant.1 in
    let is = answering_frame s.bit s.lane s.back s.byte _ _ _ _ _ (w.lanes c.loop-number.wire) (w.lanes c.next.new.wire) _ _ c.in-Some.number _ _ _ (omega arith) h c.in-Some.ensures.takes in
    let read : c.try_from.result ≡ Ok (Data s.bit s.byte) = c.try_from.ensures ∙ is in
    let bit : c.in-Ok-Data.bit ≡ s.bit = cc in
    search rules

pub loop-number-preserved-in-Data-1 : goal.loop-number-preserved-in-Data-1
loop-number-preserved-in-Data-1 g c =
    let w = g.W.Wire in
    let s = c.args.self in
    let goes = g.met.W.Wire.goes in
    let took = c.in-Some.ensures in
    let said = c.answer.ensures in
    let h = c.loop-number.invariant.1 in
    let is = answering_frame s.bit s.lane s.back s.byte _ _ _ _ _ (w.lanes c.loop-number.wire) (w.lanes c.next.new.wire) _ _ c.in-Some.number _ _ _ (omega arith) h took.takes in
    let read : c.try_from.result ≡ Ok (Data s.bit s.byte) = c.try_from.ensures ∙ is in
    let bit : c.in-Ok-Data.bit ≡ s.bit = cc in
    let byte : c.in-Ok-Data.byte ≡ s.byte = cc in (
      said.same ∙ took.only.same ∙ c.loop-number.invariant.0,
      answering_more s.bit s.lane s.back s.byte _ _ _ _ _
          (w.lanes c.loop-number.wire) (w.lanes c.next.new.wire) (w.lanes c.answer.new.wire) _ _ _ _ c.in-Some.number c.in-Ok-Data.bit c.in-Ok-Data.byte _ _ _ _ (w.ran c.place.new.wire c.loop-number.wire) (w.ran c.next.new.wire c.answer.new.wire) (w.ran c.place.new.wire c.answer.new.wire)
          bit byte s.apart h took.takes took.only.others took.only.calm said.placed (λ xs o a b. goes _ _ _ xs (o ∷ []) a (goes _ _ _ [] (o ∷ []) took.only.rest b)) said.flips said.delivers,
    )

pub loop-number-preserved-in-Acknowledgement-1 : goal.loop-number-preserved-in-Acknowledgement-1
loop-number-preserved-in-Acknowledgement-1 g c =
    let w = g.W.Wire in
    let s = c.args.self in
    let is = answering_frame s.bit s.lane s.back s.byte _ _ _ _ _ (w.lanes c.loop-number.wire) (w.lanes c.next.new.wire) _ _ c.in-Some.number _ _ _ (omega arith) c.loop-number.invariant.1 c.in-Some.ensures.takes in
    let read : c.try_from.result ≡ Ok (Data s.bit s.byte) = c.try_from.ensures ∙ is in
    cc

pub loop-number-preserved : goal.loop-number-preserved
loop-number-preserved g c =
    let w = g.W.Wire in
    let s = c.args.self in
    let is = answering_frame s.bit s.lane s.back s.byte _ _ _ _ _ (w.lanes c.loop-number.wire) (w.lanes c.next.new.wire) _ _ c.in-Some.number _ _ _ (omega arith) c.loop-number.invariant.1 c.in-Some.ensures.takes in
    let read : c.try_from.result ≡ Ok (Data s.bit s.byte) = c.try_from.ensures ∙ is in
    cc

pub returns-clause-tried : goal.returns-clause-tried
returns-clause-tried g c =
    let w = g.W.Wire in
    let s = c.args.self in
    let by = c.place.ensures.placed in
    let put = by.put in
    let goes = g.met.W.Wire.goes in
    let took = c.in_default.ensures in
    let said = c.drain.ensures in
    let first = put.joins ∙ ap (λ l. l.frames ++ copies put.outcome (data_frame s.bit s.byte)) c.requires.clear in
    answering_all s.bit s.lane s.back s.byte _ _ _ _ _
    (w.lanes c.loop-number.wire) (w.lanes c.next.new.wire) _ _ _ _ _ _ _ put.outcome c.drain.result (w.ran c.place.new.wire c.loop-number.wire) (w.ran c.args.wire.now c.drain.new.wire)
    (λ xs a. goes _ _ _ (put.outcome ∷ []) xs by.run (subst (w.ran c.place.new.wire c.drain.new.wire) (append-nil xs) (goes _ _ _ xs [] a (goes _ _ _ [] [] took.only.rest said.only.rest))))
    s.apart first c.loop-number.invariant.1 took.takes.0 took.only.others
    said.found
    put.spent (said.only.calm ∙ took.only.calm) refl
