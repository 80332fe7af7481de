use Rattle.std.proofs.Common.{◌≡◌, Bool, true, false, is_ok, sym, refl, ap, ◌∙◌, arith, rules}
use Rattle.std.proofs.Math.Bool.{beq}
use Rattle.std.proofs.lemmas.Bool.{cond-true, cond-false}
use Rattle.post.specs.Tables.{slots_shown}
use Rattle.post.specs.Shown.{send_whole}
use Rattle.bit_post.specs.Sending.{same_bit, MaySend}
use Rattle.bit_post.proofs.exchange.sending.Sending.answer.Goals as goal
use Rattle.bit_post.proofs.exchange.sending.Sending.answer.Goals.{then-bit-expected, else-bit-expected}

same : (s e : Bool) → same_bit s e ≡ beq s e
same true true = refl
same true false = refl
same false true = refl
same false false = refl

-- the lanes of 64 offices are all lanes
pub unwrap-requires : goal.unwrap-requires
unwrap-requires g c =
    let s = c.args.self in
    let t = c.args.table.now in
    let may : MaySend (slots_shown t) s.lane = search rules in
    ap is_ok (send_whole 64 t c.send.new.self s.lane c.args.byte c.send.result (omega arith) may c.send.ensures.did)

pub returns-clause-delivers : goal.returns-clause-delivers
returns-clause-delivers g c =
    elim c.if-bit-expected.branch [
      | then-bit-expected w ↦
          ap slots_shown w.table-is ∙ w.send.ensures.whole (ap is_ok w.unwrap.ensures)
          ∙ sym (cond-true _ _ _ (same c.args.bit c.args.expected.now ∙ w.if-bit-expected.true))
      | else-bit-expected w ↦ ap slots_shown w.table-is ∙ sym (cond-false _ _ _ (same c.args.bit c.args.expected.now ∙ w.if-bit-expected.false))
    ]
