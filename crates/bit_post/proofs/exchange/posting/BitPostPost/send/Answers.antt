use Rattle.std.proofs.Common.{◌≡◌, ℕ, ◌+◌, Ok, sym, refl, ap, ◌∙◌, arith}
use Rattle.post.specs.Lanes.{send_answer, joined, all_sent}
use Rattle.post.specs.Tables.{slots_shown, used}
use Rattle.post.specs.Sends.{opened, all_sent_joined, send_done}
use Rattle.post.specs.Shown.{used_joined, all_sent_most}
use Rattle.post.specs.declared.lane_table.LaneTable.{LaneTable}
use Rattle.bit_post.specs.Becoming.{became_same, became_sent}
use Rattle.bit_post.proofs.exchange.posting.BitPostPost.send.Goals as goal

-- a lane on which the wire's offices may send
may_send : (t : LaneTable) (i n k : ℕ) → n ≡ k → Ok tt ≡ send_answer (used n t) i → send_answer (used k t) i ≡ Ok tt
may_send t i n k same e = sym (e ∙ ap (λ n. send_answer (used n t) i) same)

-- a byte sent, in the lanes that the wire's offices use
sent : (t s : LaneTable) (i j b y n k : ℕ) → n ≡ k → slots_shown s ≡ joined (slots_shown t) j y → j ≡ i → y ≡ b → used n s ≡ joined (used k t) i b
sent t s i j b y n k same e lane byte = ap (λ n. used n s) same ∙ used_joined k t s i b (e ∙ ap (λ j. joined (slots_shown t) j y) lane ∙ ap (joined (slots_shown t) i) byte)

pub overflow_add-self : goal.overflow_add-self
overflow_add-self g c = omega (arith, c.args.self.now.counted, all_sent_most c.args.self.now.table, c.until_acknowledged-puts.ensures.few, c.from.ensures)

pub returns-clause-did : goal.returns-clause-did
returns-clause-did g c =
    let p = c.args.self.now in
    let did = c.until_acknowledged-puts.ensures in
    send_done _ _ _ _ (may_send p.table c.args.lane _ _ c.office_count.ensures c.in_ok-check_send.ensures) (sent p.table c.until_acknowledged-puts.new.table _ _ _ _ _ _ did.same did.delivers c.new-sending.ensures.lane c.new-sending.ensures.byte)

pub returns-clause-became : goal.returns-clause-became
returns-clause-became g c =
    let p = c.args.self.now in
    let did = c.until_acknowledged-puts.ensures in
    let may = may_send p.table c.args.lane _ (g.W.Wire.offices p.wire) c.office_count.ensures c.in_ok-check_send.ensures in
    let lanes = sent p.table c.until_acknowledged-puts.new.table _ _ _ _ _ _ did.same did.delivers c.new-sending.ensures.lane c.new-sending.ensures.byte in
    let more = ap all_sent lanes ∙ all_sent_joined (used (g.W.Wire.offices p.wire) p.table) c.args.lane c.args.byte (opened (used (g.W.Wire.offices p.wire) p.table) c.args.lane may).there in
    became_sent _ _ c.until_acknowledged-puts.result (g.W.Wire.ran p.wire c.until_acknowledged-puts.new.wire) did.sent (ap (λ n. p.frames + n) c.from.ensures) refl more

pub returns-in_err-check_send-clause-became : goal.returns-in_err-check_send-clause-became
returns-in_err-check_send-clause-became g c =
    let p = c.args.self.now in
    became_same _ _ (g.W.Wire.ran p.wire p.wire) (g.met.W.Wire.rests p.wire) refl
