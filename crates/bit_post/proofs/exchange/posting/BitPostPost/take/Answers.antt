use Rattle.std.proofs.Common.{sym, ap, ◌∙◌}
use Rattle.post.specs.Lanes.{all_sent, take}
use Rattle.post.specs.Outs.{out}
use Rattle.post.specs.Sends.{all_sent_take}
use Rattle.post.specs.Tables.{used}
use Rattle.bit_post.specs.Becoming.{became_same}
use Rattle.bit_post.proofs.SameTable.{same_table}
use Rattle.bit_post.proofs.exchange.posting.BitPostPost.take.Goals as goal

pub returns-clause-did : goal.returns-clause-did
returns-clause-did g c =
    let k = c.office_count.ensures in
    (λ j. out (used (sym k j) c.take.new.self) c.take.result) ∙ c.take.ensures.did ∙ ap (λ n. take c.args.lane (used n c.args.self.now.table)) k

pub returns-clause-became : goal.returns-clause-became
returns-clause-became g c =
    let p = c.args.self.now in
    let total = ap (λ o. all_sent o.state) (returns-clause-did g c) ∙ all_sent_take c.args.lane (used (g.W.Wire.offices p.wire) p.table) in
    became_same _ _ (g.W.Wire.ran p.wire p.wire) (g.met.W.Wire.rests p.wire) (ap (λ n. record { frames = p.frames; troubles = g.W.Wire.troubles p.wire; troubles_first = p.first_troubles; sent = n }) total)

pub returns-clause-refused : goal.returns-clause-refused
returns-clause-refused g c = λ e. same_table c.args.self.now c.take.new.self (sym (c.take.ensures.refused e)) _ _

pub returns-clause-none : goal.returns-clause-none
returns-clause-none g c = λ e. same_table c.args.self.now c.take.new.self (sym (c.take.ensures.none e)) _ _
