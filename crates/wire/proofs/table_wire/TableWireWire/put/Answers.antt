use Rattle.std.proofs.Common.{rules, ◌≡◌, ◌+◌, [], ◌∷◌, ◌++◌, set, sym, refl, ap, ◌∙◌, subst, arith}
use Rattle.std.proofs.lemmas.List.{append-nil}
use Rattle.wire.specs.Wires.{lost, copies, cost}
use Rattle.marks.specs.declared.Mark.TheVariants.{Lost}
use Rattle.wire.specs.Marks.{outcome_of}
use Rattle.wire.specs.Rows.{lane_of, lanes_of}
use Rattle.wire.specs.InUse.{lane_is, put_there, put_done}
use Rattle.wire.proofs.table_wire.TableWireWire.put.Goals as goal

pub returns-clause-puts : goal.returns-clause-puts
returns-clause-puts g c =
    let r = c.args.self.now.rows in
    let i = c.args.lane in
    let may = c.in_ok-queue.ensures in
    let o = outcome_of c.next-mark.result in
    let joined = c.join.ensures ∙ ap (λ l. l.frames ++ copies o c.args.frame) may.1 in
    let is = c.store.ensures.lanes ∙ ap (λ fs. set (lanes_of r) i (lane_of fs)) joined in
    (may.0, put_done (lanes_of r) i (lane_is r i) (lanes_of c.store.new.self) _ _ c.args.frame o _ (put_there (lanes_of r) i may.0) c.next-mark.ensures.falls is c.next-mark.ensures.reads)

-- a lost frame leaves the lanes as they are
pub returns-then-eq-clause-puts : goal.returns-then-eq-clause-puts
returns-then-eq-clause-puts g c =
    let is : c.next-mark.result ≡ Lost = search rules in
    let o : outcome_of c.next-mark.result ≡ lost = ap outcome_of is in
    let left = g.M.MarkSource.troubles c.next-mark.new.self in (
      c.in_ok-queue.ensures.0,
      record {
        put = record { outcome = lost; spent = c.next-mark.ensures.falls ∙ ap (λ o. left + cost o) o; joins = sym (append-nil _); places = omega arith; others = λ j e. refl };
        run = subst (λ o. g.M.MarkSource.read c.args.self.now.marks c.next-mark.new.self (o ∷ [])) o c.next-mark.ensures.reads;
      },
    )
