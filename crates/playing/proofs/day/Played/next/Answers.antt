use Rattle.std.proofs.Common.{◌≡◌, ◌+◌, Bool, not, [], ◌∷◌, ◌++◌, Err, sym, ap, ◌∙◌, subst, arith}
use Rattle.std.proofs.lemmas.Bool.{cond-true}
use Rattle.fault.specs.Faults.{fault}
use Rattle.fault.specs.declared.Layer.TheVariants.{Window}
use Rattle.fault.specs.declared.Refusal.TheVariants.{PostUsed}
use Rattle.window.specs.Windows.{setting_in}
use Rattle.playing.specs.declared.tally.Tally.{Tally}
use Rattle.playing.specs.Tallies.{counted, noted}
use Rattle.playing.specs.Days.{DayAt}
use Rattle.playing.proofs.Noting.{day_next, open_if_accepted, noted_accepted, noted_late, noted_counted}
use Rattle.playing.proofs.day.Played.next.Goals as goal

unchanged : (closed : Bool) (t : Tally) → noted (Err (fault Window PostUsed 0)) closed t ≡ t
unchanged closed t = let e : t.late + 0 ≡ t.late = omega arith in λ i. record { accepted = t.accepted; late = e i; closing = t.closing }

pub returns : goal.returns
returns g c =
    let p = c.args.self.now in
    let w = c.lot-answer.new.self in
    let a = c.lot-answer.result in
    let closed = c.is_closed-closed.result in
    let n = c.args.office in
    let lot = c.lot-answer.ensures in
    let tally = c.note.ensures in
    let same_setting = ap setting_in lot.setting in
    record {
      became = lot.became;
      setting = same_setting;
      accepted = omega (arith, ap (λ (t : Tally). t.accepted) tally, noted_accepted a closed p.tally);
      late = omega (arith, ap (λ (t : Tally). t.late) tally, noted_late a closed p.tally);
      counted = omega (arith, ap counted tally, noted_counted a closed p.tally);
      used = λ used.
          let z = lot.refused (fault Window PostUsed 0) (cond-true _ _ _ used) in
          let t : c.note.new.self ≡ p.tally = tally ∙ (ap (λ a. noted a closed p.tally) z.0 ∙ unchanged closed p.tally) in
          λ i. record { window = z.1 i; tally = t i };
      day = λ lots rs d. (
        a,
        subst (λ t. DayAt g.P.Post.lanes (lots ++ n ∷ []) (rs ++ a ∷ []) (record { window = w; tally = t })) (sym tally)
            (day_next g.P.Post.lanes lots rs n p w closed d same_setting c.is_closed-closed.ensures a (lot.reached lots rs d.reached)
            (λ is_ok. ap not (open_if_accepted p.window.used n p.window.checked.books a (λ f e. (lot.refused f e).0) is_ok))
            (λ f e. lot.same lots rs f d.reached e)),
      );
    }
