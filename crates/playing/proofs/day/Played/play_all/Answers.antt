use Rattle.std.proofs.Common.{◌<◌, [], ◌∷◌, ◌++◌, length, take, sym, refl, ap, ◌∙◌, subst, arith}
use Rattle.std.proofs.lemmas.List.{take_more, take_all}
use Rattle.window.proofs.Lawful.{lawful}
use Rattle.playing.specs.declared.day.Played.{Played}
use Rattle.playing.specs.Days.{DayAt}
use Rattle.playing.specs.Tallies.{counted}
use Rattle.playing.proofs.day.Played.play_all.Goals as goal

pub loop-office-init : goal.loop-office-init
loop-office-init g c = record {
  became = g.met.P.Post.stays _;
  setting = refl;
  few = omega (arith, ap counted c.requires);
  used = λ used. refl;
  day = λ d. ([], d);
}

pub loop-office-preserved : goal.loop-office-preserved
loop-office-preserved g c =
    let lots = c.args.lots.now in
    let i = c.loop-office.office-index in
    let so_far = c.loop-office.invariant in
    let next = c.next.ensures in
    let less : i < length lots = c.loop-office-test.true in
    record {
      became = g.met.P.Post.joins _ _ _ so_far.became next.became;
      setting = next.setting ∙ so_far.setting;
      few = omega (arith, next.counted, so_far.few);
      used = λ used. next.used (ap (λ (p : Played g.row.P.Denot). p.window.used) (so_far.used used) ∙ used) ∙ so_far.used used;
      day = λ d.
          let x = so_far.day d in
          let y = next.day (take i lots) x.0 x.1 in
          (x.0 ++ y.0 ∷ [], subst (λ h. DayAt g.P.Post.lanes h (x.0 ++ y.0 ∷ []) c.next.new.self) (sym (take_more lots i 0 less)) y.1);
    }

pub returns : goal.returns
returns g c =
    let lots = c.args.lots.now in
    let i = c.loop-office.office-index in
    let so_far = c.loop-office.invariant in
    record {
      became = so_far.became;
      setting = so_far.setting;
      used = so_far.used;
      day = λ d.
          let x = so_far.day d in
          let whole = subst (λ h. DayAt g.P.Post.lanes h x.0 c.loop-office.self) (take_all i lots c.loop-office-test.false) x.1 in
          record { answers = x.0; day = whole; lawful = lawful lots x.0 _ _ whole.reached };
    }
