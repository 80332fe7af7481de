use Rattle.std.proofs.Common.{◌≡◌, true, false, not, [], sym, refl, ap, ◌∙◌, subst, ⊎_elim, rules}
use Rattle.std.proofs.lemmas.Bool.{cases_Bool}
use Rattle.window.specs.declared.books.Books.{Books}
use Rattle.window.specs.Parts.{is_closed}
use Rattle.window.specs.Opening.{opened}
use Rattle.playing.specs.declared.day.Played.{Played}
use Rattle.playing.specs.Tallies.{no_tally}
use Rattle.playing.specs.Days.{DayAt}
use Rattle.playing.proofs.day.play.Goals as goal

pub returns : goal.returns
returns g c =
    let w = c.open.result in
    let all = c.play_all.ensures in
    let none_yet : c.default.result ≡ no_tally = search rules in
    record {
      became = subst (λ p. g.P.Post.became p c.play_all.new.self.window.post) c.open.ensures.post all.became;
      setting = all.setting ∙ c.open.ensures.setting;
      day = λ none. all.day (subst (λ t. DayAt g.P.Post.lanes [] [] (record { window = w; tally = t })) (sym none_yet) (record {
        reached = c.open.ensures.reached none;
        accepted = refl;
        late = refl;
        closing = ap (λ (b : Books). not (is_closed b.coordinator.phase)) c.open.ensures.books;
      }));
      used = λ some.
          let used : w.used ≡ true = ⊎_elim (λ (yes : w.used ≡ true). yes) (λ (no-use : w.used ≡ false). absurd (some (c.open.ensures.unused.0 (ap not no-use)))) (cases_Bool w.used) in
          let e = all.used used in
          record {
            tally = ap (λ (p : Played g.row.P.Denot). p.tally) e ∙ none_yet;
            books = subst (λ (p : Played g.row.P.Denot). p.window.checked.books ≡ opened p.window.checked.books.setting) (sym e) c.open.ensures.books;
            untouched = ap (λ (p : Played g.row.P.Denot). p.window.post) e ∙ c.open.ensures.post;
          };
    }
