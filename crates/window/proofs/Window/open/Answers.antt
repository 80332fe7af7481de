use Rattle.std.proofs.Common.{◌≡◌, Bool, true, false, not, [], sym, refl, ap, ◌∙◌}
use Rattle.post.specs.Lanes.{Unused}
use Rattle.window.specs.declared.books.Books.{Books}
use Rattle.window.specs.Opening.{opened}
use Rattle.window.specs.Turns.{at}
use Rattle.window.specs.Windows.{setting_in, ReachedBy}
use Rattle.window.proofs.Lots.{even_opened}
use Rattle.window.proofs.Until.{opened_held}
use Rattle.window.proofs.Shown.{own_terms, to_reached}
use Rattle.window.proofs.Lawful.{lawful, setting_read}
use Rattle.window.proofs.Window.open.Goals as goal

twice-not : (b : Bool) → not (not b) ≡ b
twice-not true = refl
twice-not false = refl

pub returns : goal.returns
returns g c =
    let law = g.met.P.Post.sound c.args.post in
    let ls = g.P.Post.lanes c.args.post in
    let t = c.read_setting.result in
    let b = c.open_books-checked.result.books in
    let unused = c.is_unused-used.result in
    let k_is : t.offices ≡ g.P.Post.offices c.args.post = c.read_setting.ensures.offices in
    let books_are : b ≡ opened t = c.open_books-checked.ensures in
    let t-is : b.setting ≡ t = ap (λ (b : Books). b.setting) books_are in
    let reached : Unused ls → ReachedBy [] [] (not unused) (at b ls) = λ none.
    to_reached (setting_in t) [] (not unused) (at b ls)
    (opened_held (setting_in t) t ls b (not unused) (own_terms t) books_are (ap not (c.is_unused-used.ensures.1 none)) none (even_opened (g.P.Post.offices c.args.post) t b ls law k_is books_are none))
    (ap setting_in t-is) in
    record {
      post = refl;
      setting = ap setting_in t-is ∙ setting_read t _ _ _ k_is c.read_setting.ensures.steps c.read_setting.ensures.slacks;
      books = books_are ∙ ap opened (sym t-is);
      unused = ((λ yes. c.is_unused-used.ensures.0 (sym (twice-not unused) ∙ yes)), (λ none. twice-not unused ∙ c.is_unused-used.ensures.1 none));
      reached = reached;
      lawful = λ none. lawful [] [] _ _ (reached none);
    }
