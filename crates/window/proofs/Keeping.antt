-- What calls keep of a window, one after another. Assumes nothing.
use Rattle.std.proofs.Common.{◌≡◌, ℕ, List, Option, Result, ap, ◌∙◌}
use Rattle.fault.specs.declared.Fault.{Fault}
use Rattle.post.specs.Lanes.{Lane, send, take}
use Rattle.post.specs.Outs.{Out, out}
use Rattle.window.specs.declared.Window.{Window}
use Rattle.window.specs.declared.checked_books.CheckedBooks.{CheckedBooks}
use Rattle.window.specs.Turns.{at, with_lanes}
use Rattle.window.specs.Windows.{Kept}

module _ {P : Type 0} (R : P → P → Type 0) where
  pub kept_joins : ((p q r : P) → R p q → R q r → R p r) → {a b c : Window P} → Kept R a b → Kept R b c → Kept R a c
  kept_joins joins {a} {b} {c} k l = record { became = joins a.post b.post c.post k.became l.became; used = l.used ∙ k.used }

-- the books stayed, and this happened to the lanes
pub lanes_did : {d d' : CheckedBooks} {ls : List Lane} {r : Result (Unit {0}) Fault} {o : Out (List Lane) (Unit {0})} → d' ≡ d → out ls r ≡ o → out (at d'.books ls) r ≡ with_lanes d.books o
lanes_did {d} {ls} {r} e did = ap (λ (d : CheckedBooks). out (at d.books ls) r) e ∙ ap (with_lanes d.books) did

-- the lane by its number
pub sent_on : {j k : ℕ} (b : ℕ) (ls : List Lane) {ls' : List Lane} {r : Result (Unit {0}) Fault} → j ≡ k → out ls' r ≡ send j b ls → out ls' r ≡ send k b ls
sent_on b ls e did = did ∙ ap (λ j. send j b ls) e

pub taken_from : {j k : ℕ} (ls : List Lane) {ls' : List Lane} {r : Result (Option ℕ) Fault} → j ≡ k → out ls' r ≡ take j ls → out ls' r ≡ take k ls
taken_from ls e did = did ∙ ap (λ j. take j ls) e
