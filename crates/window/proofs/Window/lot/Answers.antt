use Rattle.std.proofs.Common.{◌≡◌, ℕ, List, [], ◌∷◌, ◌++◌, Ok, Err, Result, sym, refl, ap, ◌∙◌, subst, arith}
use Rattle.fault.specs.declared.Fault.{Fault}
use Rattle.fault.specs.declared.Layer.TheVariants.{Post, Window}
use Rattle.rules.specs.Runs.{Answer}
use Rattle.post.specs.Outs.{Out}
use Rattle.window.specs.Turns.{at}
use Rattle.window.specs.Windows.{setting_in, ReachedBy}
use Rattle.window.proofs.Until.{admitted_next, refused_next, accepts_alone}
use Rattle.window.proofs.Posted.{Posted, accepts_posted}
use Rattle.window.proofs.Steps.{passed}
use Rattle.window.proofs.Shown.{to_held, next_reached}
use Rattle.window.proofs.Lawful.{lawful, nothing_waits}
use Rattle.window.proofs.Window.lot.Goals as goal

same-fault : (f g : Fault) → ◌≡◌ {A = Result ℕ Fault} (Err f) (Err g) → f ≡ g
same-fault f g e = cc

fault-of : (f g : Fault) → ◌≡◌ {A = Answer} (Err f) (Err g) → f ≡ g
fault-of f g e = cc

no_fault : {X : Type 0} (i : ℕ) (f : Fault) → ◌≡◌ {A = Result ℕ Fault} (Ok i) (Err f) → X
no_fault i f e = let z : ◌≡◌ {A = ℕ} 0 1 = cc in absurd (omega arith)

not_ours : {X : Type 0} (r : Answer) (f : Fault) → Posted r → r ≡ Err f → f.layer ≡ Window → X
not_ours r f p e ours =
    let q : f.layer ≡ Post = subst Posted e p in
    let z : ◌≡◌ {A = ℕ} 0 1 = cc in absurd (omega arith)

accepted-so : {X : Type 0} (r : Answer) (f : Fault) → r ≡ Ok tt → r ≡ Err f → X
accepted-so r f is_ok is_err = let z : ◌≡◌ {A = ℕ} 0 1 = cc in absurd (omega arith)

pub returns-in_err-place : goal.returns-in_err-place
returns-in_err-place g c =
    let d = c.args.self.now.checked in
    let ls = g.P.Post.lanes c.args.self.now.post in
    let used = c.args.self.now.used in
    let n = c.args.office in
    let f = c.in_err-place.field-0.0 in
    let r = c.from_residual.result in
    let is : r ≡ Err f = ap (λ (o : Out (Unit {0}) (Unit {0})). o.answer) (passed {s = tt} c.from_residual.ensures.1 refl) in
    let no = c.in_err-place.ensures in
    let reached : (lots : List ℕ) (rs : List Answer) → ReachedBy lots rs used (at d.books ls) → ReachedBy (lots ++ n ∷ []) (rs ++ r ∷ []) used (at d.books ls) = λ lots rs re.
    subst (λ r. ReachedBy (lots ++ n ∷ []) (rs ++ r ∷ []) used (at d.books ls)) (sym is)
    (next_reached d ls used lots rs re n (at d.books ls) (Err f) refl (refused_next d ls (setting_in d.books.setting) lots used n f (to_held d ls used lots rs re) no)) in
    record {
      became = g.met.P.Post.stays _;
      setting = refl;
      used = refl;
      offices = refl;
      refused = λ h e. (is ∙ ap Err (same-fault f h (no ∙ e)), refl);
      ours = λ h e layer. sym no ∙ ap Err (fault-of f h (sym is ∙ e));
      reached = reached;
      same = λ lots rs h re e. refl;
      lawful = λ lots rs re. lawful _ _ _ _ (reached lots rs re);
      empty = λ lots rs re. nothing_waits d ls used lots rs re;
    }

pub returns : goal.returns
returns g c =
    let d = c.args.self.now.checked in
    let p = c.args.self.now.post in
    let ls = g.P.Post.lanes p in
    let used = c.args.self.now.used in
    let n = c.args.office in
    let i = c.in_ok-place.place.index in
    let w = c.accept.new.self in
    let r = c.accept.result in
    let v = at w.checked.books (g.P.Post.lanes w.post) in
    let alone = accepts_alone i (at d.books ls) c.accept.ensures.did in
    let reached : (lots : List ℕ) (rs : List Answer) → ReachedBy lots rs used (at d.books ls) → ReachedBy (lots ++ n ∷ []) (rs ++ r ∷ []) w.used v = λ lots rs re.
    subst (λ u. ReachedBy (lots ++ n ∷ []) (rs ++ r ∷ []) u v) (sym c.accept.ensures.kept.used)
    (next_reached d ls used lots rs re n v r alone.setting (admitted_next d ls (setting_in d.books.setting) lots used n i (to_held d ls used lots rs re) c.in_ok-place.ensures v r c.accept.ensures.did).0) in
    record {
      became = c.accept.ensures.kept.became;
      setting = alone.setting;
      used = c.accept.ensures.kept.used;
      offices = omega (arith, (g.met.P.Post.sound p).both_ways, (g.met.P.Post.sound w.post).both_ways, alone.long);
      refused = λ h e. no_fault i h (c.in_ok-place.ensures ∙ e);
      ours = λ h e layer. not_ours r h (accepts_posted i (at d.books ls) c.accept.ensures.did) e layer;
      reached = reached;
      same = λ lots rs h re e. accepted-so r h (admitted_next d ls (setting_in d.books.setting) lots used n i (to_held d ls used lots rs re) c.in_ok-place.ensures v r c.accept.ensures.did).1 e;
      lawful = λ lots rs re. lawful _ _ _ _ (reached lots rs re);
      empty = λ lots rs re. nothing_waits w.checked (g.P.Post.lanes w.post) w.used (lots ++ n ∷ []) (rs ++ r ∷ []) (reached lots rs re);
    }
