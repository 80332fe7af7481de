-- The steps of the window's parts. Assumes nothing.
use Rattle.std.proofs.Common.{◌≡◌, ℕ, ◌+◌, ◌<◌, Bool, true, false, cond, leb, List, [], ◌∷◌, length, set, Some, None, Ok, Err, Option, Result, sym, refl, ap, ◌∙◌, subst, arith}
use Rattle.std.proofs.lemmas.List.{length-set, get_or-set_same}
use Rattle.std.proofs.lemmas.Bool.{leb-false, lt-leb, cond-false}
use Rattle.fault.specs.declared.Fault.{Fault}
use Rattle.fault.specs.declared.Refusal.TheVariants.{NoSuchOfficeOrLane}
use Rattle.post.specs.Lanes.{Lane, lane, no_lane, lane_fault, take, taken}
use Rattle.post.specs.Outs.{Out, out}
use Rattle.window.specs.Sequences.{fine, then}
use Rattle.window.specs.declared.books.Books.{Books}
use Rattle.window.specs.declared.message.Message.{Message}
use Rattle.window.specs.Parts.{Heard, heard, heard_of, message, Followed, followed, followed_of}
use Rattle.window.specs.Turns.{State, Holds, at, with_lanes, with_each, drain, replies, hear, answers, follow}
use Rattle.window.proofs.Steps.{went, broke}

-- the coordinator has heard what a byte says, and told what it tells
pub hear_did : (i byte : ℕ) (b b' : Books) (ls : List Lane) (m : Option Message) (r : Option Message) {o : Out State (Unit {0})} → m ≡ message byte → heard_of b' r ≡ heard i m b → o ≡ replies r b' ls → o ≡ hear i byte (at b ls)
unfolding hear
hear_did i byte b b' ls m r read e told = told ∙ ap (λ (h : Heard). replies h.reply h.books ls) (e ∙ ap (λ m. heard i m b) read)

-- the office has followed what a byte says, and sent the signals that it owes
pub follow_did : (i byte : ℕ) (b b' : Books) (ls : List Lane) (m : Option Message) (n : ℕ) {o : Out State (Unit {0})} → m ≡ message byte → followed_of b' n ≡ followed i m b → o ≡ answers i (followed_of b' n) ls → o ≡ follow i byte (at b ls)
unfolding follow
follow_did i byte b b' ls m n read e sent = sent ∙ ap (λ (t : Followed). answers i t ls) (e ∙ ap (λ m. followed i m b) read)

-- what follows a take, in a drain
pub next : (j : ℕ) (f : ℕ → State → Out State (Unit {0})) → State → Option ℕ → Out State (Unit {0})
next j f s None = fine s
next j f s (Some x) = then (f x s) (λ t _. with_each j f (lane s.lanes j).waiting t)

-- a drain is a take and what follows it
module _ (j : ℕ) (f : ℕ → State → Out State (Unit {0})) (b : Books) (ls : List Lane) where
  drain_on : (t : Bool) → leb (length ls) j ≡ t → (w : List ℕ) → cond t (out (at b ls) (Err (lane_fault NoSuchOfficeOrLane j))) (with_each j f w (at b ls)) ≡ then (with_lanes b (cond t (out ls (Err (lane_fault NoSuchOfficeOrLane j))) (taken w j ls))) (next j f)
  unfolding with_each next then
  drain_on true e w = refl
  drain_on false e [] = refl
  drain_on false e (x ∷ xs) =
      let less : j < length ls = leb-false (length ls) j e in
      let ls' : List Lane = set ls j (record { waiting = xs; sent = (lane ls j).sent }) in
      let same : xs ≡ (lane ls' j).waiting = ap (λ (l : Lane). l.waiting) (sym (get_or-set_same ls j _ no_lane less)) in
      ap (λ w. then (f x (at b ls')) (λ t _. with_each j f w t)) same

  pub drain_step : drain j f (at b ls) ≡ then (with_lanes b (take j ls)) (next j f)
  unfolding drain
  drain_step = drain_on (leb (length ls) j) refl (lane ls j).waiting

-- a lane that holds w is drained by way of w
pub drain_back : (j : ℕ) (f : ℕ → State → Out State (Unit {0})) (t : State) (w : List ℕ) → j < length t.lanes → w ≡ (lane t.lanes j).waiting → with_each j f w t ≡ drain j f t
unfolding drain
drain_back j f t w less e =
    ap (λ w. with_each j f w t) e ∙ sym (cond-false (leb (length t.lanes) j) _ _ (lt-leb _ _ less))

-- a take that answered
pub record Took (j : ℕ) (ls ls' : List Lane) : Type 0 where
  pub within : j < length ls'
  pub fewer : length (lane ls j).waiting ≡ length (lane ls' j).waiting + 1

took_on : (j : ℕ) (ls ls' : List Lane) (x : ℕ) (t : Bool) → leb (length ls) j ≡ t → (w : List ℕ) → w ≡ (lane ls j).waiting → out ls' (Ok (Some x)) ≡ cond t (out ls (Err (lane_fault NoSuchOfficeOrLane j))) (taken w j ls) → Took j ls ls'
took_on j ls ls' x true e w is eq = let a = ap (λ (o : Out (List Lane) (Option ℕ)). o.answer) eq in let z : ◌≡◌ {A = ℕ} 0 1 = cc in absurd (omega arith)
took_on j ls ls' x false e [] is eq = let a = ap (λ (o : Out (List Lane) (Option ℕ)). o.answer) eq in let z : ◌≡◌ {A = ℕ} 0 1 = cc in absurd (omega arith)
took_on j ls ls' x false e (y ∷ ys) is eq =
    let less : j < length ls = leb-false (length ls) j e in
    let ls'' : List Lane = set ls j (record { waiting = ys; sent = (lane ls j).sent }) in
    let now : ls' ≡ ls'' = ap (λ (o : Out (List Lane) (Option ℕ)). o.state) eq in
    let same : (lane ls'' j).waiting ≡ ys = ap (λ (l : Lane). l.waiting) (get_or-set_same ls j _ no_lane less) in
    record {
      within = omega (arith, ap length now, length-set ls j (record { waiting = ys; sent = (lane ls j).sent }));
      fewer = ap length (sym is) ∙ omega (arith, ap (λ ls. length (lane ls j).waiting) now, ap length same);
    }

pub took : (j : ℕ) (ls ls' : List Lane) (x : ℕ) {r : Result (Option ℕ) Fault} → out ls' r ≡ take j ls → r ≡ Ok (Some x) → Took j ls ls'
took j ls ls' x e ok = took_on j ls ls' x (leb (length ls) j) refl (lane ls j).waiting refl (ap (out ls') (sym ok) ∙ e)

-- one byte more was taken and dealt with
module _ (j : ℕ) (f : ℕ → State → Out State (Unit {0})) (b : Books) (ls ls' : List Lane) {r : Result (Option ℕ) Fault} (did : out ls' r ≡ take j ls) where
  lifted : out (at b ls') r ≡ with_lanes b (take j ls)
  lifted = ap (with_lanes b) did

  pub drain_done : r ≡ Ok None → fine (at b ls') ≡ drain j f (at b ls)
  unfolding next
  drain_done ok = sym (drain_step j f b ls ∙ went (next j f) lifted ok)

  pub drain_stop : {e : Fault} → r ≡ Err e → out (at b ls') (Err e) ≡ drain j f (at b ls)
  drain_stop err = sym (drain_step j f b ls ∙ broke (next j f) lifted err)

  pub drain_broke : {x : ℕ} {e : Fault} {q : Result (Unit {0}) Fault} {t : State} → r ≡ Ok (Some x) → out t q ≡ f x (at b ls') → q ≡ Err e → out t (Err e) ≡ drain j f (at b ls)
  unfolding next
  drain_broke ok e err = sym (drain_step j f b ls ∙ went (next j f) lifted ok ∙ broke _ e err)

  pub drain_more : {x : ℕ} {y : Unit {0}} {q : Result (Unit {0}) Fault} {t : State} → r ≡ Ok (Some x) → out t q ≡ f x (at b ls') → q ≡ Ok y → Holds j ls' t.lanes → drain j f t ≡ drain j f (at b ls)
  unfolding next
  drain_more {x} {t} ok e good holds =
      let less : j < length t.lanes = omega (arith, (took j ls ls' x did ok).within, holds.long) in
      sym (drain_step j f b ls ∙ went (next j f) lifted ok ∙ went _ e good ∙ drain_back j f t _ less (sym holds.same))

  pub drain_falls : {x : ℕ} {ls'' : List Lane} → r ≡ Ok (Some x) → Holds j ls' ls'' → length (lane ls'' j).waiting < length (lane ls j).waiting
  drain_falls {x} ok holds = omega (arith, (took j ls ls' x did ok).fewer, ap length holds.same)

-- what holds of what was to be done holds of what was done
pub holds_after : (j : ℕ) (ls : List Lane) {t : State} {r : Result (Unit {0}) Fault} {o : Out State (Unit {0})} → out t r ≡ o → Holds j ls o.state.lanes → Holds j ls t.lanes
holds_after j ls e h = subst (λ (o : Out State (Unit {0})). Holds j ls o.state.lanes) (sym e) h
