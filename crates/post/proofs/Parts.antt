-- What a call on the first lanes of a list is, by the same call on all of them.
use Rattle.std.proofs.Common.{◌≡◌, ℕ, ◌<◌, Bool, true, false, cond, leb, List, [], ◌∷◌, length, take, Some, Ok, Err, Option, Result, sym, refl, ap, ◌∙◌, arith}
use Rattle.std.proofs.lemmas.List.{get_or-take, length-take}
use Rattle.std.proofs.lemmas.Bool.Decides.{nat_tests}
use Rattle.fault.specs.declared.Fault.{Fault}
use Rattle.fault.specs.declared.Refusal.TheVariants.{NoSuchOfficeOrLane}
use Rattle.post.specs.Lanes.{Lane, no_lane, lane, lane_fault, send_answer, with_byte, joined, sends, send, taken}
use Rattle.post.specs.Lanes.{take as take_lane}
use Rattle.post.specs.Outs.{Out, out}
use Rattle.post.specs.Shown.{take_of_change}

-- what a call leaves and answers, of the first n lanes
abbrev first_lanes : {R : Type 0} (n : ℕ) → Out (List Lane) R → Out (List Lane) R
first_lanes n o = out (take n o.state) o.answer

-- whether there is no such lane, where it would be one of the first n
past_first : (n : ℕ) (ls : List Lane) (i : ℕ) → i < n → leb (length (take n ls)) i ≡ leb (length ls) i
past_first n ls i here = let long = length-take n ls in grind (arith, nat_tests)

sends_first : (n : ℕ) (a : Result (Unit {0}) Fault) (before after : List Lane) → first_lanes n (sends a before after) ≡ sends a (take n before) (take n after)
sends_first n (Ok u) before after = refl
sends_first n (Err f) before after = refl

taken_first : (n : ℕ) (w : List ℕ) (i : ℕ) (ls : List Lane) → first_lanes n (taken w i ls) ≡ taken w i (take n ls)
taken_first n [] i ls = refl
taken_first n (b ∷ bs) i ls = ap (λ q. out q (Ok (Some b))) (take_of_change (λ l. record { waiting = bs; sent = l.sent }) n ls i)

-- a take, by whether there is no such lane, and what waits on it
abbrev take_by : Bool → Lane → ℕ → List Lane → Out (List Lane) (Option ℕ)
take_by past l i ls = cond past (out ls (Err (lane_fault NoSuchOfficeOrLane i))) (taken l.waiting i ls)

take_by_first : (n : ℕ) (past : Bool) (l : Lane) (i : ℕ) (ls : List Lane) → first_lanes n (take_by past l i ls) ≡ take_by past l i (take n ls)
take_by_first n true l i ls = refl
take_by_first n false l i ls = taken_first n l.waiting i ls

module _ (n : ℕ) (ls after : List Lane) (i : ℕ) (here : i < n) where
  same_lane : lane (take n ls) i ≡ lane ls i
  same_lane = get_or-take n ls i no_lane here

  same_answer : send_answer (take n ls) i ≡ send_answer ls i
  same_answer = rw (past_first n ls i here, same_lane) refl

  -- a send on one of the first n lanes
  pub send_first : (b : ℕ) (r : Result (Unit {0}) Fault) → out after r ≡ send i b ls → out (take n after) r ≡ send i b (take n ls)
  send_first b r e =
      ap (first_lanes n) e ∙ sends_first n (send_answer ls i) ls (joined ls i b)
      ∙ ap (λ a. sends a (take n ls) (take n (joined ls i b))) (sym same_answer)
      ∙ ap (sends (send_answer (take n ls) i) (take n ls)) (take_of_change (λ l. with_byte l b) n ls i)

  -- a take from one of the first n lanes
  pub take_first : (r : Result (Option ℕ) Fault) → out after r ≡ take_lane i ls → out (take n after) r ≡ take_lane i (take n ls)
  take_first r e =
      ap (first_lanes n) e ∙ take_by_first n (leb (length ls) i) (lane ls i) i ls
      ∙ ap (λ past. take_by past (lane ls i) i (take n ls)) (sym (past_first n ls i here))
      ∙ ap (λ l. take_by (leb (length (take n ls)) i) l i (take n ls)) (sym same_lane)
