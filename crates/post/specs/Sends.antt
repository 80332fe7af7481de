-- Sends and takes on a list of lanes: lemmas that an impl cites, proved and nothing to believe.
use Rattle.std.specs.Prelude.{◌≡◌, ℕ, ◌+◌, ◌*◌, ◌<◌, ◌≤◌, Bool, true, false, cond, List, [], ◌∷◌, ◌++◌, length, take, replicate, Ok, Err, Option, Result, MatchOption, nat_le, slice_set, refl}
use Rattle.std.proofs.Common.{sym, ap, ◌∙◌, arith, length-set}
use Rattle.std.proofs.ByRecursion.{All-from_get_or, sum_by_le}
use Rattle.std.proofs.lemmas.List.Sums.{sum_by-set, sum_by_more}
use Rattle.std.proofs.lemmas.List.{get_or_past, get_or-replicate, length_push, length-replicate, take_all}
use Rattle.std.proofs.lemmas.Bool.{cond_both, lt-leb, leb-false}
use Rattle.std.proofs.lemmas.Bool.Decides.{nat_tests}
use Rattle.fault.specs.declared.Fault.{Fault}
use Rattle.queue.specs.Queues.{first, rest}
use Rattle.post.specs.Lanes.{Lane, PostLaw, no_lane, lane, room_answer, send_answer, with_byte, joined, sent_answer, sends, send, take as take_lane, taken, all_sent, Unused}
use Rattle.post.specs.Outs.{Out, out}

-- a lane that takes one byte more
pub record Open (ls : List Lane) (i : ℕ) : Type 0 where
  pub there : i < length ls
  pub few : (lane ls i).sent < 65535
  pub room : length (lane ls i).waiting < 16

pub roomy : (l : Lane) (i : ℕ) → room_answer l i ≡ Ok tt → (l.sent < 65535) × (length l.waiting < 16)
roomy l i e = grind (arith, nat_tests)

pub opened : (ls : List Lane) (i : ℕ) → send_answer ls i ≡ Ok tt → Open ls i
opened ls i e = grind (arith, nat_tests)

pub may_send : (ls : List Lane) (i : ℕ) → Open ls i → send_answer ls i ≡ Ok tt
may_send ls i o = rw (lt-leb (length ls) i o.there, lt-leb 65535 (lane ls i).sent o.few, lt-leb 16 (length (lane ls i).waiting) o.room)

-- a send as its answer and the lanes after it, and back
answer_of : (a : Result (Unit {0}) Fault) (before after : List Lane) → (sends a before after).answer ≡ a
answer_of (Ok tt) before after = refl
answer_of (Err f) before after = refl

module _ (ls : List Lane) (i b : ℕ) where
  pub send_answered : (after : List Lane) (r : Result (Unit {0}) Fault) → out after r ≡ send i b ls → r ≡ send_answer ls i
  send_answered after r e = ap (λ (o : Out (List Lane) (Unit {0})). o.answer) e ∙ answer_of (send_answer ls i) ls (joined ls i b)

  pub send_done : (after : List Lane) → send_answer ls i ≡ Ok tt → after ≡ joined ls i b → out after (Ok tt) ≡ send i b ls
  send_done after may is = ap (λ ls. out ls (Ok tt)) is ∙ sym (ap (λ a. sends a ls (joined ls i b)) may)

  pub send_refused : (f : Fault) → send_answer ls i ≡ Err f → out ls (Err f) ≡ send i b ls
  send_refused f no-send = sym (ap (λ a. sends a ls (joined ls i b)) no-send)

pub length_joined : (ls : List Lane) (i b : ℕ) → length (joined ls i b) ≡ length ls
length_joined ls i b = length-set ls i (with_byte (lane ls i) b)

pub all_sent_joined : (ls : List Lane) (i b : ℕ) → i < length ls → all_sent (joined ls i b) ≡ all_sent ls + 1
all_sent_joined ls i b here = omega (arith, sum_by-set (λ (l : Lane). l.sent) ls i (with_byte (lane ls i) b) no_lane here)

-- a lane that is written with as many sent
pub all_sent_set : (ls : List Lane) (i : ℕ) (l : Lane) → i < length ls → l.sent ≡ (lane ls i).sent → all_sent (slice_set ls i l) ≡ all_sent ls
all_sent_set ls i l here e = omega (arith, sum_by-set (λ (l : Lane). l.sent) ls i l no_lane here)

-- a take leaves the sum of the sent numbers as it was
all_sent_taken : (w : List ℕ) (i : ℕ) (ls : List Lane) → i < length ls → all_sent (taken w i ls).state ≡ all_sent ls
all_sent_taken [] i ls here = refl
all_sent_taken (b ∷ bs) i ls here = all_sent_set ls i (record { waiting = bs; sent = (lane ls i).sent }) here refl

pub all_sent_take : (i : ℕ) (ls : List Lane) → all_sent (take_lane i ls).state ≡ all_sent ls
all_sent_take i ls =
    cond_both (nat_le (length ls) i) _ _ (λ (o : Out (List Lane) (Option ℕ)). all_sent o.state ≡ all_sent ls)
    (λ _. refl)
    (λ below. all_sent_taken (lane ls i).waiting i ls (leb-false (length ls) i below))

-- lanes on which nothing was sent
pub unused_new : (n : ℕ) → Unused (replicate n no_lane)
unused_new n i here = ap (λ (l : Lane). l.sent) (get_or-replicate n i no_lane no_lane (omega (arith, length-replicate n no_lane)))

-- no post has ever carried more messages than this
pub all_sent_few : (offices : ℕ) (ls : List Lane) → PostLaw offices ls → all_sent ls ≤ 8388480
all_sent_few offices ls law =
    let each = All-from_get_or (λ (l : Lane). l.sent ≤ 65535) ls no_lane (λ i here. (law.each i here).most) in
    omega (arith, sum_by_le (λ (l : Lane). l.sent) 65535 ls each, law.both_ways, law.few)

-- one lane more in the running sum over the lanes of a post
pub one_more : (offices : ℕ) (ls : List Lane) (i n more : ℕ) → PostLaw offices ls → i < 2 * offices → (n ≤ i * 65535) × (n ≡ all_sent (take i ls)) → more ≡ (lane ls i).sent → (n + more ≤ (i + 1) * 65535) × (n + more ≡ all_sent (take (i + 1) ls))
one_more offices ls i n more law below so_far is =
    let here : i < length ls = omega (arith, law.both_ways) in
    (omega (arith, (law.each i here).most), omega (arith, sum_by_more (λ (l : Lane). l.sent) ls i no_lane here))

pub all_summed : (offices : ℕ) (ls : List Lane) (i n : ℕ) → PostLaw offices ls → 2 * offices ≤ i → n ≡ all_sent (take i ls) → n ≡ all_sent ls
all_summed offices ls i n law past e = e ∙ ap all_sent (take_all i ls (omega (arith, law.both_ways)))

-- a queue that may have taken one byte more
pub at_most_more : (xs ys : List ℕ) (b : ℕ) (pushed : Bool) → ys ≡ cond pushed (xs ++ b ∷ []) xs → length ys ≤ length xs + 1
at_most_more xs ys b true e = omega (arith, ap length e, length_push xs b)
at_most_more xs ys b false e = omega (arith, ap length e)

-- a byte that came off, and what it left
pub came_off : (xs ys : List ℕ) (r : Option ℕ) → r ≡ first xs → ys ≡ rest xs → MatchOption r (xs ≡ []) (λ b. xs ≡ b ∷ ys)
came_off [] ys r e l = rw e refl
came_off (x ∷ xs) ys r e l = rw e (ap (λ zs. x ∷ zs) (sym l))

past : (ls : List Lane) (i : ℕ) (f : Fault) → Err f ≡ sent_answer ls i → length ls ≤ i
past ls i f e = grind (arith, nat_tests)

pub none_sent : (ls : List Lane) (i : ℕ) (f : Fault) → Err f ≡ sent_answer ls i → 0 ≡ (lane ls i).sent
none_sent ls i f e = sym (ap (λ (l : Lane). l.sent) (get_or_past ls i no_lane (past ls i f e)))
