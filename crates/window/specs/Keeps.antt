-- What is done with a byte leaves the lane that it came by: lemmas that an impl cites, proved and nothing to believe.
use Rattle.std.specs.Prelude.{◌≡◌, ℕ, zero, suc, ◌+◌, ◌*◌, List, Some, None, Ok, Err, Option, Result, refl}
use Rattle.std.proofs.Common.{ap, ◌∙◌, arith}
use Rattle.std.proofs.lemmas.List.{length-set, get_or-set_other}
use Rattle.fault.specs.declared.Fault.{Fault}
use Rattle.post.specs.Lanes.{Lane, no_lane, send, sends, send_answer, joined}
use Rattle.post.specs.Outs.{Out}
use Rattle.window.specs.Sequences.{go_on, then, each}
use Rattle.window.specs.declared.books.Books.{Books}
use Rattle.window.specs.declared.message.Message.{Message}
use Rattle.window.specs.Parts.{byte_of, heard, message, followed, office}
use Rattle.window.specs.Turns.{State, Holds, tell, replies, hear, signal, follow}

-- what every part keeps, all of them keep
module _ {S : Type 0} (Q : S → S → Type 0) (stays : (s : S) → Q s s) (joins : (a b c : S) → Q a b → Q b c → Q a c) (f : ℕ → S → Out S (Unit {0})) (keeps : (i : ℕ) (s : S) → Q s (f i s).state) where
  go_on_keeps : (a : Result (Unit {0}) Fault) (s t : S) (h : S → Unit {0} → Out S (Unit {0})) → Q s t → ((u : S) → Q u (h u tt).state) → Q s (go_on a t h).state
  go_on_keeps (Ok x) s t h q k = joins s t _ q (k t)
  go_on_keeps (Err e) s t h q k = q

  pub each_keeps : (n i : ℕ) (s : S) → Q s (each n i f s).state
  unfolding each then
  each_keeps zero i s = stays s
  each_keeps (suc n) i s = go_on_keeps (f i s).answer s (f i s).state (λ t _. each n (i + 1) f t) (keeps i s) (λ u. each_keeps n (i + 1) u)

-- no send on another lane changes what a lane holds
send_holds : (j i b : ℕ) (ls : List Lane) → (j ≡ i → ⊥) → Holds j ls (send i b ls).state
send_holds j i b ls other = on (send_answer ls i)
  where
    on : (a : Result (Unit {0}) Fault) → Holds j ls (sends a ls (joined ls i b)).state
    on (Ok u) = record { long = length-set ls i _; same = ap (λ (l : Lane). l.waiting) (get_or-set_other ls i j _ no_lane other) }
    on (Err f) = record { long = refl; same = refl }

holds_trans : {j : ℕ} {a b c : List Lane} → Holds j a b → Holds j b c → Holds j a c
holds_trans p q = record { long = q.long ∙ p.long; same = q.same ∙ p.same }

tell_holds : (i k b : ℕ) (ls : List Lane) → Holds (2 * i) ls (tell k b ls).state
tell_holds i k b ls =
    each_keeps (Holds (2 * i)) (λ ls. record { long = refl; same = refl }) (λ _ _ _ p q. holds_trans p q) (λ n. send (2 * n + 1) b)
    (λ n ls. send_holds (2 * i) (2 * n + 1) b ls (λ e. omega arith)) k 0 ls

-- what the coordinator does with a byte of office i leaves that office's lane up
pub hear_holds : (i byte : ℕ) (s : State) → Holds (2 * i) s.lanes (hear i byte s).state.lanes
unfolding hear
hear_holds i byte s = on (heard i (message byte) s.books).reply (heard i (message byte) s.books).books
  where
    on : (o : Option Message) (b : Books) → Holds (2 * i) s.lanes (replies o b s.lanes).state.lanes
    on None b = record { long = refl; same = refl }
    on (Some m) b = tell_holds i b.setting.offices (byte_of m) s.lanes

signal_holds : (i step n : ℕ) (ls : List Lane) → Holds (2 * i + 1) ls (signal i step n ls).state
signal_holds i step n ls =
    each_keeps (Holds (2 * i + 1)) (λ ls. record { long = refl; same = refl }) (λ _ _ _ p q. holds_trans p q) (λ _. send (2 * i) (32 + step))
    (λ _ ls. send_holds (2 * i + 1) (2 * i) (32 + step) ls (λ e. omega arith)) n 0 ls

-- what an office does with a byte leaves its lane down
pub follow_holds : (i byte : ℕ) (s : State) → Holds (2 * i + 1) s.lanes (follow i byte s).state.lanes
unfolding follow
follow_holds i byte s =
    let t = followed i (message byte) s.books in
    signal_holds i (office t.books i).step t.signals s.lanes
