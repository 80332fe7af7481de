-- What goes wrong in a lot once it is admitted is a fault of the post. Assumes nothing.
use Rattle.std.proofs.Common.{◌≡◌, ℕ, zero, suc, ◌+◌, ◌*◌, Bool, true, false, cond, leb, List, [], ◌∷◌, length, Some, None, Ok, Err, Option, Result, sym, refl, ap, subst}
use Rattle.fault.specs.declared.Fault.{Fault}
use Rattle.fault.specs.declared.Layer.TheVariants.{Post}
use Rattle.post.specs.Lanes.{Lane, lane, room_answer, send_answer, sends, send, joined}
use Rattle.post.specs.Outs.{Out, out}
use Rattle.window.specs.Sequences.{go_on, then, each}
use Rattle.window.specs.declared.books.Books.{Books}
use Rattle.window.specs.declared.message.Message.{Message}
use Rattle.window.specs.Parts.{byte_of, heard, message, followed, office}
use Rattle.window.specs.Turns.{State, at, with_each, drain, replies, hear, follow, coordinator_part, office_part, turn, Settled, calm, again, stops, Signals, refused, sent, Accepts, quiet, signalled_on}

-- an answer, or a fault of the post
abbrev pub Posted : Result (Unit {0}) Fault → Type 0
Posted (Ok u) = Unit {0}
Posted (Err f) = f.layer ≡ Post

cond_posted : (b : Bool) (x y : Result (Unit {0}) Fault) → Posted x → Posted y → Posted (cond b x y)
cond_posted true x y p q = p
cond_posted false x y p q = q

sends_posted : (a : Result (Unit {0}) Fault) (ls after : List Lane) → Posted a → Posted (sends a ls after).answer
sends_posted (Ok u) ls after p = tt
sends_posted (Err f) ls after p = p

send_posted : (i b : ℕ) (ls : List Lane) → Posted (send i b ls).answer
send_posted i b ls =
    sends_posted (send_answer ls i) ls (joined ls i b)
    (cond_posted (leb (length ls) i) _ (room_answer (lane ls i) i) refl
    (cond_posted (leb 65535 (lane ls i).sent) _ _ refl (cond_posted (leb 16 (length (lane ls i).waiting)) _ _ refl tt)))

module _ {S : Type 0} where
  go_on_posted : (a : Result (Unit {0}) Fault) (s : S) (f : S → Unit {0} → Out S (Unit {0})) → Posted a → ((t : S) → Posted (f t tt).answer) → Posted (go_on a s f).answer
  go_on_posted (Ok u) s f p q = q s
  go_on_posted (Err e) s f p q = p

  then_posted : (m : Out S (Unit {0})) (f : S → Unit {0} → Out S (Unit {0})) → Posted m.answer → ((t : S) → Posted (f t tt).answer) → Posted (then m f).answer
  unfolding then
  then_posted m f p q = go_on_posted m.answer m.state f p q

  each_posted : (f : ℕ → S → Out S (Unit {0})) → ((i : ℕ) (s : S) → Posted (f i s).answer) → (n i : ℕ) (s : S) → Posted (each n i f s).answer
  unfolding each
  each_posted f p zero i s = tt
  each_posted f p (suc n) i s = then_posted (f i s) (λ t _. each n (i + 1) f t) (p i s) (λ t. each_posted f p n (i + 1) t)

module _ (j : ℕ) (f : ℕ → State → Out State (Unit {0})) (p : (b : ℕ) (s : State) → Posted (f b s).answer) where
  with_each_posted : (bs : List ℕ) (s : State) → Posted (with_each j f bs s).answer
  unfolding with_each
  with_each_posted [] s = tt
  with_each_posted (b ∷ bs) s = then_posted (f b _) (λ t _. with_each j f bs t) (p b _) (λ t. with_each_posted bs t)

  out_posted : (b : Bool) (x y : Out State (Unit {0})) → Posted x.answer → Posted y.answer → Posted (cond b x y).answer
  out_posted true x y p q = p
  out_posted false x y p q = q

  drain_posted : (s : State) → Posted (drain j f s).answer
  unfolding drain
  drain_posted s = out_posted (leb (length s.lanes) j) _ _ refl (with_each_posted (lane s.lanes j).waiting s)

replies_posted : (o : Option Message) (b : Books) (ls : List Lane) → Posted (replies o b ls).answer
replies_posted None b ls = tt
replies_posted (Some m) b ls = each_posted (λ i. send (2 * i + 1) (byte_of m)) (λ i ls. send_posted (2 * i + 1) (byte_of m) ls) b.setting.offices 0 ls

hear_posted : (i byte : ℕ) (s : State) → Posted (hear i byte s).answer
unfolding hear
hear_posted i byte s = replies_posted (heard i (message byte) s.books).reply (heard i (message byte) s.books).books s.lanes

follow_posted : (i byte : ℕ) (s : State) → Posted (follow i byte s).answer
unfolding follow
follow_posted i byte s =
    let t = followed i (message byte) s.books in
    each_posted (λ _. send (2 * i) (32 + (office t.books i).step)) (λ _ ls. send_posted (2 * i) (32 + (office t.books i).step) ls) t.signals 0 s.lanes

turn_posted : (s : State) → Posted (turn s).answer
unfolding turn
turn_posted s =
    then_posted (coordinator_part s.books.setting.offices s) (λ t _. office_part t.books.setting.offices t)
    (each_posted (λ i. drain (2 * i) (hear i)) (λ i s. drain_posted (2 * i) (hear i) (hear_posted i) s) s.books.setting.offices 0 s)
    (λ t. each_posted (λ i. drain (2 * i + 1) (follow i)) (λ i s. drain_posted (2 * i + 1) (follow i) (follow_posted i) s) t.books.setting.offices 0 t)

answer_posted : {s : State} {r : Result (Unit {0}) Fault} (o : Out State (Unit {0})) → out s r ≡ o → Posted o.answer → Posted r
answer_posted o e p = subst Posted (ap (λ (o : Out State (Unit {0})). o.answer) (sym e)) p

settled_posted : {s : State} {o : Out State (Unit {0})} → Settled s o → Posted o.answer
settled_posted (calm c) = tt
settled_posted (again b t r) = settled_posted r
settled_posted {s} (stops b t) = answer_posted (turn s) t (turn_posted s)

signals_posted : (i : ℕ) (s : State) {o : Out State (Unit {0})} → Signals i s o → Posted o.answer
signals_posted i s (refused e) = answer_posted _ e (send_posted (2 * i) (32 + (office s.books i).step) s.lanes)
signals_posted i s (sent e r) = settled_posted r

pub accepts_posted : (i : ℕ) (s : State) {o : Out State (Unit {0})} → Accepts i s o → Posted o.answer
accepts_posted i s (quiet e) = tt
accepts_posted i s (signalled_on e r) = signals_posted i (at _ s.lanes) r
