-- One attempt, turn by turn.
use Rattle.std.proofs.Common.{◌≡◌, ℕ, zero, suc, ◌+◌, ◌<◌, ◌≤◌, Bool, true, false, cond, not, ◌||◌, List, [], ◌∷◌, ◌++◌, length, replicate, Some, Ok, sym, refl, ap, ◌∙◌, append_assoc, arith}
use Rattle.std.proofs.lemmas.List.{length_push}
use Rattle.std.proofs.lemmas.Bool.{cond-true, le-leb, lt-leb, lt-ltb, eq-eqb}
use Rattle.post.specs.Lanes.{Lane, joined}
use Rattle.wire.specs.Wires.{WireLane, Outcome, once, lost, twice, arrivals, copies, cost, costs, wire_lane, Others, Taken, PlacedBy, PlacesAfter}
use Rattle.bit_post.specs.Frames.{data_frame, acknowledgement, bit_of, byte_of, frame_of}
use Rattle.bit_post.specs.declared.frame.Frame.TheVariants.{Data}
use Rattle.bit_post.specs.Sends.{attempt, any_arrives}
use Rattle.bit_post.specs.Sending.{among, waiting_after, same_bit, delivered, FarState, Answering, Tried}

-- a frame reads back
bit_back : (s : Bool) (b : ℕ) → b < 256 → bit_of (data_frame s b) ≡ s
bit_back true b h = le-leb 256 (b + 256) (omega arith)
bit_back false b h = lt-leb 256 (b + 0) (omega arith)

byte_back : (s : Bool) (b : ℕ) → b < 256 → byte_of (data_frame s b) ≡ b
byte_back true b h = omega arith
byte_back false b h = omega arith

data_small : (s : Bool) (b : ℕ) → b < 256 → data_frame s b < 512
data_small true b h = omega arith
data_small false b h = omega arith

pub frame_back : (s : Bool) (b : ℕ) → b < 256 → frame_of (data_frame s b) ≡ Ok (Data s b)
frame_back s b h =
    cond-true _ _ _ (lt-ltb (data_frame s b) 512 (data_small s b h)) ∙ ap (λ v. Ok (Data v (byte_of (data_frame s b)))) (bit_back s b h) ∙ ap (λ y. Ok (Data s y)) (byte_back s b h)

pub same_bit_not : (s : Bool) → same_bit s (not s) ≡ false
same_bit_not true = refl
same_bit_not false = refl

-- the first of a row of one frame
pub record Head (left f d : ℕ) (ys : List ℕ) : Type 0 where
  pub less : ℕ
  pub is : left ≡ suc less
  pub same : f ≡ d
  pub rest : ys ≡ replicate less d

pub head_of : (left f d : ℕ) (xs ys : List ℕ) → xs ≡ f ∷ ys → xs ≡ replicate left d → Head left f d ys
head_of zero f d xs ys p q = let z : ◌≡◌ {A = ℕ} 0 1 = cc in absurd (omega arith)
head_of (suc n) f d xs ys p q = record { less = n; is = refl; same = cc; rest = cc }

pub none_left : (left d : ℕ) → [] ≡ replicate left d → left ≡ 0
none_left zero d e = refl
none_left (suc n) d e = let z : ◌≡◌ {A = ℕ} 0 1 = cc in absurd (omega arith)

count : (o : Outcome) (f : ℕ) → length (copies o f) ≡ arrivals o
count once f = refl
count lost f = refl
count twice f = refl

waiting_push : (os : List Outcome) (o : Outcome) (f : ℕ) → waiting_after os f ++ copies o f ≡ waiting_after (os ++ (o ∷ [])) f
waiting_push [] once f = refl
waiting_push [] lost f = refl
waiting_push [] twice f = refl
waiting_push (p ∷ os) o f = append_assoc (copies p f) (waiting_after os f) (copies o f) ∙ ap (λ r. copies p f ++ r) (waiting_push os o f)

costs_push : (os : List Outcome) (o : Outcome) → costs (os ++ (o ∷ [])) ≡ costs os + cost o
costs_push [] o = omega arith
costs_push (p ∷ os) o = omega (arith, costs_push os o)

far_push : (s : Bool) (i b : ℕ) (os : List Outcome) (o : Outcome) (e₀ e e₁ : Bool) (q₀ q q₁ : List Lane) → FarState s i b os e₀ q₀ e q → e₁ ≡ not s → q₁ ≡ delivered s e q i b → FarState s i b (os ++ (o ∷ [])) e₀ q₀ e₁ q₁
far_push s i b [] o e₀ e e₁ q₀ q q₁ h flips delivers = (flips, rw (h.0, h.1) at delivers)
far_push s i b (p ∷ os) o e₀ e e₁ q₀ q q₁ h flips delivers =
    (flips, delivers ∙ ap (λ x. delivered s x q i b) h.0 ∙ ap (λ x. cond x (joined q i b) q) (same_bit_not s) ∙ h.1)

places_more : (o : Outcome) (p q : ℕ) → PlacesAfter o p q → q ≤ p + 2
places_more once p q h = omega arith
places_more lost p q h = h
places_more twice p q h = h

among_waiting : (os : List Outcome) (f : ℕ) → among f (waiting_after os f) ≡ any_arrives os
among_waiting [] f = refl
among_waiting (once ∷ os) f = ap (λ x. x || among f (waiting_after os f)) (eq-eqb f f refl)
among_waiting (lost ∷ os) f = among_waiting os f
among_waiting (twice ∷ os) f = ap (λ x. x || (x || among f (waiting_after os f))) (eq-eqb f f refl)

module _ (s : Bool) (i k b : ℕ) (ls₀ : List WireLane) (t₀ p₀ : ℕ) (e₀ : Bool) (q₀ : List Lane) where
  -- every frame that the far end takes is the data frame
  pub answering_frame : (ls ls₁ : List WireLane) (t p f : ℕ) (e : Bool) (q : List Lane) (R : List Outcome → Type 0) → b < 256 → Answering s i k b ls₀ ls t₀ t p₀ p e₀ e q₀ q R → Taken (wire_lane ls i) (Some f) (wire_lane ls₁ i) → frame_of f ≡ Ok (Data s b)
  answering_frame ls ls₁ t p f e q R small h taken = ap frame_of (head_of h.left f (data_frame s b) _ (wire_lane ls₁ i).frames taken.0 h.waits).same ∙ frame_back s b small

  -- a frame taken and answered
  pub answering_more : (ls ls₁ ls₂ : List WireLane) (t t₁ t₂ p f : ℕ) (v : Bool) (y : ℕ) (e e₂ : Bool) (q q₂ : List Lane) (R R₁ R₂ : List Outcome → Type 0) → v ≡ s → y ≡ b → (k ≡ i → ⊥) → Answering s i k b ls₀ ls t₀ t p₀ p e₀ e q₀ q R → Taken (wire_lane ls i) (Some f) (wire_lane ls₁ i) → Others ls i ls₁ → t₁ ≡ t → (by : PlacedBy ls₁ t₁ k (acknowledgement v) ls₂ t₂ R₁) → ((xs : List Outcome) (o : Outcome) → R xs → R₁ (o ∷ []) → R₂ (xs ++ (o ∷ []))) → e₂ ≡ not v → q₂ ≡ delivered v e q i y → Answering s i k b ls₀ ls₂ t₀ t₂ p₀ (p + 1) e₀ e₂ q₀ q₂ R₂
  answering_more ls ls₁ ls₂ t t₁ t₂ p f v y e e₂ q q₂ R R₁ R₂ bit byte apart h taken others calm by join flips delivers =
      let placed = by.put in
      let head = head_of h.left f (data_frame s b) _ (wire_lane ls₁ i).frames taken.0 h.waits in
      let o = placed.outcome in
      let same : wire_lane ls₁ k ≡ wire_lane ls k = others k apart in
      let long = length_push h.acks o in
      let paid = costs_push h.acks o in
      let wide = places_more o _ _ placed.places in
      let before = ap (λ l. l.places) same in
      record {
        acks = h.acks ++ (o ∷ []);
        wire_ran = join h.acks o h.wire_ran by.run;
        left = head.less;
        number = omega (arith, h.number, head.is);
        waits = ap (λ l. l.frames) (placed.others i (λ e. apart (sym e))) ∙ head.rest;
        answered = placed.joins ∙ ap (λ l. l.frames ++ copies o (acknowledgement v)) same ∙ ap (λ x. (wire_lane ls k).frames ++ copies o (acknowledgement x)) bit ∙ ap (λ x. x ++ copies o (acknowledgement s)) h.answered ∙ waiting_push h.acks o (acknowledgement s);
        places = omega (arith, h.places);
        troubles = omega (arith, h.troubles, placed.spent);
        puts = omega (arith, h.puts);
        far = far_push s i b h.acks o e₀ e e₂ q₀ q q₂ h.far (flips ∙ ap not bit) (delivers ∙ ap (λ x. delivered x e q i y) bit ∙ ap (delivered s e q i) byte);
      }

  -- no frame is left, and the sender has taken the acknowledgements
  pub answering_all : (ls ls₁ : List WireLane) (t t' u p p' : ℕ) (e : Bool) (q : List Lane) (o : Outcome) (r : Bool) (R R' : List Outcome → Type 0) → ((xs : List Outcome) → R xs → R' (o ∷ xs)) → (k ≡ i → ⊥) → (wire_lane ls₀ i).frames ≡ copies o (data_frame s b) → Answering s i k b ls₀ ls t₀ t p₀ p e₀ e q₀ q R → (wire_lane ls i).frames ≡ [] → Others ls i ls₁ → r ≡ among (acknowledgement s) (wire_lane ls₁ k).frames → t' ≡ t₀ + cost o → u ≡ t → p₀ ≡ p' + 1 → Tried r t' u p' p R'
  answering_all ls ls₁ t t' u p p' e q o r R R' join apart first h none others found paid calm puts =
      let gone = none_left h.left (data_frame s b) (sym none ∙ h.waits) in
      let is : r ≡ any_arrives h.acks = found ∙ ap (λ l. among (acknowledgement s) l.frames) (others k apart) ∙ ap (among (acknowledgement s)) h.answered ∙ among_waiting h.acks (acknowledgement s) in
      let all = ap length first ∙ count o (data_frame s b) in
      record {
        outcomes = o ∷ h.acks;
        wire_ran = join h.acks h.wire_ran;
        by_attempt = attempt r o h.acks (omega (arith, h.number)) is;
        troubles = omega (arith, h.troubles);
        puts = omega (arith, h.puts);
      }
