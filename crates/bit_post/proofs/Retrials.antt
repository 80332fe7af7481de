-- One send, attempt by attempt.
use Rattle.std.proofs.Common.{◌≡◌, ℕ, ◌≤◌, Bool, true, false, cond, not, List, ◌++◌, refl, ap, ◌∙◌, subst, inl, inr, arith, length-append}
use Rattle.post.specs.Lanes.{Lane, joined}
use Rattle.wire.specs.Wires.{WireLane, Outcome, wire_lane, no_frames}
use Rattle.bit_post.specs.Sends.{Attempt, done}
use Rattle.bit_post.specs.Sending.{same_bit, delivered, fail, Tried, FarAfter, Delivery, Retrying, Sent}
use Rattle.bit_post.proofs.Attempting.{same_bit_not}
use Rattle.bit_post.specs.Running.{costs_append, send_between, finish}

same_bit_self : (s : Bool) → same_bit s s ≡ true
same_bit_self true = refl
same_bit_self false = refl

module _ (s : Bool) (i k b : ℕ) (q₀ : List Lane) where
  -- the byte has come at least once: it has joined once
  arrived : (e e' : Bool) (q q' : List Lane) → Delivery s i b q₀ e q → (e' ≡ not s) × (q' ≡ delivered s e q i b) → (e' ≡ not s) × (q' ≡ joined q₀ i b)
  arrived e e' q q' (inl h) f =
      (f.0, f.1 ∙ ap (λ x. delivered s x q i b) h.0 ∙ ap (λ x. cond x (joined q i b) q) (same_bit_self s) ∙ ap (λ x. joined x i b) h.1)
  arrived e e' q q' (inr h) f =
      (f.0, f.1 ∙ ap (λ x. delivered s x q i b) h.0 ∙ ap (λ x. cond x (joined q i b) q) (same_bit_not s) ∙ h.1)

  delivery_more : (r : Bool) (e e' : Bool) (q q' : List Lane) → Delivery s i b q₀ e q → FarAfter r s i b e q e' q' → Delivery s i b q₀ e' q'
  delivery_more r e e' q q' d (inl f) = inr (arrived e e' q q' d f)
  delivery_more r e e' q q' (inl h) (inr f) = inl (f.1 ∙ h.0, f.2 ∙ h.1)
  delivery_more r e e' q q' (inr h) (inr f) = inr (f.1 ∙ h.0, f.2 ∙ h.1)

  -- one more attempt has failed
  pub retry_more : (ls ls' : List WireLane) (t₀ t u p p' : ℕ) (r : Bool) (e e' : Bool) (q q' : List Lane) (R R₁ R₂ : List Outcome → Type 0) → ((xs ys : List Outcome) → R xs → R₁ ys → R₂ (xs ++ ys)) → r ≡ false → Retrying s i k b ls t₀ t p q₀ e q R → Tried r t u p p' R₁ → FarAfter r s i b e q e' q' → wire_lane ls' i ≡ no_frames → wire_lane ls' k ≡ no_frames → Retrying s i k b ls' t₀ u p' q₀ e' q' R₂
  retry_more ls ls' t₀ t u p p' r e e' q q' R R₁ R₂ join is h tried far clear clean =
      let paid = costs_append h.outcomes tried.outcomes in
      let long = length-append h.outcomes tried.outcomes in
      record {
        there_empty = clear;
        back_empty = clean;
        outcomes = h.outcomes ++ tried.outcomes;
        wire_ran = join h.outcomes tried.outcomes h.wire_ran tried.wire_ran;
        failing = fail h.outcomes tried.outcomes h.failing (subst (λ x. Attempt x tried.outcomes) is tried.by_attempt);
        troubles = omega (arith, h.troubles, tried.troubles);
        puts = omega (arith, h.puts, tried.puts);
        delivery = delivery_more r e e' q q' h.delivery far;
      }

  -- the attempt that is acknowledged
  pub retry_done : (ls : List WireLane) (t' t₀ t u p p' : ℕ) (r : Bool) (e : Bool) (q : List Lane) (R R₁ R₂ : List Outcome → Type 0) → ((xs ys : List Outcome) → R xs → R₁ ys → R₂ (xs ++ ys)) → r ≡ true → t₀ ≡ t' → Retrying s i k b ls t₀ t p q₀ e q R → Tried r t u p p' R₁ → Sent t' u p' R₂
  retry_done ls t' t₀ t u p p' r e q R R₁ R₂ join is even h tried =
      let paid = costs_append h.outcomes tried.outcomes in
      let long = length-append h.outcomes tried.outcomes in
      record {
        outcomes = h.outcomes ++ tried.outcomes;
        wire_ran = join h.outcomes tried.outcomes h.wire_ran tried.wire_ran;
        by_attempts = finish h.failing tried.outcomes (done tried.outcomes (subst (λ x. Attempt x tried.outcomes) is tried.by_attempt));
        troubles = omega (arith, h.troubles, tried.troubles);
        puts = omega (arith, h.puts, tried.puts);
      }

pub sent_few : (t u p : ℕ) (R : List Outcome → Type 0) → Sent t u p R → t ≤ 65535 → p ≤ 131072
sent_few t u p R s bound = omega (arith, (send_between s.by_attempts).most, s.troubles, s.puts)
