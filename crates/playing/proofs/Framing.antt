-- From how a post over a wire went on to the frames of its messages. Assumes nothing.
use Rattle.std.proofs.Common.{◌≡◌, ℕ, zero, suc, ◌*◌, ◌≤◌, List, length, replicate, refl, ap, ◌∙◌, subst, arith}
use Rattle.std.proofs.lemmas.List.Sums.{sum_by-cons}
use Rattle.post.specs.Lanes.{Lane, no_lane, all_sent}
use Rattle.wire.specs.Wires.{Outcome}
use Rattle.bit_post.specs.Sends.{Sends, none, more}
use Rattle.bit_post.specs.Became.{Counts, Became}
use Rattle.bit_post.specs.Running.{sends_between}
use Rattle.playing.specs.Frames.{FramesByAttempts, Fresh}

none_sent : (n : ℕ) → all_sent (replicate n no_lane) ≡ 0
none_sent zero = refl
none_sent (suc n) = omega (arith, sum_by-cons (λ (l : Lane). l.sent) no_lane (replicate n no_lane), none_sent n)

pub new_sent : (n : ℕ) (ls : List Lane) → ls ≡ replicate n no_lane → all_sent ls ≡ 0
new_sent n ls e = ap all_sent e ∙ none_sent n

pub frames_since : (a b : Counts) (R S : List Outcome → Type 0) → ((xs : List Outcome) → R xs → S xs) → Fresh a → Became a b R → FramesByAttempts b.sent b.frames a.troubles b.troubles S
frames_since a b R S then fresh c =
    let h = sends_between c.by_attempts in
    let n : c.sends ≡ b.sent = omega (arith, c.sent, fresh.sent) in
    record {
      outcomes = c.outcomes;
      did = then c.outcomes c.wire_ran;
      attempts = subst (λ n. Sends n c.outcomes) n c.by_attempts;
      count = omega (arith, c.frames, fresh.frames);
      spent = c.troubles;
      least = omega (arith, h.least, c.frames, fresh.frames);
      most = omega (arith, h.most, c.frames, c.troubles, fresh.frames);
    }

no_puts : {n : ℕ} {xs : List Outcome} → Sends n xs → n ≡ 0 → length xs ≡ 0
no_puts none e = refl
no_puts (more n xs ys s r) e = absurd (omega (arith, e))

-- a wire has at most 65,535 troubles
pub frames_few : (messages : ℕ) {frames had left : ℕ} {did : List Outcome → Type 0} → FramesByAttempts messages frames had left did → had ≤ 65535 → frames ≤ 131072 * messages
frames_few zero f few = omega (arith, f.count, no_puts f.attempts refl)
frames_few (suc n) f few = omega (arith, f.most)
