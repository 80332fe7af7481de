-- How a post over a wire goes on from call to call: lemmas that its impl cites, proved and nothing to believe.
use Rattle.std.specs.Prelude.{◌≡◌, ℕ, ◌+◌, List, [], ◌++◌}
use Rattle.std.proofs.Common.{ap, ◌∙◌, arith, length-append}
use Rattle.wire.specs.Wires.{Outcome}
use Rattle.bit_post.specs.Became.{Counts, Became, FramesWithin}
use Rattle.bit_post.specs.Sending.{Sent}
use Rattle.bit_post.specs.Sends.{none}
use Rattle.bit_post.specs.Running.{costs_append, sends_append, sends_between, one_send}

-- a call that sends nothing
pub became_same : (a b : Counts) (ran : List Outcome → Type 0) → ran [] → b ≡ a → Became a b ran
became_same a b ran rests e = record {
  sends = 0;
  outcomes = [];
  wire_ran = rests;
  by_attempts = none;
  frames = omega (arith, ap (λ c. c.frames) e);
  troubles = omega (arith, ap (λ c. c.troubles) e);
  first = ap (λ c. c.troubles_first) e;
  sent = omega (arith, ap (λ c. c.sent) e);
}

-- one send
pub became_sent : (a b : Counts) (p : ℕ) (ran : List Outcome → Type 0) → Sent a.troubles b.troubles p ran → b.frames ≡ a.frames + p → b.troubles_first ≡ a.troubles_first → b.sent ≡ a.sent + 1 → Became a b ran
became_sent a b p ran s put first one = record {
  sends = 1;
  outcomes = s.outcomes;
  wire_ran = s.wire_ran;
  by_attempts = one_send s.outcomes s.by_attempts;
  frames = omega (arith, s.puts);
  troubles = s.troubles;
  first = first;
  sent = one;
}

pub became_joins : (a b c : Counts) (R S U : List Outcome → Type 0) → ((xs ys : List Outcome) → R xs → S ys → U (xs ++ ys)) → Became a b R → Became b c S → Became a c U
became_joins a b c R S U join p q =
    let long = length-append p.outcomes q.outcomes in
    let paid = costs_append p.outcomes q.outcomes in
    record {
      sends = p.sends + q.sends;
      outcomes = p.outcomes ++ q.outcomes;
      wire_ran = join p.outcomes q.outcomes p.wire_ran q.wire_ran;
      by_attempts = sends_append p.by_attempts q.sends q.outcomes q.by_attempts;
      frames = omega (arith, p.frames, q.frames);
      troubles = omega (arith, p.troubles, q.troubles);
      first = q.first ∙ p.first;
      sent = omega (arith, p.sent, q.sent);
    }

-- the frames put lie within their bounds
pub became_within : (a b : Counts) (ran : List Outcome → Type 0) → Became a b ran → FramesWithin a b
became_within a b ran p =
    let h = sends_between p.by_attempts in
    record {
      least = omega (arith, h.least, p.frames, p.sent);
      most = omega (arith, h.most, p.frames, p.sent, p.troubles);
    }
