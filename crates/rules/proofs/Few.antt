-- Few messages are sent in all.
use Rattle.std.proofs.Common.{ℕ, zero, suc, ◌*◌, ◌≤◌, Bool, true, false, List, ap, mul-le-mul, arith}
use Rattle.rules.proofs.Lot.{Good, Phase, divisors_step, quota_k}
use Rattle.rules.proofs.Machine.{Sound, counts, ended}
use Rattle.rules.proofs.Run.{good}
use Rattle.rules.specs.Laws.{divisors_to}
use Rattle.rules.specs.Rules.{Setting, State}
use Rattle.rules.specs.Runs.{messages}

divisors_most : (l : Setting) → Sound l → (j : ℕ) → j ≤ l.steps → divisors_to l j ≤ j * 16
divisors_most l ok zero i = omega arith
divisors_most l ok (suc j) i = omega (arith, divisors_most l ok j (omega arith), ok.d_high (suc j) (omega arith) i)

few_sent : (l : Setting) → Sound l → (j s n : ℕ) (b : Bool) → 1 ≤ j → j ≤ l.steps → Phase l b j s n → n ≤ l.offices * divisors_to l j
few_sent l ok j s n true low high p = omega (arith, quota_k l ok j low high, ap (λ x. l.offices * x) (divisors_step l j low))
few_sent l ok j s n false low high p = omega arith

-- few messages are sent in all
pub few_messages : (l : Setting) → Sound l → (h : List ℕ) → messages (ended l h) ≤ 16384
few_messages l ok h =
    let t : State = ended l h in
    let v : Good l t (counts l h) = good l ok h in
    let j : ℕ = t.coordinator.step in
    omega (
      arith,
      few_sent l ok j t.coordinator.signals (messages t) t.coordinator.is_open v.low v.high v.phase,
      divisors_most l ok j v.high,
      v.high,
      ok.e_high,
      mul-le-mul {n₁ = l.offices} {m₁ = divisors_to l j} {n₂ = 64} {m₂ = 256} ok.k_high (omega (arith, divisors_most l ok j v.high, v.high, ok.e_high)),
    )
