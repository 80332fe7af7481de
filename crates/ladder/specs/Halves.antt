-- A grain doubled step by step makes a lawful ladder: lemmas that an impl cites, proved and nothing to believe.
use Rattle.std.specs.Prelude.{◌≡◌, ℕ, suc, ◌+◌, ◌-◌, ◌*◌, ◌%◌, ◌^◌, ◌<◌, ◌≤◌, Ok, nat_le}
use Rattle.std.proofs.Common.{ap, sym, ◌∙◌, mul_left_comm, mul-le-mul_left, mod-eq_of_lt, arith, pow_mono}
use Rattle.std.proofs.Math.Nat.{pow-succ'}
use Rattle.std.proofs.lemmas.Bool.{cond-true, le-leb}
use Rattle.ladder.specs.Laws.{LadderLaw, slack_answer}
use Rattle.ladder.specs.Slacks.{halving_slack}

doubles : (g e j : ℕ) → j < e → halving_slack g e j ≡ 2 * halving_slack g e (j + 1)
doubles g e j lt =
    let next : e - j ≡ suc (e - (j + 1)) = omega arith in
    ap (λ n. g * 2 ^ n) next ∙ ap (λ n. g * n) (pow-succ' 2 (e - (j + 1))) ∙ mul_left_comm g 2 (2 ^ (e - (j + 1)))

below_top : (g e j : ℕ) → halving_slack g e j ≤ g * 2 ^ e
below_top g e j = let le : e - j ≤ e = omega arith in mul-le-mul_left g (pow_mono le)

pub halving_law : (g e : ℕ) → 1 ≤ e → e ≤ 16 → 1 ≤ g → g * 2 ^ e ≤ 16777216 → LadderLaw e (halving_slack g e)
halving_law g e some few least top =
    record {
      some = some;
      few = few;
      grain = let none : e - e ≡ 0 = omega arith in rw none (omega arith);
      top = let all : e - 0 ≡ e = omega arith in rw all top;
      tied = λ j lt. record { divisor = 2; least = omega arith; most = omega arith; times = doubles g e j lt };
    }

-- the shift loses nothing
shifted : (g e j : ℕ) → g * 2 ^ e ≤ 16777216 → (g * 2 ^ (e - j)) % 4294967296 ≡ halving_slack g e j
shifted g e j top = let small : g * 2 ^ (e - j) < 4294967296 = omega (arith, below_top g e j) in mod-eq_of_lt small

pub answered : (g e j : ℕ) → g * 2 ^ e ≤ 16777216 → j ≤ e → Ok ((g * 2 ^ (e - j)) % 4294967296) ≡ slack_answer e (halving_slack g e) j
answered g e j top here = ap Ok (shifted g e j top) ∙ sym (cond-true (nat_le j e) _ _ (le-leb j e here))
