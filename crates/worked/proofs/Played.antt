-- The worked days and sends, computed. Assumes nothing.
use Rattle.std.proofs.Common.{◌≡◌, ℕ, zero, suc, ◌+◌, ◌*◌, ◌^◌, ◌<◌, ◌≤◌, true, false, List, [], ◌∷◌, refl, subst, arith, lit≤}
use Rattle.ladder.specs.Laws.{Tied}
use Rattle.ladder.specs.Slacks.{listed_slack}
use Rattle.ladder.specs.Halves.{halving_law}
use Rattle.rules.specs.Rules.{Setting, divisor, opened}
use Rattle.rules.specs.Runs.{Answer, Runs, Books, books}
use Rattle.rules.specs.Laws.{SettingLaw}
use Rattle.rules.proofs.Machine.{answers, ended}
use Rattle.rules.proofs.Settle.{runs_opened}
use Rattle.rules.proofs.Laws.{sound}
use Rattle.wire.specs.Wires.{once, lost, twice}
use Rattle.bit_post.specs.Sends.{attempt, done, again}
use Rattle.worked.specs.Days.{halving, listed, ComesTo}
use Rattle.worked.specs.Worked.{WorkedDaysAndSends}

-- what the rules compute for a list of lots
comes : (l : Setting) → SettingLaw l → (lots : List ℕ) (rs : List Answer) (b : Books) → answers l (opened l) lots ≡ rs → books (ended l lots) ≡ b → ComesTo l lots rs b
comes l law lots rs b e f = record { after = ended l lots; runs = subst (λ rs. Runs l (opened l) lots rs (ended l lots)) e (runs_opened l (sound l law) lots); leaves = f }

halved : (k g e : ℕ) → 1 ≤ k → k ≤ 64 → 1 ≤ e → e ≤ 16 → 1 ≤ g → g * 2 ^ e ≤ 16777216 → SettingLaw (halving k g e)
halved k g e some few least most grain top = record { some = some; few = few; ladder = halving_law g e least most grain top }

two_divisors : (a b : ℕ) → 2 ≤ a → a ≤ 16 → 2 ≤ b → b ≤ 16 → listed_slack 1 (a ∷ b ∷ []) 0 ≤ 16777216 → SettingLaw (listed 2 1 (a ∷ b ∷ []))
two_divisors a b a_least a_most b_least b_most top = record {
  some = lit≤ tt;
  few = lit≤ tt;
  ladder = record {
    some = lit≤ tt;
    few = lit≤ tt;
    grain = lit≤ tt;
    top = top;
    tied = ties;
  };
}
  where
    ties : (j : ℕ) → j < 2 → Tied (listed_slack 1 (a ∷ b ∷ []) j) (listed_slack 1 (a ∷ b ∷ []) (j + 1))
    ties zero less = record { divisor = a; least = a_least; most = a_most; times = omega arith }
    ties (suc zero) less = record { divisor = b; least = b_least; most = b_most; times = omega arith }
    ties (suc (suc j)) less = absurd (omega arith)

three_two : SettingLaw (listed 2 1 (3 ∷ 2 ∷ []))
three_two = two_divisors 3 2 (lit≤ tt) (lit≤ tt) (lit≤ tt) (lit≤ tt) (lit≤ tt)

two_four : SettingLaw (listed 2 1 (2 ∷ 4 ∷ []))
two_four = two_divisors 2 4 (lit≤ tt) (lit≤ tt) (lit≤ tt) (lit≤ tt) (lit≤ tt)

h₁ : SettingLaw (halving 1 1 1)
h₁ = halved 1 1 1 (lit≤ tt) (lit≤ tt) (lit≤ tt) (lit≤ tt) (lit≤ tt) (lit≤ tt)

h₂ : SettingLaw (halving 2 2 2)
h₂ = halved 2 2 2 (lit≤ tt) (lit≤ tt) (lit≤ tt) (lit≤ tt) (lit≤ tt) (lit≤ tt)

h₃ : SettingLaw (halving 2 1 3)
h₃ = halved 2 1 3 (lit≤ tt) (lit≤ tt) (lit≤ tt) (lit≤ tt) (lit≤ tt) (lit≤ tt)

pub worked : WorkedDaysAndSends
unfolding divisor
worked = record {
  one_office = comes _ h₁ _ _ _ refl refl;
  not_yet = comes _ h₂ _ _ _ refl refl;
  thirteenth = comes _ h₂ _ _ _ refl refl;
  other_order = comes _ h₂ _ _ _ refl refl;
  three_slacks = comes _ h₃ _ _ _ refl refl;
  nine = comes _ three_two _ _ _ refl refl;
  tenth = comes _ three_two _ _ _ refl refl;
  three_signals = comes _ two_four _ _ _ refl refl;
  lost_then_twice = record {
    outcomes = lost ∷ twice ∷ once ∷ once ∷ [];
    marked = refl;
    send = again (lost ∷ []) (twice ∷ once ∷ once ∷ []) (attempt false lost [] refl refl) (done (twice ∷ once ∷ once ∷ []) (attempt true twice (once ∷ once ∷ []) refl refl));
    puts = refl;
    once = refl;
  };
  acknowledgement_lost = record {
    outcomes = once ∷ lost ∷ once ∷ once ∷ [];
    marked = refl;
    send = again (once ∷ lost ∷ []) (once ∷ once ∷ []) (attempt false once (lost ∷ []) refl refl) (done (once ∷ once ∷ []) (attempt true once (once ∷ []) refl refl));
    puts = refl;
    once = refl;
  };
  first_send = record { outcomes = once ∷ once ∷ []; marked = refl; send = done (once ∷ once ∷ []) (attempt true once (once ∷ []) refl refl); puts = refl; once = refl };
  second_send = record { outcomes = once ∷ once ∷ []; marked = refl; send = done (once ∷ once ∷ []) (attempt true once (once ∷ []) refl refl); puts = refl; once = refl };
}
