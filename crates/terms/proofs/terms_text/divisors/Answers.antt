use Rattle.std.proofs.Common.{◌≡◌, ℕ, ◌*◌, ◌<◌, cond, List, [], ◌∷◌, ◌++◌, length, vec_items, vec_len, Global, Result, sym, ap, ◌∙◌, subst, mul_assoc, arith}
use Rattle.std.proofs.lemmas.Result.{err_from_is_err_and}
use Rattle.fault.specs.declared.Refusal.TheVariants.{OutOfRange}
use Rattle.fault.specs.declared.Fault.{Fault}
use Rattle.reader.specs.declared.Reader.{Reader}
use Rattle.ladder.specs.Makers.{divisor_fits}
use Rattle.ladder.specs.Slacks.{product}
use Rattle.reader.specs.Readings.{number_if}
use Rattle.reader.specs.Readers.{Answers, Moves}
use Rattle.reader.specs.Words.{comma}
use Rattle.reader.proofs.Numbers.{stop_err, stop_done, stop_full, go_on}
use Rattle.terms.proofs.Products.{product_push}
use Rattle.terms.proofs.terms_text.divisors.Goals as goal

-- the divisor is read over the whole that the loop keeps: the grain and the divisors before it
module _ (g : ℕ) {w : ℕ} (held : List ℕ) (is : w ≡ g * product held) where
  over : {here next : Reader} {r : Result ℕ Fault} → Answers (number_if (divisor_fits w) OutOfRange) here r next → Answers (number_if (divisor_fits (g * product held)) OutOfRange) here r next
  over {here} {next} {r} e = subst (λ n. Answers (number_if (divisor_fits n) OutOfRange) here r next) is e

  whole_more : {all : List ℕ} (d : ℕ) → all ≡ held ++ d ∷ [] → w * d ≡ g * product all
  whole_more d e = ap (λ n. n * d) is ∙ mul_assoc g (product held) d ∙ ap (λ n. g * n) (sym (product_push held d)) ∙ ap (λ ds. g * product ds) (sym e)

pub returns-in_err-next : goal.returns-in_err-next
returns-in_err-next c =
    let p = err_from_is_err_and c.from_residual.result c.from_residual.ensures.1 in
    let inv = c.loop-divisors.invariant in
    rw (p.1, p.2) (stop_err inv.0 (vec_items {Z = Global}) (over c.args.grain (vec_items c.loop-divisors.divisors) inv.2 c.in_err-next.ensures.value))

pub returns-then-not-stands : goal.returns-then-not-stands
returns-then-not-stands c =
    let inv = c.loop-divisors.invariant in
    stop_done inv.0 (over c.args.grain (vec_items c.loop-divisors.divisors) inv.2 c.in_ok-next.ensures.value) (vec_items {Z = Global}) {all = c.push.new.self} c.if-not-stands.ensures.value c.in_ok-push.ensures.items

pub returns-then-len-ge-MOST_STEPS : goal.returns-then-len-ge-MOST_STEPS
returns-then-len-ge-MOST_STEPS c =
    let inv = c.loop-divisors.invariant in
    let last : vec_len c.loop-divisors.divisors ≡ 15 = omega (arith, inv.1, c.len.ensures, c.if-len-ge-MOST_STEPS.true, c.in_ok-push.ensures.len) in
    rw c.into.ensures (stop_full inv.0 (over c.args.grain (vec_items c.loop-divisors.divisors) inv.2 c.in_ok-next.ensures.value) (vec_items {Z = Global}) last c.if-not-stands.ensures.value c.fault.ensures.value)

pub loop-divisors-preserved : goal.loop-divisors-preserved
loop-divisors-preserved c =
    let inv = c.loop-divisors.invariant in
    let few : vec_len c.loop-divisors.divisors < 15 = omega (arith, inv.1, c.len.ensures, c.if-len-ge-MOST_STEPS.false, c.in_ok-push.ensures.len) in
    let past : Moves 1 c.divisor.new.reader c.skip.new.self = subst (λ b. Moves (cond b (length comma) 0) c.divisor.new.reader c.skip.new.self) (c.skip.ensures.value ∙ sym c.if-not-stands.ensures.value) c.skip.ensures.moves in (
      go_on inv.0 (over c.args.grain (vec_items c.loop-divisors.divisors) inv.2 c.in_ok-next.ensures.value) few c.if-not-stands.ensures.value past c.in_ok-push.ensures.items c.in_ok-push.ensures.len,
      omega (arith, few, c.in_ok-push.ensures.len),
      whole_more c.args.grain (vec_items c.loop-divisors.divisors) inv.2 _ c.in_ok-push.ensures.items,
    )
