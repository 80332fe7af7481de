use Rattle.std.proofs.Common.{◌≡◌, ◌<◌, length, vec_items, vec_len, Global, cond, ap, ◌∙◌, sym, subst, rules, arith}
use Rattle.std.proofs.lemmas.Result.{err_from_is_err_and}
use Rattle.reader.specs.Lists.{further}
use Rattle.reader.specs.Readers.{text_of, Moves}
use Rattle.reader.specs.Words.{comma}
use Rattle.reader.proofs.Same.{same_trans}
use Rattle.reader.proofs.Numbers.{stop_err, stop_done, stop_full, go_on, limit_full, limit_left}
use Rattle.reader.proofs.Reader.numbers.Goals as goal

pub returns-in_err-number-clause-value : goal.returns-in_err-number-clause-value
returns-in_err-number-clause-value g c = λ test computes.
    let p = err_from_is_err_and c.from_residual.result c.from_residual.ensures.1 in
    rw (p.1, p.2) (stop_err (c.loop-numbers.invariant.1 test computes) (vec_items {Z = Global}) (c.in_err-number.ensures.value (test (vec_items c.loop-numbers.numbers)) (λ n b fits told. search rules)))

pub returns-then-not-stands-clause-value : goal.returns-then-not-stands-clause-value
returns-then-not-stands-clause-value g c = λ test computes.
    stop_done (c.loop-numbers.invariant.1 test computes) (c.in_ok-number.ensures.value (test (vec_items c.loop-numbers.numbers)) (λ n b fits told. search rules)) (vec_items {Z = Global}) {all = c.push.new.self}
    c.if-not-stands.ensures.value c.in_ok-push.ensures.items

pub returns-then-is_some_and-clause-value : goal.returns-then-is_some_and-clause-value
returns-then-is_some_and-clause-value g c = λ test computes.
    let last : vec_len c.loop-numbers.numbers ≡ further c.args.most (text_of c.args.self.now) = limit_full c.args.most _ c.is_some_and.result (vec_len c.push.new.self) (search rules) c.if-is_some_and.true c.in_ok-push.ensures.len c.loop-numbers.invariant.2 in
    rw c.into.ensures (stop_full (c.loop-numbers.invariant.1 test computes) (c.in_ok-number.ensures.value (test (vec_items c.loop-numbers.numbers)) (λ n b fits told. search rules)) (vec_items {Z = Global}) last c.if-not-stands.ensures.value c.fault.ensures.value)

pub loop-numbers-preserved : goal.loop-numbers-preserved
loop-numbers-preserved g c =
    let past : Moves 1 c.number_if.new.self c.skip.new.self = subst (λ b. Moves (cond b (length comma) 0) c.number_if.new.self c.skip.new.self) (c.skip.ensures.value ∙ sym c.if-not-stands.ensures.value) c.skip.ensures.moves in
    let same = same_trans c.loop-numbers.invariant.0 c.in_ok-number.ensures.same in
    let long : length (text_of c.skip.new.self) ≡ length (text_of c.args.self.now) = ap (λ t. length t.now) (same_trans same past.same).text in
    let room : vec_len c.loop-numbers.numbers < further c.args.most (text_of c.args.self.now) =
    limit_left c.args.most _ c.is_some_and.result (vec_len c.push.new.self) (search rules) c.if-is_some_and.false c.in_ok-push.ensures.len (omega (arith, long, c.in_ok-number.ensures.forward, past.place, c.loop-numbers.invariant.3, c.skip.new.self.within)) in (
      same_trans same past.same,
      λ test computes. go_on (c.loop-numbers.invariant.1 test computes) (c.in_ok-number.ensures.value (test (vec_items c.loop-numbers.numbers)) (λ n b fits told. search rules)) room c.if-not-stands.ensures.value past c.in_ok-push.ensures.items c.in_ok-push.ensures.len,
      omega (arith, room, c.in_ok-push.ensures.len),
      omega (arith, c.in_ok-number.ensures.forward, past.place, c.in_ok-push.ensures.len, c.loop-numbers.invariant.3),
    )
