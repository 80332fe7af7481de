use Rattle.std.proofs.Common.{◌+◌, ◌++◌, decimal, vec_items, ap, ◌∙◌, arith}
use Rattle.std.proofs.lemmas.List.{take_all}
use Rattle.reader.specs.Lists.{commas}
use Rattle.writer.proofs.Joined.{put_first, after_first, put_more}
use Rattle.writer.proofs.appending.push_numbers.Goals as goal

pub loop-other-init : goal.loop-other-init
loop-other-init c =
    put_first c.in-Some.first.now c.in-Some.others.now (vec_items c.args.out.now) c.in-Some.ensures.cases.0 c.in_ok-push_number.ensures

pub loop-other-preserved : goal.loop-other-preserved
loop-other-preserved c =
    let i = c.loop-other.other-index in
    let split = c.in-Some.ensures.cases in
    let same = after_first c.in-Some.first.now c.in-Some.others.now i split.0 in
    put_more c.args.numbers.now (i + 1) (vec_items c.args.out.now) (omega (arith, split.1, c.loop-other-test.true)) (omega arith) c.loop-other.invariant c.in_ok-extend_from_slice.ensures.items
    (c.in_ok-push_number-2.ensures ∙ ap (λ n. c.extend_from_slice.new.self.items ++ decimal n) same)

pub returns : goal.returns
returns c =
    let whole = take_all (c.loop-other.other-index + 1) c.args.numbers.now (omega (arith, c.in-Some.ensures.cases.1, c.loop-other-test.false)) in
    c.loop-other.invariant ∙ ap (λ l. vec_items c.args.out.now ++ commas l) whole
