use Rattle.std.proofs.Common.{◌≡◌, ℕ, ◌≤◌, get_or, sym, subst, arith, rules}
use borrow.Author.Tests.{tests}
use Rattle.ladder.specs.Laws.{LadderLaw}
use Rattle.window.proofs.Opens.{each_given, read_laws}
use Rattle.window.proofs.opening.read_setting.Given.{Over}
use Rattle.window.proofs.opening.read_setting.Goals as goal

read : (g : Over) (c : goal.After-from_fn g) → (j : ℕ) → j ≤ g.L.Ladder.steps c.args.ladder.now → get_or c.from_fn.result j 0 ≡ g.L.Ladder.slack c.args.ladder.now j
read g c j le =
    let few : g.L.Ladder.steps c.args.ladder.now ≤ 16 = (g.met.L.Ladder.sound c.args.ladder.now).few in
    each_given _ _ (λ j s. j ≤ g.L.Ladder.steps c.args.ladder.now → s ≡ g.L.Ladder.slack c.args.ladder.now j) (λ i y q k. (search (rules, tests), λ le. search (rules, tests))) c.from_fn.result 0 17 0 j c.from_fn.ensures.items.each (omega arith) (omega arith) le

pub invariant_of-result : goal.invariant_of-result
invariant_of-result g c =
    let slack = g.L.Ladder.slack c.args.ladder.now in
    let e = c.step_count.ensures in
    let law : LadderLaw c.step_count.result slack = subst (λ n. LadderLaw n slack) (sym e) (g.met.L.Ladder.sound c.args.ladder.now) in
    let post = g.met.P.Post.sound c.args.post.now in
    let r = read_laws _ _ law c.from_fn.result (λ j le. read g c j (omega (arith, e))) in
    record {
      some = omega (arith, c.office_count.ensures, post.some);
      few = omega (arith, c.office_count.ensures, post.few);
      least = law.some;
      most = law.few;
      top = r.top;
      grain = r.grain;
      rung = r.rung;
      low = r.low;
      high = r.high;
    }

pub returns-clause-slacks : goal.returns-clause-slacks
returns-clause-slacks g c = λ j le. read g c.before j (omega (arith, c.step_count.ensures))
