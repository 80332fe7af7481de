use Rattle.std.proofs.Common.{rules, ℕ, List, [], refl, ◌∙◌}
use Rattle.wire.specs.Wires.{Outcome, WireLane}
use Rattle.bit_post.specs.Taking.{OnlyTakes}
use Rattle.bit_post.proofs.exchange.drain.Goals as goal

-- calls that only take, one after another
only_more : {W : Type 0} (offices troubles : W → ℕ) (lanes : W → List WireLane) (ran : W → W → List Outcome → Type 0) (i : ℕ) (w v u : W) → OnlyTakes offices troubles lanes ran i w v → OnlyTakes offices troubles lanes ran i v u → (ran w v [] → ran v u [] → ran w u []) → OnlyTakes offices troubles lanes ran i w u
only_more offices troubles lanes ran i w v u a b joins = record { same = b.same ∙ a.same; calm = b.calm ∙ a.calm; rest = joins a.rest b.rest; others = λ j e. b.others j e ∙ a.others j e }

pub loop-taken-init : goal.loop-taken-init
loop-taken-init g c = (record { same = refl; calm = refl; rest = g.met.W.Wire.rests _; others = λ j e. refl }, refl)

pub loop-taken-preserved : goal.loop-taken-preserved
loop-taken-preserved g c = (only_more _ _ _ _ _ _ _ _ c.loop-taken.invariant.0 c.in-Some.ensures.only (g.met.W.Wire.goes _ _ _ [] []), search rules)

pub returns-clause-only : goal.returns-clause-only
returns-clause-only g c = only_more _ _ _ _ _ _ _ _ c.loop-taken.invariant.0 c.in_default.ensures.only (g.met.W.Wire.goes _ _ _ [] [])
