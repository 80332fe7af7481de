use Rattle.std.proofs.Common.{Some, None, ap, ◌∙◌}
use Rattle.wire.proofs.Bytes.{by_place}
use Rattle.wire.proofs.checks.check_bytes.Goals as goal

pub returns-in-Some : goal.returns-in-Some
returns-in-Some c = ap Some c.fault.ensures ∙ by_place c.args.bytes.now (Some c.in-Some.index) c.in-Some.ensures

pub returns-in-None : goal.returns-in-None
returns-in-None c = by_place c.args.bytes.now None c.in-None.ensures
