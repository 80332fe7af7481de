use Rattle.std.proofs.Common.{rules}
use Rattle.fault.specs.declared.Refusal.TheVariants.{OutOfRange}
use Rattle.reader.specs.Readings.{number_in}
use Rattle.reader.proofs.Lines.{line_answers}
use Rattle.reader.proofs.Reader.number_line.Goals as goal

pub returns : goal.returns
returns c = line_answers (λ x. x) (number_in c.args.low c.args.high OutOfRange) c.line.ensures (λ start mid r b. let m = b.met in search rules)
