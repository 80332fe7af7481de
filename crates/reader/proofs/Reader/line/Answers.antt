use Rattle.std.proofs.Common.{refl}
use Rattle.std.proofs.lemmas.Result.{err_from_is_err_and}
use Rattle.reader.specs.Lines.{no_key, stopped, no_end, read}
use Rattle.reader.proofs.Reader.line.Goals as goal

pub returns-in_err-expect : goal.returns-in_err-expect
returns-in_err-expect g c =
    let p = err_from_is_err_and c.from_residual.result c.from_residual.ensures.1 in
    rw p.1 (no_key c.in_err-expect.ensures p.2)

pub returns-in_err-value : goal.returns-in_err-value
returns-in_err-value g c =
    let p = err_from_is_err_and c.from_residual-in_err-value.result c.from_residual-in_err-value.ensures.1 in
    rw (p.1, p.2) (stopped c.in_ok-expect.ensures (record { shown = _; shows = refl; left = _; met = c.in_err-value.ensures; leaves = refl }))

pub returns-in_err-end_line : goal.returns-in_err-end_line
returns-in_err-end_line g c =
    let p = err_from_is_err_and c.from_residual-in_err-end_line.result c.from_residual-in_err-end_line.ensures.1 in
    rw p.1 (no_end c.in_ok-expect.ensures (record { shown = _; shows = refl; left = _; met = c.in_ok-value.ensures; leaves = refl }) c.in_err-end_line.ensures p.2)

pub returns : goal.returns
returns g c = read c.in_ok-expect.ensures (record { shown = _; shows = refl; left = _; met = c.in_ok-value.ensures; leaves = refl }) c.in_ok-end_line.ensures
