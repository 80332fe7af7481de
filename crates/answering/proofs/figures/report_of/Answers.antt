use Rattle.std.proofs.Common.{◌≡◌, ◌-◌, slice_index, vec_items, sym, ◌∙◌, arith, rules}
use Rattle.window.specs.Windows.{asked, books_of}
use Rattle.answering.proofs.Gathered.{answered, column_long}
use Rattle.answering.proofs.figures.report_of.Goals as goal

pub returns : goal.returns
returns g c =
    let w = c.args.played.now.window in
    let b = w.checked.books in
    let books = books_of g.P.Post.lanes w in
    let offices = c.office_count-offices.ensures in
    let credits : vec_items c.in_ok-credits.credits ≡ books.credits =
    c.in_ok-credits.ensures books.credits (column_long w.checked (λ o. o.credit) ∙ sym offices)
    (λ office r some le p. let said : r ≡ asked office b (slice_index books.credits (office - 1)) = search rules in said ∙ answered b books.credits office some (omega arith)) in
    let remainders : vec_items c.in_ok-remainders.remainders ≡ books.remainders =
    c.in_ok-remainders.ensures books.remainders (column_long w.checked (λ o. o.remainder) ∙ sym offices)
    (λ office r some le p. let said : r ≡ asked office b (slice_index books.remainders (office - 1)) = search rules in said ∙ answered b books.remainders office some (omega arith)) in
    cc
