use Rattle.std.proofs.Common.{sym, ◌∙◌}
use Rattle.std.proofs.lemmas.Bool.{false≢true}
use Rattle.window.proofs.Equal.{equal_books, heads_of, figures_of}
use Rattle.window.proofs.comparing.equal_books.Goals as goal

pub returns-else-same_heads : goal.returns-else-same_heads
returns-else-same_heads g c =
    let heads = heads_of c.args.first.now.checked c.args.second.now.checked (g.P.Post.lanes c.args.first.now.post) (g.Q.Post.lanes c.args.second.now.post) in
    ((λ e. absurd (false≢true (sym c.if-same_heads.false ∙ e))), (λ e. c.same_heads.ensures.1 (heads e)))

pub returns-then-same_heads : goal.returns-then-same_heads
returns-then-same_heads g c =
    let d = c.args.first.now.checked in
    let d' = c.args.second.now.checked in
    let ls = g.P.Post.lanes c.args.first.now.post in
    let ls' = g.Q.Post.lanes c.args.second.now.post in (
      (λ yes. equal_books d d' ls ls' _ _ c.records.ensures c.records-then-same_heads.ensures (c.same_heads.ensures.0 c.if-same_heads.true) (c.same_figures.ensures.0 yes)),
      (λ e. c.same_figures.ensures.1 (figures_of d d' ls ls' _ _ c.records.ensures c.records-then-same_heads.ensures e)),
    )
