use Rattle.std.proofs.Common.{◌≡◌, drop}
use Rattle.bit_post.specs.Lists.{send_list}
use Rattle.bit_post.proofs.exchange.posting.send_each.Given as goal

abbrev pub invariant-loop-byte : goal.invariant-loop-byte
invariant-loop-byte g l =
    g.P.Post.became l.initial.post l.post
    × (send_list l.lane (drop l.byte-index l.bytes) (g.P.Post.lanes l.post) ≡ send_list l.lane l.bytes (g.P.Post.lanes l.initial.post))
