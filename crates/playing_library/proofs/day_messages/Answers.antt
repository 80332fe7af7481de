use Rattle.std.proofs.Common.{◌≡◌, ℕ, ◌*◌, List, replicate, sym, ap, subst, arith, rules}
use Rattle.std.proofs.lemmas.List.{length-replicate, get_or-replicate}
use Rattle.post.specs.Lanes.{Lane, no_lane, Unused}
use Rattle.playing_library.proofs.day_messages.Goals as goal

none_sent : (n : ℕ) (ls : List Lane) → ls ≡ replicate n no_lane → Unused ls
none_sent n ls e = subst Unused (sym e) (λ j less. ap (λ (l : Lane). l.sent) (get_or-replicate n j no_lane no_lane (omega (arith, length-replicate n no_lane))))

pub returns : goal.returns
returns c =
    let made = c.in_ok-post.ensures.post in
    let day = c.play-played.ensures.day (none_sent (2 * c.args.offices) _ made.1) in
    search rules
