use Rattle.std.proofs.Common.{◌≡◌, ℕ, List, [], ◌++◌, take, Some, None, IfSome, Option, ap, ◌∙◌, subst}
use Rattle.std.specs.Option.{option_map}
use Rattle.answering.proofs.streams.read_start.Goals as goal

-- what was read of known bytes, up to a limit
started : (n : ℕ) (known : Option (List ℕ)) (read before : List ℕ) → before ≡ [] → IfSome (option_map (take n) known) (λ xs. read ≡ before ++ xs) → IfSome known (λ bytes. read ≡ take n bytes)
started n None read before none h = tt
started n (Some bytes) read before none h = h ∙ ap (λ b. b ++ take n bytes) none

pub returns : goal.returns
returns g c =
    let known = g.R.Read.remaining in
    let read = c.read_to_end.new.buf.items in
    let before = c.new-bytes.result.items in
    let same : c.take.result.inner ≡ c.args.reader = c.take.ensures.inner in
    let h = c.in_ok-read_to_end.ensures.bytes in
    subst (λ r. IfSome (known r) (λ bytes. read ≡ take 65536 bytes)) same (started 65536 (known c.take.result.inner) read before c.new-bytes.ensures.items (subst (λ n. IfSome (option_map (take n) (known c.take.result.inner)) (λ xs. read ≡ before ++ xs)) c.take.ensures.limit h))
