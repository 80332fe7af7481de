use Rattle.std.proofs.Common.{◌≡◌, [], take, vec_items}
use Rattle.std.specs.List.{fold}
use Rattle.answer_table.specs.declared.decoding.Decoding.TheVariants.{Plain}
use Rattle.answer_table.specs.Escapes.{decoding}
use Rattle.answer_table.proofs.decoding.decode.Given as goal

abbrev pub invariant-loop-byte : goal.invariant-loop-byte
invariant-loop-byte l = (vec_items l.out, l.state) ≡ fold decoding ([], Plain) (take l.byte-index l.text)
