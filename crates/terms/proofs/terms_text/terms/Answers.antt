use Rattle.std.proofs.Common.{refl, rules}
use Rattle.std.proofs.lemmas.Result.{err_from_is_err_and}
use Rattle.reader.specs.Readings.{end_text, line_of}
use Rattle.reader.specs.Words.{ladder_key, post_key}
use Rattle.reader.proofs.Lines.{line_answers, line_gives}
use Rattle.reader.proofs.Steps.{first_stops, next_reads, stops_as, done, done_reads}
use Rattle.terms.specs.Models.{ladder_model}
use Rattle.terms.specs.TermsText.{ladder, post}
use Rattle.terms.proofs.FourLines.{after_ladder, after_post, two_lines}
use Rattle.terms.proofs.terms_text.terms.Goals as goal

pub returns-in_err-ladder : goal.returns-in_err-ladder
returns-in_err-ladder c =
    let p = err_from_is_err_and c.from_residual-in_err-ladder.result c.from_residual-in_err-ladder.ensures.1 in
    let o = c.in_ok-offices.offices in
    let g = c.in_ok-grain.grain in
    let l = line_gives ladder_model (ladder g) c.in_err-ladder.ensures (λ start mid r b. let m = b.met in search rules) in
    rw (p.1, p.2) (two_lines c.in_ok-offices.ensures c.in_ok-grain.ensures (first_stops (line_of ladder_key (ladder g)) (after_ladder o g) l))

pub returns-in_err-post : goal.returns-in_err-post
returns-in_err-post c =
    let p = err_from_is_err_and c.from_residual-in_err-post.result c.from_residual-in_err-post.ensures.1 in
    let o = c.in_ok-offices.offices in
    let g = c.in_ok-grain.grain in
    let r = ladder_model c.in_ok-ladder.ladder in
    let l = line_gives ladder_model (ladder g) c.in_ok-ladder.ensures (λ start mid r b. let m = b.met in search rules) in
    let b = line_answers (λ x. x) post c.in_err-post.ensures (λ start mid r b. let m = b.met in search rules) in
    rw (p.1, p.2)
    (two_lines c.in_ok-offices.ensures c.in_ok-grain.ensures (next_reads (line_of ladder_key (ladder g)) (after_ladder o g) _ l (first_stops (line_of post_key post) (after_post o g r) (stops_as {model' = λ x. x} b refl))))

pub returns-in_err-end_text : goal.returns-in_err-end_text
returns-in_err-end_text c =
    let p = err_from_is_err_and c.from_residual-in_err-end_text.result c.from_residual-in_err-end_text.ensures.1 in
    let o = c.in_ok-offices.offices in
    let g = c.in_ok-grain.grain in
    let r = ladder_model c.in_ok-ladder.ladder in
    let l = line_gives ladder_model (ladder g) c.in_ok-ladder.ensures (λ start mid r b. let m = b.met in search rules) in
    let b = line_answers (λ x. x) post c.in_ok-post.ensures (λ start mid r b. let m = b.met in search rules) in
    rw (p.1, p.2)
    (two_lines c.in_ok-offices.ensures c.in_ok-grain.ensures
    (next_reads (line_of ladder_key (ladder g)) (after_ladder o g) _ l
    (next_reads (line_of post_key post) (after_post o g r) _ b
    (first_stops end_text (λ _. done (record { offices = o; grain = g; ladder = r; post = c.in_ok-post.post })) (stops_as {model' = λ x. x} c.in_err-end_text.ensures refl)))))

pub returns : goal.returns
returns c =
    let o = c.in_ok-offices.offices in
    let g = c.in_ok-grain.grain in
    let r = ladder_model c.in_ok-ladder.ladder in
    let l = line_gives ladder_model (ladder g) c.in_ok-ladder.ensures (λ start mid r b. let m = b.met in search rules) in
    let b = line_answers (λ x. x) post c.in_ok-post.ensures (λ start mid r b. let m = b.met in search rules) in
    two_lines c.in_ok-offices.ensures c.in_ok-grain.ensures
    (next_reads (line_of ladder_key (ladder g)) (after_ladder o g) _ l
    (next_reads (line_of post_key post) (after_post o g r) _ b
    (next_reads end_text (λ _. done (record { offices = o; grain = g; ladder = r; post = c.in_ok-post.post })) _ c.in_ok-end_text.ensures (done_reads _ _ refl))))
