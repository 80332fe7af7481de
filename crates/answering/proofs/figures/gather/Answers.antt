use Rattle.std.proofs.Common.{◌≡◌, ℕ, ◌-◌, [], ◌∷◌, ◌++◌, take, Ok, Err, slice_index, vec_items, ap, ◌∙◌, arith}
use Rattle.std.proofs.lemmas.List.{take_all}
use Rattle.answering.proofs.Gathered.{with_last}
use Rattle.answering.proofs.figures.gather.Goals as goal
use Rattle.answering.proofs.figures.gather.Goals.{else-loop-office-test, then-loop-office-test+else-office-offices, in-Ok+in_ok-push, in_default}

pub returns : goal.returns
returns g c = λ xs long each.
    let office = c.loop-office.office in
    elim c.loop-office-test.branch [
      | else-loop-office-test w ↦ ap vec_items w.list-is ∙ c.loop-office.invariant xs long each ∙ take_all (office - 1) xs (omega arith)
      | then-loop-office-test+else-office-offices w ↦ elim w.match-figure.branch [
        | in-Ok+in_ok-push w' ↦
            let number_is : Ok w'.in-Ok.number ≡ Ok (slice_index xs (office - 1)) =
            each office (Ok w'.in-Ok.number) c.loop-office.auto.office w.loop-office-test.true w'.in-Ok.ensures in
            let before = c.loop-office.invariant xs long each in
            let now : vec_items c.loop-office-test.list ≡ take (office - 1) xs ++ slice_index xs (office - 1) ∷ [] =
            ap vec_items (w.list-is ∙ w'.list-is) ∙ w'.in_ok-push.ensures.items ∙ ap (λ l. l ++ w'.in-Ok.number ∷ []) before ∙ ap (λ n. take (office - 1) xs ++ n ∷ []) cc in
            now ∙ with_last office xs c.loop-office.auto.office (omega arith) ∙ take_all office xs (omega arith)
        | in_default w' ↦
            let e = each office (Err w'.in_default.field-0) c.loop-office.auto.office w.loop-office-test.true w'.in_default.ensures in
            let z : ◌≡◌ {A = ℕ} 0 1 = cc in absurd (omega arith)
      ]
    ]
