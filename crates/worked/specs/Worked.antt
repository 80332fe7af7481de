-- The worked days and sends, as one statement. Assumes nothing.
use Rattle.std.specs.Prelude.{true, false, [], ◌∷◌, ◌++◌, codes}
use Rattle.worked.specs.Days.{halving, listed, lots_at, all_accepted, too_late, ComesTo, book}
use Rattle.worked.specs.Sending.{SendsBy}

pub record WorkedDaysAndSends : Type 0 where
  -- one office, halving/1, grain 1: lot 1 closes, with 2 messages, and lot 2 is refused with 2
  pub one_office : ComesTo (halving 1 1 1) (1 ∷ 1 ∷ []) (all_accepted 1 ++ too_late 1 ∷ []) (book 1 1 false 2 (1 ∷ []) (0 ∷ []))
  -- two offices, halving/2, grain 2, seven lots at 1 and then six at 2: open after lot 12, closed by lot 13
  pub not_yet : ComesTo (halving 2 2 2) (lots_at 7 1 ++ lots_at 5 2) (all_accepted 12) (book 2 1 true 5 (6 ∷ 4 ∷ []) (1 ∷ 1 ∷ []))
  pub thirteenth : ComesTo (halving 2 2 2) (lots_at 7 1 ++ lots_at 6 2) (all_accepted 13) (book 2 2 false 8 (6 ∷ 6 ∷ []) (1 ∷ 0 ∷ []))
  -- the same twelve lots with office 2 first
  pub other_order : ComesTo (halving 2 2 2) (lots_at 5 2 ++ lots_at 7 1) (all_accepted 12) (book 2 1 true 5 (6 ∷ 4 ∷ []) (1 ∷ 1 ∷ []))
  -- two offices, halving/3, grain 1: three lots at 2, then eight at 1
  pub three_slacks : ComesTo (halving 2 1 3) (lots_at 3 2 ++ lots_at 8 1) (all_accepted 11) (book 2 1 true 5 (8 ∷ 2 ∷ []) (0 ∷ 1 ∷ []))
  -- two offices, listed/3,2, grain 1: open after lot 9, closed by lot 10, with 10 messages
  pub nine : ComesTo (listed 2 1 (3 ∷ 2 ∷ [])) (lots_at 5 1 ++ lots_at 4 2) (all_accepted 9) (book 2 1 true 7 (5 ∷ 4 ∷ []) (0 ∷ 0 ∷ []))
  pub tenth : ComesTo (listed 2 1 (3 ∷ 2 ∷ [])) (lots_at 5 1 ++ lots_at 5 2) (all_accepted 10) (book 2 2 false 10 (5 ∷ 5 ∷ []) (0 ∷ 0 ∷ []))
  -- two offices, listed/2,4, grain 1, three lots at 2 and then eight at 1: at the start of step 2 office 2 holds three whole slacks and sends three signals
  pub three_signals : ComesTo (listed 2 1 (2 ∷ 4 ∷ [])) (lots_at 3 2 ++ lots_at 8 1) (all_accepted 11) (book 2 3 true 7 (8 ∷ 3 ∷ []) (0 ∷ 0 ∷ []))
  -- sends of byte 33: the data frame lost and then twice; the acknowledgement lost; and, with no marks, a first and a second send
  pub lost_then_twice : SendsBy (codes "-+") false 33 (33 ∷ 33 ∷ 512 ∷ 512 ∷ [])
  pub acknowledgement_lost : SendsBy (codes ".-") false 33 (33 ∷ 512 ∷ 33 ∷ 512 ∷ [])
  pub first_send : SendsBy [] false 33 (33 ∷ 512 ∷ [])
  pub second_send : SendsBy [] true 33 (289 ∷ 768 ∷ [])
