-- The report that a played day gives, figure by figure: the words of the inner contracts. Assumes nothing.
use Rattle.std.specs.Prelude.{◌≡◌, ℕ, ◌-◌, ◌≤◌, List, length, Ok, Result, slice_index}
use Rattle.fault.specs.declared.Fault.{Fault}
use Rattle.post.specs.Lanes.{Lane}
use Rattle.window.specs.Windows.{books_of}
use Rattle.playing.specs.declared.day.Played.{Played}
use Rattle.report.specs.Models.{ReportModel}

abbrev pub model_of : {P : Type 0} → (P → List Lane) → Played P → (frames : ℕ) → ReportModel
model_of lanes p frames = record {
  closed = p.tally.closing;
  step = (books_of lanes p.window).step;
  signals = (books_of lanes p.window).signals;
  messages = (books_of lanes p.window).messages;
  frames = frames;
  accepted = p.tally.accepted;
  late = p.tally.late;
  credits = (books_of lanes p.window).credits;
  remainders = (books_of lanes p.window).remainders;
}

-- Where each office answers with its number of a list, that list was found; `answers` says what an office may answer.
abbrev pub Gathers : (answers : ℕ → Result ℕ Fault → Type 0) → (offices : ℕ) → (found : List ℕ) → Type 0
Gathers answers offices found =
    (xs : List ℕ) → length xs ≡ offices → ((office : ℕ) (r : Result ℕ Fault) → 1 ≤ office → office ≤ offices → answers office r → r ≡ Ok (slice_index xs (office - 1))) → found ≡ xs
