-- The keys and words of the texts. Assumes nothing.
use Rattle.std.specs.Prelude.{ℕ, List, codes}

abbrev pub offices_key : List ℕ
offices_key = codes "offices="

abbrev pub grain_key : List ℕ
grain_key = codes "grain="

abbrev pub ladder_key : List ℕ
ladder_key = codes "ladder="

abbrev pub post_key : List ℕ
post_key = codes "post="

abbrev pub marks_key : List ℕ
marks_key = codes "marks="

abbrev pub lots_key : List ℕ
lots_key = codes "lots="

abbrev pub halving_word : List ℕ
halving_word = codes "halving/"

abbrev pub listed_word : List ℕ
listed_word = codes "listed/"

abbrev pub direct_word : List ℕ
direct_word = codes "direct"

abbrev pub bit_word : List ℕ
bit_word = codes "bit"

abbrev pub comma : List ℕ
comma = codes ","

abbrev pub closed_key : List ℕ
closed_key = codes "closed="

abbrev pub step_key : List ℕ
step_key = codes "step="

abbrev pub signals_key : List ℕ
signals_key = codes "signals="

abbrev pub messages_key : List ℕ
messages_key = codes "messages="

abbrev pub frames_key : List ℕ
frames_key = codes "frames="

abbrev pub accepted_key : List ℕ
accepted_key = codes "accepted="

abbrev pub late_key : List ℕ
late_key = codes "late="

abbrev pub credits_key : List ℕ
credits_key = codes "credits="

abbrev pub remainders_key : List ℕ
remainders_key = codes "remainders="

abbrev pub no_word : List ℕ
no_word = codes "no"
