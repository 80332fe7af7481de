-- What is printed of two texts: what they say, or their first fault. Assumes nothing.
use Rattle.std.specs.Prelude.{◌≡◌, ℕ, List, [], ◌++◌, length, Ok, Err, IfOk, IsErr, codes, decimal, Result}
use Rattle.fault.specs.declared.Fault.{Fault}
use Rattle.fault.specs.declared.failure.Failure.{Failure}
use Rattle.fault.specs.declared.failure.Failure.TheVariants.{Faulty, NoMemory}
use Rattle.fault.specs.Faults.{refusal_number, layer_name}
use Rattle.texts.specs.Both.{read_both}
use Rattle.printing.specs.FaultLine.{fault_line}
use Rattle.day.specs.Models.{DayModel}
use Rattle.terms.specs.Models.{TermsModel}
use Rattle.reader.specs.Words.{marks_key, lots_key}
use Rattle.reader.specs.Readings.{bind, line}
use Rattle.terms.specs.Written.{terms_text}

-- four lines: the refusal's number, the layer, the place and the line as it stands
abbrev pub fault_text : List ℕ → List ℕ → Fault → List ℕ
fault_text terms day f =
    line (codes "fault=") (decimal (refusal_number f.refusal))
    (line (codes "layer=") (layer_name f.layer)
    (line (codes "place=") (decimal f.place)
    (line (codes "line=") (fault_line terms day f) [])))

-- the terms as they are written, and how many marks and lots there are
abbrev pub summary_text : TermsModel → DayModel → List ℕ
summary_text x y = terms_text x ++ line marks_key (decimal (length y.marks)) (line lots_key (decimal (length y.lots)) [])

-- the summary of what the texts say, or their first fault
abbrev pub summary_of : List ℕ → List ℕ → Result (List ℕ) Fault
summary_of terms day = bind (read_both terms day) (λ x. Ok (summary_text x.0 x.1))

-- a text that was made is handed on, a fault is told by its four lines, and want of memory stays
abbrev pub TextOrFault : {X E : Type 0} → (X → List ℕ) → (terms day : List ℕ) → Result X Failure → Result X E → Type 0
TextOrFault bytes terms day (Ok made) r = r ≡ Ok made
TextOrFault bytes terms day (Err (Faulty f)) r = IfOk r (λ v. bytes v ≡ fault_text terms day f)
TextOrFault bytes terms day (Err NoMemory) r = IsErr r

abbrev pub text_of_answer : List ℕ → List ℕ → Result (TermsModel × DayModel) Fault → List ℕ
text_of_answer terms day (Ok x) = summary_text x.0 x.1
text_of_answer terms day (Err f) = fault_text terms day f

abbrev pub answer_text : List ℕ → List ℕ → List ℕ
answer_text terms day = text_of_answer terms day (read_both terms day)
