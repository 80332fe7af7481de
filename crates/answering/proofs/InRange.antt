-- What texts can say is within the makers' ranges. Assumes nothing.
use Rattle.std.proofs.Common.{◌≡◌, ℕ, ◌+◌, ◌*◌, ◌≤◌, Bool, true, false, ◌&&◌, List, [], ◌∷◌, length, Some, None, Ok, Err, Result, sym, refl, ◌∙◌, subst, mul_assoc, mul-le-mul, mul-le-mul_left, arith}
use Rattle.std.specs.List.{AllByRecursion}
use Rattle.std.proofs.lemmas.Bool.{le-leb, cond-true}
use Rattle.fault.specs.declared.Fault.{Fault}
use Rattle.ladder.specs.Makers.{within, divisors_fault, listed_fault}
use Rattle.ladder.specs.Slacks.{product}
use Rattle.reader.specs.declared.byte_kind.ByteKind.TheVariants.{Mark}
use Rattle.reader.specs.Bytes.{of_kind}
use Rattle.fault.specs.declared.failure.Failure.{Failure}
use Rattle.fault.specs.declared.failure.Failure.TheVariants.{Faulty, NoMemory}
use Rattle.report.specs.declared.Report.{Report}
use Rattle.wire.specs.Makers.{bytes_fault, marked_fault}
use Rattle.terms.specs.declared.model.PostChoice.TheVariants.{Bit}
use Rattle.terms.specs.Models.{TermsModel, listed}
use Rattle.terms.specs.Written.{LadderInRange}
use Rattle.day.specs.Models.{DayModel}
use Rattle.answering.specs.Reports.{LotsReport, FramesOf}
use Rattle.answering.specs.Answers.{Playable}
use Rattle.answering.specs.Playing.{BitReported, ReportedOn}
use Rattle.window.specs.Windows.{setting_for}
use Rattle.report.specs.Models.{report_model}

both : (a b : Bool) → a ≡ true → b ≡ true → (a && b) ≡ true
both true b e f = f
both false b e f = e

in_range : (low high n : ℕ) → low ≤ n → n ≤ high → within low high n ≡ true
in_range low high n l h = both _ _ (le-leb low n l) (le-leb n high h)

-- the divisors of a listed ladder
product_some : (ds : List ℕ) → AllByRecursion (λ d. (2 ≤ d) × (d ≤ 16)) ds → 1 ≤ product ds
product_some [] r = omega arith
product_some (d ∷ ds) r = let p : 1 * 1 ≤ d * product ds = mul-le-mul {n₁ = 1} {m₁ = 1} (omega (arith, r.0.0)) (product_some ds r.1) in omega arith

divisors_none : (top : ℕ) (ds : List ℕ) → AllByRecursion (λ d. (2 ≤ d) × (d ≤ 16)) ds → top * product ds ≤ 16777216 → divisors_fault top ds ≡ None
divisors_none top [] r le = refl
divisors_none top (d ∷ ds) r le =
    let e : top * (d * product ds) ≡ top * d * product ds = sym (mul_assoc top d (product ds)) in
    let less : top * d * 1 ≤ top * d * product ds = mul-le-mul_left (top * d) (product_some ds r.1) in
    cond-true _ _ _ (in_range 2 16 d r.0.0 r.0.1)
    ∙ (cond-true _ _ _ (le-leb (top * d) 16777216 (omega arith)) ∙ divisors_none (top * d) ds r.1 (omega arith))

pub listed_none : (g : ℕ) (ds : List ℕ) → 1 ≤ g → g ≤ 8388608 → LadderInRange g (listed ds) → listed_fault g ds ≡ None
listed_none g ds low high r =
    cond-true _ _ _ (in_range 1 8388608 g low high) ∙ (cond-true _ _ _ (in_range 1 16 (length ds) r.0 r.1) ∙ divisors_none g ds r.2 r.3)

-- marks
bytes_none : (i : ℕ) (marks : List ℕ) → AllByRecursion (λ m. of_kind Mark m ≡ true) marks → bytes_fault i marks ≡ None
bytes_none i [] r = refl
bytes_none i (b ∷ bs) r = cond-true _ _ _ r.0 ∙ bytes_none (i + 1) bs r.1

pub marked_none : (x : TermsModel) (y : DayModel) → Playable x y → marked_fault x.offices y.marks ≡ None
marked_none x y p =
    cond-true _ _ _ (in_range 1 64 x.offices p.terms.offices_low p.terms.offices_high)
    ∙ (cond-true _ _ _ (le-leb (length y.marks) 65535 p.marks) ∙ bytes_none 0 y.marks p.day.marks)

-- the day over the post that the terms name
pub bit_on : (e : ℕ) (slack : ℕ → ℕ) (x : TermsModel) (y : DayModel) (lots : List ℕ) (r : Result Report Failure) → x.post ≡ Bit → lots ≡ y.lots
    → BitReported x.offices e slack y.marks lots r → ReportedOn e slack x y r
bit_on e slack x y lots (Ok r) post same b = (
  subst (λ lots. LotsReport (setting_for x.offices e slack) lots (report_model r)) same b.0,
  subst (λ p. FramesOf p y.marks (report_model r).messages (report_model r).frames) (sym post) b.1,
)
bit_on e slack x y lots (Err (Faulty f)) post same b = λ p. b (marked_none x y p)
bit_on e slack x y lots (Err NoMemory) post same b = tt

no_fault : {X : Type 0} (f : Fault) → Some f ≡ None → X
no_fault f e = let z : ◌≡◌ {A = ℕ} 0 1 = cc in absurd (omega arith)

pub listed_refused : (x : TermsModel) (y : DayModel) (ds : List ℕ) (f : Fault) → x.ladder ≡ listed ds → Some f ≡ listed_fault x.grain ds → Playable x y → ⊥
listed_refused x y ds f is e p = no_fault f (e ∙ listed_none x.grain ds p.terms.grain_low p.terms.grain_high (subst (LadderInRange x.grain) is p.terms.ladder))
