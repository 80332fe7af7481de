-- Two texts are read exactly where they are those of terms and a day in range.
use Rattle.std.proofs.Common.{◌≡◌, ℕ, ◌≤◌, List, length, Ok, Err, Result, sym, refl, ◌∙◌, subst, arith}
use Rattle.std.proofs.lemmas.Bool.{cond-false, ltb-false, le-ltb}
use Rattle.fault.specs.declared.Fault.{Fault}
use Rattle.fault.specs.declared.Layer.{Layer}
use Rattle.fault.specs.declared.Layer.TheVariants.{Terms as InTerms, Day as InDay}
use Rattle.reader.proofs.Exact.{bind_inv, bind_on, ok_same, cond_inv_not}
use Rattle.day.specs.declared.model.Day.{Day}
use Rattle.terms.specs.declared.model.Terms.{Terms}
use Rattle.fault.specs.declared.failure.Failure.{Failure}
use Rattle.fault.specs.declared.failure.Failure.TheVariants.{Faulty, NoMemory}
use Rattle.reader.specs.Answers.{Gives}
use Rattle.texts.specs.Both.{most_bytes, short, read_both, both_model, Admissible, ReadsExactly}
use Rattle.day.specs.DayText.{read_day}
use Rattle.terms.specs.Models.{TermsModel, terms_model}
use Rattle.day.specs.Models.{DayModel, day_model}
use Rattle.terms.specs.TermsText.{read_terms}
use Rattle.day.proofs.ExactDay.{day_sound, day_full}
use Rattle.terms.proofs.ExactTerms.{terms_sound, terms_full}

short_sound : (l : Layer) (t : List ℕ) (u : Unit {0}) → short l t ≡ Ok u → length t ≤ most_bytes
short_sound l t u e = ltb-false _ _ (cond_inv_not _ _ _ _ e).0

short_full : (l : Layer) (t : List ℕ) → length t ≤ most_bytes → short l t ≡ Ok tt
short_full l t h = cond-false _ _ _ (le-ltb _ _ h)

both_sound : (t d : List ℕ) (x : TermsModel) (y : DayModel) → read_both t d ≡ Ok (x, y) → Admissible t d x y
both_sound t d x y e =
    let a = bind_inv (short InTerms t) _ (x, y) e in
    let b = bind_inv (short InDay d) _ (x, y) a.2 in
    let m = bind_inv (read_terms t) _ (x, y) b.2 in
    let n = bind_inv (read_day m.0.offices d) _ (x, y) m.2 in
    let is : (m.0, n.0) ≡ (x, y) = ok_same n.2 in
    let ts = terms_sound t m.0 m.1 in
    let ds = day_sound m.0.offices d n.0 n.1 in
    let good : Admissible t d m.0 n.0 = record {
      terms_short = short_sound InTerms t a.0 a.1;
      day_short = short_sound InDay d b.0 b.1;
      terms_written = ts.0;
      terms_range = ts.1;
      day_written = ds.0;
      day_range = ds.1;
    } in
    subst (λ (z : TermsModel × DayModel). Admissible t d z.0 z.1) is good

both_full : (t d : List ℕ) (x : TermsModel) (y : DayModel) → Admissible t d x y → read_both t d ≡ Ok (x, y)
both_full t d x y a =
    bind_on _ (short_full InTerms t a.terms_short)
    (bind_on _ (short_full InDay d a.day_short)
    (bind_on _ (terms_full t x a.terms_written a.terms_range)
    (bind_on _ (day_full x.offices a.terms_range.offices_high d y a.day_written a.day_range) refl)))

pub exactly : (t d : List ℕ) (r : Result (Terms × Day) Failure) → Gives both_model (read_both t d) r → ReadsExactly t d r
exactly t d (Ok v) e = (both_sound t d (terms_model v.0) (day_model v.1) e, λ x y a. ok_same (sym (both_full t d x y a) ∙ e))
exactly t d (Err (Faulty f)) e = λ x y a. let k : ◌≡◌ {A = Result (TermsModel × DayModel) Fault} (Err f) (Ok (x, y)) = sym e ∙ both_full t d x y a in let z : ◌≡◌ {A = ℕ} 0 1 = cc in omega arith
exactly t d (Err NoMemory) e = tt
