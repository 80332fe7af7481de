-- Numbers with commas between, one at a time.
use Rattle.std.proofs.Common.{◌≡◌, ℕ, zero, suc, ◌+◌, ◌-◌, ◌<◌, ◌≤◌, Bool, true, false, leb, List, [], ◌∷◌, ◌++◌, length, Some, None, Ok, Err, Option, sym, ap, ◌∙◌, arith}
use Rattle.std.specs.Option.{MatchOption}
use Rattle.std.proofs.lemmas.Bool.{false≢true, leb-true, leb-false}
use Rattle.fault.specs.declared.Fault.{Fault}
use Rattle.fault.specs.declared.Layer.{Layer}
use Rattle.fault.specs.declared.Refusal.TheVariants.{OutOfRange}
use Rattle.fault.specs.Faults.{fault}
use Rattle.reader.specs.declared.Reader.{Reader}
use Rattle.reader.specs.Readings.{Reading, begins_at}
use Rattle.reader.specs.Readers.{text_of, from, SameText, Moves, Answers}
use Rattle.reader.specs.Answers.{GivesAt}
use Rattle.fault.specs.declared.failure.Failure.TheVariants.{Faulty}
use Rattle.reader.proofs.Same.{same_trans, same_from, same_begins}
use Rattle.reader.specs.Lists.{numbers, further}
use Rattle.reader.specs.Words.{comma}

module _ (item : List ℕ → Reading ℕ) (before : List ℕ) (l : Layer) (t : List ℕ) (p : ℕ) where
  -- one number is read, and q is the place after it
  module _ (d q : ℕ) (e : item before l t p ≡ Ok (d, q)) where
    pub numbers_next : (n : ℕ) → begins_at t q comma ≡ true → numbers (suc n) item before l t p ≡ numbers n item (before ++ d ∷ []) l t (q + 1)
    unfolding numbers
    numbers_next n f = rw (e, f)

    pub numbers_done : (n : ℕ) → begins_at t q comma ≡ false → numbers n item before l t p ≡ Ok (before ++ d ∷ [], q)
    unfolding numbers
    numbers_done zero f = rw (e, f)
    numbers_done (suc n) f = rw (e, f)

    pub numbers_full : begins_at t q comma ≡ true → numbers zero item before l t p ≡ Err (fault l OutOfRange q)
    unfolding numbers
    numbers_full f = rw (e, f)

  pub numbers_err : (n : ℕ) (f : Fault) → item before l t p ≡ Err f → numbers n item before l t p ≡ Err f
  unfolding numbers
  numbers_err zero f e = rw e
  numbers_err (suc n) f e = rw e

-- the limit is reached with g numbers, h before the last, or it is not
pub limit_full : (most : Option ℕ) (t : List ℕ) (b : Bool) (g : ℕ) {h : ℕ} → MatchOption most (b ≡ false) (λ m. b ≡ leb m g) → b ≡ true → g ≡ h + 1 → h ≤ further most t → h ≡ further most t
limit_full (Some m) t b g e is more few = let l = leb-true m g (sym e ∙ is) in omega (arith, l)
limit_full None t b g e is more few = absurd (false≢true (sym e ∙ is))

pub limit_left : (most : Option ℕ) (t : List ℕ) (b : Bool) (g : ℕ) {h : ℕ} → MatchOption most (b ≡ false) (λ m. b ≡ leb m g) → b ≡ false → g ≡ h + 1 → h < length t → h < further most t
limit_left (Some m) t b g e is more few = let l = leb-false m g (sym e ∙ is) in omega (arith, l)
limit_left None t b g e is more few = few

-- a loop that reads at most m + 1 numbers: it began at start, stands at here, and holds h of them
pub record SoFar (m : ℕ) (item : List ℕ → Reading ℕ) (start here : Reader) (held : List ℕ) (h : ℕ) : Type 0 where
  pub same : SameText start here
  pub rest : numbers (m - h) item held start.layer (text_of start) here.place ≡ from (numbers m item []) start

module _ {m : ℕ} {item : List ℕ → Reading ℕ} {start here : Reader} {held : List ℕ} {h : ℕ} (s : SoFar m item start here held h) where
  -- no number more
  pub stop_err : {X : Type 0} (model : X → List ℕ) {f : Fault} {after : Reader} → Answers (item held) here (Err f) after → GivesAt model (numbers m item []) start (Err (Faulty f)) after
  stop_err model {f} e = record { same = same_trans s.same e.same; answers = (sym s.rest ∙ numbers_err item held _ _ _ (m - h) f (sym (same_from (item held) s.same) ∙ e.answers.0), e.answers.1) }

  -- one number more is read, and next is the reader after it
  module _ {next : Reader} {d : ℕ} (e : Answers (item held) here (Ok d) next) where
    one : item held start.layer (text_of start) here.place ≡ Ok (d, next.place)
    one = sym (same_from (item held) s.same) ∙ e.answers

    moved : SameText start next
    moved = same_trans s.same e.same

    comma_here : begins_at (text_of start) next.place comma ≡ begins_at (text_of next) next.place comma
    comma_here = sym (same_begins comma moved)

    pub stop_done : {X : Type 0} (model : X → List ℕ) {all : X} → false ≡ begins_at (text_of next) next.place comma → model all ≡ held ++ d ∷ [] → GivesAt model (numbers m item []) start (Ok all) next
    stop_done model ends is = record { same = moved; answers = rw is (sym s.rest ∙ numbers_done item held _ _ _ d _ one (m - h) (comma_here ∙ sym ends)) }

    pub stop_full : {X : Type 0} (model : X → List ℕ) {f : Fault} → h ≡ m → true ≡ begins_at (text_of next) next.place comma → f ≡ fault next.layer OutOfRange next.place → GivesAt model (numbers m item []) start (Err (Faulty f)) next
    stop_full model end goes is =
        let z : m - h ≡ 0 = omega arith in
        let l : next.layer ≡ start.layer = moved.layer in
        record {
          same = moved;
          answers = (
            sym s.rest ∙ ap (λ n. numbers n item held start.layer (text_of start) here.place) z ∙ numbers_full item held _ _ _ d _ one (comma_here ∙ sym goes) ∙ ap (λ k. Err (fault k OutOfRange next.place)) (sym l) ∙ ap (λ f. Err f) (sym is),
            ap (λ (f : Fault). f.place) (sym is),
          );
        }

    pub go_on : {after : Reader} → h < m → true ≡ begins_at (text_of next) next.place comma → Moves 1 next after → {all : List ℕ} {g : ℕ} → all ≡ held ++ d ∷ [] → g ≡ h + 1 → SoFar m item start after all g
    go_on lt goes on is more =
        let n : m - h ≡ suc (m - (h + 1)) = omega arith in
        let at = on.place in
        record {
          same = same_trans moved on.same;
          rest = rw (is, at, more) (sym (numbers_next item held _ _ _ d _ one (m - (h + 1)) (comma_here ∙ sym goes)) ∙ ap (λ n. numbers n item held start.layer (text_of start) here.place) (sym n) ∙ s.rest);
        }
