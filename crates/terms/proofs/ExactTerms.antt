-- Terms are read from a text exactly where it is theirs.
use Rattle.std.proofs.Common.{◌≡◌, ℕ, ◌+◌, ◌*◌, ◌<◌, ◌≤◌, Bool, true, ◌&&◌, leb, List, [], ◌∷◌, ◌++◌, length, take, drop, Ok, Err, decimal, Result, sym, refl, ap, ◌∙◌, subst, ⊎_elim, mul_assoc, mul-le-mul_left, mul-one, arith}
use Rattle.std.specs.List.{AllByRecursion}
use Rattle.std.specs.Str.{bytes_eq}
use Rattle.std.proofs.lemmas.Bool.{cond-true, cond-false, cases_Bool, and_parts, and_from, leb-true, le-leb}
use Rattle.fault.specs.declared.Fault.{Fault}
use Rattle.fault.specs.declared.Layer.{Layer}
use Rattle.fault.specs.declared.Layer.TheVariants.{Terms as InTerms}
use Rattle.fault.specs.declared.Refusal.TheVariants.{OutOfRange}
use Rattle.reader.specs.declared.byte_kind.ByteKind.TheVariants.{Digit}
use Rattle.reader.specs.Bytes.{run}
use Rattle.ladder.specs.Makers.{halving_fits, divisor_fits}
use Rattle.ladder.specs.Slacks.{product}
use Rattle.reader.specs.Readings.{Reading, begins_at, end_text, number_if, number_in, line_of}
use Rattle.reader.proofs.Exact.{bind_inv, bind_on, ok_same, cond_inv, past, begins_sound, begins_full, number_sound, number_full, line_sound, line_full, end_text_sound, end_text_full}
use Rattle.terms.specs.declared.model.PostChoice.{PostChoice}
use Rattle.terms.specs.declared.model.PostChoice.TheVariants.{Direct, Bit}
use Rattle.terms.specs.Models.{LadderModel, halving, listed, TermsModel}
use Rattle.terms.specs.TermsText.{most_top, divisors, ladder, post, terms, read_terms}
use Rattle.reader.specs.Words.{offices_key, grain_key, ladder_key, post_key, halving_word, listed_word, direct_word, bit_word}
use Rattle.reader.specs.Lists.{commas}
use Rattle.reader.specs.Readings.{line}
use Rattle.terms.specs.Written.{ladder_text, post_text, terms_text, LadderInRange, TermsInRange}
use Rattle.reader.proofs.ExactLists.{Each, numbers_sound, numbers_full}
use Rattle.terms.proofs.Products.{product_push}

-- a test of three parts
three : (a b c : Bool) → ((a && b) && c) ≡ true → (a ≡ true) × (b ≡ true) × (c ≡ true)
three a b c e = let h = and_parts (a && b) c e in let k = and_parts a b h.0 in (k.0, k.1, h.1)

abbrev Small : ℕ → Type 0
Small d = (2 ≤ d) × (d ≤ 16)

module _ (g : ℕ) where
  abbrev item : List ℕ → Reading ℕ
  item before = number_if (divisor_fits (g * product before)) OutOfRange

  abbrev Allowed : List ℕ → ℕ → Type 0
  Allowed before d = Small d × ((g * product before) * d ≤ most_top)

  allowed_tells : (before : List ℕ) (d : ℕ) → divisor_fits (g * product before) d ≡ true → Allowed before d
  allowed_tells before d e = let h = three _ _ _ e in ((leb-true _ _ h.0, leb-true _ _ h.1), leb-true _ _ h.2)

  allowed_from : (before : List ℕ) (d : ℕ) → Allowed before d → divisor_fits (g * product before) d ≡ true
  allowed_from before d a = and_from _ _ (and_from _ _ (le-leb _ _ a.0.0) (le-leb _ _ a.0.1)) (le-leb _ _ a.1)

  item_sound : (l : Layer) (t before : List ℕ) (p : ℕ) (x : ℕ × ℕ) → item before l t p ≡ Ok x → (drop p t ≡ decimal x.0 ++ drop x.1 t) × Allowed before x.0
  item_sound l t before p x e = let h = number_sound (divisor_fits (g * product before)) OutOfRange l t p x e in (h.0, allowed_tells before x.0 h.1)

  -- each divisor in turn, and all of them together
  whole_push : (before : List ℕ) (d : ℕ) → (g * product before) * d ≡ g * product (before ++ d ∷ [])
  whole_push before d = mul_assoc g (product before) d ∙ ap (λ n. g * n) (sym (product_push before d))

  abbrev EachDivisor : Layer → List ℕ → List ℕ → List ℕ → Type 0
  EachDivisor l t = Each item Allowed l t

  each_tells : (l : Layer) (t : List ℕ) (ds before : List ℕ) → 1 ≤ length ds → EachDivisor l t before ds → AllByRecursion Small ds × ((g * product before) * product ds ≤ most_top)
  each_tells l t [] before some a = absurd (omega arith)
  each_tells l t (d ∷ []) before some a = ((a.0.0, tt), rw mul-one a.0.1)
  each_tells l t (d ∷ e ∷ ds) before some a =
      let h = each_tells l t (e ∷ ds) (before ++ d ∷ []) (omega arith) a.1 in
      let same : (g * product (before ++ d ∷ [])) * product (e ∷ ds) ≡ (g * product before) * product (d ∷ e ∷ ds) = ap (λ n. n * product (e ∷ ds)) (sym (whole_push before d)) ∙ mul_assoc (g * product before) d (product (e ∷ ds)) in
      ((a.0.0, h.0), rw same at h.1)

  product_pos : (ds : List ℕ) → AllByRecursion Small ds → 1 ≤ product ds
  product_pos [] h = omega arith
  product_pos (d ∷ ds) h = omega (arith, mul-le-mul_left d (product_pos ds h.1), h.0.0)

  each_from : (l : Layer) (t : List ℕ) (ds before : List ℕ) → AllByRecursion Small ds → (g * product before) * product ds ≤ most_top → EachDivisor l t before ds
  each_from l t [] before small most = tt
  each_from l t (d ∷ ds) before small most =
      let most' : ((g * product before) * d) * product ds ≤ most_top = rw mul_assoc most in
      let less : (g * product before) * d ≤ most_top = omega (arith, mul-le-mul_left ((g * product before) * d) (product_pos ds small.1)) in
      ((small.0, less), each_from l t ds (before ++ d ∷ []) small.1 (rw (← whole_push before d) most'))

  -- the ladder
  module _ (l : Layer) (t : List ℕ) where
    steps_sound : (p : ℕ) (x : ℕ × ℕ) → number_if (halving_fits g) OutOfRange l t p ≡ Ok x → (drop p t ≡ decimal x.0 ++ drop x.1 t) × LadderInRange g (halving x.0)
    steps_sound p x e =
        let h = number_sound (halving_fits g) OutOfRange l t p x e in
        let k = three _ _ _ h.1 in
        (h.0, (leb-true _ _ k.0, leb-true _ _ k.1, leb-true _ _ k.2))

    divisors_sound : (p : ℕ) (x : List ℕ × ℕ) → divisors g l t p ≡ Ok x → (drop p t ≡ commas x.0 ++ drop x.1 t) × LadderInRange g (listed x.0)
    divisors_sound p x e =
        let r = numbers_sound item Allowed l t (item_sound l t) 15 p [] x e in
        let h = each_tells l t r.0 [] r.1.some r.1.each in
        subst (λ ds. (drop p t ≡ commas ds ++ drop x.1 t) × LadderInRange g (listed ds)) (sym r.1.is)
        (r.1.text, (r.1.some, r.1.few, h.0, rw mul-one at h.1))

    ladder_sound : (p : ℕ) (x : LadderModel × ℕ) → ladder g l t p ≡ Ok x → (drop p t ≡ ladder_text x.0 ++ drop x.1 t) × LadderInRange g x.0
    ladder_sound p x e =
        let Good : LadderModel × ℕ → Type 0 = λ y. (drop p t ≡ ladder_text y.0 ++ drop y.1 t) × LadderInRange g y.0 in
        ⊎_elim
        (λ b.
        let a = bind_inv (number_if (halving_fits g) OutOfRange l t (p + 8)) _ x (sym (cond-true _ _ _ b) ∙ e) in
        let h = steps_sound (p + 8) a.0 a.1 in
        let s : (halving a.0.0, a.0.1) ≡ x = ok_same a.2 in
        subst Good s (begins_sound t p halving_word b ∙ ap (λ m. halving_word ++ m) h.0, h.1))
        (λ b.
        let e' = sym (cond-false _ _ _ b) ∙ e in
        ⊎_elim
        (λ b'.
        let a = bind_inv (divisors g l t (p + 7)) _ x (sym (cond-true _ _ _ b') ∙ e') in
        let h = divisors_sound (p + 7) a.0 a.1 in
        let s : (listed a.0.0, a.0.1) ≡ x = ok_same a.2 in
        subst Good s (begins_sound t p listed_word b' ∙ ap (λ m. listed_word ++ m) h.0, h.1))
        (λ b'. let k : ◌≡◌ {A = Result (LadderModel × ℕ) Fault} (Err _) (Ok x) = sym (cond-false _ _ _ b') ∙ e' in let z : ◌≡◌ {A = ℕ} 0 1 = cc in absurd (omega arith))
        (cases_Bool (begins_at t p listed_word)))
        (cases_Bool (begins_at t p halving_word))

    ladder_full : (v : LadderModel) (rest : List ℕ) → LadderInRange g v → (p : ℕ) → drop p t ≡ ladder_text v ++ (10 ∷ rest) → (q : ℕ) × (ladder g l t p ≡ Ok (v, q)) × (drop q t ≡ 10 ∷ rest)
    ladder_full (halving e) rest h p d =
        let r1 = past t p halving_word _ d in
        let ok : halving_fits g e ≡ true = and_from _ _ (and_from _ _ (le-leb _ _ h.0) (le-leb _ _ h.1)) (le-leb _ _ h.2) in
        (_, cond-true _ _ _ (begins_full t p halving_word _ d) ∙ bind_on _ (number_full (halving_fits g) OutOfRange l t (p + 8) e _ r1 refl (omega arith) ok) refl, past t _ (decimal e) _ r1)
    ladder_full (listed ds) rest h p d =
        let each = each_from l t ds [] h.2 (rw mul-one h.3) in
        let item_full : (before : List ℕ) (p d : ℕ) (rest : List ℕ) → drop p t ≡ decimal d ++ rest → run Digit rest ≡ [] → Allowed before d → item before l t p ≡ Ok (d, p + length (decimal d)) =
        λ before p d rest e s a. number_full (divisor_fits (g * product before)) OutOfRange l t p d rest e s (omega (arith, a.0.1)) (allowed_from before d a) in
        let on = numbers_full item Allowed l t item_full ds 15 (p + 7) [] rest (past t p listed_word _ d) h.0 h.1 each in
        (_, cond-false _ _ _ (ap (λ m. bytes_eq halving_word (take 8 m)) d) ∙ cond-true _ _ _ (begins_full t p listed_word _ d) ∙ bind_on _ on.1 refl, on.2)

-- the post
module _ (l : Layer) (t : List ℕ) where
  post_sound : (p : ℕ) (x : PostChoice × ℕ) → post l t p ≡ Ok x → (drop p t ≡ post_text x.0 ++ drop x.1 t) × Unit {0}
  post_sound p x e =
      let Good : PostChoice × ℕ → Type 0 = λ y. (drop p t ≡ post_text y.0 ++ drop y.1 t) × Unit {0} in
      ⊎_elim
      (λ b. let s : (Direct, p + 6) ≡ x = ok_same (sym (cond-true _ _ _ b) ∙ e) in subst Good s (begins_sound t p direct_word b, tt))
      (λ b. let h = cond_inv _ _ _ _ (sym (cond-false _ _ _ b) ∙ e) in subst Good h.1 (begins_sound t p bit_word h.0, tt))
      (cases_Bool (begins_at t p direct_word))

  post_full : (v : PostChoice) (rest : List ℕ) (p : ℕ) → drop p t ≡ post_text v ++ (10 ∷ rest) → (q : ℕ) × (post l t p ≡ Ok (v, q)) × (drop q t ≡ 10 ∷ rest)
  post_full Direct rest p d = (_, cond-true _ _ _ (begins_full t p direct_word _ d), past t p direct_word _ d)
  post_full Bit rest p d = (_, cond-false _ _ _ (ap (λ m. bytes_eq direct_word (take 6 m)) d) ∙ cond-true _ _ _ (begins_full t p bit_word _ d), past t p bit_word _ d)

  -- a number in a line
  in_sound : (low high p : ℕ) (x : ℕ × ℕ) → number_in low high OutOfRange l t p ≡ Ok x → (drop p t ≡ decimal x.0 ++ drop x.1 t) × ((low ≤ x.0) × (x.0 ≤ high))
  in_sound low high p x e =
      let h = number_sound (λ n. leb low n && leb n high) OutOfRange l t p x e in
      let k = and_parts _ _ h.1 in
      (h.0, (leb-true _ _ k.0, leb-true _ _ k.1))

  in_full : (low high v : ℕ) (rest : List ℕ) → low ≤ v → v ≤ high → high < 100000000 → (p : ℕ) → drop p t ≡ decimal v ++ (10 ∷ rest) → (q : ℕ) × (number_in low high OutOfRange l t p ≡ Ok (v, q)) × (drop q t ≡ 10 ∷ rest)
  in_full low high v rest a b c p d = (_, number_full (λ n. leb low n && leb n high) OutOfRange l t p v _ d refl (omega arith) (and_from _ _ (le-leb _ _ a) (le-leb _ _ b)), past t p (decimal v) _ d)

-- the whole
pub terms_sound : (t : List ℕ) (x : TermsModel) → read_terms t ≡ Ok x → (t ≡ terms_text x) × TermsInRange x
terms_sound t x e =
    let w = bind_inv (terms InTerms t 0) _ x e in
    let o = bind_inv (line_of offices_key (number_in 1 64 OutOfRange) InTerms t 0) _ w.0 w.1 in
    let g = bind_inv (line_of grain_key (number_in 1 8388608 OutOfRange) InTerms t o.0.1) _ w.0 o.2 in
    let r = bind_inv (line_of ladder_key (ladder g.0.0) InTerms t g.0.1) _ w.0 g.2 in
    let b = bind_inv (line_of post_key post InTerms t r.0.1) _ w.0 r.2 in
    let z = bind_inv (end_text InTerms t b.0.1) _ w.0 b.2 in
    let os = line_sound decimal (λ v. (1 ≤ v) × (v ≤ 64)) offices_key (number_in 1 64 OutOfRange) InTerms t (in_sound InTerms t 1 64) 0 o.0 o.1 in
    let gs = line_sound decimal (λ v. (1 ≤ v) × (v ≤ 8388608)) grain_key (number_in 1 8388608 OutOfRange) InTerms t (in_sound InTerms t 1 8388608) o.0.1 g.0 g.1 in
    let rs = line_sound ladder_text (LadderInRange g.0.0) ladder_key (ladder g.0.0) InTerms t (ladder_sound g.0.0 InTerms t) g.0.1 r.0 r.1 in
    let bs = (line_sound post_text (λ _. Unit {0}) post_key post InTerms t (post_sound InTerms t) r.0.1 b.0 b.1).0 in
    let done = end_text_sound InTerms t b.0.1 z.0 z.1 in
    let y : TermsModel = record { offices = o.0.0; grain = g.0.0; ladder = r.0.0; post = b.0.0 } in
    let is : y ≡ x = ap (λ (v : TermsModel × ℕ). v.0) (ok_same z.2) ∙ ok_same w.2 in
    subst (λ y. (t ≡ terms_text y) × TermsInRange y) is (
      os.0 ∙ ap (line offices_key (decimal o.0.0)) (gs.0 ∙ ap (line grain_key (decimal g.0.0)) (rs.0 ∙ ap (line ladder_key (ladder_text r.0.0)) (bs ∙ ap (line post_key (post_text b.0.0)) done))),
      record { offices_low = os.1.0; offices_high = os.1.1; grain_low = gs.1.0; grain_high = gs.1.1; ladder = rs.1 },
    )

pub terms_full : (t : List ℕ) (x : TermsModel) → t ≡ terms_text x → TermsInRange x → read_terms t ≡ Ok x
terms_full t x e h =
    let o = line_full decimal (λ _. Unit {0}) offices_key (number_in 1 64 OutOfRange) InTerms t x.offices _ (in_full InTerms t 1 64 x.offices _ h.offices_low h.offices_high (omega arith)) 0 e in
    let g = line_full decimal (λ _. Unit {0}) grain_key (number_in 1 8388608 OutOfRange) InTerms t x.grain _ (in_full InTerms t 1 8388608 x.grain _ h.grain_low h.grain_high (omega arith)) o.0 o.2 in
    let r = line_full ladder_text (λ _. Unit {0}) ladder_key (ladder x.grain) InTerms t x.ladder _ (ladder_full x.grain InTerms t x.ladder _ h.ladder) g.0 g.2 in
    let b = line_full post_text (λ _. Unit {0}) post_key post InTerms t x.post [] (post_full InTerms t x.post []) r.0 r.2 in
    bind_on _ (bind_on _ o.1 (bind_on _ g.1 (bind_on _ r.1 (bind_on _ b.1 (bind_on _ (end_text_full InTerms t b.0 b.2) refl))))) refl
