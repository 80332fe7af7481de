-- A day is read from a text exactly where it is its own.
use Rattle.std.proofs.Common.{◌≡◌, ℕ, ◌+◌, ◌<◌, ◌≤◌, true, false, not, ◌&&◌, eqb, ltb, leb, List, [], ◌∷◌, ◌++◌, length, drop, Ok, decimal, sym, refl, ap, ◌∙◌, subst, ⊎_elim, append_assoc, arith, length-append, length-drop}
use Rattle.std.specs.Char.{is_ascii_digit}
use Rattle.std.specs.List.{AllByRecursion}
use Rattle.std.specs.Str.{all_ascii_digits}
use Rattle.std.proofs.lemmas.Fmt.{decimal_nonempty, digits_decimal}
use Rattle.std.proofs.lemmas.Bool.{cond-true, cond-false, cases_Bool, and_parts, and_from, and_right, leb-true, le-leb, ne_eqb}
use Rattle.std.proofs.lemmas.Bool.Decides.{nat_tests}
use Rattle.fault.specs.declared.Layer.{Layer}
use Rattle.fault.specs.declared.Layer.TheVariants.{Day as InDay}
use Rattle.fault.specs.declared.Refusal.TheVariants.{NoSuchOfficeOrLane}
use Rattle.reader.specs.declared.byte_kind.ByteKind.TheVariants.{Digit, Mark}
use Rattle.reader.specs.Bytes.{of_kind, run, line_end}
use Rattle.reader.specs.Readings.{Reading, end_text, number_in, line_of}
use Rattle.reader.proofs.Exact.{bind_inv, bind_on, ok_same, cond_inv_not, past, run_cut, run_made, run_all, number_sound, number_full, line_sound, line_full, end_text_sound, end_text_full}
use Rattle.reader.proofs.Scan.{own}
use Rattle.day.specs.DayText.{marks, lots, day, read_day}
use Rattle.day.specs.Models.{DayModel}
use Rattle.reader.specs.Words.{marks_key, lots_key, comma}
use Rattle.reader.specs.Lists.{commas}
use Rattle.reader.specs.Readings.{line}
use Rattle.day.specs.Written.{day_text, DayInRange}
use Rattle.reader.proofs.ExactLists.{Each, numbers_sound, numbers_full}

abbrev Marks : List ℕ → Type 0
Marks = AllByRecursion (λ m. of_kind Mark m ≡ true)

-- marks
module _ (l : Layer) (t : List ℕ) where
  marks_sound : (p : ℕ) (x : List ℕ × ℕ) → marks l t p ≡ Ok x → (drop p t ≡ x.0 ++ drop x.1 t) × Marks x.0
  marks_sound p x e =
      let h = cond_inv_not _ _ _ _ e in
      subst (λ (y : List ℕ × ℕ). (drop p t ≡ y.0 ++ drop y.1 t) × Marks y.0) h.1 (run_cut Mark t p, run_made Mark (drop p t))

  marks_full : (ms rest : List ℕ) → Marks ms → (p : ℕ) → drop p t ≡ ms ++ (10 ∷ rest) → (q : ℕ) × (marks l t p ≡ Ok (ms, q)) × (drop q t ≡ 10 ∷ rest)
  marks_full ms rest all p d =
      let is : run Mark (drop p t) ≡ ms = ap (run Mark) d ∙ run_all Mark ms (10 ∷ rest) all refl in
      let after : drop (p + length (run Mark (drop p t))) t ≡ 10 ∷ rest = ap (λ m. drop (p + length m) t) is ∙ past t p ms _ d in
      (_, cond-false _ _ _ (and_right _ _ (ap (λ m. not (ltb 0 (line_end m))) after)) ∙ ap (λ m. Ok (m, p + length (run Mark (drop p t)))) is, after)

-- lots
module _ (k : ℕ) where
  abbrev item : List ℕ → Reading ℕ
  item _ = number_in 1 k NoSuchOfficeOrLane

  abbrev Office : ℕ → Type 0
  Office i = (1 ≤ i) × (i ≤ k)

  module _ (l : Layer) (t : List ℕ) where
    item_sound : (before : List ℕ) (p : ℕ) (x : ℕ × ℕ) → item before l t p ≡ Ok x → (drop p t ≡ decimal x.0 ++ drop x.1 t) × Office x.0
    item_sound before p x e =
        let h = number_sound (λ n. leb 1 n && leb n k) NoSuchOfficeOrLane l t p x e in
        let b = and_parts _ _ h.1 in
        (h.0, (leb-true _ _ b.0, leb-true _ _ b.1))

    item_full : k ≤ 64 → (before : List ℕ) (p i : ℕ) (rest : List ℕ) → drop p t ≡ decimal i ++ rest → run Digit rest ≡ [] → Office i → item before l t p ≡ Ok (i, p + length (decimal i))
    item_full few before p i rest e s a = number_full (λ n. leb 1 n && leb n k) NoSuchOfficeOrLane l t p i rest e s (omega (arith, a.1)) (and_from _ _ (le-leb _ _ a.0) (le-leb _ _ a.1))

    abbrev EachLot : List ℕ → List ℕ → Type 0
    EachLot = Each item (λ _. Office) l t

    each_tells : (is before : List ℕ) → EachLot before is → AllByRecursion Office is
    each_tells [] before a = tt
    each_tells (i ∷ is) before a = (a.0, each_tells is (before ++ i ∷ []) a.1)

    each_from : (is before : List ℕ) → AllByRecursion Office is → EachLot before is
    each_from [] before a = tt
    each_from (i ∷ is) before a = (a.0, each_from is (before ++ i ∷ []) a.1)

    lots_sound : (p : ℕ) (x : List ℕ × ℕ) → lots k l t p ≡ Ok x → (drop p t ≡ commas x.0 ++ drop x.1 t) × AllByRecursion Office x.0
    lots_sound p x e =
        let Good : List ℕ × ℕ → Type 0 = λ y. (drop p t ≡ commas y.0 ++ drop y.1 t) × AllByRecursion Office y.0 in
        ⊎_elim
        (λ b.
        let s : ([], p) ≡ x = ok_same (sym (cond-true _ _ _ b) ∙ e) in subst Good s (refl, tt))
        (λ b.
        let r = numbers_sound item (λ _. Office) l t item_sound (length t) p [] x (sym (cond-false _ _ _ b) ∙ e) in
        let s : (r.0, x.1) ≡ x = ap (λ m. (m, x.1)) (sym r.1.is) in
        subst Good s (r.1.text, each_tells r.0 [] r.1.each))
        (cases_Bool (ltb 0 (line_end (drop p t))))

    -- a list begins with a digit, and has a byte at least for each number
    no_end : (ds rest : List ℕ) → all_ascii_digits ds ≡ true → 0 < length ds → ltb 0 (line_end (ds ++ rest)) ≡ false
    no_end [] rest a h = absurd (omega arith)
    no_end (c ∷ cs) rest a h =
        let d : is_ascii_digit c ≡ true = (and_parts (is_ascii_digit c) (all_ascii_digits cs) a).0 in
        ap (ltb 0) (cond-false (eqb c 10) 1 0 (ne_eqb c 10 (λ z. grind (arith, nat_tests))))

    commas_begin : (i : ℕ) (is rest : List ℕ) → i ≤ 64 → ltb 0 (line_end (commas (i ∷ is) ++ rest)) ≡ false
    commas_begin i [] rest h = no_end (decimal i) rest (digits_decimal own i (omega arith)) (decimal_nonempty i (omega arith))
    commas_begin i (j ∷ is) rest h =
        ap (λ m. ltb 0 (line_end m)) (append_assoc (decimal i) (comma ++ commas (j ∷ is)) rest) ∙ no_end (decimal i) _ (digits_decimal own i (omega arith)) (decimal_nonempty i (omega arith))

    commas_long : (is : List ℕ) → k ≤ 64 → AllByRecursion Office is → length is ≤ length (commas is)
    commas_long [] few a = omega arith
    commas_long (i ∷ []) few a = omega (arith, decimal_nonempty i (omega (arith, a.0.1)))
    commas_long (i ∷ j ∷ is) few a =
        omega (arith, decimal_nonempty i (omega (arith, a.0.1)), commas_long (j ∷ is) few a.1, length-append (decimal i) (comma ++ commas (j ∷ is)))

    lots_full : k ≤ 64 → (is rest : List ℕ) → AllByRecursion Office is → (p : ℕ) → drop p t ≡ commas is ++ (10 ∷ rest) → (q : ℕ) × (lots k l t p ≡ Ok (is, q)) × (drop q t ≡ 10 ∷ rest)
    lots_full few [] rest a p d = (p, cond-true _ _ _ (ap (λ m. ltb 0 (line_end m)) d), d)
    lots_full few (i ∷ is) rest a p d =
        let none : ltb 0 (line_end (drop p t)) ≡ false = ap (λ m. ltb 0 (line_end m)) d ∙ commas_begin i is (10 ∷ rest) (omega (arith, a.0.1)) in
        let room : length (i ∷ is) ≤ length t + 1 = omega (arith, commas_long (i ∷ is) few a, ap length d, length-append (commas (i ∷ is)) (10 ∷ rest), length-drop p t) in
        let on = numbers_full item (λ _. Office) l t (item_full few) (i ∷ is) (length t) p [] rest d (omega arith) room (each_from (i ∷ is) [] a) in
        (on.0, cond-false _ _ _ none ∙ on.1, on.2)

-- the whole
pub day_sound : (k : ℕ) (t : List ℕ) (x : DayModel) → read_day k t ≡ Ok x → (t ≡ day_text x) × DayInRange k x
day_sound k t x e =
    let w = bind_inv (day k InDay t 0) _ x e in
    let m = bind_inv (line_of marks_key marks InDay t 0) _ w.0 w.1 in
    let o = bind_inv (line_of lots_key (lots k) InDay t m.0.1) _ w.0 m.2 in
    let z = bind_inv (end_text InDay t o.0.1) _ w.0 o.2 in
    let ms = line_sound (λ m. m) Marks marks_key marks InDay t (marks_sound InDay t) 0 m.0 m.1 in
    let os = line_sound commas (AllByRecursion (Office k)) lots_key (lots k) InDay t (lots_sound k InDay t) m.0.1 o.0 o.1 in
    let done = end_text_sound InDay t o.0.1 z.0 z.1 in
    let y : DayModel = record { marks = m.0.0; lots = o.0.0 } in
    let is : y ≡ x = ap (λ (v : DayModel × ℕ). v.0) (ok_same z.2) ∙ ok_same w.2 in
    subst (λ y. (t ≡ day_text y) × DayInRange k y) is
    (ms.0 ∙ ap (line marks_key m.0.0) (os.0 ∙ ap (line lots_key (commas o.0.0)) done), record { marks = ms.1; lots = os.1 })

pub day_full : (k : ℕ) → k ≤ 64 → (t : List ℕ) (x : DayModel) → t ≡ day_text x → DayInRange k x → read_day k t ≡ Ok x
day_full k few t x e h =
    let m = line_full (λ m. m) Marks marks_key marks InDay t x.marks _ (marks_full InDay t x.marks _ h.marks) 0 e in
    let o = line_full commas (AllByRecursion (Office k)) lots_key (lots k) InDay t x.lots [] (lots_full k InDay t few x.lots [] h.lots) m.0 m.2 in
    bind_on _ (bind_on _ m.1 (bind_on _ o.1 (bind_on _ (end_text_full InDay t o.0 o.2) refl))) refl
