-- What is read is what is written, for each reading: one way `-sound`, the other `-full`.
use Rattle.std.proofs.Common.{◌≡◌, ℕ, suc, ◌+◌, ◌<◌, ◌≤◌, Bool, true, false, cond, eqb, ltb, List, [], ◌∷◌, ◌++◌, length, get_or, take, drop, Ok, Err, decimal, Result, sym, refl, ap, ◌∙◌, subst, ⊎_elim, arith, length-drop}
use Rattle.std.specs.Char.{is_ascii_digit}
use Rattle.std.specs.List.{prefix_len, AllByRecursion as All}
use Rattle.std.specs.Str.{all_ascii_digits}
use Rattle.std.proofs.lemmas.Fmt.{decimal_digit, decimal-digits_value, decimal_nonempty, first_decimal, length-decimal-le, digits_decimal, digits_value-decimal}
use Rattle.std.proofs.lemmas.Slice.Eq.{bytes_eq-Decides}
use Rattle.std.proofs.lemmas.List.{drop_at, drop_all, drop-drop, take_at, take-append-drop, length-take-le}
use Rattle.std.proofs.lemmas.Str.Parse.{digits_value_short}
use Rattle.std.proofs.lemmas.List.Sums.{prefix_len-le-length}
use Rattle.std.proofs.lemmas.Bool.{cond-true, cond-false, cases_Bool, eqb-true, false≢true, and_parts, cases_eq, ltb-false, le-ltb}
use Rattle.std.proofs.lemmas.Bool.Decides.{nat_tests}
use Rattle.fault.specs.declared.Fault.{Fault}
use Rattle.fault.specs.declared.Layer.{Layer}
use Rattle.fault.specs.declared.Refusal.{Refusal}
use Rattle.reader.specs.declared.byte_kind.ByteKind.{ByteKind}
use Rattle.reader.specs.declared.byte_kind.ByteKind.TheVariants.{Digit}
use Rattle.reader.specs.Bytes.{of_kind, run, line_end}
use Rattle.reader.specs.Readings.{Reading, bind, begins_at, expect, end_line, end_text, digits_value, is_numeral, number_of, digits_at, number_here, number_if, line_of}
use Rattle.reader.proofs.Scan.{own, all_digits}

-- the steps of a reading that came to its end
pub bind_inv : {X Y : Type 0} (m : Result X Fault) (k : X → Result Y Fault) (y : Y) → bind m k ≡ Ok y → (x : X) × (m ≡ Ok x) × (k x ≡ Ok y)
bind_inv (Ok x) k y e = (x, refl, e)
bind_inv (Err f) k y e = let z : ◌≡◌ {A = ℕ} 0 1 = cc in absurd (omega arith)

pub bind_on : {X Y : Type 0} {m : Result X Fault} {x : X} {r : Result Y Fault} (k : X → Result Y Fault) → m ≡ Ok x → k x ≡ r → bind m k ≡ r
bind_on k e f = rw e f

pub bind_stop : {X Y : Type 0} {m : Result X Fault} {f : Fault} (k : X → Result Y Fault) → m ≡ Err f → bind m k ≡ Err f
bind_stop k e = rw e

pub ok_same : {X : Type 0} {x y : X} → ◌≡◌ {A = Result X Fault} (Ok x) (Ok y) → x ≡ y
ok_same e = cc

pub cond_inv : {X : Type 0} (b : Bool) (x y : X) (f : Fault) → cond b (Ok x) (Err f) ≡ Ok y → (b ≡ true) × (x ≡ y)
cond_inv true x y f e = (refl, cc)
cond_inv false x y f e = let z : ◌≡◌ {A = ℕ} 0 1 = cc in absurd (omega arith)

pub cond_inv_not : {X : Type 0} (b : Bool) (x y : X) (f : Fault) → cond b (Err f) (Ok x) ≡ Ok y → (b ≡ false) × (x ≡ y)
cond_inv_not true x y f e = let z : ◌≡◌ {A = ℕ} 0 1 = cc in absurd (omega arith)
cond_inv_not false x y f e = (refl, cc)

-- past a part of the text
pub past : (t : List ℕ) (p : ℕ) (s rest : List ℕ) → drop p t ≡ s ++ rest → drop (p + length s) t ≡ rest
past t p s rest e = sym (drop-drop (length s) p t) ∙ ap (drop (length s)) e ∙ drop_at s rest _ refl

-- a word
pub begins_sound : (t : List ℕ) (p : ℕ) (w : List ℕ) → begins_at t p w ≡ true → drop p t ≡ w ++ drop (p + length w) t
begins_sound t p w b =
    let e : w ≡ take (length w) (drop p t) = (bytes_eq-Decides _ _).0 b in
    sym (take-append-drop (length w) (drop p t)) ∙ ap (λ l. l ++ drop (length w) (drop p t)) (sym e) ∙ ap (λ l. w ++ l) (drop-drop (length w) p t)

pub begins_full : (t : List ℕ) (p : ℕ) (w rest : List ℕ) → drop p t ≡ w ++ rest → begins_at t p w ≡ true
begins_full t p w rest e = (bytes_eq-Decides _ _).1 (sym (ap (take (length w)) e ∙ take_at w rest _ refl))

module _ (l : Layer) (t : List ℕ) (p : ℕ) where
  pub expect_sound : (w : List ℕ) (x : Unit {0} × ℕ) → expect w l t p ≡ Ok x → drop p t ≡ w ++ drop x.1 t
  expect_sound w x e = let h = cond_inv _ _ _ _ e in begins_sound t p w h.0 ∙ ap (λ (y : Unit {0} × ℕ). w ++ drop y.1 t) h.1

  pub expect_full : (w rest : List ℕ) → drop p t ≡ w ++ rest → expect w l t p ≡ Ok (tt, p + length w)
  expect_full w rest e = cond-true _ _ _ (begins_full t p w rest e)

-- a line end
feed : (r : List ℕ) → ltb 0 (line_end r) ≡ true → (r ≡ 10 ∷ drop 1 r) × (line_end r ≡ 1)
feed [] b = let z : ◌≡◌ {A = ℕ} 0 1 = cc in absurd (omega arith)
feed (c ∷ cs) b =
    ⊎_elim
    (λ e. (ap (λ x. x ∷ cs) (eqb-true c 10 e), cond-true _ _ _ e))
    (λ e. let z : false ≡ true = sym (ap (ltb 0) (cond-false (eqb c 10) 1 0 e)) ∙ b in absurd (false≢true z))
    (cases_Bool (eqb c 10))

module _ (l : Layer) (t : List ℕ) (p : ℕ) where
  pub end_line_sound : (x : Unit {0} × ℕ) → end_line l t p ≡ Ok x → drop p t ≡ 10 ∷ drop x.1 t
  end_line_sound x e =
      let h = cond_inv _ _ _ _ e in
      let f = feed (drop p t) h.0 in
      f.0 ∙ ap (λ r. 10 ∷ r) (drop-drop 1 p t) ∙ ap (λ n. 10 ∷ drop (p + n) t) (sym f.1) ∙ ap (λ (y : Unit {0} × ℕ). 10 ∷ drop y.1 t) h.1

  pub end_line_full : (rest : List ℕ) → drop p t ≡ 10 ∷ rest → end_line l t p ≡ Ok (tt, p + 1)
  end_line_full rest e = simp e

-- a run of bytes of one kind
front : (b : Bool) (c : ℕ) (cs ds : List ℕ) (n : ℕ) → take n cs ≡ ds → take (cond b (1 + n) 0) (c ∷ cs) ≡ cond b (c ∷ ds) []
front true c cs ds n e = let s : 1 + n ≡ suc n = omega arith in rw s (ap (λ l. c ∷ l) e)
front false c cs ds n e = refl

module _ (k : ByteKind) where
  pub run_cut : (t : List ℕ) (p : ℕ) → drop p t ≡ run k (drop p t) ++ drop (p + length (run k (drop p t))) t
  run_cut t p =
      let long : length (run k (drop p t)) ≡ prefix_len (of_kind k) (drop p t) = length-take-le _ (drop p t) (prefix_len-le-length (of_kind k) (drop p t)) in
      sym (take-append-drop (prefix_len (of_kind k) (drop p t)) (drop p t)) ∙ ap (λ m. run k (drop p t) ++ drop m (drop p t)) (sym long) ∙ ap (λ m. run k (drop p t) ++ m) (drop-drop (length (run k (drop p t))) p t)

  all_front : (b : Bool) (c : ℕ) (ds : List ℕ) → of_kind k c ≡ b → All (λ c. of_kind k c ≡ true) ds → All (λ c. of_kind k c ≡ true) (cond b (c ∷ ds) [])
  all_front true c ds e a = (e, a)
  all_front false c ds e a = tt

  pub run_made : (xs : List ℕ) → All (λ c. of_kind k c ≡ true) (run k xs)
  run_made [] = tt
  run_made (c ∷ cs) = subst (All (λ c. of_kind k c ≡ true)) (sym (front (of_kind k c) c cs (run k cs) (prefix_len (of_kind k) cs) refl)) (all_front (of_kind k c) c (run k cs) refl (run_made cs))

  -- with no such byte after it
  pub run_all : (ds rest : List ℕ) → All (λ c. of_kind k c ≡ true) ds → run k rest ≡ [] → run k (ds ++ rest) ≡ ds
  run_all [] rest a s = s
  run_all (c ∷ cs) rest a s = front (of_kind k c) c (cs ++ rest) cs (prefix_len (of_kind k) (cs ++ rest)) (run_all cs rest a.1 s) ∙ cond-true _ _ _ a.0

each_digit : (ds : List ℕ) → all_ascii_digits ds ≡ true → All (λ c. is_ascii_digit c ≡ true) ds
each_digit [] a = tt
each_digit (c ∷ cs) a = let h = and_parts (is_ascii_digit c) (all_ascii_digits cs) a in (h.0, each_digit cs h.1)

record Numeral (ds : List ℕ) : Type 0 where
  some : 0 < length ds
  few : length ds ≤ 8
  lead : get_or ds 0 0 ≡ 48 → length ds ≡ 1

numeral_tells : (ds : List ℕ) → is_numeral ds ≡ true → Numeral ds
numeral_tells ds e = record { some = grind (arith, nat_tests); few = grind (arith, nat_tests); lead = λ z. grind (arith, nat_tests) }

numeral_from : (ds : List ℕ) → Numeral ds → is_numeral ds ≡ true
numeral_from ds h = let a = h.some in let b = h.few in let f = h.lead in grind (arith, nat_tests)

decimal_numeral : (v : ℕ) → v < 100000000 → Numeral (decimal v)
decimal_numeral v lt = record {
  some = decimal_nonempty v (omega arith);
  few = length-decimal-le 8 v (omega arith) lt (omega arith);
  lead = λ z. ⊎_elim (λ e. ap (λ n. length (decimal n)) e ∙ ap length (decimal_digit 0 (omega arith))) (λ ne. absurd (omega (arith, z, first_decimal v (omega arith) (omega arith)))) (cases_eq v 0);
}

-- a number that passes a test
module _ (allowed : ℕ → Bool) (refusal : Refusal) (l : Layer) (t : List ℕ) where
  pub number_sound : (p : ℕ) (x : ℕ × ℕ) → number_if allowed refusal l t p ≡ Ok x → (drop p t ≡ decimal x.0 ++ drop x.1 t) × (allowed x.0 ≡ true)
  number_sound p x e =
      let ds = digits_at t p in
      let a = bind_inv (number_here l t p) _ x e in
      let h = cond_inv _ _ _ _ a.1 in
      let n = numeral_tells ds h.0 in
      let all = all_digits (drop p t) in
      let small = digits_value_short own ds 8 all n.few in
      let is : decimal (digits_value 0 ds) ≡ ds = decimal-digits_value own ds all n.some n.lead (omega arith) in
      let k = cond_inv _ _ _ _ a.2 in
      subst (λ (y : ℕ × ℕ). (drop p t ≡ decimal y.0 ++ drop y.1 t) × (allowed y.0 ≡ true)) k.1
      (run_cut Digit t p ∙ ap (λ m. m ++ drop (p + length ds) t) (sym is ∙ ap decimal h.1), k.0)

  pub number_full : (p v : ℕ) (rest : List ℕ) → drop p t ≡ decimal v ++ rest → run Digit rest ≡ [] → v < 100000000 → allowed v ≡ true → number_if allowed refusal l t p ≡ Ok (v, p + length (decimal v))
  number_full p v rest e s lt ok =
      let is : digits_at t p ≡ decimal v = ap (run Digit) e ∙ run_all Digit (decimal v) rest (each_digit (decimal v) (digits_decimal own v (omega arith))) s in
      let here : number_here l t p ≡ Ok v = ap (number_of l p) is ∙ cond-true _ _ _ (numeral_from (decimal v) (decimal_numeral v lt)) ∙ ap (λ n. Ok n) (digits_value-decimal own v (omega arith)) in
      bind_on _ here (cond-true _ _ _ ok ∙ ap (λ ds. Ok (v, p + length ds)) is)

-- a line: where body reads W exactly, the line is read exactly
module _ {X : Type 0} (W : X → List ℕ) (R : X → Type 0) (key : List ℕ) (body : Reading X) (l : Layer) (t : List ℕ) where
  pub line_sound : ((q : ℕ) (x : X × ℕ) → body l t q ≡ Ok x → (drop q t ≡ W x.0 ++ drop x.1 t) × R x.0) → (p : ℕ) (x : X × ℕ) → line_of key body l t p ≡ Ok x → (drop p t ≡ key ++ (W x.0 ++ (10 ∷ drop x.1 t))) × R x.0
  line_sound each p x e =
      let a = bind_inv (expect key l t p) _ x e in
      let b = bind_inv (body l t a.0.1) _ x a.2 in
      let c = bind_inv (end_line l t b.0.1) _ x b.2 in
      let s : (b.0.0, c.0.1) ≡ x = ok_same c.2 in
      let r = each a.0.1 b.0 b.1 in
      subst (λ (y : X × ℕ). (drop p t ≡ key ++ (W y.0 ++ (10 ∷ drop y.1 t))) × R y.0) s
      (expect_sound l t p key a.0 a.1 ∙ ap (λ m. key ++ m) (r.0 ∙ ap (λ m. W b.0.0 ++ m) (end_line_sound l t _ c.0 c.1)), r.1)

  pub line_full : (v : X) (rest : List ℕ) → ((q : ℕ) → drop q t ≡ W v ++ (10 ∷ rest) → (z : ℕ) × (body l t q ≡ Ok (v, z)) × (drop z t ≡ 10 ∷ rest)) → (p : ℕ) → drop p t ≡ key ++ (W v ++ (10 ∷ rest)) → (q : ℕ) × (line_of key body l t p ≡ Ok (v, q)) × (drop q t ≡ rest)
  line_full v rest each p d =
      let on = each _ (past t p key _ d) in
      (_, bind_on _ (expect_full l t p key _ d) (bind_on _ on.1 (bind_on _ (end_line_full l t _ rest on.2) refl)), past t _ (10 ∷ []) rest on.2)

-- the end of the text
pub end_text_sound : (l : Layer) (t : List ℕ) (p : ℕ) (x : Unit {0} × ℕ) → end_text l t p ≡ Ok x → drop p t ≡ []
end_text_sound l t p x e = drop_all p t (ltb-false _ _ (cond_inv_not _ _ _ _ e).0)

pub end_text_full : (l : Layer) (t : List ℕ) (p : ℕ) → drop p t ≡ [] → end_text l t p ≡ Ok (tt, p)
end_text_full l t p e = cond-false _ _ _ (le-ltb p (length t) (omega (arith, length-drop p t, ap length e)))
