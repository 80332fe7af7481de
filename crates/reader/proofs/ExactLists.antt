-- Numbers with commas between are read exactly where they are written.
use Rattle.std.proofs.Common.{◌≡◌, ℕ, zero, suc, ◌+◌, ◌<◌, ◌≤◌, List, [], ◌∷◌, ◌++◌, length, take, drop, Ok, decimal, sym, refl, ap, ◌∙◌, ⊎_elim, append_assoc, arith}
use Rattle.std.specs.Str.{bytes_eq}
use Rattle.std.proofs.lemmas.Bool.{cond-true, cond-false, cases_Bool}
use Rattle.fault.specs.declared.Layer.{Layer}
use Rattle.reader.specs.declared.byte_kind.ByteKind.TheVariants.{Digit}
use Rattle.reader.specs.Bytes.{run}
use Rattle.reader.specs.Readings.{Reading, begins_at}
use Rattle.reader.proofs.Exact.{bind_inv, ok_same, cond_inv_not, past, begins_sound, begins_full}
use Rattle.reader.specs.Words.{comma}
use Rattle.reader.specs.Lists.{numbers, commas}
use Rattle.reader.proofs.Numbers.{numbers_next, numbers_done}

pub commas_more : (d : ℕ) (ds : List ℕ) → 0 < length ds → commas (d ∷ ds) ≡ decimal d ++ (comma ++ commas ds)
commas_more d [] h = absurd (omega arith)
commas_more d (e ∷ ds) h = refl

-- Allowed before d says of a number d that item accepts it after those of before
module _ (item : List ℕ → Reading ℕ) (Allowed : List ℕ → ℕ → Type 0) (l : Layer) (t : List ℕ) where
  -- of each number in turn
  abbrev pub Each : List ℕ → List ℕ → Type 0
  Each before [] = Unit {0}
  Each before (d ∷ ds) = Allowed before d × Each (before ++ d ∷ []) ds

  -- the numbers ds, read at p after those of before
  pub record Reads (n p : ℕ) (before : List ℕ) (x : List ℕ × ℕ) (ds : List ℕ) : Type 0 where
    pub is : x.0 ≡ before ++ ds
    pub text : drop p t ≡ commas ds ++ drop x.1 t
    pub some : 1 ≤ length ds
    pub few : length ds ≤ n + 1
    pub each : Each before ds

  module _ (item_sound : (before : List ℕ) (p : ℕ) (x : ℕ × ℕ) → item before l t p ≡ Ok x → (drop p t ≡ decimal x.0 ++ drop x.1 t) × Allowed before x.0) where
    last : (n p : ℕ) (before : List ℕ) (x : List ℕ × ℕ) (y : ℕ × ℕ) → item before l t p ≡ Ok y → (before ++ y.0 ∷ [], y.1) ≡ x → Reads n p before x (y.0 ∷ [])
    last n p before x y e s =
        let h = item_sound before p y e in
        record {
          is = ap (λ (z : List ℕ × ℕ). z.0) (sym s);
          text = h.0 ∙ ap (λ (z : List ℕ × ℕ). decimal y.0 ++ drop z.1 t) s;
          some = omega arith;
          few = omega arith;
          each = (h.1, tt);
        }

    pub numbers_sound : (n p : ℕ) (before : List ℕ) (x : List ℕ × ℕ) → numbers n item before l t p ≡ Ok x → (ds : List ℕ) × Reads n p before x ds
    unfolding numbers
    numbers_sound zero p before x e =
        let a = bind_inv (item before l t p) _ x e in
        (_, last zero p before x a.0 a.1 (cond_inv_not _ _ _ _ a.2).1)
    numbers_sound (suc n) p before x e =
        let a = bind_inv (item before l t p) _ x e in
        let d = a.0.0 in
        ⊎_elim
        (λ b.
        let r = numbers_sound n (a.0.1 + 1) (before ++ d ∷ []) x (sym (cond-true _ _ _ b) ∙ a.2) in
        let h = item_sound before p a.0 a.1 in
        let ds = r.0 in (
          d ∷ ds,
          record {
            is = r.1.is ∙ append_assoc before (d ∷ []) ds;
            text = h.0 ∙ ap (λ m. decimal d ++ m) (begins_sound t a.0.1 comma b ∙ ap (λ m. comma ++ m) r.1.text) ∙ sym (append_assoc (decimal d) (comma ++ commas ds) _) ∙ ap (λ m. m ++ drop x.1 t) (sym (commas_more d ds r.1.some));
            some = omega arith;
            few = omega (arith, r.1.few);
            each = (h.1, r.1.each);
          },
        ))
        (λ b. (_, last (suc n) p before x a.0 a.1 (ok_same (sym (cond-false _ _ _ b) ∙ a.2))))
        (cases_Bool (begins_at t a.0.1 comma))

  module _ (item_full : (before : List ℕ) (p d : ℕ) (rest : List ℕ) → drop p t ≡ decimal d ++ rest → run Digit rest ≡ [] → Allowed before d → item before l t p ≡ Ok (d, p + length (decimal d))) where
    pub numbers_full : (ds : List ℕ) (n p : ℕ) (before rest : List ℕ) → drop p t ≡ commas ds ++ (10 ∷ rest) → 1 ≤ length ds → length ds ≤ n + 1 → Each before ds → (q : ℕ) × (numbers n item before l t p ≡ Ok (before ++ ds, q)) × (drop q t ≡ 10 ∷ rest)
    numbers_full [] n p before rest e some few each = absurd (omega arith)
    numbers_full (d ∷ []) n p before rest e some few each =
        let r = past t p (decimal d) _ e in
        (_, numbers_done item before l t p d _ (item_full before p d _ e refl each.0) n (ap (λ m. bytes_eq comma (take 1 m)) r), r)
    numbers_full (d ∷ f ∷ ds) zero p before rest e some few each = absurd (omega arith)
    numbers_full (d ∷ f ∷ ds) (suc n) p before rest e some few each =
        let e' = e ∙ append_assoc (decimal d) (comma ++ commas (f ∷ ds)) (10 ∷ rest) in
        let r = past t p (decimal d) _ e' in
        let on = numbers_full (f ∷ ds) n _ (before ++ d ∷ []) rest (past t _ comma _ r) (omega arith) (omega arith) each.1 in
        (on.0, numbers_next item before l t p d _ (item_full before p d _ e' refl each.0) n (begins_full t _ comma _ r) ∙ on.1 ∙ ap (λ m. Ok (m, on.0)) (append_assoc before (d ∷ []) (f ∷ ds)), on.2)
