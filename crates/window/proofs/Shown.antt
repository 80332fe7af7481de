-- From what the proofs work with to what a reader is told, and back. Assumes nothing.
use Rattle.std.proofs.Common.{◌≡◌, ℕ, zero, suc, ◌+◌, ◌-◌, ◌*◌, ◌/◌, ◌<◌, ◌≤◌, Bool, true, false, not, List, [], ◌∷◌, ◌++◌, map, length, get_or, take, sum_by, sym, refl, ap, ◌∙◌, subst, arith}
use lib.ListN.{length-map, get_or-map}
use Rattle.std.proofs.lemmas.List.{ext_get_or, length-take-le, get_or-take}
use Rattle.std.proofs.lemmas.List.Sums.{sum_by-cons}
use Rattle.std.proofs.lemmas.Bool.{cond-true, le-leb}
use Rattle.post.specs.Lanes.{Lane, lane, all_sent}
use Rattle.rules.specs.Rules.{Setting, divisor, Account, Office, State as Rules-state, no_account, no_office, opened, answer}
use Rattle.rules.specs.Runs.{Answer, Runs, Books as Books-shown, books, messages}
use Rattle.rules.proofs.Machine.{Sound, ended, answers, counts, run, lot}
use Rattle.rules.proofs.Fit.{Fit, none, more, own_at}
use Rattle.rules.proofs.Run.{good}
use Rattle.rules.proofs.Few.{few_messages}
use Rattle.rules.proofs.Settle.{runs_opened}
use Rattle.rules.proofs.Laws.{run_is}
use Rattle.rules.proofs.Step.{below, below_zero, below_same, below_first, total_below, fit_long}
use Rattle.window.specs.declared.setting_table.SettingTable.{SettingTable}
use Rattle.window.specs.declared.checked_books.CheckedBooks.{CheckedBooks}
use Rattle.window.specs.declared.books.OfficeRecord.{OfficeRecord}
use Rattle.window.specs.Parts.{step_in, office, slack, no_office as no_record}
use Rattle.window.specs.Turns.{State, at}
use Rattle.window.specs.Windows.{setting_in, shown, ReachedBy}
use Rattle.window.proofs.Held.{SameTerms, Held, Next}
use Rattle.window.proofs.Link.{sound}

-- the lanes two by two
two_by_two : (f : Lane → ℕ) (k : ℕ) (ls : List Lane) → length ls ≡ 2 * k → sum_by f ls ≡ below k (λ n. f (lane ls (2 * n))) + below k (λ n. f (lane ls (2 * n + 1)))
two_by_two f zero [] e = omega (arith, below_zero (λ n. f (lane [] (2 * n))), below_zero (λ n. f (lane [] (2 * n + 1))))
two_by_two f zero (x ∷ ls) e = absurd (omega arith)
two_by_two f (suc k) [] e = absurd (omega arith)
two_by_two f (suc k) (x ∷ []) e = absurd (omega arith)
two_by_two f (suc k) (x ∷ (y ∷ ls)) e =
    let up : (n : ℕ) → n < k → f (lane (x ∷ (y ∷ ls)) (2 * suc n)) ≡ f (lane ls (2 * n)) = λ n i. let z : 2 * suc n ≡ suc (suc (2 * n)) = omega arith in ap (λ m. f (lane (x ∷ (y ∷ ls)) m)) z in
    let down : (n : ℕ) → n < k → f (lane (x ∷ (y ∷ ls)) (2 * suc n + 1)) ≡ f (lane ls (2 * n + 1)) = λ n i. let z : 2 * suc n + 1 ≡ suc (suc (2 * n + 1)) = omega arith in ap (λ m. f (lane (x ∷ (y ∷ ls)) m)) z in
    omega (
      arith,
      sum_by-cons f x (y ∷ ls),
      sum_by-cons f y ls,
      two_by_two f k ls (omega arith),
      below_first k (λ n. f (lane (x ∷ (y ∷ ls)) (2 * n))),
      below_first k (λ n. f (lane (x ∷ (y ∷ ls)) (2 * n + 1))),
      below_same k (λ n. f (lane (x ∷ (y ∷ ls)) (2 * suc n))) (λ n. f (lane ls (2 * n))) up,
      below_same k (λ n. f (lane (x ∷ (y ∷ ls)) (2 * suc n + 1))) (λ n. f (lane ls (2 * n + 1))) down,
    )

lane_least : (ls : List Lane) (j : ℕ) → (lane ls j).sent ≤ all_sent ls
lane_least [] j = omega arith
lane_least (x ∷ ls) zero = omega (arith, sum_by-cons (λ (l : Lane). l.sent) x ls)
lane_least (x ∷ ls) (suc j) = omega (arith, sum_by-cons (λ (l : Lane). l.sent) x ls, lane_least ls j)

module _ (l : Setting) (h : List ℕ) (used : Bool) (s : State) (re : Held l h used s) where
  ok : Sound l
  ok = sound l s.books.setting re.setting

  long : length s.lanes ≡ 2 * l.offices
  long = re.even.empty.long ∙ ap (λ k. 2 * k) re.setting.offices

  size_accounts : length (ended l h).accounts ≡ l.offices
  size_accounts = let v = good l ok h in (fit_long l _ v.fit).0 ∙ v.size

  size_offices : length (ended l h).offices ≡ l.offices
  size_offices = let v = good l ok h in (fit_long l _ v.fit).1 ∙ v.size

  pub messages_same : all_sent s.lanes ≡ messages (ended l h)
  messages_same =
      let ups = total_below (λ (p : Account). p.up.sent) no_account (ended l h).accounts (λ n. (lane s.lanes (2 * n)).sent) (λ n i. sym (re.shows.ups n (omega (arith, size_accounts)))) in
      let downs = total_below (λ (o : Office). o.down.sent) no_office (ended l h).offices (λ n. (lane s.lanes (2 * n + 1)).sent) (λ n i. sym (re.shows.downs n (omega (arith, size_offices)))) in
      omega (arith, two_by_two (λ (l : Lane). l.sent) l.offices s.lanes long, ups, downs, ap (λ k. below k (λ n. (lane s.lanes (2 * n)).sent)) size_accounts, ap (λ k. below k (λ n. (lane s.lanes (2 * n + 1)).sent)) size_offices)

  pub lane_few : (j : ℕ) → (lane s.lanes j).sent ≤ 16384
  lane_few j = omega (arith, lane_least s.lanes j, messages_same, few_messages l ok h)

-- a window's own table makes its setting
divisor_in : (t : SettingTable) (j : ℕ) → 1 ≤ j → j ≤ t.steps → divisor (setting_in t) j ≡ slack t (j - 1) / slack t j
unfolding divisor
divisor_in t j low high =
    ap (λ x. x / (setting_in t).slack j) (cond-true _ _ _ (le-leb (j - 1) t.steps (omega arith)))
    ∙ ap (λ x. slack t (j - 1) / x) (cond-true _ _ _ (le-leb j t.steps high))

pub own_terms : (t : SettingTable) → SameTerms (setting_in t) t
own_terms t = record {
  offices = refl;
  steps = refl;
  slacks = λ j le. sym (cond-true _ _ _ (le-leb j t.steps le));
  divisors = divisor_in t;
}

-- no account and no office has anything on its lane between two lots
up_empty : (l : Setting) (j m : ℕ) {ps : List Account} {os : List Office} {ns : List ℕ} → Fit l j ps os ns → m < length ns → (get_or ps m no_account).up.waiting ≡ []
up_empty l j m none i = absurd (omega arith)
up_empty l j zero (more c q r u v n p b a f) i = refl
up_empty l j (suc m) (more c q r u v n p b a f) i = up_empty l j m f (omega arith)

down_empty : (l : Setting) (j m : ℕ) {ps : List Account} {os : List Office} {ns : List ℕ} → Fit l j ps os ns → m < length ns → (get_or os m no_office).down.waiting ≡ []
down_empty l j m none i = absurd (omega arith)
down_empty l j zero (more c q r u v n p b a f) i = refl
down_empty l j (suc m) (more c q r u v n p b a f) i = down_empty l j m f (omega arith)

lane_eq : (a b : Lane) → a.waiting ≡ [] → b.waiting ≡ [] → a.sent ≡ b.sent → a ≡ b
lane_eq a b p q r = λ i. record { waiting = (p ∙ sym q) i; sent = r i }

not_not : (a b : Bool) → a ≡ not b → not a ≡ b
not_not a true e = ap not e
not_not a false e = ap not e

-- the figures of the first k records
pub figure_at : (f : OfficeRecord → ℕ) → f no_record ≡ 0 → (table : List OfficeRecord) (k n : ℕ) → n < k → get_or (map f (take k table)) n 0 ≡ f (get_or table n no_record)
figure_at f zeroed table k n less =
    ap (get_or (map f (take k table)) n) (sym zeroed) ∙ (get_or-map f (take k table) n no_record ∙ ap f (get_or-take k table n no_record less))

pub figures : {X : Type 0} (f : OfficeRecord → ℕ) → f no_record ≡ 0 → (g : X → ℕ) (d : X) → g d ≡ 0 → (table : List OfficeRecord) (k : ℕ) (xs : List X) → k ≤ length table → length xs ≡ k
    → ((n : ℕ) → n < k → f (get_or table n no_record) ≡ g (get_or xs n d)) → map f (take k table) ≡ map g xs
figures f zeroed g d nil table k xs tall size same =
    let long : length (map f (take k table)) ≡ k = length-map (take k table) f ∙ length-take-le k table tall in
    ext_get_or 0 (map f (take k table)) (map g xs) (long ∙ sym (length-map xs g ∙ size))
    (λ n i. let less : n < k = omega arith in
    figure_at f zeroed table k n less ∙ (same n less ∙ (sym (get_or-map g xs n d) ∙ ap (get_or (map g xs) n) nil)))

-- what is held is what the rules give
module _ (l : Setting) (h : List ℕ) (used : Bool) (s : State) (re : Held l h used s) (is : setting_in s.books.setting ≡ l) where
  k_is : s.books.setting.offices ≡ l.offices
  k_is = re.setting.offices

  pub books_same : shown s ≡ books (ended l h)
  books_same =
      let e = re.shows in
      let tall : s.books.setting.offices ≤ length s.books.table = omega (arith, re.even.tall, s.books.setting.few) in
      let cs : (shown s).credits ≡ (books (ended l h)).credits = figures (λ o. o.credit) refl (λ (p : Account). p.credit) no_account refl s.books.table s.books.setting.offices (ended l h).accounts tall (size_accounts l h used s re ∙ sym k_is) (λ n i. e.credits n (omega (arith, k_is))) in
      let rs : (shown s).remainders ≡ (books (ended l h)).remainders = figures (λ o. o.remainder) refl (λ (o : Office). o.remainder) no_office refl s.books.table s.books.setting.offices (ended l h).offices tall (size_offices l h used s re ∙ sym k_is) (λ n i. e.remainders n (omega (arith, k_is))) in
      let open_is = not_not _ _ e.closed in
      let ms = messages_same l h used s re in
      λ i. record { step = e.step i; signals = e.signals i; is_open = open_is i; messages = ms i; credits = cs i; remainders = rs i }

  abbrev end : Rules-state
  end = ended l h

  fit_in : (n : ℕ) → n < s.books.setting.offices → n < length (counts l h)
  fit_in n less = omega (arith, (good l (ok l h used s re) h).size, k_is)

  pub to_reached : ReachedBy h (answers l (opened l) h) used s
  to_reached =
      let v = good l (ok l h used s re) h in
      record {
        unused = re.fresh;
        after = end;
        runs = subst (λ l'. Runs l' (opened l') h (answers l (opened l) h) end) (sym is) (runs_opened l (ok l h used s re) h);
        books = books_same;
        own_steps = λ i low high. re.even.level (i - 1) (omega arith) ∙ (re.shows.step ∙ sym (own_at l end.coordinator.step (i - 1) v.fit (fit_in (i - 1) (omega arith))));
        both_ways = re.even.empty.long;
        up = λ i low high.
            let m : 2 * i - 2 ≡ 2 * (i - 1) = omega arith in
            ap (lane s.lanes) m ∙ lane_eq _ _ (re.even.empty.up (i - 1) (omega arith)) (up_empty l _ (i - 1) v.fit (fit_in (i - 1) (omega arith))) (re.shows.ups (i - 1) (omega (arith, k_is)));
        down = λ i low high.
            let m : 2 * i - 1 ≡ 2 * (i - 1) + 1 = omega arith in
            ap (lane s.lanes) m ∙ lane_eq _ _ (re.even.empty.down (i - 1) (omega arith)) (down_empty l _ (i - 1) v.fit (fit_in (i - 1) (omega arith))) (re.shows.downs (i - 1) (omega (arith, k_is)));
      }

-- and back, of books whose table is whole
module _ (d : CheckedBooks) (ls : List Lane) (used : Bool) (lots : List ℕ) (rs : List Answer) (re : ReachedBy lots rs used (at d.books ls)) where
  abbrev t : SettingTable
  t = d.books.setting

  abbrev l₀ : Setting
  l₀ = setting_in t

  ok₀ : Sound l₀
  ok₀ = sound l₀ t (own_terms t)

  is_run : (answers l₀ (opened l₀) lots ≡ rs) × (ended l₀ lots ≡ re.after)
  is_run = run_is l₀ ok₀ lots rs re.after re.runs

  pub answers_are : answers l₀ (opened l₀) lots ≡ rs
  answers_are = is_run.0

  abbrev end₀ : Rules-state
  end₀ = ended l₀ lots

  books_are : shown (at d.books ls) ≡ books end₀
  books_are = re.books ∙ ap books (sym is_run.1)

  in_run : (n : ℕ) → n < t.offices → n < length (counts l₀ lots)
  in_run n less = omega (arith, (good l₀ ok₀ lots).size)

  whole : (f : OfficeRecord → ℕ) → f no_record ≡ 0 → {X : Type 0} (g : X → ℕ) (x : X) → g x ≡ 0 → (xs : List X) → map f (take t.offices d.books.table) ≡ map g xs → (n : ℕ) → n < t.offices → f (office d.books n) ≡ g (get_or xs n x)
  whole f zeroed g x nil xs same n less =
      sym (figure_at f zeroed d.books.table t.offices n less) ∙ (ap (λ ys. get_or ys n 0) same ∙ (ap (get_or (map g xs) n) (sym nil) ∙ get_or-map g xs n x))

  up_is : (n : ℕ) → n < t.offices → lane ls (2 * n) ≡ (get_or end₀.accounts n no_account).up
  up_is n less =
      let i : 2 * (n + 1) - 2 ≡ 2 * n = omega arith in
      let m : n + 1 - 1 ≡ n = omega arith in
      ap (lane ls) (sym i) ∙ (re.up (n + 1) (omega arith) (omega arith) ∙ (ap (λ m. (get_or re.after.accounts m no_account).up) m ∙ ap (λ (r : Rules-state). (get_or r.accounts n no_account).up) (sym is_run.1)))

  down_is : (n : ℕ) → n < t.offices → lane ls (2 * n + 1) ≡ (get_or end₀.offices n no_office).down
  down_is n less =
      let i : 2 * (n + 1) - 1 ≡ 2 * n + 1 = omega arith in
      let m : n + 1 - 1 ≡ n = omega arith in
      ap (lane ls) (sym i) ∙ (re.down (n + 1) (omega arith) (omega arith) ∙ (ap (λ m. (get_or re.after.offices m no_office).down) m ∙ ap (λ (r : Rules-state). (get_or r.offices n no_office).down) (sym is_run.1)))

  own_is : (n : ℕ) → n < t.offices → (office d.books n).step ≡ (get_or end₀.offices n no_office).own_step
  own_is n less =
      let m : n + 1 - 1 ≡ n = omega arith in
      ap (λ m. (office d.books m).step) (sym m) ∙ (re.own_steps (n + 1) (omega arith) (omega arith) ∙ (ap (λ m. (get_or re.after.offices m no_office).own_step) m ∙ ap (λ (r : Rules-state). (get_or r.offices n no_office).own_step) (sym is_run.1)))

  step_is : step_in d.books.coordinator.phase ≡ end₀.coordinator.step
  step_is = ap (λ (b : Books-shown). b.step) books_are

  pub to_held : Held l₀ lots used (at d.books ls)
  to_held =
      let v = good l₀ ok₀ lots in
      record {
        fresh = re.unused;
        setting = own_terms t;
        even = record {
          empty = record {
            long = re.both_ways;
            up = λ n i. ap (λ (a : Lane). a.waiting) (up_is n i) ∙ up_empty l₀ _ n v.fit (in_run n i);
            down = λ n i. ap (λ (a : Lane). a.waiting) (down_is n i) ∙ down_empty l₀ _ n v.fit (in_run n i);
          };
          tall = d.tall;
          level = λ n i. own_is n i ∙ (own_at l₀ end₀.coordinator.step n v.fit (in_run n i) ∙ sym step_is);
        };
        shows = record {
          step = step_is;
          signals = ap (λ (b : Books-shown). b.signals) books_are;
          closed = sym (not_not _ _ (sym (ap (λ (b : Books-shown). b.is_open) books_are)));
          credits = whole (λ o. o.credit) refl (λ (p : Account). p.credit) no_account refl end₀.accounts (ap (λ (b : Books-shown). b.credits) books_are);
          remainders = whole (λ o. o.remainder) refl (λ (o : Office). o.remainder) no_office refl end₀.offices (ap (λ (b : Books-shown). b.remainders) books_are);
          ups = λ n i. ap (λ (a : Lane). a.sent) (up_is n i);
          downs = λ n i. ap (λ (a : Lane). a.sent) (down_is n i);
        };
      }

-- one lot more
answers_more : (l : Setting) (s : Rules-state) (h : List ℕ) (n : ℕ) → answers l s (h ++ (n ∷ [])) ≡ answers l s h ++ (answer l (run l s h) n ∷ [])
answers_more l s [] n = refl
answers_more l s (x ∷ h) n = ap (λ xs. answer l s x ∷ xs) (answers_more l (lot l s x) h n)

pub next_reached : (d : CheckedBooks) (ls : List Lane) (used : Bool) (lots : List ℕ) (rs : List Answer) → ReachedBy lots rs used (at d.books ls)
    → (n : ℕ) (v : State) (r : Answer) → v.books.setting ≡ d.books.setting → Next (setting_in d.books.setting) lots n used v r → ReachedBy (lots ++ (n ∷ [])) (rs ++ (r ∷ [])) used v
next_reached d ls used lots rs re n v r same next =
    let l = setting_in d.books.setting in
    let is : setting_in v.books.setting ≡ l = ap setting_in same in
    let e : answers l (opened l) (lots ++ (n ∷ [])) ≡ rs ++ (r ∷ []) =
    answers_more l (opened l) lots n ∙ (ap (λ xs. xs ++ (answer l (ended l lots) n ∷ [])) (answers_are d ls used lots rs re) ∙ ap (λ a. rs ++ (a ∷ [])) (sym next.answer)) in
    subst (λ as'. ReachedBy (lots ++ (n ∷ [])) as' used v) e (to_reached l (lots ++ (n ∷ [])) used v next.reached is)
