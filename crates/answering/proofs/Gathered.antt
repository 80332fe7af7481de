-- What the offices of a window answer. Assumes nothing.
use Rattle.std.proofs.Common.{◌≡◌, ℕ, zero, suc, ◌-◌, ◌≤◌, Bool, true, false, ◌||◌, List, [], ◌∷◌, ◌++◌, map, length, slice_index, take, Ok, sym, ◌∙◌, arith}
use lib.ListN.{length-map}
use Rattle.std.proofs.Math.Seq.{take-suc}
use Rattle.std.proofs.lemmas.List.{length-take-le}
use Rattle.std.proofs.lemmas.Bool.{ne_eqb, le-ltb, cond-false}
use Rattle.window.specs.declared.books.Books.{Books}
use Rattle.window.specs.declared.books.OfficeRecord.{OfficeRecord}
use Rattle.window.specs.declared.checked_books.CheckedBooks.{CheckedBooks}
use Rattle.window.specs.Windows.{asked}

neither : (a b : Bool) → a ≡ false → b ≡ false → (a || b) ≡ false
neither true b e f = e
neither false b e f = f

-- an office of the window is answered with its number of a list
pub answered : (b : Books) (xs : List ℕ) (n : ℕ) → 1 ≤ n → n ≤ b.setting.offices → asked n b (slice_index xs (n - 1)) ≡ Ok (slice_index xs (n - 1))
answered b xs n some le = cond-false _ _ _ (neither _ _ (ne_eqb n 0 (λ e. omega arith)) (le-ltb b.setting.offices n le))

-- the numbers up to office n, the last of them put at the end
pub with_last : (n : ℕ) (xs : List ℕ) → 1 ≤ n → n ≤ length xs → take (n - 1) xs ++ slice_index xs (n - 1) ∷ [] ≡ take n xs
with_last zero xs some le = absurd (omega arith)
with_last (suc n) xs some le = let e : suc n - 1 ≡ n = omega arith in rw e (sym (take-suc xs n 0 (omega arith)))

pub column_long : (d : CheckedBooks) (f : OfficeRecord → ℕ) → length (map f (take d.books.setting.offices d.books.table)) ≡ d.books.setting.offices
column_long d f = length-map (take d.books.setting.offices d.books.table) f ∙ length-take-le d.books.setting.offices d.books.table (omega (arith, d.tall, d.books.setting.few))
