-- A reader that only moved: its text and layer are those that it had.
use Rattle.std.proofs.Common.{◌≡◌, ℕ, List, ap, ◌∙◌, Bor}
use Rattle.fault.specs.declared.Layer.{Layer}
use Rattle.reader.specs.declared.Reader.{Reader}
use Rattle.reader.specs.Readings.{Reading, begins_at}
use Rattle.reader.specs.Readers.{text_of, from, SameText}

pub same_trans : {a b c : Reader} → SameText a b → SameText b c → SameText a c
same_trans p q = record { text = q.text ∙ p.text; layer = q.layer ∙ p.layer }

-- a reading from where the second reader stands, over the first one's text
pub same_from : {X : Type 0} (reading : Reading X) {a b : Reader} → SameText a b → from reading b ≡ reading a.layer (text_of a) b.place
same_from reading {a} {b} s = λ i. reading (s.layer i) (s.text i).now b.place

pub same_begins : (word : List ℕ) {a b : Reader} → SameText a b → begins_at (text_of b) b.place word ≡ begins_at (text_of a) b.place word
same_begins word {a} {b} s = ap (λ t. begins_at t.now b.place word) s.text

-- a reading from a reader just made
pub from_new : {X : Type 0} (reading : Reading X) (r : Reader) {l : Layer} {t : Bor (List ℕ)} → r.layer ≡ l → r.text ≡ t → r.place ≡ 0 → from reading r ≡ reading l t.now 0
from_new reading r a b c = λ i. reading (a i) (b i).now (c i)
