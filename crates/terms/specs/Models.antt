-- What terms say, as plain mathematical values, and how the code's values stand for them. Assumes nothing.
use Rattle.std.specs.Prelude.{ℕ, List, vec_items}
use Rattle.terms.specs.declared.model.LadderChoice.{LadderChoice}
use Rattle.terms.specs.declared.model.LadderChoice.TheVariants.{Halving, Listed}
use Rattle.terms.specs.declared.model.PostChoice.{PostChoice}
use Rattle.terms.specs.declared.model.Terms.{Terms}

-- a number of steps, or the divisors, the first for step 1
pub data LadderModel : Type 0 where
  halving : ℕ → LadderModel
  listed : List ℕ → LadderModel

pub record TermsModel : Type 0 where
  pub offices : ℕ
  pub grain : ℕ
  pub ladder : LadderModel
  pub post : PostChoice

abbrev pub ladder_model : LadderChoice → LadderModel
ladder_model (Halving e) = halving e
ladder_model (Listed ds) = listed (vec_items ds)

abbrev pub terms_model : Terms → TermsModel
terms_model x = record { offices = x.offices; grain = x.grain; ladder = ladder_model x.ladder; post = x.post }
