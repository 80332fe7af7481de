-- What a call that answers an error does to what it was asked to change. Assumes nothing.
use Rattle.std.specs.Prelude.{◌≡◌, true, is_err, Result}

-- nothing at all
abbrev pub UnchangedIfErr : {A E S : Type 0} → Result A E → (before after : S) → Type 0
UnchangedIfErr result before after = is_err result ≡ true → after ≡ before
