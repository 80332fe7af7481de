use Rattle.window.proofs.Sound.{sound_opened}
use Rattle.window.proofs.opening.open_books.Goals as goal

pub invariant_of-result : goal.invariant_of-result
invariant_of-result c =
    sound_opened c.args.setting
