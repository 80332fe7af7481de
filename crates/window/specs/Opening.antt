-- The books of a window as it opens. Assumes nothing.
use Rattle.std.specs.Prelude.{replicate}
use Rattle.window.specs.declared.setting_table.SettingTable.{SettingTable}
use Rattle.window.specs.declared.books.Books.{Books}
use Rattle.window.specs.declared.books.Phase.TheVariants.{Open}

-- Step 1, open, no signals; every office at step 1 with no credit and no remainder.
abbrev pub opened : SettingTable → Books
opened t = record { setting = t; coordinator = record { phase = Open 1; signals = 0 }; table = replicate 64 (record { step = 1; credit = 0; remainder = 0 }) }
