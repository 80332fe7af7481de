-- A post whose table is as it was is the same post.
use Rattle.std.proofs.Common.{◌≡◌, ◌*◌, ◌≤◌, subst}
use Rattle.std.proofs.Math.Bridge.{le_prop}
use Rattle.std.proofs.Math.Nat.{ℕ_set}
use Rattle.post.specs.Lanes.{all_sent}
use Rattle.post.specs.Tables.{slots_shown}
use Rattle.post.specs.declared.lane_table.LaneTable.{LaneTable}
use Rattle.bit_post.specs.declared.BitPost.{BitPost}

pub same_table : {W : Type 0} (p : BitPost W) (t : LaneTable) → p.table ≡ t → (a : p.bits.offices.number ≡ 64) (c : p.frames ≤ 131072 * all_sent (slots_shown t)) → record p { table = t; all_bits = a; counted = c } ≡ p
same_table p t e =
    subst (λ t. (a : p.bits.offices.number ≡ 64) (c : p.frames ≤ 131072 * all_sent (slots_shown t)) → record p { table = t; all_bits = a; counted = c } ≡ p) e
    (λ a c. λ j. record p { all_bits = ℕ_set _ _ a p.all_bits j; counted = le_prop c p.counted j })
