use Rattle.ladder.proofs.Divisors.{list_checked, top_in_use, low_in_use, high_in_use}
use Rattle.ladder.proofs.listed_ladder.Listed.of_checked.Goals as goal

pub invariant_of-result : goal.invariant_of-result
invariant_of-result c =
    let grain = c.args.grain in
    let divisors = c.args.divisors.now in
    let copy = c.copy_from_slice.new.self in
    let same = c.copy_from_slice.ensures.after in
    let size = list_checked grain divisors c.requires in
    record {
      some = size.some;
      few = size.few;
      least = size.least;
      top = top_in_use grain divisors copy _ c.requires same;
      low = low_in_use grain divisors copy _ c.requires same;
      high = high_in_use grain divisors copy _ c.requires same;
    }
