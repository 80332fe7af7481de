-- What a table shows, at one lane and at those in use: lemmas that an impl cites, proved and nothing to believe.
use Rattle.std.specs.Prelude.{◌≡◌, ℕ, zero, suc, ◌*◌, ◌<◌, ◌≤◌, min, List, [], ◌∷◌, map, length, take, replicate, Ok, Result, slice_index_or, slice_set, refl}
use Rattle.std.proofs.Common.{sym, ap, ◌∙◌, arith, length-take}
use Rattle.std.proofs.lemmas.List.{get_or-map, get_or-take, length-map, length-take-le, map-set, take_all, take-replicate}
use Rattle.std.proofs.lemmas.List.Sums.{sum_by-take-le}
use Rattle.fault.specs.declared.Fault.{Fault}
use Rattle.offices.specs.LaneItems.{in_use}
use Rattle.offices.specs.InUse.{in_use_length}
use Rattle.post.specs.Lanes.{Lane, LaneLaw, PostLaw, no_lane, lane, send_answer, joined, with_byte, send, all_sent}
use Rattle.post.specs.Outs.{out}
use Rattle.post.specs.Sends.{opened, may_send, send_answered, all_sent_few}
use Rattle.post.specs.Tables.{shown, lanes_of, slots_shown, used}
use Rattle.post.specs.declared.slot.Slot.{Slot}
use Rattle.post.specs.declared.office_lanes.OfficeLanes.{OfficeLanes}
use Rattle.post.specs.declared.lane_table.LaneTable.{LaneTable}

pub lanes_length : (t : OfficeLanes) → length (lanes_of t) ≡ 2 * t.slots.offices.number
lanes_length t = length-map (in_use t.slots) shown ∙ in_use_length t.slots

-- what a slot's own facts say of the lane it shows
slot_law : (s : Slot) → LaneLaw (shown s)
slot_law s = record { room = simp length-take (omega (arith, s.queue.fits)); within = s.within; most = s.most }

each_lane : (n : ℕ) (ss : List Slot) (i : ℕ) → LaneLaw (lane (take n (map shown ss)) i)
each_lane zero ss i = record { room = omega arith; within = omega arith; most = omega arith }
each_lane (suc n) [] i = record { room = omega arith; within = omega arith; most = omega arith }
each_lane (suc n) (s ∷ ss) zero = slot_law s
each_lane (suc n) (s ∷ ss) (suc i) = each_lane n ss i

every_lane : (ss : List Slot) (i : ℕ) → LaneLaw (lane (map shown ss) i)
every_lane [] i = record { room = omega arith; within = omega arith; most = omega arith }
every_lane (s ∷ ss) zero = slot_law s
every_lane (s ∷ ss) (suc i) = every_lane ss i

pub table_sound : (t : OfficeLanes) → PostLaw t.slots.offices.number (lanes_of t)
table_sound t = record { some = t.slots.offices.some; few = t.slots.offices.few; both_ways = lanes_length t; each = λ i _. every_lane (in_use t.slots) i }

pub all_length : (t : LaneTable) → length (slots_shown t) ≡ 128
all_length t = lanes_length t.lanes ∙ ap (λ n. 2 * n) t.all

pub used_length_min : (k : ℕ) (t : LaneTable) → length (used k t) ≡ min (2 * k) 128
used_length_min k t = length-take (2 * k) (slots_shown t) ∙ ap (min (2 * k)) (all_length t)

pub used_length : (k : ℕ) (t : LaneTable) → k ≤ 64 → length (used k t) ≡ 2 * k
used_length k t few = length-take-le (2 * k) (slots_shown t) (omega (arith, all_length t))

pub used_lane : (k : ℕ) (t : LaneTable) (i : ℕ) → i < 2 * k → lane (used k t) i ≡ lane (slots_shown t) i
used_lane k t i here = get_or-take (2 * k) (slots_shown t) i no_lane here

pub slot_lane : (t : LaneTable) (i : ℕ) (s : Slot) → i < 128 → shown (slice_index_or (in_use t.lanes.slots) i s) ≡ lane (slots_shown t) i
slot_lane t i s here = sym (get_or-map shown (in_use t.lanes.slots) i s no_lane (omega (arith, in_use_length t.lanes.slots, t.all)))

-- one lane changed, in the part of the lanes that is in use
pub take_of_change : (f : Lane → Lane) (n : ℕ) (ls : List Lane) (i : ℕ) → take n (slice_set ls i (f (lane ls i))) ≡ slice_set (take n ls) i (f (lane (take n ls) i))
take_of_change f zero ls i = refl
take_of_change f (suc n) [] i = refl
take_of_change f (suc n) (l ∷ ls) zero = refl
take_of_change f (suc n) (l ∷ ls) (suc i) = ap (λ r. l ∷ r) (take_of_change f n ls i)

-- a lane written, in the whole table and in the part that is in use
take_of_set : (n : ℕ) (ls : List Lane) (i : ℕ) (l : Lane) → take n (slice_set ls i l) ≡ slice_set (take n ls) i l
take_of_set n ls i l = take_of_change (λ _. l) n ls i

pub put_whole : (t : LaneTable) (i : ℕ) (s : Slot) → map shown (slice_set (in_use t.lanes.slots) i s) ≡ slice_set (slots_shown t) i (shown s)
put_whole t i s = map-set shown (in_use t.lanes.slots) i s

pub put_part : (k : ℕ) (t : LaneTable) (i : ℕ) (s : Slot) → take (2 * k) (map shown (slice_set (in_use t.lanes.slots) i s)) ≡ slice_set (used k t) i (shown s)
put_part k t i s = ap (take (2 * k)) (put_whole t i s) ∙ take_of_set (2 * k) (slots_shown t) i (shown s)

pub used_joined : (k : ℕ) (t s : LaneTable) (i b : ℕ) → slots_shown s ≡ joined (slots_shown t) i b → used k s ≡ joined (used k t) i b
used_joined k t s i b e = ap (take (2 * k)) e ∙ take_of_change (λ l. with_byte l b) (2 * k) (slots_shown t) i

pub used_sound : (k : ℕ) (t : LaneTable) → 1 ≤ k → k ≤ 64 → PostLaw k (used k t)
used_sound k t some few = record { some = some; few = few; both_ways = used_length k t few; each = λ i _. each_lane (2 * k) (in_use t.lanes.slots) i }

-- 64 offices use the whole table
pub used_all : (k : ℕ) (t : LaneTable) → 64 ≤ k → used k t ≡ slots_shown t
used_all k t many = take_all (2 * k) (slots_shown t) (omega (arith, all_length t))

-- a send that the lanes in use allow is allowed by the whole table
pub may_send_whole : (k : ℕ) (t : LaneTable) (i : ℕ) → send_answer (used k t) i ≡ Ok tt → send_answer (slots_shown t) i ≡ Ok tt
may_send_whole k t i e =
    let o = opened (used k t) i e in
    let long = used_length_min k t in
    let all = all_length t in
    let here = used_lane k t i (omega arith) in
    may_send (slots_shown t) i (record { there = omega arith; few = rw here at o.few; room = rw here at o.room })

-- a send for all offices that the whole table allows is not refused
pub send_whole : (k : ℕ) (t s : LaneTable) (i b : ℕ) (r : Result (Unit {0}) Fault) → 64 ≤ k → send_answer (slots_shown t) i ≡ Ok tt → out (used k s) r ≡ send i b (used k t) → r ≡ Ok tt
send_whole k t s i b r many may e = send_answered (used k t) i b (used k s) r e ∙ ap (λ ls. send_answer ls i) (used_all k t many) ∙ may

-- the part that is in use of a new table
pub part_new : (ls : List Lane) (k : ℕ) → ls ≡ replicate 128 no_lane → k ≤ 64 → take (2 * k) ls ≡ replicate (2 * k) no_lane
part_new ls k e few = ap (take (2 * k)) e ∙ take-replicate (2 * k) 128 no_lane (omega arith)

-- no more than so many bytes are ever sent
pub all_sent_most : (t : LaneTable) → all_sent (slots_shown t) ≤ 8388480
all_sent_most t = all_sent_few t.lanes.slots.offices.number (slots_shown t) (table_sound t.lanes)

pub all_sent_used : (k : ℕ) (t : LaneTable) → all_sent (used k t) ≤ all_sent (slots_shown t)
all_sent_used k t = sum_by-take-le (λ (l : Lane). l.sent) (slots_shown t) (2 * k)
