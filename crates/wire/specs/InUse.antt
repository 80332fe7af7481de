-- The lanes of rows of frames, and a put and a take where each frame takes one place: lemmas that impls cite, proved and nothing to believe.
use Rattle.std.specs.Prelude.{◌≡◌, ℕ, zero, suc, ◌+◌, ◌*◌, ◌<◌, ◌≤◌, cond, List, [], ◌∷◌, ◌++◌, map, length, replicate, Some, None, nat_le, nat_lt, slice_set, refl}
use Rattle.std.proofs.Common.{sym, ap, subst, ◌∙◌, arith}
use Rattle.std.proofs.lemmas.List.{get_or-set_same, get_or-set_other, length-map, length_push, length-append}
use Rattle.std.proofs.lemmas.Bool.Decides.{nat_tests}
use Rattle.offices.specs.LaneItems.{in_use}
use Rattle.offices.specs.InUse.{in_use_length, map_replicate}
use Rattle.queue.specs.Queues.{held}
use Rattle.queue.specs.declared.Queue.{Queue}
use Rattle.wire.specs.Wires.{Outcome, once, lost, twice, copies, cost, WireLane, no_frames, wire_lane, Others, no_such_lane, places_taken, put_fault, PlacesAfter, PlacedBy, WireLaw}
use Rattle.wire.specs.Rows.{lane_of, queue_lane, lanes_of}
use Rattle.wire.specs.Kinds.{all_empty}
use Rattle.wire.specs.declared.rows.Rows.{Rows}

lane_of_frames : (qs : List (Queue ℕ)) (i : ℕ) → wire_lane (map queue_lane qs) i ≡ lane_of (wire_lane (map queue_lane qs) i).frames
lane_of_frames [] i = refl
lane_of_frames (q ∷ qs) zero = refl
lane_of_frames (q ∷ qs) (suc i) = lane_of_frames qs i

module _ (r : Rows) where
  -- only waiting frames take places, one each
  pub lane_is : (i : ℕ) → wire_lane (lanes_of r) i ≡ lane_of (wire_lane (lanes_of r) i).frames
  lane_is i = lane_of_frames (in_use r.queues) i

  pub lanes_length : length (lanes_of r) ≡ 2 * r.queues.offices.number
  lanes_length = length-map (in_use r.queues) queue_lane ∙ in_use_length r.queues

  pub rows_sound : (t : ℕ) → t ≤ 65535 → WireLaw r.queues.offices.number (lanes_of r) t
  rows_sound t bound =
      record { some = r.queues.offices.some; few = r.queues.offices.few; both_ways = lanes_length; each = λ i. omega (arith, ap (λ l. l.places) (lane_is i)); bounded = bound }

-- rows of one empty queue
pub empty_lanes : (k : ℕ) (q : Queue ℕ) → held q ≡ [] → map queue_lane (replicate (2 * k) q) ≡ all_empty k
empty_lanes k q none = map_replicate queue_lane (2 * k) q ∙ ap (λ fs. replicate (2 * k) (lane_of fs)) none

places_joined : (o : Outcome) (fs : List ℕ) (f : ℕ) → PlacesAfter o (length fs) (length (fs ++ copies o f))
places_joined once fs f = length_push fs f
places_joined lost fs f = omega (arith, length-append fs [])
places_joined twice fs f = omega (arith, length-append fs (f ∷ f ∷ []))

put_passed : (n i p : ℕ) → cond (nat_le n i) (Some (no_such_lane i)) (cond (nat_lt 14 p) (Some (places_taken i)) None) ≡ None → (i < n) × (p ≤ 14)
put_passed n i p none = grind (arith, nat_tests)

module _ (ls : List WireLane) (i : ℕ) where
  pub put_there : put_fault ls i ≡ None → i < length ls
  put_there none = (put_passed (length ls) i (wire_lane ls i).places none).0

  -- one lane that is written
  module _ (l : WireLane) (after : List WireLane) (there : i < length ls) (is : after ≡ slice_set ls i l) where
    set_here : wire_lane after i ≡ l
    set_here = ap (λ xs. wire_lane xs i) is ∙ get_or-set_same ls i l no_frames there

    set_others : Others ls i after
    set_others j ne = ap (λ xs. wire_lane xs j) is ∙ get_or-set_other ls i j l no_frames ne

  module _ (each : wire_lane ls i ≡ lane_of (wire_lane ls i).frames) (after : List WireLane) where
    pub put_done : (t u f : ℕ) (o : Outcome) (R : List Outcome → Type 0) → i < length ls → t ≡ u + cost o → after ≡ slice_set ls i (lane_of ((wire_lane ls i).frames ++ copies o f)) → R (o ∷ []) → PlacedBy ls t i f after u R
    put_done t u f o R there spent is run =
        let fs = (wire_lane ls i).frames in
        let here = set_here (lane_of (fs ++ copies o f)) after there is in
        let before = sym (ap (λ l. l.places) each) in
        let places = subst (λ p. PlacesAfter o p (wire_lane after i).places) before (subst (λ l. PlacesAfter o (length fs) l.places) (sym here) (places_joined o fs f)) in
        record { put = record { outcome = o; spent = spent; joins = ap (λ l. l.frames) here; places = places; others = set_others (lane_of (fs ++ copies o f)) after there is }; run = run }
