-- Stations, one of which changes, and the frames that are pending for them.
use Rattle.std.proofs.Common.{◌≡◌, ◌⊎◌, ◌↔◌, inl, inr, ℕ, zero, suc, ◌<◌, Bool, true, false, ◌==◌, not, List, [], ◌∷◌, ◌++◌}
use Rattle.std.proofs.Common.{◌+◌, ◌≤◌, cond, Some, map, length, slice_get, slice_set, Contains, IfErr, Result, Ok, Err}
use Rattle.std.proofs.Common.{refl, sym, ap, ◌∙◌, subst, arith, eq-eqb, filter}
use Rattle.std.specs.List.{list_any, AllByRecursion as Each}
use Rattle.std.proofs.lemmas.Bool.{and_from}
use Rattle.at_base.specs.declared.error.Error.{Error}
use Rattle.at_base.specs.declared.error.Error.TheVariants.{Full, Memory, NotPending}
use Rattle.cable_model.proofs.Counting.{At, contained_at, each_at, each-append, each_map, filter_at, map_at}
use Rattle.cable_model.proofs.Finds.{contains_at}
use Rattle.cable_model.specs.Outcomes.{AreSeatsOf, IsLeast, is_named}
use Rattle.cable_model.specs.Pending.{Pair, is_heard, pairs, pairs_of, pending, was_ended}
use Rattle.cable_model.specs.Transcript.{Entry, Sent, Put, Took, Reached, Dropped, Lost, Hold}
use Rattle.cable_model.specs.declared.seat.Seat.{Seat}
use Rattle.station.specs.declared.member.Member.{Member}
use Rattle.live_cables.proofs.Pending.{has_any}
use Rattle.live_cables.specs.Living.{happened}
use Rattle.live_cables.specs.Playing.{AreDue}
use Rattle.live_node.specs.Living.{LivingNode}
use Rattle.live_router.specs.Living.{Living}
use Rattle.station.specs.declared.member.Member.TheVariants as member
use Rattle.internet_file.specs.Files.{Planned}
use Rattle.internet_file.specs.Sound.{IsSound}
use Rattle.internet_file.specs.declared.node.Node.{Node}
use Rattle.internet_file.specs.declared.router.Router.{Router}
use Rattle.planned_stations.proofs.Seated.{plan_seated}
use Rattle.planned_stations.specs.Planning.{AreSeated, planned_ports, ports_of}
use Rattle.world.specs.Keeping.{IsLaid}
use Rattle.planned_stations.specs.Seating.{plan_seats}
use Rattle.world.specs.Received.{AreReceived, got}
use Rattle.world.specs.Worlds.{IsWorld, Worldly}

-- A station is replaced by another with as many ports.
pub ports_set : (ms : List (Member Living LivingNode)) (k : ℕ) (old new : Member Living LivingNode) → At ms k old
    → ports_of new ≡ ports_of old → map ports_of (slice_set ms k new) ≡ map ports_of ms
ports_set [] k old new h e = cc
ports_set (m ∷ ms) zero old new h e =
    let is : m ≡ old = cc in ap (λ n. n ∷ map ports_of ms) (e ∙ ap ports_of (sym is))
ports_set (m ∷ ms) (suc k) old new h e = ap (λ l. ports_of m ∷ l) (ports_set ms k old new h e)

-- The seats of a station.
pub seats_at : (seats : List Seat) (ms : List (Member Living LivingNode)) (k : ℕ) (m : Member Living LivingNode)
    → AreSeated seats (map ports_of ms) → At ms k m → AreSeatsOf seats k (ports_of m)
seats_at seats ms k m seated at = seated.each k (ports_of m) (map_at ports_of ms k m at)

-- ---- Pending frames

seats_each : (seats : List Seat) → Each (λ s. Contains seats s) seats
seats_each seats = by seats (λ k s at. contains_at seats k s at)
  where
    by : (xs : List Seat) → ((k : ℕ) (s : Seat) → At xs k s → Contains seats s) → Each (λ s. Contains seats s) xs
    by [] f = tt
    by (x ∷ xs) f = (f zero x refl, by xs (λ k s at. f (suc k) s at))

kept_each : {X : Type 0} (P : X → Type 0) (t : X → Bool) (xs : List X) → Each P xs → Each P (filter t xs)
kept_each P t [] h = tt
kept_each P t (x ∷ xs) h =
    elim (t x) as (λ b. Each P (cond b (x ∷ filter t xs) (filter t xs))) [
      | true ↦ (h.0, kept_each P t xs h.1)
      | false ↦ kept_each P t xs h.1
    ]

module _ (seats : List Seat) where
  pairs_each : (es : List Entry) → Each (λ (p : Pair). Contains seats p.seat) (pairs seats es)
  pairs_each [] = tt
  pairs_each (e ∷ es) =
      each-append (λ (p : Pair). Contains seats p.seat) (pairs_of seats e) (pairs seats es) (by e) (pairs_each es)
    where
      by : (e : Entry) → Each (λ (p : Pair). Contains seats p.seat) (pairs_of seats e)
      by (Put f) =
          each_map (λ (p : Pair). Contains seats p.seat) (λ s. record { frame = f; seat = s }) (filter (is_heard f) seats)
          (kept_each (λ s. Contains seats s) (is_heard f) seats (seats_each seats))
      by (Sent s x) = tt
      by (Took p s) = tt
      by (Reached c s w x) = tt
      by (Dropped r c x) = tt
      by (Lost p) = tt
      by (Hold h) = tt

  -- The seat of a pending pair is one of the seats.
  pub pending_seat : (t : List Entry) (p : Pair) → Contains (pending seats t) p → Contains seats p.seat
  pending_seat t p h =
      let k = contained_at (pending seats t) p h in
      let j = filter_at (λ p. not (was_ended t p)) (pairs seats t) k.0 p k.1 in
      each_at (λ (p : Pair). Contains seats p.seat) (pairs seats t) j.0 p j.1 (pairs_each t)

  -- The station that takes the first frame is one of the stations.
  pub least_within : (ports : List ℕ) (t : List Entry) (stamp station : ℕ) → AreSeated seats ports
      → IsLeast (pending seats t) stamp station → station < length ports
  least_within ports t stamp station seated least =
      let w = least.there in
      subst (λ k. k < length ports) w.3 (seated.within w.0.seat (pending_seat t w.0 w.1))

  -- The first frame is pending.
  pub least_named : (t : List Entry) (stamp station : ℕ) → IsLeast (pending seats t) stamp station
      → list_any (is_named stamp station) (pending seats t) ≡ true
  least_named t stamp station least =
      let w = least.there in
      has_any (is_named stamp station) (pending seats t) w.0 (contained_at (pending seats t) w.0 w.1)
      (and_from (stamp == w.0.frame.stamp) (station == w.0.seat.station) (eq-eqb stamp w.0.frame.stamp (sym w.2))
      (eq-eqb station w.0.seat.station (sym w.3)))

-- A take of a pending frame doesn't return NotPending.
pub was_pending : {T : Type 0} (r : Result T Error) (named : Bool) → named ≡ true → (r ≡ Err NotPending) ↔ (named ≡ false)
    → IfErr r (λ e. (e ≡ NotPending) ⊎ (e ≡ Full) ⊎ (e ≡ Memory)) → IfErr r (λ e. (e ≡ Full) ⊎ (e ≡ Memory))
was_pending (Ok x) named is iff h = tt
was_pending (Err e) named is iff h = elim h [
  | inl same ↦ let no : named ≡ false = iff.0 (ap Err same) in absurd cc
  | inr e ↦ e
]

-- ---- The properties of a world

pub length_ports : (ms : List (Member Living LivingNode)) → length (map ports_of ms) ≡ length ms
length_ports [] = refl
length_ports (m ∷ ms) = ap suc (length_ports ms)

length-map : {X Y : Type 0} (f : X → Y) (xs : List X) → length (map f xs) ≡ length xs
length-map f [] = refl
length-map f (x ∷ xs) = ap suc (length-map f xs)

length-append : {X : Type 0} (xs ys : List X) → length (xs ++ ys) ≡ length xs + length ys
length-append [] ys = omega arith
length-append (x ∷ xs) ys = let h = length-append xs ys in omega (arith, h)

-- There are as many stations as in the plan.
pub laid_whole : (w : Worldly) → IsLaid w → length w.stations ≡ length w.plan.routers + length w.plan.nodes
laid_whole w h =
    let all = length_ports w.stations in
    let planned = ap length h.ports in
    let one : Node → ℕ = λ n. 1 in
    let both = length-append (map (λ (r : Router). length r.port) w.plan.routers) (map one w.plan.nodes) in
    let routers = length-map (λ (r : Router). length r.port) w.plan.routers in
    let nodes = length-map one w.plan.nodes in
    omega (arith, all, planned, both, routers, nodes)

-- The stations have the seats that they need.
pub laid_seated : (w : Worldly) → IsLaid w → AreSeated w.wires.cabling.seats (map ports_of w.stations)
laid_seated w h =
    subst (λ s. AreSeated s (map ports_of w.stations)) (sym h.seats)
    (subst (AreSeated (plan_seats w.plan)) (sym h.ports) (plan_seated w.plan h.sound))

-- The invariant holds after a change in which the seats and the numbers of ports stay the same and the transcript keeps
-- its properties.
pub laid_after : (old new : Worldly) → IsLaid old → new.plan ≡ old.plan → map ports_of new.stations ≡ map ports_of old.stations
    → new.wires.cabling.seats ≡ old.wires.cabling.seats → new.wires.cabling.limit ≡ old.wires.cabling.limit
    → new.now ≤ old.plan.ticks
    → AreDue (plan_seats old.plan) [] (happened new.wires) → AreReceived (happened new.wires) (map got new.stations) → IsLaid new
laid_after old new h plan ports seats limit few due received = record {
  sound = subst IsSound (sym plan) h.sound;
  seats = seats ∙ (h.seats ∙ ap plan_seats (sym plan));
  limit = limit ∙ h.limit;
  ports = ports ∙ (h.ports ∙ ap planned_ports (sym plan));
  few = subst (λ (p : Planned). new.now ≤ p.ticks) (sym plan) few;
  due = subst (λ (p : Planned). AreDue (plan_seats p) [] (happened new.wires)) (sym plan) due;
  received = received;
}

-- The properties that a world's users are promised.
pub laid_lives : (w : Worldly) → IsLaid w → IsWorld w
laid_lives w h = record {
  seats = h.seats;
  seated = λ k m at. seats_at w.wires.cabling.seats w.stations k m (laid_seated w h) at;
  due = h.due;
  received = λ k n at. h.received k n.node.received (map_at got w.stations k (member.Node n) at);
  whole = laid_whole w h;
  few = h.few;
  limit = h.limit;
}

pub length_set : {X : Type 0} (xs : List X) (k : ℕ) (x : X) → length (slice_set xs k x) ≡ length xs
length_set [] k x = refl
length_set (y ∷ xs) zero x = refl
length_set (y ∷ xs) (suc k) x = ap suc (length_set xs k x)

pub get_set : {X : Type 0} (xs : List X) (k : ℕ) (old x : X) → slice_get xs k ≡ Some old → slice_get (slice_set xs k x) k ≡ Some x
get_set [] k old x at = cc
get_set (y ∷ xs) zero old x at = refl
get_set (y ∷ xs) (suc k) old x at = get_set xs k old x at
