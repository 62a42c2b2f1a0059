-- Addresses that fit the fields of AARP packets, and the packets that stations send.
use Rattle.std.proofs.Common.{◌≡◌, ◌<◌, ℕ, zero, suc, Bool, true, false, List, [], ◌∷◌, ◌++◌, Some, IsTrue, slice_index, nat_lt}
use Rattle.std.proofs.Common.{Option, None, Ok, cond, slice_get, refl, ap, ◌∙◌, subst, arith, append-nil, ltb-true, option_map}
use Rattle.std.specs.List.{list_all}
use Rattle.std.proofs.lemmas.Bool.{and_parts}
use Rattle.at_base.specs.Packets.{address, packets, within}
use Rattle.at_base.specs.declared.error.Field.TheVariants.{Function as FunctionField}
use Rattle.at_base.specs.Reading.{read, value_of}
use Rattle.at_base.specs.Spelling.{IsValue, bytes_of}
use Rattle.at_base.specs.declared.address.Addr.{Addr}
use Rattle.at_base.proofs.Readers.{begins_read, spelled_begins}
use Rattle.aarp.specs.Packets.{function_number, function_of, packet, whole, written}
use Rattle.aarp.specs.declared.packet.Function.{Function}
use Rattle.aarp.specs.declared.packet.Function.TheVariants.{Probe, Request, Response}
use Rattle.aarp.specs.declared.packet.Packet.{Packet}
use Rattle.aarp.proofs.Shape.{packet_lawful}
use Rattle.resolved_runs.proofs.Told.{Fitting}
use Rattle.ddp.specs.Bodies.{target}
use Rattle.table_image.specs.Internet.{Internet}
use Rattle.table_image.specs.Rows.{is_direct}
use Rattle.table_image.specs.Seats.{Seat, seat_at, seats}
use Rattle.table_image.specs.declared.port.Port.{Port}
use Rattle.table_image.specs.declared.router.Router.{Router}
use Rattle.table_image.specs.declared.row.Row.{Row}
use Rattle.audit.specs.Routing.{Here, On, hand, hand_at, hand_by, hand_over, hand_to, owner, row_for}
use Rattle.audit.specs.Rules.{Passes}
use Rattle.audit.proofs.SeatUnique.{addressed}
use Rattle.audit.proofs.WalkFacts.{between_is, owner_is}
use Rattle.audit.proofs.WalkSteps.{cable_good}
use Rattle.station.specs.Resolution.{packet_at}
use Rattle.station.specs.declared.heard.Kind.{Kind}
use Rattle.station.specs.declared.heard.Kind.TheVariants.{Aarp, Ddp}
use Rattle.cable_model.specs.Transcript.{Entry, Sent, Put, Took, Reached, Dropped, Lost, Hold}
use Rattle.cable_model.proofs.Counting.{At}
use Rattle.legal_runs.specs.Carriage.{cable_of_hand}
use Rattle.legal_runs.specs.Stations.{is_on}
use Rattle.legal_runs.proofs.Legs.{seat_there}
use Rattle.legal_runs.proofs.Seated.{port_seated}
use Rattle.resolved_runs.specs.Fitting.{SeatsFit}
use Rattle.resolved_runs.specs.Resolved.{request_by, response_by}

-- The numbers of an address fit their fields.
pub record Fits (a : Addr) : Type 0 where
  pub net : a.net < 65536
  pub node : a.node < 256

-- The addresses of a datagram's frame, or of a datagram that is held, fit.
abbrev pub FrameFits : Kind → List ℕ → Type 0
FrameFits Ddp bytes = Fits (target bytes)
FrameFits Aarp bytes = Unit {0}

abbrev pub EntryFits : Entry → Type 0
EntryFits (Put f) = FrameFits f.kind f.bytes
EntryFits (Hold h) = Fits h.next × Fits (target h.bytes)
EntryFits (Sent s b) = Unit {0}
EntryFits (Took n s) = Unit {0}
EntryFits (Reached c s how b) = Unit {0}
EntryFits (Dropped r cause b) = Unit {0}
EntryFits (Lost n) = Unit {0}

-- ---- Targets of bytes

byte_fits : (bytes : List ℕ) (k : ℕ) → list_all (λ b. nat_lt b 256) bytes ≡ true → slice_index bytes k < 256
byte_fits [] k h = omega arith
byte_fits (b ∷ bytes) zero h = ltb-true b 256 (and_parts (nat_lt b 256) (list_all (λ b. nat_lt b 256) bytes) h).0
byte_fits (b ∷ bytes) (suc k) h = byte_fits bytes k (and_parts (nat_lt b 256) (list_all (λ b. nat_lt b 256) bytes) h).1

is_true : (b : Bool) → IsTrue b → b ≡ true
is_true true h = refl
is_true false h = cc

pub target_fits : (bytes : List ℕ) → IsTrue (list_all (λ b. nat_lt b 256) bytes) → Fits (target bytes)
target_fits bytes h =
    let all = is_true (list_all (λ b. nat_lt b 256) bytes) h in
    let a = byte_fits bytes 4 all in
    let b = byte_fits bytes 5 all in
    record { net = omega (arith, a, b); node = byte_fits bytes 8 all }

-- ---- Seats

module _ (i : Internet) (ok : Passes i) where
  pub seat_fits : (k : ℕ) (s : Seat) → At (seats i) k s → Fits s.address
  seat_fits k s at =
      let w = addressed i ok k s at in
      let good = cable_good i ok s.cable w.cable w.known in
      let within = between_is w.cable.start w.cable.end s.address.net w.holds in
      let high = good.high in
      let node = w.high in
      record { net = omega (arith, within, high); node = omega (arith, node) }

  pub found_fits : (cable : ℕ) (a : Addr) (s : Seat) → seat_at i cable a ≡ Some s → Fits a
  found_fits cable a s e = let w = seat_there i cable a s e in subst Fits w.address (seat_fits w.place s w.at)

  pub owner_fits : (cable : ℕ) (a : Addr) (r : ℕ) → owner i cable a ≡ Some r → Fits a
  owner_fits cable a r e = let w = owner_is i cable a r e in found_fits cable a w.0.0 w.0.1

  -- ---- Packets

  module _ (fit : SeatsFit i) where
    -- A request of a seat fits.
    pub request_fits : (k : ℕ) (s : Seat) (a : Addr) → At (seats i) k s → Fits a → Fitting (request_by s a)
    request_fits k s a at fits =
        let own = seat_fits k s at in
        record {
          source_hw = fit k s at;
          source_net = own.net;
          source_node = own.node;
          target_hw = refl;
          target_net = fits.net;
          target_node = fits.node;
        }

    -- A response of a seat to a packet that fits does too.
    pub response_fits : (k : ℕ) (s : Seat) (asked : Packet) → At (seats i) k s → Fitting asked → Fitting (response_by s asked)
    response_fits k s asked at f =
        let own = seat_fits k s at in
        record {
          source_hw = fit k s at;
          source_net = own.net;
          source_node = own.node;
          target_hw = f.source_hw;
          target_net = f.source_net;
          target_node = f.source_node;
        }

function_again : (f : Function) → function_of (function_number f) ≡ f
function_again Request = refl
function_again Response = refl
function_again Probe = refl

function_passes : (f : Function) → within 1 3 FunctionField (function_number f) ≡ None
function_passes Request = refl
function_passes Response = refl
function_passes Probe = refl

function_low : (f : Function) → function_number f < 65536
function_low Request = omega arith
function_low Response = omega arith
function_low Probe = omega arith

with_function : (p : Packet) (f : Function) → f ≡ p.function → whole (record p { function = f }) 0 0 ≡ written p
with_function p f e = ap (λ (g : Function). whole (record p { function = g }) 0 0) e

-- A packet that fits can be written.
fitting_value : (p : Packet) → Fitting p → IsValue packet (written p)
unfolding packet address
fitting_value p f = (
  (omega arith, refl),
  (
    (omega arith, refl),
    (
      (omega arith, refl),
      (
        (function_low p.function, function_passes p.function),
        (
          (f.source_hw, refl),
          (
            (omega arith, refl),
            (
              ((f.source_net, refl), ((f.source_node, refl), refl)),
              (
                (f.target_hw, refl),
                (
                  (omega arith, refl),
                  (((f.target_net, refl), ((f.target_node, refl), refl)), with_function p _ (function_again p.function)),
                ),
              ),
            ),
          ),
        ),
      ),
    ),
  ),
)

-- The bytes of a packet that fits are read as the packet.
pub packet_is : (p : Packet) → Fitting p → packet_at (bytes_of packet (written p)) ≡ Some p
unfolding packet_at
packet_is p f =
    let begins = spelled_begins packet (bytes_of packet (written p)) [] (written p) (fitting_value p f, refl) in
    let is = subst (λ bytes. read packets packet bytes ≡ Ok (written p, begins.0)) (append-nil (bytes_of packet (written p)))
    (begins_read packets packet packet_lawful (bytes_of packet (written p) ++ []) (written p) begins) in
    ap (λ r. option_map (λ w. w.packet) (value_of r)) is

-- The bytes of a packet begin with 0 and 1.
pub packet_begins : (p : Packet) → (rest : List ℕ) × (bytes_of packet (written p) ≡ 0 ∷ 1 ∷ rest)
unfolding packet address
packet_begins p = (_, refl)

-- ---- Next routers

-- A router hands datagrams on to the owner of an address.
pub hand_owner : (i : Internet) (r n s c : ℕ) (a : Addr) → hand i r n ≡ On s c a → owner i c a ≡ Some s
hand_owner i r n s c a h = at (slice_get i.routers r) h
  where
    to : (o : Option ℕ) (d : ℕ) (b : Addr) → owner i d b ≡ o → hand_to o d b ≡ On s c a → owner i c a ≡ Some s
    to None d b e g = cc
    to (Some q) d b e g =
        let one : q ≡ s = cc in
        let two : d ≡ c = cc in
        let three : b ≡ a = cc in
        subst (λ x. owner i c x ≡ Some s) three (subst (λ x. owner i x b ≡ Some s) two (e ∙ ap Some one))

    direct : (row : Row) (port : Port) (b : Bool)
        → cond b (Here port.cable) (hand_to (owner i port.cable row.next) port.cable row.next) ≡ On s c a → owner i c a ≡ Some s
    direct row port true g = cc
    direct row port false g = to (owner i port.cable row.next) port.cable row.next refl g

    over : (row : Row) (o : Option Port) → hand_over i row o ≡ On s c a → owner i c a ≡ Some s
    over row None g = cc
    over row (Some port) g = direct row port (is_direct row) g

    by : (router : Router) (o : Option Row) → hand_by i router o ≡ On s c a → owner i c a ≡ Some s
    by router None g = cc
    by router (Some row) g = over row (slice_get router.ports row.port) g

    at : (o : Option Router) → hand_at i o n ≡ On s c a → owner i c a ≡ Some s
    at None g = cc
    at (Some router) g = by router (row_for router.rows n) g

-- A router that hands a datagram on over a cable is on it.
pub hand_seated : (i : Internet) (r n c : ℕ) → cable_of_hand (hand i r n) ≡ Some c → is_on i r c ≡ true
hand_seated i r n c h = at (slice_get i.routers r) refl h
  where
    on : (router : Router) (row : Row) (port : Port) → slice_get i.routers r ≡ Some router → slice_get router.ports row.port ≡ Some port
        → port.cable ≡ c → is_on i r c ≡ true
    on router row port known there same =
        port_seated i r c (record { place = row.port; router = router; port = port; known = known; at = there; on = same })

    to : (router : Router) (row : Row) (port : Port) (o : Option ℕ) → slice_get i.routers r ≡ Some router
        → slice_get router.ports row.port ≡ Some port → cable_of_hand (hand_to o port.cable row.next) ≡ Some c → is_on i r c ≡ true
    to router row port None known there e = cc
    to router row port (Some s) known there e = let same : port.cable ≡ c = cc in on router row port known there same

    over : (router : Router) (row : Row) (port : Port) (b : Bool) → slice_get i.routers r ≡ Some router
        → slice_get router.ports row.port ≡ Some port
        → cable_of_hand (cond b (Here port.cable) (hand_to (owner i port.cable row.next) port.cable row.next)) ≡ Some c → is_on i r c ≡ true
    over router row port true known there e = let same : port.cable ≡ c = cc in on router row port known there same
    over router row port false known there e = to router row port (owner i port.cable row.next) known there e

    port_by : (router : Router) (row : Row) (o : Option Port) → slice_get i.routers r ≡ Some router → slice_get router.ports row.port ≡ o
        → cable_of_hand (hand_over i row o) ≡ Some c → is_on i r c ≡ true
    port_by router row None known there e = cc
    port_by router row (Some port) known there e = over router row port (is_direct row) known there e

    by : (router : Router) (o : Option Row) → slice_get i.routers r ≡ Some router → cable_of_hand (hand_by i router o) ≡ Some c
        → is_on i r c ≡ true
    by router None known e = cc
    by router (Some row) known e = port_by router row (slice_get router.ports row.port) known refl e

    at : (o : Option Router) → slice_get i.routers r ≡ o → cable_of_hand (hand_at i o n) ≡ Some c → is_on i r c ≡ true
    at None known e = cc
    at (Some router) known e = by router (row_for router.rows n) known e
