-- The requests that a router makes from a request for names that ends at it.
use Rattle.std.proofs.Common.{Bool, IsTrue, List, None, Option, Some, [], ap, cond, false, refl, subst, sym, true, ℕ, ◌&&◌, ◌∙◌, ◌∷◌, ◌≡◌}
use Rattle.std.specs.List.{All, AllByRecursion as Each, flat_map}
use Rattle.at_base.specs.Text.{is_name}
use Rattle.audit.specs.Routing.{home}
use Rattle.audit.specs.Rules.{Passes}
use Rattle.audit.specs.Walks.{HasPort}
use Rattle.cable_model.specs.Pending.{Pair}
use Rattle.cable_model.proofs.Counting.{each-append}
use Rattle.ddp.specs.Bodies.{body, target}
use Rattle.ddp.specs.Datagram.{Datagram}
use Rattle.image_stations.specs.Holders.{HoldsRouter}
use Rattle.legal_stations.specs.Made.{legs}
use Rattle.legal_stations.proofs.Expanding.{broadcast_expands}
use Rattle.legal_stations.proofs.LookedUp.{looked_up_there, made_is}
use Rattle.legal_stations.proofs.Answered.{request_of}
use Rattle.legal_stations.proofs.Requested.{requested}
use Rattle.legal_runs.specs.Answers.{Answers, Expanded, Expands, IsLookup, IsMade, LookedUp, Others, asks_here, ends_at, seeks_here}
use Rattle.legal_runs.specs.Requests.{is_broadcast, is_forward, key_in, listing, request, zone_of}
use Rattle.nbp.specs.Expansion.{asks}
use Rattle.nbp.specs.Packets.{NbpPacket, key, names_in}
use Rattle.nbp.specs.declared.expansion.Ask.{Ask}
use Rattle.nbp.specs.declared.expansion.Ask.TheVariants as ask
use Rattle.nbp.specs.declared.packet.Function.{Function}
use Rattle.nbp.specs.declared.packet.Function.TheVariants.{BroadcastRequest, ForwardRequest, Lookup, Reply}
use Rattle.nbp.specs.declared.tuple.Tuple.{Tuple}
use Rattle.router.specs.Holding.{Holding}
use Rattle.router.specs.Requests.{asked, looked_on, looked_up, made_by, made_of, ranges, requests_made}
use Rattle.router.specs.declared.request.Request.{Request}
use Rattle.station.specs.Lawful.{IsGood, are_bytes}
use Rattle.station.specs.Making.{all_made}
use Rattle.station.specs.Ways.{is_summed, replying}
use Rattle.station.specs.declared.output.Output.{Output}
use Rattle.station.specs.declared.output.Output.TheVariants.{Made, Passed, Kept, Dropped, Wire}
use Rattle.station.specs.declared.way.Way.{Way}
use Rattle.table_image.specs.Bounds.{IsBounded}
use Rattle.table_image.specs.Internet.{Internet}
use Rattle.legal_stations.proofs.Leaving.{Leaves}
use Rattle.legal_stations.proofs.Making.{all_of}

-- ---- Requests are datagrams that the router makes

-- The output is a datagram that the station made.
abbrev IsDatagram : Output → Type 0
IsDatagram (Made port to bytes) = Unit {0}
IsDatagram (Passed port to bytes) = ⊥
IsDatagram (Kept port bytes) = ⊥
IsDatagram (Dropped cause bytes) = ⊥
IsDatagram (Wire port to bytes) = ⊥

all_datagrams : (w : Way) (ps : List (List ℕ)) → Each IsDatagram (all_made w ps)
all_datagrams w [] = tt
all_datagrams w (p ∷ ps) = (tt, all_datagrams w ps)

replies_made : (o : Option Way) (ps : List (List ℕ)) → Each IsDatagram (replying o ps)
replies_made None ps = tt
replies_made (Some w) ps = all_datagrams w ps

asked_made : (h : Holding) (r : Request) (a : Ask) → Each IsDatagram (asked h r a)
asked_made h r (ask.Lookup q) = replies_made _ _
asked_made h r (ask.Forward net) = replies_made _ _

all_asked : (h : Holding) (r : Request) (xs : List Ask) → Each IsDatagram (flat_map (asked h r) xs)
all_asked h r [] = tt
all_asked h r (a ∷ xs) = each-append IsDatagram (asked h r a) (flat_map (asked h r) xs) (asked_made h r a) (all_asked h r xs)

looked_made : (h : Holding) (r : Request) (o : Option ℕ) → Each IsDatagram (looked_on h r o)
looked_made h r None = tt
looked_made h r (Some q) = replies_made _ _

forward_made : (h : Holding) (r : Request) (net : ℕ) (b : Bool) → Each IsDatagram (cond b (looked_up h r net) [])
forward_made h r net true = looked_made h r _
forward_made h r net false = tt

function_made : (h : Holding) (f : Function) (r : Request) (net : ℕ) → Each IsDatagram (made_of h f r net)
function_made h BroadcastRequest r net = all_asked h r (asks (ranges h.ports) r.tuple.zone h.zones)
function_made h ForwardRequest r net = forward_made h r net (is_name r.tuple.zone)
function_made h Lookup r net = tt
function_made h Reply r net = tt

tuples_made : (h : Holding) (d : Datagram) (p : NbpPacket) (ts : List Tuple) → Each IsDatagram (made_by h d p ts)
tuples_made h d p [] = tt
tuples_made h d p (t ∷ ts) = function_made h p.function _ d.target.net

leaves_by : (i : Internet) (s : ℕ) (os : List Output) → Each IsDatagram os → Each (IsMade i) (legs i s os) → Each (Leaves i s) os
leaves_by i s [] d h = tt
leaves_by i s (Made port to bytes ∷ os) d h = (h.0, leaves_by i s os d.1 h.1)
leaves_by i s (Passed port to bytes ∷ os) d h = absurd d.0
leaves_by i s (Kept port bytes ∷ os) d h = absurd d.0
leaves_by i s (Dropped cause bytes ∷ os) d h = absurd d.0
leaves_by i s (Wire port to bytes ∷ os) d h = absurd d.0

-- A packet makes no outputs if its function makes none.
silent : (h : Holding) (d : Datagram) (p : NbpPacket) (f : Function) → p.function ≡ f → ((r : Request) → made_of h f r d.target.net ≡ [])
    → (ts : List Tuple) → made_by h d p ts ≡ []
silent h d p f e none [] = refl
silent h d p f e none (t ∷ ts) =
    ap (λ g. made_of h g (record { summed = is_summed d; id = p.id; tuple = t }) d.target.net) e ∙ none _

-- ---- Answers

-- The outputs leave in an allowed way, and are answers to the pair.
pub record Answered (i : Internet) (p : Pair) (os : List Output) : Type 0 where
  pub leaves : Each (Leaves i p.seat.station) os
  pub answers : Answers i p (legs i p.seat.station os)

-- A packet that is neither a broadcast request nor a forward request isn't answered by requests.
pub quiet : (i : Internet) (p : Pair) (o : Option NbpPacket) → request (body p.frame.bytes) ≡ o → is_broadcast o ≡ false
    → is_forward o ≡ false
    → (asks_here i p ≡ false) × (seeks_here i p ≡ false)
quiet i p o req no_broadcast no_forward = (
  ap (λ b. b && ends_at i p) (ap is_broadcast req ∙ no_broadcast),
  ap (λ b. b && is_name (zone_of (key_in (request (body p.frame.bytes)))) && ends_at i p) (ap is_forward req ∙ no_forward),
)

-- A datagram that doesn't end at the router isn't answered by requests.
pub unended : (i : Internet) (p : Pair) → ends_at i p ≡ false → (asks_here i p ≡ false) × (seeks_here i p ≡ false)
unended i p e = (
  nor (is_broadcast (request (body p.frame.bytes))) (ends_at i p) e,
  neither (is_forward (request (body p.frame.bytes))) (is_name (zone_of (key_in (request (body p.frame.bytes))))) (ends_at i p) e,
)
  where
    nor : (b y : Bool) → y ≡ false → (b && y) ≡ false
    nor true y e = e
    nor false y e = refl

    neither : (b c y : Bool) → y ≡ false → (b && c && y) ≡ false
    neither true true y e = e
    neither true false y e = refl
    neither false c y e = refl

none_answered : (i : Internet) (p : Pair) (os : List Output) → os ≡ [] → (asks_here i p ≡ false) × (seeks_here i p ≡ false)
    → Answered i p os
none_answered i p os e q = subst (Answered i p) (sym e) (record { leaves = tt; answers = Others q.0 q.1 tt })

-- The function of a packet.
of_function : (p : NbpPacket) (f : Function) → p.function ≡ f → (test : Option NbpPacket → Bool)
    → test (Some p) ≡ test (Some (record p { function = f }))
of_function p f e test = ap (λ g. test (Some (record p { function = g }))) e

module _ (i : Internet) (ok : Passes i) (bounded : IsBounded i) (p : Pair) (h : Holding) (holds : HoldsRouter i p.seat.station h) (n : ℕ)
    (d : Datagram) (bytes : IsTrue (are_bytes d.payload)) (ends : ends_at i p ≡ true) where
  abbrev r : ℕ
  r = p.seat.station

  module _ (q : NbpPacket) (read : names_in d.payload ≡ Some q) (req : request (body p.frame.bytes) ≡ Some q)
      (good : Each (IsGood n) (requests_made h d (Some q))) where
    abbrev outputs : List Output
    outputs = requests_made h d (Some q)

    fine : All (IsGood n) outputs
    fine = all_of (IsGood n) outputs good

    by_broadcast : q.function ≡ BroadcastRequest → Answered i p outputs
    by_broadcast e =
        let w = broadcast_expands i r n h d q ok bounded holds bytes read e fine in
        record {
          leaves = leaves_by i r outputs (tuples_made h d q q.tuples) w.1;
          answers = Expanded (ap (λ b. b && ends_at i p) (ap is_broadcast req ∙ of_function q BroadcastRequest e is_broadcast) ∙ ends)
              (subst (λ o. Expands i (key_in o) r (listing i (zone_of (key_in o))) (legs i r outputs)) (sym req) w.0);
        }

    asks_not : (f : Function) → q.function ≡ f → is_broadcast (Some (record q { function = f })) ≡ false → asks_here i p ≡ false
    asks_not f e none = ap (λ b. b && ends_at i p) (ap is_broadcast req ∙ (of_function q f e is_broadcast ∙ none))

    seeks_is : q.function ≡ ForwardRequest → seeks_here i p ≡ is_name (zone_of (key q))
    seeks_is e =
        ap (λ b. b && is_name (zone_of (key_in (request (body p.frame.bytes)))) && ends_at i p)
        (ap is_forward req ∙ of_function q ForwardRequest e is_forward)
        ∙ (ap (λ o. is_name (zone_of (key_in o)) && ends_at i p) req ∙ (ap (λ b. is_name (zone_of (key q)) && b) ends
        ∙ last (is_name (zone_of (key q)))))
      where
        last : (b : Bool) → (b && true) ≡ b
        last true = refl
        last false = refl

    by_forward : (c : ℕ) → home i (target p.frame.bytes).net ≡ Some c → home i d.target.net ≡ Some c → HasPort i r c
        → q.function ≡ ForwardRequest → Answered i p outputs
    by_forward c here listed port e = by (is_name (zone_of (key q))) refl
      where
        by : (b : Bool) → is_name (zone_of (key q)) ≡ b → Answered i p outputs
        by true name =
            let w = looked_up_there i ok r h holds n c d q bytes read e name listed port fine in
            record {
              leaves = leaves_by i r outputs (tuples_made h d q q.tuples) (subst (Each (IsMade i)) (sym w.1) (w.3, tt));
              answers = LookedUp c w.0 (seeks_is e ∙ name) here w.1
                  (subst (λ o. IsLookup i (key_in o) r c w.0) (sym req) w.2);
            }
        by false name =
            let it = requested d.payload q bytes read (λ f. no_reply q.function e f) in
            none_answered i p outputs
            (made_is h d q it ForwardRequest e
            ∙ ap (λ b. cond b (looked_up h (request_of (is_summed d) q it) d.target.net) []) (ap is_name (sym it.zone) ∙ name))
            (asks_not ForwardRequest e refl, seeks_is e ∙ name)
          where
            no_reply : (f : Function) → f ≡ ForwardRequest → f ≡ Reply → ⊥
            no_reply f a b = cc

    by_function : (c : ℕ) → home i (target p.frame.bytes).net ≡ Some c → home i d.target.net ≡ Some c → HasPort i r c
        → (f : Function) → q.function ≡ f → Answered i p outputs
    by_function c here listed port BroadcastRequest e = by_broadcast e
    by_function c here listed port ForwardRequest e = by_forward c here listed port e
    by_function c here listed port Lookup e =
        none_answered i p outputs (silent h d q Lookup e (λ z. refl) q.tuples)
        (quiet i p (Some q) req (of_function q Lookup e is_broadcast) (of_function q Lookup e is_forward))
    by_function c here listed port Reply e =
        none_answered i p outputs (silent h d q Reply e (λ z. refl) q.tuples)
        (quiet i p (Some q) req (of_function q Reply e is_broadcast) (of_function q Reply e is_forward))

  -- The requests that the router makes from a datagram that ended at it.
  pub requests_answer : (c : ℕ) → home i (target p.frame.bytes).net ≡ Some c → home i d.target.net ≡ Some c → HasPort i r c
      → (o : Option NbpPacket) → names_in d.payload ≡ o → request (body p.frame.bytes) ≡ o → Each (IsGood n) (requests_made h d o)
      → Answered i p (requests_made h d o)
  requests_answer c here listed port None read req good = none_answered i p [] refl (quiet i p None req refl refl)
  requests_answer c here listed port (Some q) read req good = by_function q read req good c here listed port q.function refl
