-- Properties of a run that each of its calls promises.
use Rattle.std.specs.Prelude.{◌≡◌, ℕ, ◌+◌, Bool, false, ◌||◌, List, [], Result, Ok, length}
use Rattle.at_base.specs.declared.error.Error.{Error}
use Rattle.cable_model.specs.Logs.{transcript as said}
use Rattle.cable_model.specs.Transcript.{ArePutOnce}
use Rattle.ddp.specs.Bodies.{body}
use Rattle.events.specs.declared.event.Event.{Event}
use Rattle.events.specs.declared.event.Event.TheVariants.{Send, Request, Take}
use Rattle.frozen.specs.Events.{header_for}
use Rattle.frozen.specs.Orders.{bytes_for, send_order}
use Rattle.frozen.specs.Runs.{Running, pending_in, transcript}
use Rattle.frozen.specs.declared.order.Order.{Order}
use Rattle.legal_runs.specs.Carriage.{AreByHand, AreCarried, AreTakenThere, none_yet}
use Rattle.legal_runs.specs.Counts.{HasHopsLeft, IsConserved, reached, sent}
use Rattle.legal_runs.specs.Lookups.{IsLookedUp, NodesOnlyAsk, asked, lookups, taken}
use Rattle.legal_runs.specs.Requests.{is_forward, is_lookup, request}
use Rattle.resolved_runs.specs.AskedFor.{AreAskedFor, AreHeardAtRest, AreHeardOrOnTheirWay, AreHeldOnce}
use Rattle.resolved_runs.specs.HeldChains.{AreCarriedOrHeld}
use Rattle.resolved_runs.specs.HeldCounts.{given_up, given_up_forwards, given_up_requests}
use Rattle.resolved_runs.specs.Plain.{plain}
use Rattle.resolved_runs.specs.ResolvedLaws.{HasHopsLeftResolved, IsConservedResolved, IsLookedUpResolved}
use Rattle.resolved_runs.specs.Rings.{AreHeldAsReached, AreShed}
use Rattle.run_cables.specs.Wired.{pending_for}
use Rattle.run_cables.specs.declared.wiring.Wiring.{Wiring}
use Rattle.run_cables.specs.declared.wiring.Wiring.TheVariants.{Asking, Known}
use Rattle.table_image.specs.Internet.{Internet}

-- Each datagram to a listed network is under way once or has reached its destination's cable once, and no other cable;
-- each to a network that is neither listed nor 0 is under way once or was dropped once. Where stations ask for hardware
-- addresses, a datagram may also be held once, or have been given up.
abbrev pub IsEachOnceOn : Internet → Wiring → Type 0
IsEachOnceOn i (Known c) = IsConserved i (said c)
IsEachOnceOn i (Asking w) = IsConservedResolved i (said w.cabling)

-- Conservation, of a run.
abbrev pub IsEachOnce : Running → Type 0
IsEachOnce r = IsEachOnceOn r.internet r.wiring

-- A datagram that is under way to a listed network, or held for a router, has enough hops left for the routers that remain on
-- its path.
abbrev pub HasHopsOn : Internet → Wiring → Type 0
HasHopsOn i (Known c) = HasHopsLeft i (said c)
HasHopsOn i (Asking w) = HasHopsLeftResolved i (said w.cabling)

-- Hops left, of a run.
abbrev pub HasHops : Running → Type 0
HasHops r = HasHopsOn r.internet r.wiring

-- A datagram that reached a cable was carried by at most fifteen routers, each of which shares a cable with the next;
-- a station that takes a frame is on the frame's cable; and a router that carries a datagram on puts it on the cable of
-- the walk's step, where stations ask for hardware addresses in the plain transcript.
abbrev pub AreCarriedOn : Internet → Wiring → Type 0
AreCarriedOn i (Known c) = AreCarried i none_yet (said c) × AreTakenThere i [] (said c) × AreByHand i false (said c)
AreCarriedOn i (Asking w) =
    AreCarriedOrHeld i none_yet (said w.cabling) × AreTakenThere i [] (said w.cabling)
    × AreByHand i false (plain i (said w.cabling))

-- Carriage, of a run.
abbrev pub AreAllCarried : Running → Type 0
AreAllCarried r = AreCarriedOn r.internet r.wiring

-- No node has sent a forward request or a lookup, which only routers make from requests.
abbrev pub HaveOnlyAsked : Running → Type 0
HaveOnlyAsked r = NodesOnlyAsk r.internet (transcript r)

-- Each broadcast request that was taken has had one lookup, or has a forward request under way, on exactly the cables that list
-- its zone. Where stations ask for hardware addresses, the forward request may also be held, or have been given up.
abbrev pub IsLookedUpOn : Internet → Wiring → List ℕ → Type 0
IsLookedUpOn i (Known c) k = IsLookedUp i (said c) k
IsLookedUpOn i (Asking w) k = IsLookedUpResolved i (said w.cabling) k

-- No node has sent a forward request or a lookup, and each broadcast request is looked up.
abbrev pub LooksUp : Running → Type 0
LooksUp r = HaveOnlyAsked r × ((k : List ℕ) → IsLookedUpOn r.internet r.wiring k)

-- Where stations ask for hardware addresses: a datagram is held once, also for a target that nobody is, and put once; while it is
-- held for a station, a request for that station's address, or the station's response to the holder, is pending; and what is
-- given up is the oldest of sixteen, directly after its station held one more on its cable.
abbrev pub AreAskedForOn : Internet → Wiring → Type 0
AreAskedForOn i (Known c) = Unit {0}
AreAskedForOn i (Asking w) =
    AreHeldOnce (said w.cabling) × ArePutOnce (said w.cabling) × AreAskedFor i (said w.cabling)
    × AreHeldAsReached (said w.cabling) × AreShed (said w.cabling)

-- What is held is asked for, in a run.
abbrev pub AreAllAskedFor : Running → Type 0
AreAllAskedFor r = AreAskedForOn r.internet r.wiring

-- Nothing is pending: each frame was taken by each station that it was for.
abbrev pub IsAtRest : Running → Type 0
IsAtRest r = pending_in r ≡ []

-- Where stations ask for hardware addresses: each datagram to a station's address was taken by that station, is on its way to it,
-- or was given up; and none is on its way where no frame is pending.
abbrev pub AreHeardOn : Internet → Wiring → Type 0
AreHeardOn i (Known c) = Unit {0}
AreHeardOn i (Asking w) = AreHeardOrOnTheirWay i (said w.cabling) × (pending_for (Asking w) ≡ [] → AreHeardAtRest i (said w.cabling))

-- Datagrams are heard, in a run.
abbrev pub AreAllHeard : Running → Type 0
AreAllHeard r = AreHeardOn r.internet r.wiring

-- ---- At rest

-- How often the body was given up while it was held for a router: never where every hardware address is known.
abbrev pub shed : Internet → Wiring → List ℕ → ℕ
shed i (Known c) b = 0
shed i (Asking w) b = given_up i b (said w.cabling)

-- How many broadcast requests with this key were given up while they were held for a station.
abbrev pub shed_requests : Internet → Wiring → List ℕ → ℕ
shed_requests i (Known c) k = 0
shed_requests i (Asking w) k = given_up_requests i k (said w.cabling)

-- How many forward requests with this key to the cable were given up while they were held for a router.
abbrev pub shed_forwards : Internet → Wiring → List ℕ → ℕ → ℕ
shed_forwards i (Known c) k cable = 0
shed_forwards i (Asking w) k cable = given_up_forwards i k cable (said w.cabling)

-- The body has reached the cable as often as it was sent, but for what was given up.
abbrev pub HasArrived : Running → List ℕ → ℕ → Type 0
HasArrived r b cable = sent b (transcript r) ≡ reached b cable (transcript r) + shed r.internet r.wiring b

-- Each broadcast request with this key that was sent was taken, but for those that were given up.
abbrev pub AreTaken : Running → List ℕ → Type 0
AreTaken r k = asked r.internet k (transcript r) ≡ taken r.internet k (transcript r) + shed_requests r.internet r.wiring k

-- Each broadcast request with this key that was taken has had one lookup on the cable, but for those whose forward request was
-- given up.
abbrev pub HaveHadALookup : Running → List ℕ → ℕ → Type 0
HaveHadALookup r k cable =
    lookups r.internet k cable (transcript r) + shed_forwards r.internet r.wiring k cable ≡ taken r.internet k (transcript r)

-- ---- Events

-- The body is a forward request or a lookup.
abbrev pub is_routers_request : List ℕ → Bool
is_routers_request b = is_forward (request b) || is_lookup (request b)

-- The event doesn't send a forward request or a lookup.
abbrev pub OnlyAsks : Internet → Event → Type 0
OnlyAsks i (Send node via target target_socket source_socket kind summed payload) =
    (o : Order) → ◌≡◌ {A = Result Order Error}
    (send_order i node via (header_for target target_socket source_socket kind summed) (length payload)) (Ok o)
    → is_routers_request (body (bytes_for o payload)) ≡ false
OnlyAsks i (Request node via id name) = Unit {0}
OnlyAsks i (Take stamp station) = Unit {0}
