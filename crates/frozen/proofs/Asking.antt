-- The entries in which a node sends a forward request or a lookup: only a Send event adds one.
use Rattle.std.proofs.Common.{Bool, List, [], false, not, ℕ, ◌++◌, ◌∷◌, ◌≡◌}
use Rattle.std.proofs.Common.{sym, ap, ◌∙◌, subst, arith}
use Rattle.std.proofs.lemmas.Bool.{and_right}
use Rattle.cable_model.proofs.Counting.{count-append}
use Rattle.cable_model.specs.Transcript.{Sent, count}
use Rattle.ddp.specs.Bodies.{body}
use Rattle.frozen.proofs.Keeps.{sent_so, took_so}
use Rattle.frozen.specs.Events.{SentBy}
use Rattle.frozen.specs.Orders.{IsFair, bytes_for}
use Rattle.frozen.specs.Promises.{HaveOnlyAsked, is_routers_request}
use Rattle.frozen.specs.Runs.{IsFrozen, Running, TakenBy, transcript}
use Rattle.frozen.specs.declared.order.Order.{Order}
use Rattle.legal_stations.proofs.Making.{IsSent}
use Rattle.legal_runs.specs.Lookups.{is_unasked}
use Rattle.legal_runs.specs.Stations.{is_router}
use Rattle.table_image.specs.Internet.{Internet}

-- A run after a Take event.
pub took_asks : (old new : Running) (stamp s : ℕ) → IsFrozen old → TakenBy old stamp s new → HaveOnlyAsked old → HaveOnlyAsked new
took_asks old new stamp s frozen taken only =
    let i = old.internet in
    let t = transcript old in
    let so = took_so old new stamp s frozen taken in
    let none = so.none in
    let parts = count-append (is_unasked i) t so.block in
    let before : count (is_unasked i) t ≡ 0 = only in
    let after : count (is_unasked i) (t ++ so.block) ≡ 0 = omega (arith, none, parts, before) in
    subst (λ (j : Internet). count (is_unasked j) (transcript new) ≡ 0) (sym taken.internet)
    (ap (count (is_unasked i)) so.added ∙ after)

-- A run after a node sent a datagram that is neither a forward request nor a lookup.
pub sent_asks : (old new : Running) (o : Order) (payload : List ℕ) → IsFrozen old → IsFair old.internet o → IsSent o.header payload
    → SentBy old o payload new → HaveOnlyAsked old → is_routers_request (body (bytes_for o payload)) ≡ false → HaveOnlyAsked new
sent_asks old new o payload frozen fair sent by only asks =
    let i = old.internet in
    let t = transcript old in
    let bytes = bytes_for o payload in
    let so = sent_so old new o payload frozen fair sent by in
    let rest : count (is_unasked i) so.rest ≡ 0 = so.none in
    let first : is_unasked i (Sent o.station (body bytes)) ≡ false = and_right (not (is_router i o.station)) _ asks in
    let one = ap (λ b. count (λ (x : Bool). x) (b ∷ [])) first in
    let parts = count-append (is_unasked i) t (Sent o.station (body bytes) ∷ so.rest) in
    let before : count (is_unasked i) t ≡ 0 = only in
    let after : count (is_unasked i) (t ++ Sent o.station (body bytes) ∷ so.rest) ≡ 0 = omega (arith, rest, one, parts, before) in
    subst (λ (j : Internet). count (is_unasked j) (transcript new) ≡ 0) (sym by.internet)
    (ap (count (is_unasked i)) so.added ∙ after)
