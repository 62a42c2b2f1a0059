use Rattle.std.proofs.Common.{◌≡◌, true, ap, sym, subst, ◌∙◌, refl, IsTrue}
use Rattle.std.proofs.lemmas.Result.{on_ok_weaker}
use Rattle.cable_model.specs.Outcomes.{has_cable, is_seated}
use Rattle.ddp.specs.Datagram.{datagram_of}
use Rattle.frozen.proofs.Asked.{request_of}
use Rattle.frozen.proofs.Asking.{sent_asks}
use Rattle.frozen.proofs.Fair.{sent_whole}
use Rattle.frozen.proofs.Keeps.{sent_block, sent_keeps}
use Rattle.frozen.proofs.Refused.{of_both}
use Rattle.frozen.proofs.Seats.{on_seated, seated_cable}
use Rattle.frozen.specs.Events.{SentBy}
use Rattle.frozen.specs.Orders.{IsFair, bytes_for}
use Rattle.frozen.specs.Promises.{HaveOnlyAsked}
use Rattle.frozen.specs.Runs.{AddsBlock, IsFrozen, Running}
use Rattle.legal_runs.specs.Legs.{places_of}
use Rattle.legal_stations.proofs.Making.{IsSent}
use Rattle.legal_runs.proofs.Frames.{whole}
use Rattle.legal_runs.specs.Requests.{request}
use Rattle.run_cables.specs.Wired.{IsSentOn}
use Rattle.station.specs.Lawful.{are_bytes}
use Rattle.frozen.proofs.frozen.Frozen.carry_out.Goals as goal

pub send-requires-clause-cable : goal.send-requires-clause-cable
send-requires-clause-cable g c =
    let o = c.args.order.now in
    let fair = subst (λ (r : Running). IsFair r.internet o) (sym c.self.view_is) c.requires.fair in
    subst (λ l. has_cable l o.cable ≡ true) (sym c.self.invariant.0.seats)
    (seated_cable c.self.inside.places o.station o.cable fair.seated)

pub send-requires-clause-seated : goal.send-requires-clause-seated
send-requires-clause-seated g c =
    let o = c.args.order.now in
    let fair = subst (λ (r : Running). IsFair r.internet o) (sym c.self.view_is) c.requires.fair in
    subst (λ l. is_seated l o.cable o.station ≡ true) (sym c.self.invariant.0.seats)
    (on_seated c.self.inside.places o.station o.cable fair.seated)

pub invariant_of-self : goal.invariant_of-self
invariant_of-self g c =
    let o = c.args.order.now in
    let i = c.self.inside.places in
    let payload = c.args.payload.now in
    let fair = subst (λ (r : Running). IsFair r.internet o) (sym c.self.view_is) c.requires.fair in
    let each = subst (λ b. IsTrue (are_bytes b)) c.as_slice.ensures c.slices_have_bytes.ensures in
    let sent : IsSent o.header payload = sent_whole o.header payload c.in-Ok.bytes c.in-Ok.ensures.written each in
    let old : Running = record { internet = i; stations = c.self.inside.stations.items; wiring = c.self.inside.wiring } in
    let new : Running = record { internet = i; stations = c.self.inside.stations.items; wiring = c.send.new.self } in (
      of_both c.send.result
          (IsSentOn (places_of i) o.station o.cable o.next c.in-Ok.bytes c.self.inside.wiring c.send.new.self)
          (c.send.new.self ≡ c.self.inside.wiring)
          (IsFrozen new)
          c.send.ensures.sent c.send.ensures.kept
          (λ went. sent_keeps old new o payload c.self.invariant.0 fair sent (record {
            internet = refl;
            stations = refl;
            sent =
                subst (λ b. IsSentOn (places_of i) o.station o.cable o.next b c.self.inside.wiring c.send.new.self)
                c.in-Ok.ensures.written.1 went;
          }))
          (λ same. subst IsFrozen (ap (λ k. record { internet = i; stations = c.self.inside.stations.items; wiring = k }) (sym same))
          c.self.invariant.0),
      c.self.invariant.1 ∙ sym c.send.ensures.limit,
      c.send.ensures.still,
    )

pub returns-in-Ok-clause-sent : goal.returns-in-Ok-clause-sent
returns-in-Ok-clause-sent g c =
    let o = c.args.order.now in
    let i = c.self.inside.places in
    let new : Running = record { internet = i; stations = c.self.inside.stations.items; wiring = c.send.new.self } in
    on_ok_weaker c.send.result
    (λ went. subst (λ (r : Running). SentBy r o c.args.payload.now new) c.self.view_is (record {
      internet = refl;
      stations = refl;
      sent =
          subst (λ b. IsSentOn (places_of i) o.station o.cable o.next b c.self.inside.wiring c.send.new.self)
          c.in-Ok.ensures.written.1 went;
    })) c.send.ensures.sent

pub returns-in-Ok-clause-request : goal.returns-in-Ok-clause-request
returns-in-Ok-clause-request g c =
    let o = c.args.order.now in
    let payload = c.args.payload.now in
    let each = subst (λ b. IsTrue (are_bytes b)) c.as_slice.ensures c.slices_have_bytes.ensures in
    let sent : IsSent o.header payload = sent_whole o.header payload c.in-Ok.bytes c.in-Ok.ensures.written each in
    let bytes = bytes_for o payload in
    on_ok_weaker c.send.result
    (λ went. ap request (whole bytes sent.is_body).same
    ∙ request_of bytes (datagram_of o.header payload) (c.in-Ok.ensures.written.0, refl)) c.send.ensures.sent

pub returns-in-Ok-clause-frozen : goal.returns-in-Ok-clause-frozen
returns-in-Ok-clause-frozen g c = (invariant_of-self g c).0

pub returns-in-Ok-clause-asks : goal.returns-in-Ok-clause-asks
returns-in-Ok-clause-asks g c = λ only asks.
    let o = c.args.order.now in
    let i = c.self.inside.places in
    let payload = c.args.payload.now in
    let fair = subst (λ (r : Running). IsFair r.internet o) (sym c.self.view_is) c.requires.fair in
    let each = subst (λ b. IsTrue (are_bytes b)) c.as_slice.ensures c.slices_have_bytes.ensures in
    let sent : IsSent o.header payload = sent_whole o.header payload c.in-Ok.bytes c.in-Ok.ensures.written each in
    let old : Running = record { internet = i; stations = c.self.inside.stations.items; wiring = c.self.inside.wiring } in
    let new : Running = record { internet = i; stations = c.self.inside.stations.items; wiring = c.send.new.self } in
    let before : HaveOnlyAsked old = subst HaveOnlyAsked (sym c.self.view_is) only in
    of_both c.send.result
    (IsSentOn (places_of i) o.station o.cable o.next c.in-Ok.bytes c.self.inside.wiring c.send.new.self)
    (c.send.new.self ≡ c.self.inside.wiring)
    (HaveOnlyAsked new)
    c.send.ensures.sent c.send.ensures.kept
    (λ went. sent_asks old new o payload c.self.invariant.0 fair sent (record {
      internet = refl;
      stations = refl;
      sent =
          subst (λ b. IsSentOn (places_of i) o.station o.cable o.next b c.self.inside.wiring c.send.new.self)
          c.in-Ok.ensures.written.1 went;
    }) before asks)
    (λ same. subst HaveOnlyAsked
    (ap (λ k. record { internet = i; stations = c.self.inside.stations.items; wiring = k }) (sym same)) before)

pub returns-in-Ok-clause-block : goal.returns-in-Ok-clause-block
returns-in-Ok-clause-block g c =
    let o = c.args.order.now in
    let i = c.self.inside.places in
    let payload = c.args.payload.now in
    let fair = subst (λ (r : Running). IsFair r.internet o) (sym c.self.view_is) c.requires.fair in
    let each = subst (λ b. IsTrue (are_bytes b)) c.as_slice.ensures c.slices_have_bytes.ensures in
    let sent : IsSent o.header payload = sent_whole o.header payload c.in-Ok.bytes c.in-Ok.ensures.written each in
    let old : Running = record { internet = i; stations = c.self.inside.stations.items; wiring = c.self.inside.wiring } in
    let new : Running = record { internet = i; stations = c.self.inside.stations.items; wiring = c.send.new.self } in
    on_ok_weaker c.send.result
    (λ went. subst (λ (r : Running). AddsBlock r new) c.self.view_is
    (sent_block old new o payload c.self.invariant.0 fair sent (record {
      internet = refl;
      stations = refl;
      sent =
          subst (λ b. IsSentOn (places_of i) o.station o.cable o.next b c.self.inside.wiring c.send.new.self)
          c.in-Ok.ensures.written.1 went;
    }))) c.send.ensures.sent
