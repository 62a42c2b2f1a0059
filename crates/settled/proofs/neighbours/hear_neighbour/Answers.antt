-- What a neighbour sends is read back, and heard as the law of a step says.
use Rattle.std.proofs.Common.{ap, sym, subst, ◌∙◌}
use Rattle.rtmp.specs.Data.{routing_in}
use Rattle.settled.proofs.Exchange.{data_heard}
use Rattle.settled.proofs.Sent.{on_ok, sent_in, some_sent}
use Rattle.settled.specs.Exchange.{AreMovedRows}
use Rattle.settled.proofs.neighbours.hear_neighbour.Goals as goal

pub unreachable-requires : goal.unreachable-requires
unreachable-requires g c =
    let sent = rw c.in-Some.is at ((c.in_ok-sent.ensures {u = tt}).made) in
    some_sent _ c.in-Some.bytes sent (ap routing_in (sym c.as_slice.ensures) ∙ (sym c.at.ensures ∙ c.in-None.is))

pub returns-clause-heard : goal.returns-clause-heard
returns-clause-heard g c =
    let sent = rw c.in-Some.is at ((c.in_ok-sent.ensures {u = tt}).made) in
    let packet = sent_in _ c.in-Some.bytes sent
    ∙ (ap routing_in (sym c.as_slice.ensures) ∙ (sym c.at.ensures ∙ c.in-Some-at.is)) in
    rw packet c.learn_routes.ensures.ok

pub returns-clause-stays : goal.returns-clause-stays
returns-clause-stays g c = λ i r s ok settled bounded w address here there.
    let sent = rw c.in-Some.is at ((c.in_ok-sent.ensures {u = tt}).made) in
    let packet = sent_in _ c.in-Some.bytes sent
    ∙ (ap routing_in (sym c.as_slice.ensures) ∙ (sym c.at.ensures ∙ c.in-Some-at.is)) in
    on_ok c.learn_routes.result c.learn_routes.ensures.ok
    (λ heard. subst (AreMovedRows i r w.router) (sym heard)
    (data_heard i ok settled bounded r c.args.port s c.args.neighbour.port c.args.neighbour.range w _ _ here there c.args.number
    c.in-Some-at.packet (rw address packet)))
