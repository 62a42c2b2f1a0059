use Rattle.std.proofs.Common.{Some, ◌≡◌, ap, sym, subst, ◌∙◌, Result, Ok, None, IfErr, OnOk, length, ◌+◌, ◌||◌, List, ℕ}
use Rattle.std.proofs.lemmas.Result.{on_ok_weaker}
use Rattle.at_base.specs.declared.error.Error.{Error}
use Rattle.ddp.specs.Bodies.{body}
use Rattle.frozen.proofs.Asked.{IsQuiet, ask_quiet}
use Rattle.frozen.proofs.Fair.{ask_fair}
use Rattle.frozen.proofs.Refused.{of_both, room_ok, room_refused}
use Rattle.frozen.specs.Events.{IsRefused, SentBy, Sends, order_refusal}
use Rattle.frozen.specs.Orders.{IsFair, ask_data, ask_order, bytes_for}
use Rattle.frozen.specs.Promises.{HaveOnlyAsked}
use Rattle.frozen.specs.Runs.{Running}
use Rattle.frozen.specs.declared.order.Order.{Order}
use Rattle.ddp.specs.Datagram.{datagram_of}
use Rattle.legal_runs.specs.Requests.{is_forward, is_lookup, packet_in, request}
use Rattle.run_cables.specs.Wired.{cabling_of, send_room}
use Rattle.table_image.specs.Internet.{Internet}
use Rattle.frozen.proofs.frozen.Frozen.ask.Goals as goal

pub carry_out-requires-clause-fair : goal.carry_out-requires-clause-fair
carry_out-requires-clause-fair g c =
    subst (λ (r : Running). IsFair r.internet c.in-Ok.order) c.self.view_is
    (ask_fair c.self.inside.places c.self.invariant.0.passes c.args.node c.args.via c.in-Ok.order
    (sym c.ask_order.ensures.value ∙ c.in-Ok.is))

pub returns-clause-sent : goal.returns-clause-sent
returns-clause-sent g c =
    let order : ◌≡◌ {A = Result Order Error} (ask_order c.args.self.now.internet c.args.node c.args.via) (Ok c.in-Ok.order) =
    subst (λ (r : Running). ◌≡◌ {A = Result Order Error} (ask_order r.internet c.args.node c.args.via) (Ok c.in-Ok.order)) c.self.view_is
    (sym c.ask_order.ensures.value ∙ c.in-Ok.is) in
    let payload : c.as_slice.result.now ≡ ask_data c.args.self.now.internet c.args.node c.args.id c.args.name.now =
    c.as_slice.ensures ∙ (c.in-Ok-ask_data.ensures.ok
    ∙ ap (λ (i : Internet). ask_data i c.args.node c.args.id c.args.name.now) c.image.ensures
    ∙ ap (λ (r : Running). ask_data r.internet c.args.node c.args.id c.args.name.now) c.self.view_is) in
    on_ok_weaker c.carry_out.result
    (λ by. subst
    (λ o. Sends c.args.self.now o (ask_data c.args.self.now.internet c.args.node c.args.id c.args.name.now) c.carry_out.new.self)
    (sym order) (subst (λ d. SentBy c.args.self.now c.in-Ok.order d c.carry_out.new.self) payload by)) c.carry_out.ensures.sent

pub returns-clause-refused : goal.returns-clause-refused
returns-clause-refused g c =
    let order : ◌≡◌ {A = Result Order Error} (ask_order c.args.self.now.internet c.args.node c.args.via) (Ok c.in-Ok.order) =
    subst (λ (r : Running). ◌≡◌ {A = Result Order Error} (ask_order r.internet c.args.node c.args.via) (Ok c.in-Ok.order)) c.self.view_is
    (sym c.ask_order.ensures.value ∙ c.in-Ok.is) in
    subst (λ o. IfErr c.carry_out.result (IsRefused (order_refusal c.args.self.now o))) (sym order)
    (room_refused c.carry_out.result (cabling_of c.args.self.now.wiring).limit
    (length (cabling_of c.args.self.now.wiring).lines + send_room c.args.self.now.wiring) c.carry_out.ensures.refused
    c.carry_out.ensures.full)

pub returns-clause-asks : goal.returns-clause-asks
returns-clause-asks g c = λ only.
    let o = c.in-Ok.order in
    let sent = c.as_slice.result.now in
    let new = c.carry_out.new.self in
    let payload : sent ≡ ask_data c.args.self.now.internet c.args.node c.args.id c.args.name.now =
    c.as_slice.ensures ∙ (c.in-Ok-ask_data.ensures.ok
    ∙ ap (λ (i : Internet). ask_data i c.args.node c.args.id c.args.name.now) c.image.ensures
    ∙ ap (λ (r : Running). ask_data r.internet c.args.node c.args.id c.args.name.now) c.self.view_is) in
    let quiet : IsQuiet (packet_in (Some (datagram_of o.header sent))) =
    subst (λ (d : List ℕ). IsQuiet (packet_in (Some (datagram_of o.header d)))) (sym payload)
    (ask_quiet c.args.self.now.internet c.args.node c.args.id c.args.name.now o.header) in
    of_both c.carry_out.result (request (body (bytes_for o sent)) ≡ packet_in (Some (datagram_of o.header sent)))
    (new ≡ c.args.self.now) (HaveOnlyAsked new) c.carry_out.ensures.request c.carry_out.ensures.kept
    (λ carries. c.carry_out.ensures.asks only (ap (λ q. is_forward q || is_lookup q) carries ∙ quiet))
    (λ same. subst HaveOnlyAsked (sym same) only)

pub returns-clause-ok : goal.returns-clause-ok
returns-clause-ok g c =
    let order : ◌≡◌ {A = Result Order Error} (ask_order c.args.self.now.internet c.args.node c.args.via) (Ok c.in-Ok.order) =
    subst (λ (r : Running). ◌≡◌ {A = Result Order Error} (ask_order r.internet c.args.node c.args.via) (Ok c.in-Ok.order)) c.self.view_is
    (sym c.ask_order.ensures.value ∙ c.in-Ok.is) in
    subst (λ o. OnOk c.carry_out.result (order_refusal c.args.self.now o ≡ None)) (sym order)
    (room_ok c.carry_out.result (cabling_of c.args.self.now.wiring).limit
    (length (cabling_of c.args.self.now.wiring).lines + send_room c.args.self.now.wiring) c.carry_out.ensures.full)
