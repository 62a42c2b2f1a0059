use Rattle.std.proofs.Common.{◌≡◌, ◌<◌, false, length, List, ℕ, Result, Ok, ap, sym, subst, ◌∙◌, arith}
use Rattle.at_base.specs.declared.error.Error.{Error}
use Rattle.ddp.specs.Bodies.{body}
use Rattle.ddp.specs.declared.header.Header.{Header}
use Rattle.frozen.proofs.Fair.{send_fair}
use Rattle.frozen.proofs.Promised.{all_asked_for, all_carried, all_heard, each_once, has_hops, looks_up}
use Rattle.frozen.proofs.Seats.{found_within}
use Rattle.frozen.specs.Events.{header_for}
use Rattle.frozen.specs.Orders.{IsFair, bytes_for, send_order}
use Rattle.frozen.specs.Promises.{OnlyAsks, is_routers_request}
use Rattle.frozen.specs.Runs.{IsFrozen, Running}
use Rattle.frozen.specs.declared.order.Order.{Order}
use Rattle.frozen.proofs.frozen.Frozen.event.Goals as goal

pub carry_out-requires-clause-fair : goal.carry_out-requires-clause-fair
carry_out-requires-clause-fair g c =
    subst (λ (r : Running). IsFair r.internet c.in-Ok.order) c.self.view_is
    (send_fair c.self.inside.places c.self.invariant.0.passes c.in-Send.node c.in-Send.via _ _ c.in-Ok.order
    (sym c.send_order.ensures.value ∙ c.in-Ok.is))

pub take-requires : goal.take-requires
take-requires g c =
    let frozen = c.self-in-Take.invariant.0 in
    let number = frozen.holders.number in
    let within = found_within c.self-in-Take.inside.places c.in-Take.station c.in-Some.station (sym c.station.ensures ∙ c.in-Some.is) in
    record { there = subst (λ (r : Running). c.in-Some.station < length r.stations) c.self-in-Take.view_is (omega (arith, number, within)) }

pub returns-in-Ok-clause-conserved : goal.returns-in-Ok-clause-conserved
returns-in-Ok-clause-conserved g c = each_once c.carry_out.new.self c.carry_out.ensures.frozen

pub returns-in-Ok-clause-hops : goal.returns-in-Ok-clause-hops
returns-in-Ok-clause-hops g c = has_hops c.carry_out.new.self c.carry_out.ensures.frozen

pub returns-in-Ok-clause-carried : goal.returns-in-Ok-clause-carried
returns-in-Ok-clause-carried g c = all_carried c.carry_out.new.self c.carry_out.ensures.frozen

pub returns-in-Ok-clause-looked_up : goal.returns-in-Ok-clause-looked_up
returns-in-Ok-clause-looked_up g c = λ up only.
    let x = c.in-Send in
    let o = c.in-Ok.order in
    let header : Header = header_for x.target x.target_socket x.source_socket x.kind x.summed in
    let order : ◌≡◌ {A = Result Order Error} (send_order c.args.self.now.internet x.node x.via header (length x.payload)) (Ok o) =
    subst (λ (r : Running). ◌≡◌ {A = Result Order Error} (send_order r.internet x.node x.via header (length x.payload)) (Ok o))
    c.self.view_is (ap (λ n. send_order c.self.inside.places x.node x.via header n) (sym c.len.ensures)
    ∙ (sym c.send_order.ensures.value ∙ c.in-Ok.is)) in
    let asks : is_routers_request (body (bytes_for o x.payload)) ≡ false =
    (subst (OnlyAsks c.args.self.now.internet) x.is only) o order in
    looks_up c.carry_out.new.self c.carry_out.ensures.frozen
    (c.carry_out.ensures.asks up.0
    (subst (λ (b : List ℕ). is_routers_request (body (bytes_for o b)) ≡ false) (sym c.as_slice.ensures) asks))

pub returns-in-Err-clause-conserved : goal.returns-in-Err-clause-conserved
returns-in-Err-clause-conserved g c = each_once c.args.self.now (subst IsFrozen c.self.view_is c.self.invariant.0)

pub returns-in-Err-clause-hops : goal.returns-in-Err-clause-hops
returns-in-Err-clause-hops g c = has_hops c.args.self.now (subst IsFrozen c.self.view_is c.self.invariant.0)

pub returns-in-Err-clause-carried : goal.returns-in-Err-clause-carried
returns-in-Err-clause-carried g c = all_carried c.args.self.now (subst IsFrozen c.self.view_is c.self.invariant.0)

pub returns-in-Request-clause-conserved : goal.returns-in-Request-clause-conserved
returns-in-Request-clause-conserved g c = each_once c.ask.new.self c.ask.ensures.frozen

pub returns-in-Request-clause-hops : goal.returns-in-Request-clause-hops
returns-in-Request-clause-hops g c = has_hops c.ask.new.self c.ask.ensures.frozen

pub returns-in-Request-clause-carried : goal.returns-in-Request-clause-carried
returns-in-Request-clause-carried g c = all_carried c.ask.new.self c.ask.ensures.frozen

pub returns-in-Request-clause-looked_up : goal.returns-in-Request-clause-looked_up
returns-in-Request-clause-looked_up g c = λ up only. looks_up c.ask.new.self c.ask.ensures.frozen (c.ask.ensures.asks up.0)

pub returns-in-Some-clause-conserved : goal.returns-in-Some-clause-conserved
returns-in-Some-clause-conserved g c = each_once c.take.new.self c.take.ensures.frozen

pub returns-in-Some-clause-hops : goal.returns-in-Some-clause-hops
returns-in-Some-clause-hops g c = has_hops c.take.new.self c.take.ensures.frozen

pub returns-in-Some-clause-carried : goal.returns-in-Some-clause-carried
returns-in-Some-clause-carried g c = all_carried c.take.new.self c.take.ensures.frozen

pub returns-in-Some-clause-looked_up : goal.returns-in-Some-clause-looked_up
returns-in-Some-clause-looked_up g c = λ up only. looks_up c.take.new.self c.take.ensures.frozen (c.take.ensures.asks up.0)

pub returns-in-None-clause-conserved : goal.returns-in-None-clause-conserved
returns-in-None-clause-conserved g c = each_once c.args.self.now (subst IsFrozen c.self-in-Take.view_is c.self-in-Take.invariant.0)

pub returns-in-None-clause-hops : goal.returns-in-None-clause-hops
returns-in-None-clause-hops g c = has_hops c.args.self.now (subst IsFrozen c.self-in-Take.view_is c.self-in-Take.invariant.0)

pub returns-in-None-clause-carried : goal.returns-in-None-clause-carried
returns-in-None-clause-carried g c = all_carried c.args.self.now (subst IsFrozen c.self-in-Take.view_is c.self-in-Take.invariant.0)

pub returns-in-Ok-clause-asked_for : goal.returns-in-Ok-clause-asked_for
returns-in-Ok-clause-asked_for g c = all_asked_for c.carry_out.new.self c.carry_out.ensures.frozen

pub returns-in-Ok-clause-heard : goal.returns-in-Ok-clause-heard
returns-in-Ok-clause-heard g c = all_heard c.carry_out.new.self c.carry_out.ensures.frozen

pub returns-in-Err-clause-asked_for : goal.returns-in-Err-clause-asked_for
returns-in-Err-clause-asked_for g c = all_asked_for c.args.self.now (subst IsFrozen c.self.view_is c.self.invariant.0)

pub returns-in-Err-clause-heard : goal.returns-in-Err-clause-heard
returns-in-Err-clause-heard g c = all_heard c.args.self.now (subst IsFrozen c.self.view_is c.self.invariant.0)

pub returns-in-Request-clause-asked_for : goal.returns-in-Request-clause-asked_for
returns-in-Request-clause-asked_for g c = all_asked_for c.ask.new.self c.ask.ensures.frozen

pub returns-in-Request-clause-heard : goal.returns-in-Request-clause-heard
returns-in-Request-clause-heard g c = all_heard c.ask.new.self c.ask.ensures.frozen

pub returns-in-Some-clause-asked_for : goal.returns-in-Some-clause-asked_for
returns-in-Some-clause-asked_for g c = all_asked_for c.take.new.self c.take.ensures.frozen

pub returns-in-Some-clause-heard : goal.returns-in-Some-clause-heard
returns-in-Some-clause-heard g c = all_heard c.take.new.self c.take.ensures.frozen

pub returns-in-None-clause-asked_for : goal.returns-in-None-clause-asked_for
returns-in-None-clause-asked_for g c = all_asked_for c.args.self.now (subst IsFrozen c.self-in-Take.view_is c.self-in-Take.invariant.0)

pub returns-in-None-clause-heard : goal.returns-in-None-clause-heard
returns-in-None-clause-heard g c = all_heard c.args.self.now (subst IsFrozen c.self-in-Take.view_is c.self-in-Take.invariant.0)
