use Rattle.std.proofs.Common.{◌≡◌, ◌∙◌, Some, slice_get, below_more, refl, sym, subst, arith}
use Rattle.std.proofs.lemmas.Option.{same_Some, slice_get_within}
use Rattle.table_image.specs.declared.port.Port.{Port}
use Rattle.audit.specs.Hints.{hint_at, port_slot}
use Rattle.audit.proofs.HintSteps.{still_names, first_or_new, own_slot}
use Rattle.audit.proofs.Firsts.{item_at}
use Rattle.audit.proofs.next.Hints.add_ports.Goals as goal

pub loop-port-preserved : goal.loop-port-preserved
loop-port-preserved c =
    let ports = c.args.ports.now in
    let new = c.put.new.self in
    let here = c.put.ensures.here in
    let others = c.put.ensures.others in
    let at : slice_get ports c.loop-port.port-index ≡ Some c.port-item.result =
    item_at ports ports c.loop-port.port-index _ refl c.loop-port-test.true c.port-item.is in
    let P : Port → Type 0 = λ port. hint_at new (port_slot port) ≡ c.args.s in
    let last : (port : Port) → slice_get ports c.loop-port.port-index ≡ Some port → P port =
    λ port e. subst P (same_Some c.port-item.result port (sym at ∙ e)) here in
    let own = own_slot ports c.loop-port.port-index c.port-item.result at in (
      below_more (λ p. (port : Port) → slice_get ports p ≡ Some port → P port) _
          (λ p lt port at. still_names new _ _ _ here others (port_slot port) (c.loop-port.invariant.0 p lt port at)) last,
      λ slot. first_or_new new _ _ _ _ ports here others own slot (c.loop-port.invariant.1 slot),
    )

pub returns-clause-each : goal.returns-clause-each
returns-clause-each c p port at = let within = slice_get_within c.args.ports.now p port at in
    c.loop-port.invariant.0 p (omega (arith, within)) port at
