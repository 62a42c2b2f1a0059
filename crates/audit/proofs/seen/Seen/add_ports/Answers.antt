use Rattle.std.proofs.Common.{◌≡◌, ◌∙◌, Some, slice_get, below_more, refl, sym, subst, arith}
use Rattle.std.proofs.lemmas.Option.{same_Some, slice_get_within}
use Rattle.table_image.specs.declared.port.Port.{Port}
use Rattle.audit.specs.Seen.{HasSeen}
use Rattle.audit.proofs.Firsts.{item_at}
use Rattle.audit.proofs.seen.Seen.add_ports.Goals as goal

pub loop-port-preserved : goal.loop-port-preserved
loop-port-preserved c =
    let ports = c.args.ports.now in
    let seen = c.add.ensures.seen in
    let at : slice_get ports c.loop-port.port-index ≡ Some c.port-item.result =
    item_at ports ports c.loop-port.port-index _ refl c.loop-port-test.true c.port-item.is in
    let P : Port → Type 0 = λ port. HasSeen c.add.new.self port.address port.hardware in
    let here : (port : Port) → slice_get ports c.loop-port.port-index ≡ Some port → HasSeen c.add.new.self port.address port.hardware =
    λ port e. subst P (same_Some c.port-item.result port (sym at ∙ e)) seen in (
      below_more (λ p. (port : Port) → slice_get ports p ≡ Some port → HasSeen c.add.new.self port.address port.hardware) _
          (λ p lt port at. c.add.ensures.more _ _ (c.loop-port.invariant.0 p lt port at)) here,
      λ a h had. c.add.ensures.more a h (c.loop-port.invariant.1 a h had),
    )

pub returns-clause-seen : goal.returns-clause-seen
returns-clause-seen c p port at = let within = slice_get_within c.args.ports.now p port at in
    c.loop-port.invariant.0 p (omega (arith, within)) port at
