use Rattle.std.proofs.Common.{◌≡◌, ◌+◌, ◌++◌, ℕ, arith, drop, set, subst, take}
use Rattle.cabled.specs.Steps.{called_at, called_from}
use Rattle.cabled.proofs.Turns.{called_more}
use Rattle.cabled.proofs.ticking.call_all.Goals as goal

pub loop-port-preserved : goal.loop-port-preserved
loop-port-preserved c =
    let number = c.loop-port.invariant.0 in
    let i = c.loop-port.port-index in
    let choosers = c.args.choosers.now in
    let all = c.args.ports.now in
    let from : 0 + i ≡ i = omega arith in
    let more = called_more choosers 0 all c.loop-port.ports i c.port-item.result c.loop-port-test.true c.loop-port.invariant.1
    c.port-item.is in (
      omega (arith, number),
      rw (c.settle.ensures, c.own_at.ensures.value, number, ← c.port-item.is)
          (subst (λ (n : ℕ). set c.loop-port.ports i (called_at choosers n c.port-item.result)
          ≡ called_from choosers 0 (take (i + 1) all) ++ drop (i + 1) all) from more),
    )
