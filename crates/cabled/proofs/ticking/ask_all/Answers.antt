use Rattle.std.proofs.Common.{◌≡◌, ◌+◌, ◌∙◌, List, ap, arith, get_or, sym, take}
use Rattle.std.proofs.lemmas.List.{append_assoc}
use Rattle.std.proofs.lemmas.List.Edits.{map_over_more}
use Rattle.cabled.specs.Putting.{all_asked, asked_again, with_tick}
use Rattle.cabled.proofs.Turns.{asked_more, lost_more, still}
use Rattle.port.specs.Ports.{Ported}
use Rattle.rtmp.specs.declared.row.Row.{Row}
use Rattle.cabled.proofs.ticking.ask_all.Goals as goal

pub loop-port-preserved : goal.loop-port-preserved
loop-port-preserved g c =
    let inv = c.loop-port.invariant in
    let i = c.loop-port.port-index in
    let p = c.port-item.result in
    let all = c.args.ports.now in
    let first : 0 + i ≡ i = omega arith in
    let same : p ≡ get_or all i p = c.port-item.is ∙ (ap (λ (l : List Ported). get_or l i p) inv.1 ∙ still with_tick all i p c.loop-port-test.true) in
    let number = inv.0 in
    let spare = c.ask_again.ensures.spare in
    let room = inv.4 in (
      omega (arith, number),
      rw (c.ask_again.ensures.after, ← c.port-item.is)
          (map_over_more with_tick all c.loop-port.ports i p c.loop-port-test.true inv.1 c.port-item.is),
      rw (c.ask_again.ensures.put, ← c.port-item.is, number, inv.2, asked_more 0 all i p c.loop-port-test.true same, first)
          (append_assoc c.args.puts.now.items (all_asked 0 (take i all)) (asked_again i p)),
      rw (c.ask_again.ensures.lost, ← c.port-item.is, inv.3)
          (ap (λ (rows : List Row). record c.args.router.now { router = record c.args.router.now.router { routes = rows } })
          (sym (lost_more all c.args.router.now.router.routes i p c.loop-port-test.true same))),
      omega (arith, spare, room),
    )
