use Rattle.std.proofs.Common.{◌≡◌, ℕ, ◌%◌, List, arith, subst}
use Rattle.std.proofs.lemmas.Option.{slice_get_within}
use Rattle.table_image.specs.declared.port.Port.{Port}
use Rattle.audit.specs.Hints.{Names, FirstOr}
use Rattle.audit.proofs.Firsts.{item_at}
use Rattle.audit.proofs.HintSteps.{one_more}
use Rattle.audit.proofs.next.Hints.of.Goals as goal

pub loop-r-preserved : goal.loop-r-preserved
loop-r-preserved c =
    let routers = c.args.image.now.routers in
    let r = c.loop-r.r in
    let new = c.add_ports.new.self in
    let ports = c.router-item.result.ports in
    let at = item_at routers _ r _ c.routers-router-items.ensures.value c.loop-r-test.true c.router-item.is in
    let few = c.routers-router-items.ensures.bounded.routers in
    let within = slice_get_within routers r _ at in
    let byte : r % 256 ≡ r = omega (arith, few, within) in
    let Each : List Port → Type 0 = λ l. Names new (r % 256) l in
    let Others : List Port → Type 0 = λ l. (slot : ℕ) → FirstOr new c.loop-r.hints (r % 256) l slot in
    let each = subst (λ s. Names new s ports) byte (subst Each c.as_slice.ensures c.add_ports.ensures.each) in
    let others = subst (λ s. (slot : ℕ) → FirstOr new c.loop-r.hints s ports slot) byte
    (subst Others c.as_slice.ensures c.add_ports.ensures.others) in
    one_more new c.loop-r.hints routers r c.router-item.result at each others c.loop-r.invariant
