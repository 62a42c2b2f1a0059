use Rattle.std.proofs.Common.{rules, arith, ap, length, List, ℕ, ◌+◌}
use Rattle.table_image.proofs.Checked.{name_passes}
use Rattle.table_image.proofs.CheckedParts.{FitsNode, node_misses, node_names, node_checks, all_true}
use Rattle.table_image.proofs.node.NodeCheckItem.check_one.Goals as goal

pub check_counted-requires : goal.check_counted-requires
check_counted-requires c = (omega arith, (all_true c.args.self.now.names, (search rules, search rules)))

pub returns-then-self-context-clause-checked : goal.returns-then-self-context-clause-checked
returns-then-self-context-clause-checked c =
    let f : FitsNode c.args.self.now =
    record { cable = omega arith; net = omega arith; node = omega arith; hardware = c.as_slice-hardware.ensures.six } in
    node_misses c.args.context.version c.args.context.cables c.args.self.now c.args.at f (omega arith)

pub returns-in-Err-clause-checked : goal.returns-in-Err-clause-checked
returns-in-Err-clause-checked c =
    let f : FitsNode c.args.self.now =
    record { cable = omega arith; net = omega arith; node = omega arith; hardware = c.as_slice-hardware.ensures.six } in
    let len = ap (λ (s : List ℕ). length s) c.as_slice-zone.ensures.value in
    let size = c.own_router_size.ensures.size in
    let zone_end = c.args.at + 11 + length c.as_slice-zone.result.now in
    node_names c.args.context.version c.args.context.cables c.args.self.now c.args.at zone_end (zone_end + c.own_router_size.result)
    c.in-Err.flaw f (omega arith)
    (name_passes c.args.self.now.zone (c.args.at + 10) zone_end c.as_slice-zone.ensures.named (omega (arith, len)))
    (c.own_router_size.ensures.value, omega (arith, size)) c.in-Err.ensures.checked

pub returns-in-Ok-clause-checked : goal.returns-in-Ok-clause-checked
returns-in-Ok-clause-checked c =
    let f : FitsNode c.args.self.now =
    record { cable = omega arith; net = omega arith; node = omega arith; hardware = c.as_slice-hardware.ensures.six } in
    let len = ap (λ (s : List ℕ). length s) c.as_slice-zone.ensures.value in
    let size = c.own_router_size.ensures.size in
    let zone_end = c.args.at + 11 + length c.as_slice-zone.result.now in
    node_checks c.args.context.version c.args.context.cables c.args.self.now c.args.at zone_end (zone_end + c.own_router_size.result)
    c.in-Ok.end c.check_mappings.result f (omega arith)
    (name_passes c.args.self.now.zone (c.args.at + 10) zone_end c.as_slice-zone.ensures.named (omega (arith, len)))
    (c.own_router_size.ensures.value, omega (arith, size)) c.in-Ok.ensures.checked c.check_mappings.ensures.checked
