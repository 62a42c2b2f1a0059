use Rattle.std.proofs.Common.{◌≡◌, ◌∙◌, ap, arith, length, rules}
use Rattle.table_image.specs.declared.context.Context.{Context}
use Rattle.table_image.proofs.CheckedParts.{router_ports, router_rows, router_checks, all_true}
use Rattle.table_image.proofs.router.RouterCheckItem.check_one.Goals as goal

pub check_counted-requires : goal.check_counted-requires
check_counted-requires c = (omega arith, (search rules, (search rules, search rules)))

pub check_counted-requires-2 : goal.check_counted-requires-2
check_counted-requires-2 c = (omega arith, (all_true c.args.self.now.rows, (search rules, search rules)))

pub returns-in-Err-clause-checked : goal.returns-in-Err-clause-checked
returns-in-Err-clause-checked c = router_ports c.args.context.version c.args.context.cables c.args.self.now c.args.at c.in-Err.flaw c.in-Err.ensures.checked

pub returns-in-Err-check_counted-clause-checked : goal.returns-in-Err-check_counted-clause-checked
returns-in-Err-check_counted-clause-checked c =
    let ports : c.with_ports-of_ports.result.ports ≡ length c.args.self.now.ports =
    ap (λ (x : Context). x.ports) c.with_ports-of_ports.ensures ∙ c.len.ensures in
    router_rows c.args.context.version c.args.context.cables c.args.self.now c.args.at c.in-Ok.end c.in-Err-check_counted.flaw c.in-Ok.ensures.checked
    (rw (← ports) c.in-Err-check_counted.ensures.checked)

pub returns-in-Ok-check_counted-clause-checked : goal.returns-in-Ok-check_counted-clause-checked
returns-in-Ok-check_counted-clause-checked c =
    let ports : c.with_ports-of_ports.result.ports ≡ length c.args.self.now.ports =
    ap (λ (x : Context). x.ports) c.with_ports-of_ports.ensures ∙ c.len.ensures in
    router_checks c.args.context.version c.args.context.cables c.args.self.now c.args.at c.in-Ok.end c.in-Ok-check_counted.end c.check_counted-in-Ok-check_counted.result
    c.in-Ok.ensures.checked (rw (← ports) c.in-Ok-check_counted.ensures.checked)
    c.check_counted-in-Ok-check_counted.ensures.checked
