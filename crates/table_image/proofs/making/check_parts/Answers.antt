use Rattle.std.proofs.Common.{◌≡◌, ◌∙◌, ap, length}
use Rattle.table_image.specs.declared.context.Context.{Context}
use Rattle.table_image.proofs.CheckedImages.{image_cables, image_routers, image_checks}
use Rattle.table_image.specs.Internet.{internet}
use Rattle.table_image.proofs.making.check_parts.Goals as goal

pub returns-in-Err-clause-checked : goal.returns-in-Err-clause-checked
returns-in-Err-clause-checked c =
    let version : c.nothing-context.result.version ≡ c.args.version =
    ap (λ (x : Context). x.version) c.nothing-context.ensures in
    image_cables
    (internet c.args.version c.args.cables.now c.args.routers.now c.args.nodes.now) c.in-Err.flaw
    (rw (← version) c.in-Err.ensures.checked)

pub returns-in-Err-check_counted-clause-checked : goal.returns-in-Err-check_counted-clause-checked
returns-in-Err-check_counted-clause-checked c =
    let before : c.nothing-context.result.version ≡ c.args.version =
    ap (λ (x : Context). x.version) c.nothing-context.ensures in
    let cables : c.with_cables-context.result.cables ≡ length c.args.cables.now =
    ap (λ (x : Context). x.cables) c.with_cables-context.ensures ∙ c.len.ensures in
    let version : c.with_cables-context.result.version ≡ c.args.version =
    ap (λ (x : Context). x.version) c.with_cables-context.ensures ∙ before in
    image_routers
    (internet c.args.version c.args.cables.now c.args.routers.now c.args.nodes.now) c.in-Ok.end
    c.in-Err-check_counted.flaw (rw (← before) c.in-Ok.ensures.checked)
    (rw (← cables, ← version) c.in-Err-check_counted.ensures.checked)

pub returns-in-Ok-check_counted-clause-checked : goal.returns-in-Ok-check_counted-clause-checked
returns-in-Ok-check_counted-clause-checked c =
    let before : c.nothing-context.result.version ≡ c.args.version =
    ap (λ (x : Context). x.version) c.nothing-context.ensures in
    let cables : c.with_cables-context.result.cables ≡ length c.args.cables.now =
    ap (λ (x : Context). x.cables) c.with_cables-context.ensures ∙ c.len.ensures in
    let version : c.with_cables-context.result.version ≡ c.args.version =
    ap (λ (x : Context). x.version) c.with_cables-context.ensures ∙ before in
    image_checks
    (internet c.args.version c.args.cables.now c.args.routers.now c.args.nodes.now) c.in-Ok.end c.in-Ok-check_counted.end
    c.check_counted-in-Ok-check_counted.result (rw (← before) c.in-Ok.ensures.checked)
    (rw (← cables, ← version) c.in-Ok-check_counted.ensures.checked)
    (rw (← cables, ← version) c.check_counted-in-Ok-check_counted.ensures.checked)
