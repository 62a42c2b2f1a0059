use Rattle.std.proofs.Common.{rules, ◌≡◌, ◌+◌, refl, ◌∙◌, arith, IsTrue}
use Rattle.ddp.proofs.Agreement.{spells_with_hops}
use Rattle.ddp.specs.Bodies.{with_hops}
use Rattle.station.specs.Lawful.{are_bytes}
use Rattle.router.specs.Forwarding.{bytes_in}
use Rattle.router.proofs.step.handed_on.Goals as goal

pub returns-clause-whole : goal.returns-clause-whole
returns-clause-whole c =
    let d = c.args.view.now in
    let e : c.from_vec.result ≡ with_hops (d.hops + 1) (bytes_in d) = search rules in
    let each : IsTrue (are_bytes c.from_vec.result) = search rules in
    let whole = spells_with_hops (d.hops + 1) (bytes_in d) d (omega (arith, c.requires)) (c.as_bytes-heard.ensures.value.0, refl) in
    record { value = record d { hops = d.hops + 1 }; spelled = (whole.0, e ∙ whole.1); each = each }
