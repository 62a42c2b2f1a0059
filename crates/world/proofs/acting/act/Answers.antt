use Rattle.std.proofs.Common.{◌≡◌, ◌⊎◌, ◌%◌, Err, IfErr, length, false, subst}
use Rattle.at_base.specs.declared.error.Error.TheVariants.{Memory}
use Rattle.end_node.specs.Asking.{asked_by, asking, request_bytes, zone_asked}
use Rattle.end_node.specs.Sending.{header_to, sending}
use Rattle.world.specs.Doing.{put_by}
use Rattle.world.proofs.Doing.{refused_alone}
use Rattle.world.proofs.acting.act.Goals as goal

pub returns-in-Send-clause-refused : goal.returns-in-Send-clause-refused
returns-in-Send-clause-refused c =
    let n = c.args.node.now.node in
    let header = header_to c.in-Send.to c.in-Send.socket c.in-Send.source c.in-Send.kind false in
    rw c.in-Send.is
    (subst (λ l. IfErr c.send.result (λ e. (put_by (λ way. l) (sending n header (length l)) ≡ Err e) ⊎ (e ≡ Memory))) c.as_slice.ensures
    (refused_alone c.send.result (sending n header (length c.as_slice.result.now)) (λ way. c.as_slice.result.now) c.send.ensures.unsendable
    c.send.ensures.refused))

pub returns-in-Lookup-clause-refused : goal.returns-in-Lookup-clause-refused
returns-in-Lookup-clause-refused c =
    let n = c.args.node.now.node in
    rw c.in-Lookup.is
    (refused_alone c.lookup.result (asking n)
    (λ way. request_bytes (c.in-Lookup.id % 256)
    (asked_by way.header.source c.in-Lookup.object c.in-Lookup.kind (zone_asked n c.in-Lookup.zone))) c.lookup.ensures.unsendable
    c.lookup.ensures.refused)
