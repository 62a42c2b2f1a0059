use Rattle.std.proofs.Common.{◌≡◌, ◌⊎◌, ◌∙◌, true, false, ap, subst, inl, inr}
use Rattle.std.proofs.lemmas.Bool.{or_parts}
use Rattle.rtmp.specs.Data.{tuples_heard}
use Rattle.rtmp.specs.Routes.{brings_new, heard_packet, is_new}
use Rattle.rtmp.proofs.Brought.{none_brought}
use Rattle.rtmp.proofs.hearing.hear_packet.Goals as goal

pub loop-tuple-preserved : goal.loop-tuple-preserved
loop-tuple-preserved g c =
    let rows = g.T.RouteTable.rows in
    let source = c.router-source.result in
    let t = c.in-Some.tuple in
    let rest = c.next.new.self in
    let took = c.in-Some.ensures.steps.0 in
    let heard = c.hear_tuple.ensures.rows in
    let whole = subst (λ l. heard_packet source c.args.port l (rows c.loop-tuple.table)
    ≡ heard_packet c.args.packet.now.router c.args.port (tuples_heard c.args.nonextended c.args.packet.now.written) (rows c.if-not-has_room.table)) took c.loop-tuple.invariant.0 in
    let sure = subst (λ l. (g.T.RouteTable.has_room c.loop-tuple.table ≡ true)
    ⊎ (brings_new l (rows c.loop-tuple.table) ≡ false)) took c.loop-tuple.invariant.1 in (
      ap (heard_packet source c.args.port rest) heard ∙ whole,
      elim sure [
        | inl room ↦ inl (c.hear_tuple.ensures.room room)
        | inr none ↦
            let parts = or_parts (is_new t.range t.distance (rows c.loop-tuple.table)) (brings_new rest (rows c.loop-tuple.table)) none in
            inr (rw heard (none_brought rest t.range t.distance source c.args.port (rows c.loop-tuple.table) parts.1))
      ],
    )
