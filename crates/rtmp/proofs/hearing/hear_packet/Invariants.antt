use Rattle.std.proofs.Common.{◌≡◌, ◌⊎◌, true, false}
use Rattle.rtmp.specs.Data.{tuples_heard}
use Rattle.rtmp.specs.Routes.{brings_new, heard_packet}
use Rattle.rtmp.proofs.hearing.hear_packet.Given as goal

-- handling the tuples that are left gives the whole result, and none of them needs memory
abbrev pub invariant-loop-tuple : goal.invariant-loop-tuple
invariant-loop-tuple g l =
    (heard_packet l.source l.port l.tuple-iterator (g.T.RouteTable.rows l.table)
    ≡ heard_packet l.packet.router l.port (tuples_heard l.fn.nonextended l.packet.written) (g.T.RouteTable.rows l.initial.table))
    × ((g.T.RouteTable.has_room l.table ≡ true) ⊎ (brings_new l.tuple-iterator (g.T.RouteTable.rows l.table) ≡ false))
