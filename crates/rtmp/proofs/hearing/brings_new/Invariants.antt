use Rattle.std.proofs.Common.{◌≡◌}
use Rattle.rtmp.specs.Data.{tuples_heard}
use Rattle.rtmp.specs.Routes as spec
use Rattle.rtmp.proofs.hearing.brings_new.Given as goal

-- one of the tuples is new if one of those that are left is
abbrev pub invariant-loop-tuple : goal.invariant-loop-tuple
invariant-loop-tuple g l =
    spec.brings_new l.tuple-iterator (g.T.RouteTable.rows l.table)
    ≡ spec.brings_new (tuples_heard l.fn.nonextended l.packet.written) (g.T.RouteTable.rows l.table)
