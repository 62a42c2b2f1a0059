use Rattle.std.proofs.Common.{◌+◌, ◌≤◌, length}
use Rattle.at_base.specs.Packets.{packets}
use Rattle.at_base.specs.Reading.{read}
use Rattle.at_base.proofs.Fields.{IsBytes}
use Rattle.at_base.proofs.Loops.{Stands}
use Rattle.at_base.proofs.in_place.all_items.Given as goal

abbrev pub invariant-loop-rest : goal.invariant-loop-rest
invariant-loop-rest g l = record {
  bytes : IsBytes l.rest;
  few : l.left + length l.rest ≤ length l.bytes;
  stands : Stands (λ low. read packets (g.F.ItemFormat.format l.format low)) (g.F.ItemFormat.next l.format) l.bytes l.low l.left l.rest;
}

abbrev pub decreases-loop-rest : goal.decreases-loop-rest
decreases-loop-rest g l = length l.rest
