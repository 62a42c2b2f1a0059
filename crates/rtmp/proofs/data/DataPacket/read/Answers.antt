use Rattle.std.proofs.Common.{refl, arith}
use Rattle.at_base.specs.Packets.{packets}
use Rattle.at_base.proofs.Laws.{read_takes}
use Rattle.at_base.proofs.Readers.{reads_ok, reads_err}
use Rattle.rtmp.specs.Data.{RoutingData, routing_data}
use Rattle.rtmp.proofs.FirstTuple.{extended_first}
use Rattle.rtmp.proofs.Shape.{data_lawful}
use Rattle.rtmp.proofs.data.DataPacket.read.Goals as goal

pub invariant_of-result : goal.invariant_of-result
invariant_of-result c =
    extended_first _
    (read_takes packets routing_data data_lawful c.args.bytes.now _ (λ i. omega (arith, c.type_inv.bytes i)) c.in-Ok.ensures).1

pub returns-in-Ok : goal.returns-in-Ok
returns-in-Ok c =
    reads_ok {X = RoutingData} packets routing_data (λ d. d) (λ d. d) data_lawful c.args.bytes.now _ _ _
    (λ i. omega (arith, c.type_inv.bytes i)) c.in-Ok.ensures refl

pub returns-in-Err : goal.returns-in-Err
returns-in-Err c =
    reads_err {X = RoutingData} packets routing_data (λ d. d) (λ d. d) data_lawful c.args.bytes.now _
    (λ i. omega (arith, c.type_inv.bytes i)) c.in-Err.ensures
