-- The transcript of a datagram to nobody is legal, block by block.
use Rattle.std.proofs.Common.{inr, false, [], refl, sym, arith, take, drop}
use Rattle.at_base.specs.Packets.{address}
use Rattle.aarp.specs.Packets.{packet}
use Rattle.ddp.specs.declared.header.Header.{Header}
use Rattle.ddp.specs.Datagram.{datagram, unsummed}
use Rattle.ddp.proofs.Shape.{bytes_laid}
use Rattle.audit.specs.Example.{addr, hardware}
use Rattle.station.specs.Resolution.{packet_at}
use Rattle.station.specs.declared.output.Next.TheVariants as next
use Rattle.legal_runs.proofs.ByHand.{fitting, frame, is_body, not_zero}
use Rattle.legal_runs.specs.Answers.{ByRouter, IsBody, IsMade, IsOwn, Others}
use Rattle.legal_runs.specs.Example.{plain}
use Rattle.legal_runs.specs.Legs.{Leg}
use Rattle.legal_runs.specs.Requests.{request}
use Rattle.resolved_runs.specs.Example.{asking, resolved_to_nobody, telling, unmapped}
use Rattle.resolved_runs.specs.ResolvedRuns.{Begins, Continues, IsLegalResolved, Resolves, Sends, Takes}
use Rattle.resolved_runs.proofs.Echo.{first_here, frame_in, heard, node_seat}

abbrev header : Header
header = record {
  summed = false;
  target = addr 10 9;
  source = addr 10 7;
  target_socket = 128;
  source_socket = 128;
  kind = 128;
}

nobody_is_body : IsBody (plain 0 10 9)
nobody_is_body =
    is_body header [] (plain 0 10 9)
    (fitting header (omega arith) (omega arith) (omega arith) (omega arith) (omega arith) (omega arith) (omega arith)) (omega arith)
    (sym (bytes_laid (unsummed header []))) refl

abbrev nobody_leg : Leg
nobody_leg = record { station = 2; cable = 0; next = next.Station (addr 10 1); body = plain 0 10 9; hops = 0 }

nobody_is_made : IsMade unmapped nobody_leg
nobody_is_made =
    record { seated = refl; whole = nobody_is_body; fresh = refl; goes = ByRouter (addr 10 1) 0 refl refl (not_zero 10 (omega arith)) }

nobody_is_own : IsOwn unmapped nobody_leg
nobody_is_own = record { by_node = refl; handed = inr (addr 10 1, 0, refl, refl) }

nobody_3 : IsLegalResolved unmapped (take 3 resolved_to_nobody)
unfolding request datagram packet_at packet address
nobody_3 = Continues [] (take 3 (drop 0 resolved_to_nobody)) Begins (Sends nobody_leg nobody_is_made nobody_is_own)

nobody_5 : IsLegalResolved unmapped (take 5 resolved_to_nobody)
unfolding request datagram packet_at packet address
nobody_5 = Continues (take 3 resolved_to_nobody) (take 2 (drop 3 resolved_to_nobody)) nobody_3 (Resolves (heard (frame_in (asking 1 0 2 5 10 7 1)) first_here) (0, omega arith, refl) refl)

nobody_7 : IsLegalResolved unmapped (take 7 resolved_to_nobody)
unfolding request datagram packet_at packet address
nobody_7 = Continues (take 5 resolved_to_nobody) (take 2 (drop 5 resolved_to_nobody)) nobody_5 (Resolves (heard (frame_in (telling 2 0 0 1 10 1 5 7)) node_seat) (0, omega arith, refl) refl)

nobody_11 : IsLegalResolved unmapped (take 11 resolved_to_nobody)
unfolding request datagram packet_at packet address
nobody_11 = Continues (take 7 resolved_to_nobody) (take 4 (drop 7 resolved_to_nobody)) nobody_7 (Takes (heard (frame 0 0 2 (hardware 1) (plain 0 10 9)) first_here) [] (0, omega arith, refl) refl tt tt (Others refl refl tt))

pub nobody_12 : IsLegalResolved unmapped resolved_to_nobody
unfolding request datagram packet_at packet address
nobody_12 = Continues (take 11 resolved_to_nobody) (take 1 (drop 11 resolved_to_nobody)) nobody_11 (Resolves (heard (frame_in (asking 4 0 0 1 10 1 9)) node_seat) (0, omega arith, refl) refl)
