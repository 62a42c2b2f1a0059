-- Which events only ask, and when a run is at rest.
use Rattle.std.proofs.Common.{◌≡◌, ℕ, false, refl, subst, true≢false}
use Rattle.audit.specs.Example.{addr, three_cables}
use Rattle.at_base.specs.Packets.{address, text}
use Rattle.ddp.specs.Bodies.{body}
use Rattle.ddp.specs.Datagram.{datagram}
use Rattle.nbp.specs.Packets.{packet, tuple}
use Rattle.frozen.specs.Examples.{ended, run_of, sends, underway}
use Rattle.frozen.specs.Orders.{bytes_for}
use Rattle.frozen.specs.Promises.{IsAtRest, OnlyAsks, is_routers_request}
use Rattle.frozen.specs.declared.order.Order.{Order}
use Rattle.legal_runs.specs.LookupExample.{blue}
use Rattle.legal_runs.specs.Requests.{request, zone_of}
use Rattle.station.specs.declared.output.Next.TheVariants as next

-- The order of such an event.
abbrev order : ℕ → Order
order kind = record {
  station = 2;
  cable = 0;
  next = next.Station (addr 10 1);
  header = record {
    summed = false;
    target = addr 10 1;
    source = addr 10 7;
    target_socket = 2;
    source_socket = 253;
    kind = kind;
  };
}

pub asks : OnlyAsks three_cables (sends 2 (blue 17))
unfolding request zone_of datagram packet tuple address text
asks o is =
    let same : order 2 ≡ o = cc in
    subst (λ o. is_routers_request (body (bytes_for o (blue 17))) ≡ false) same refl

pub other_type : OnlyAsks three_cables (sends 3 (blue 65))
unfolding request zone_of datagram packet tuple address text
other_type o is =
    let same : order 3 ≡ o = cc in
    subst (λ o. is_routers_request (body (bytes_for o (blue 65))) ≡ false) same refl

pub not_forwards : OnlyAsks three_cables (sends 2 (blue 65)) → ⊥
unfolding request zone_of datagram packet tuple address text
not_forwards only = true≢false (only (order 2) refl)

pub not_looks : OnlyAsks three_cables (sends 2 (blue 33)) → ⊥
unfolding request zone_of datagram packet tuple address text
not_looks only = true≢false (only (order 2) refl)

pub not_at_rest : IsAtRest (run_of underway) → ⊥
not_at_rest rest = cc

pub at_rest : IsAtRest (run_of ended)
at_rest = refl
