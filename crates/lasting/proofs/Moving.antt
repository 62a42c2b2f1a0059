-- Routing data of a neighbour moves rows, and no more.
use Rattle.std.proofs.Common.{◌≡◌, ℕ, List, [], Some, refl, sym, subst, slice_get}
use Rattle.aarp.specs.Choosing.{Choice}
use Rattle.at_base.specs.Range.{Span}
use Rattle.at_base.specs.Spelling.{bytes_of}
use Rattle.audit.specs.Rules.{Passes}
use Rattle.ddp.specs.Datagram.{datagram}
use Rattle.lasting.proofs.Routers.{hears_data}
use Rattle.lasting.proofs.Telling.{IsTeller, read_back}
use Rattle.lasting.specs.Hears.{IsLikeRouter, data_datagram}
use Rattle.learning.specs.Heard.{routes_after}
use Rattle.live_router.specs.Living.{LiveHears, Living, routes_taught}
use Rattle.rtmp.specs.Data.{RoutingData}
use Rattle.rtmp.specs.Sending.{packet_numbered}
use Rattle.rtmp.specs.declared.request.Horizon.TheVariants.{Split}
use Rattle.rtmp.specs.declared.row.Row.{Row}
use Rattle.rtmp.specs.declared.tuple.Nonextended.TheVariants.{Skipped}
use Rattle.settled.proofs.Exchange.{data_heard}
use Rattle.settled.specs.Exchange.{AreMovedRows, AreNeighbours}
use Rattle.settled.specs.Settling.{IsSettled}
use Rattle.station.specs.declared.heard.Kind.TheVariants.{Ddp}
use Rattle.station.specs.declared.heard.Link.TheVariants.{All}
use Rattle.station.specs.declared.output.Output.{Output}
use Rattle.table_image.specs.Bounds.{IsBounded}
use Rattle.table_image.specs.Internet.{Internet}

module _ (i : Internet) (ok : Passes i) (settled : IsSettled i) (bounded : IsBounded i) (r n s q m : ℕ) (range : Span)
    (w : AreNeighbours i r n s q range) where
  teller : IsTeller i s q range w.their_port.address
  teller = record {
    their = w.their;
    their_at = w.their_at;
    port = w.their_port;
    port_at = w.their_port_at;
    cable = w.cable;
    cable_at = subst (λ k. slice_get i.cables k ≡ Some w.cable) (sym w.shared) w.cable_at;
    spans = w.spans;
    address = refl;
  }

  pub data_moves_rows : (l new : Living) (c : Choice) (rows : List Row) (packet : RoutingData) (added : List Output)
      → AreMovedRows i r w.router l.router.routes → AreMovedRows i s w.their rows → slice_get l.router.ports n ≡ Some c → c.range ≡ range
      → packet_numbered Split q range w.their_port.address m rows ≡ Some packet
      → LiveHears l (record { port = n; link = All; kind = Ddp; bytes = bytes_of datagram (data_datagram w.their_port.address packet) }) added new
      → (added ≡ []) × IsLikeRouter l new × (new.phase ≡ l.phase) × AreMovedRows i r w.router new.router.routes
  unfolding teller
  data_moves_rows l new c rows packet added mine theirs at is sent h =
      let t = read_back i ok s q range w.their_port.address teller rows theirs m packet sent in
      let g = hears_data l new n (bytes_of datagram (data_datagram w.their_port.address packet)) added w.their_port.address packet t.0 t.1 h in
      let after = data_heard i ok settled bounded r n s q range w l.router.routes rows mine theirs m packet sent in
      let heard = subst (λ z. AreMovedRows i r w.router (routes_after Skipped z n packet l.router.routes)) (sym is) after in (
        g.silent,
        g.like,
        g.phase,
        subst (AreMovedRows i r w.router) (sym g.routes)
            (subst (λ o. AreMovedRows i r w.router (routes_taught n l.router.routes o (Some packet))) (sym at) heard),
      )
