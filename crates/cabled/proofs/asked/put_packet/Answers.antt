use Rattle.live_router.proofs.Short.{packet_short}
use Rattle.cabled.proofs.asked.put_packet.Goals as goal

pub put_one-requires : goal.put_one-requires
put_one-requires g c =
    packet_short c.args.horizon c.args.port c.args.range c.args.way.now.header.source c.args.number
    (g.T.RouteTable.rows c.args.routes.now) c.in_ok-packet.packet (c.in_ok-packet.ensures {u = tt}).made
