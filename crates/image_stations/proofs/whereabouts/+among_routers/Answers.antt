use Rattle.std.proofs.Common.{◌∙◌, sym, ap, map}
use Rattle.table_image.specs.Seats.{port_seat}
use Rattle.table_image.specs.declared.router.Router.{Router}
use Rattle.image_stations.proofs.Finding.{routers_later}
use Rattle.image_stations.specs.Finding.{spot_in}
use Rattle.image_stations.proofs.whereabouts.+among_routers.Goals as goal

pub returns-in-None : goal.returns-in-None
returns-in-None t c =
    c.among_routers.ensures
    ∙ sym (routers_later c.args.cable c.args.addr c.args.from c.args.routers.now c.router-item.result c.in-len1-up.len_at_least
    (ap (λ (r : Router). spot_in (map (port_seat c.args.from) r.ports) c.args.cable c.args.addr) (sym c.router-item.is)
    ∙ (ap (λ ps. spot_in (map (port_seat c.args.from) ps) c.args.cable c.args.addr) (sym c.as_slice.ensures)
    ∙ (sym c.among_ports.ensures ∙ c.in-None.is))))
