use Rattle.std.proofs.Common.{refl}
use Rattle.table_image.specs.Spelling.{node_spelling}
use Rattle.table_image.proofs.node.NodePassItem.pass_one.Goals as goal

pub returns : goal.returns
unfolding node_spelling
returns c =
    let names = c.in_ok-_names.ensures in
    let mappings = c.in_ok-_mappings.ensures in (
      record {
        cable = c.in_ok-_cable._cable;
        address = c.in_ok-_address._address;
        hardware = c.in_ok-_hardware._hardware;
        zone = c.in-Ok.found.0;
        router = c.in_ok-_router._router;
        names = names.0;
        mappings = mappings.0;
      },
      rw (c.in_ok-_cable.ensures, c.in_ok-_address.ensures, c.in_ok-_hardware.ensures, c.in-Ok.ensures, c.in_ok-_router.ensures, names.1, mappings.1)
          refl,
      refl,
    )
