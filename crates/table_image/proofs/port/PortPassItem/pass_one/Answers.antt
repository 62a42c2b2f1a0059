use Rattle.std.proofs.Common.{refl}
use Rattle.table_image.specs.Spelling.{port_spelling}
use Rattle.table_image.proofs.port.PortPassItem.pass_one.Goals as goal

pub returns : goal.returns
unfolding port_spelling
returns c =
    let mappings = c.in_ok-_mappings.ensures in (
      record {
        cable = c.in_ok-_cable._cable;
        address = c.in_ok-_address._address;
        hardware = c.in_ok-_hardware._hardware;
        mappings = mappings.0;
      },
      rw (c.in_ok-_cable.ensures, c.in_ok-_address.ensures, c.in_ok-_hardware.ensures, mappings.1) refl,
      refl,
    )
