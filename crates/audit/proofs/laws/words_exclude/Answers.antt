use Rattle.audit.proofs.laws.words_exclude.Goals as goal
use Rattle.audit.proofs.ExampleWalks.{comes_back, no_port, one_address, one_hardware_address}
use Rattle.audit.proofs.ExampleMappings.{not_its_hardware, not_its_cable, itself}

pub returns : goal.returns
returns c = record {
  routers = comes_back;
  ports = no_port;
  addresses = one_address;
  hardware = one_hardware_address;
  mapping = not_its_hardware;
  cable = not_its_cable;
  own = itself;
}
