use Rattle.audit.specs.Seen.{address_slot, hardware_slot}
use Rattle.audit.proofs.Filter.{no_marks}
use Rattle.audit.proofs.seen.Seen.new.Goals as goal

pub returns : goal.returns
returns c a h = no_marks 65536 65536 (address_slot a) (hardware_slot h)
