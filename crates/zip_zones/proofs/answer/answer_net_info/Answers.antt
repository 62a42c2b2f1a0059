use Rattle.std.proofs.Common.{length}
use Rattle.std.specs.Prelude.{is_some}
use Rattle.zip_zones.specs.Written.{first_of, listed}
use Rattle.zip_zones.proofs.Written.{flag_tells}
use Rattle.zip_zones.proofs.answer.answer_net_info.Goals as goal

pub write_info-requires : goal.write_info-requires
write_info-requires c =
    let names = c.args.names.now in
    rw c.net_info-info.ensures (flag_tells (is_some (listed c.args.asked.now names)) (length names) (first_of names))
