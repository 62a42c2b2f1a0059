use Rattle.std.proofs.Common.{arith}
use Rattle.table_image.proofs.CheckedParts.{all_true, none_checks}
use Rattle.table_image.proofs.mapping.check_mappings.Goals as goal

pub check_counted-requires : goal.check_counted-requires
check_counted-requires c =
    (omega arith, (all_true c.args.mappings.now, (rw c.in-V2.is at c.requires.few, omega (arith, c.requires.room))))

pub returns-in-V1-clause-checked : goal.returns-in-V1-clause-checked
returns-in-V1-clause-checked c =
    rw c.in-V1.is (none_checks c.args.mappings.now c.args.at (rw c.in-V1.is at c.requires.few))
