use Rattle.std.proofs.Common.{ap, length, ◌+◌, List, ℕ}
use Rattle.table_image.proofs.Checked.{name_passes}
use Rattle.table_image.proofs.zones.NameCheckItem.check_one.Goals as goal

pub returns-clause-checked : goal.returns-clause-checked
returns-clause-checked c =
    name_passes c.args.self.now c.args.at (c.args.at + 1 + length c.as_slice.result.now) c.as_slice.ensures.named
    (ap (λ (s : List ℕ). c.args.at + 1 + length s) c.as_slice.ensures.value)
