use Rattle.std.proofs.Common.{sym}
use Rattle.std.proofs.lemmas.List.{take-map}
use Rattle.toml.specs.View.{view}
use Rattle.file_entries.proofs.entries.up_to.Goals as goal

pub returns-else-values-limit : goal.returns-else-values-limit
returns-else-values-limit c = sym (take-map view c.args.limit c.args.values.now)
