use Rattle.std.proofs.Common.{◌∙◌, bytes_eq, map}
use Rattle.std.specs.List.{list_any}
use Rattle.file_entries.proofs.Lists.{all_keys}
use Rattle.file_entries.proofs.key.has_only.Goals as goal

pub returns : goal.returns
returns c =
    c.are_among.ensures
    ∙ all_keys (λ k. list_any (bytes_eq k) (map (λ n. n.now) c.args.named.now)) c.args.table.now.entries
