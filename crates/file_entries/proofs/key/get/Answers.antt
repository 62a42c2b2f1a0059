use Rattle.std.proofs.Common.{sym}
use Rattle.toml.proofs.Views.{table_get}
use Rattle.file_entries.proofs.key.get.Goals as goal

pub returns-in-Some-clause-some : goal.returns-in-Some-clause-some
returns-in-Some-clause-some c =
    let found = table_get c.get.result c.args.key.now c.args.table.now.entries c.get.ensures.value in
    sym (rw c.in-Some.is at found)

pub returns-in-None-clause-none : goal.returns-in-None-clause-none
returns-in-None-clause-none c =
    let found = table_get c.get.result c.args.key.now c.args.table.now.entries c.get.ensures.value in
    sym (rw c.in-None.is at found)
