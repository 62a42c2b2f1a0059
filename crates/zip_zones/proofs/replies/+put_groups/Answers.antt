use Rattle.std.proofs.Common.{List, ℕ, ◌∙◌}
use Rattle.std.proofs.lemmas.Result.{on_ok_weaker}
use Rattle.at_base.specs.Spelling.{bytes_of}
use Rattle.zip_zones.specs.Formats.{packet as spelled_packet}
use Rattle.zip_zones.specs.Written.{extended_reply}
use Rattle.zip_zones.proofs.Grouping.{split_of, split_fits, split_more}
use Rattle.zip_zones.proofs.replies.+put_groups.Goals as goal

pub put_group-requires-clause-fits : goal.put_group-requires-clause-fits
put_group-requires-clause-fits t c =
    rw c.split_at.ensures.front
    (split_fits c.args.names.now c.fitting.result
    (split_of c.args.names.now c.name-item.result c.as_slice.result.now c.fitting.result c.in-len1-up.len_at_least c.name-item.is
    c.as_slice.ensures.value c.as_slice.ensures.short c.fitting.ensures.count))

pub returns-in_ok-put_group-in-len1-up-clause-put : goal.returns-in_ok-put_group-in-len1-up-clause-put
returns-in_ok-put_group-in-len1-up-clause-put t c =
    let split = split_of c.args.names.now c.name-item.result c.as_slice.result.now c.fitting.result c.in-len1-up.len_at_least
    c.name-item.is c.as_slice.ensures.value c.as_slice.ensures.short c.fitting.ensures.count in
    on_ok_weaker c.put_groups.result (λ new.
    ◌∙◌ {A = List (List ℕ)} new (rw (
      (c.in_ok-put_group-in-len1-up.ensures {u = tt}).put,
      c.split_at.ensures.front,
      c.split_at.ensures.back,
    )
    (split_more (extended_reply c.args.net c.args.total) (bytes_of spelled_packet) c.args.made.now.items c.args.names.now
    c.fitting.result split))) c.put_groups.ensures.put
