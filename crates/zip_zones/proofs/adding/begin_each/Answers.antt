use Rattle.std.proofs.Common.{◌≡◌, [], ap, ◌∙◌, arith}
use Rattle.zip_zones.specs.Answers.{with_names}
use Rattle.zip_zones.specs.Indexing.{key_of, with_start}
use Rattle.zip_zones.specs.Zones.{Known}
use Rattle.zip_zones.proofs.Added.{each_known, each_own, none_named}
use Rattle.zip_zones.proofs.Indexed.{index_rises}
use Rattle.zip_zones.proofs.Tables.{fresh_known, known_parts}
use Rattle.zip_zones.proofs.adding.begin_each.Goals as goal

pub hear_each-requires-clause-rising : goal.hear_each-requires-clause-rising
hear_each-requires-clause-rising c =
    rw c.as_slice.ensures.value (index_rises c.args.lists.now.items c.args.index.now.items c.requires.indexed)

pub hear_each-requires-clause-indexed : goal.hear_each-requires-clause-indexed
hear_each-requires-clause-indexed c zone = none_named zone (with_start (key_of zone) c.in_ok-known.known.range.start c.as_slice.result.now)

pub replace-requires-clause-found : goal.replace-requires-clause-found
replace-requires-clause-found c =
    let fresh : Known = record { range = c.args.range; total = c.args.total; names = [] } in
    let after : c.hear_each.new.known ≡ with_names c.args.entries fresh =
    c.in_ok-hear_each.ensures.ok ∙ ap (with_names c.args.entries) c.in_ok-known.ensures.ok in
    rw (after, each_own c.args.entries fresh) c.requires.found

pub replace-requires-clause-missing : goal.replace-requires-clause-missing
replace-requires-clause-missing c =
    let fresh : Known = record { range = c.args.range; total = c.args.total; names = [] } in
    let after : c.hear_each.new.known ≡ with_names c.args.entries fresh =
    c.in_ok-hear_each.ensures.ok ∙ ap (with_names c.args.entries) c.in_ok-known.ensures.ok in
    rw (after, each_own c.args.entries fresh) c.requires.missing

pub replace-requires-clause-few : goal.replace-requires-clause-few
replace-requires-clause-few c =
    let fresh : Known = record { range = c.args.range; total = c.args.total; names = [] } in
    let after : c.hear_each.new.known ≡ with_names c.args.entries fresh =
    c.in_ok-hear_each.ensures.ok ∙ ap (with_names c.args.entries) c.in_ok-known.ensures.ok in
    let good = each_known c.args.entries fresh
    (fresh_known c.args.range c.args.total c.recall_valid.ensures (omega (arith, c.ranges.total.fits))) in
    let parts = known_parts (with_names c.args.entries fresh) good in
    rw after (omega (arith, parts.1, parts.2))
