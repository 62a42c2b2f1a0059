use Rattle.std.proofs.Common.{◌≡◌, ◌≤◌, List, length, filter, filter_map, ap, ◌∙◌, arith}
use Rattle.std.proofs.lemmas.List.{length-map}
use Rattle.std.proofs.lemmas.Result.{IfOk-weaker}
use Rattle.at_base.proofs.Lists.{few_filter}
use Rattle.zip_zones.specs.Zones.{Known, has_zone, ranges_of}
use Rattle.zip_zones.specs.Indexing.{hit, key_of, with_key}
use Rattle.zip_zones.proofs.Indexed.{index_rises, indexed_apart}
use Rattle.zip_zones.proofs.Queries.{given_cables}
use Rattle.zip_zones.proofs.table.ZoneTable.cables_of.Goals as goal

pub numbers_of-numbers-requires : goal.numbers_of-numbers-requires
numbers_of-numbers-requires c =
    rw c.as_slice.ensures.value (index_rises c.self.inside.lists.items c.self.inside.index.items c.self.invariant)

pub hits-requires : goal.hits-requires
hits-requires c =
    rw c.as_slice-2.ensures.value (indexed_apart c.self.inside.lists.items c.self.inside.index.items c.self.invariant)

pub returns-clause-ok : goal.returns-clause-ok
returns-clause-ok c =
    let lists = c.self.inside.lists.items in
    let zone = c.args.zone.now in
    let found = c.numbers_of-numbers.ensures ∙ ap (with_key (key_of zone)) c.as_slice.ensures.value in
    let all = given_cables zone lists c.as_slice-2.result.now c.self.inside.index.items c.numbers_of-numbers.result.now c.self.invariant
    c.as_slice-2.ensures.value found ∙ ap (λ (t : List Known). ranges_of zone t) c.self.view_is in
    IfOk-weaker c.hits.result (λ ranges. ranges.items ≡ filter_map (hit zone c.as_slice-2.result.now) c.numbers_of-numbers.result.now)
    (λ ranges. ranges.items ≡ ranges_of zone c.args.self.now) (λ ranges is. is ∙ all) c.hits.ensures.ok

pub returns-clause-few : goal.returns-clause-few
returns-clause-few c =
    let lists = c.self.inside.lists.items in
    let zone = c.args.zone.now in
    let found = c.numbers_of-numbers.ensures ∙ ap (with_key (key_of zone)) c.as_slice.ensures.value in
    let all = given_cables zone lists c.as_slice-2.result.now c.self.inside.index.items c.numbers_of-numbers.result.now c.self.invariant
    c.as_slice-2.ensures.value found in
    IfOk-weaker c.hits.result (λ ranges. ranges.items ≡ filter_map (hit zone c.as_slice-2.result.now) c.numbers_of-numbers.result.now)
    (λ ranges. length ranges.items ≤ 200) (λ ranges is. rw (is ∙ all) (omega (
      arith,
      length-map (filter (has_zone zone) lists)
          (λ (k : Known). k.range),
      few_filter (has_zone zone) lists,
      c.self.invariant.map.few,
    ))) c.hits.ensures.ok

pub returns-clause-none : goal.returns-clause-none
returns-clause-none c none =
    let lists = c.self.inside.lists.items in
    let zone = c.args.zone.now in
    let found = c.numbers_of-numbers.ensures ∙ ap (with_key (key_of zone)) c.as_slice.ensures.value in
    let all = given_cables zone lists c.as_slice-2.result.now c.self.inside.index.items c.numbers_of-numbers.result.now c.self.invariant
    c.as_slice-2.ensures.value found ∙ ap (λ (t : List Known). ranges_of zone t) c.self.view_is in
    c.hits.ensures.none (all ∙ none)
