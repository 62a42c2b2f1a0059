use Rattle.audit.proofs.WalkHome.{walks_home}
use Rattle.audit.proofs.ZonesAgree.{zones_agree}
use Rattle.audit.proofs.NodesServed.{nodes_served}
use Rattle.audit.proofs.MappingsTrue.{mappings_true}
use Rattle.audit.proofs.RuleOrder.{none_yet, and_next, all_kept, first_fault}
use Rattle.audit.proofs.judge.audit.Goals as goal

pub returns-in-Some-bad_row-2 : goal.returns-in-Some-bad_row-2
returns-in-Some-bad_row-2 c =
    let i = c.args.image.now in
    let below_3 = and_next i 2 (and_next i 1 (none_yet i) c.in_default.ensures) c.in_default-bad_station.ensures in
    let below_4 = and_next i 3 below_3 c.in_default-bad_row.ensures in
    record {
      judged = first_fault i _ 4 _ c.broken_at-in-Some-bad_row-2.ensures below_4 c.in-Some-bad_row-2.ensures;
      walks = tt;
      zones = tt;
      nodes = tt;
      mappings = tt;
    }

pub returns-in-Some-bad_row-3 : goal.returns-in-Some-bad_row-3
returns-in-Some-bad_row-3 c =
    let i = c.args.image.now in
    let below_3 = and_next i 2 (and_next i 1 (none_yet i) c.in_default.ensures) c.in_default-bad_station.ensures in
    let below_5 = and_next i 4 (and_next i 3 below_3 c.in_default-bad_row.ensures) c.in_default-bad_row-2.ensures in
    record {
      judged = first_fault i _ 5 _ c.broken_at-in-Some-bad_row-3.ensures below_5 c.in-Some-bad_row-3.ensures;
      walks = tt;
      zones = tt;
      nodes = tt;
      mappings = tt;
    }

pub returns-in-Some-bad_next : goal.returns-in-Some-bad_next
returns-in-Some-bad_next c =
    let i = c.args.image.now in
    let below_3 = and_next i 2 (and_next i 1 (none_yet i) c.in_default.ensures) c.in_default-bad_station.ensures in
    let below_5 = and_next i 4 (and_next i 3 below_3 c.in_default-bad_row.ensures) c.in_default-bad_row-2.ensures in
    let below_6 = and_next i 5 below_5 c.in_default-bad_row-3.ensures in
    record {
      judged = first_fault i _ 6 _ c.broken_at-in-Some-bad_next.ensures below_6 c.in-Some-bad_next.ensures;
      walks = tt;
      zones = tt;
      nodes = tt;
      mappings = tt;
    }

pub returns-in-Some-steps : goal.returns-in-Some-steps
returns-in-Some-steps c =
    let i = c.args.image.now in
    let below_3 = and_next i 2 (and_next i 1 (none_yet i) c.in_default.ensures) c.in_default-bad_station.ensures in
    let below_5 = and_next i 4 (and_next i 3 below_3 c.in_default-bad_row.ensures) c.in_default-bad_row-2.ensures in
    let below_7 = and_next i 6 (and_next i 5 below_5 c.in_default-bad_row-3.ensures) c.in_default-bad_next.ensures in
    record {
      judged = first_fault i _ 7 _ c.broken_at-in-Some-steps.ensures below_7 c.in-Some-steps.ensures;
      walks = tt;
      zones = tt;
      nodes = tt;
      mappings = tt;
    }

pub returns-in-Some-bad_zone_list : goal.returns-in-Some-bad_zone_list
returns-in-Some-bad_zone_list c =
    let i = c.args.image.now in
    let below_3 = and_next i 2 (and_next i 1 (none_yet i) c.in_default.ensures) c.in_default-bad_station.ensures in
    let below_5 = and_next i 4 (and_next i 3 below_3 c.in_default-bad_row.ensures) c.in_default-bad_row-2.ensures in
    let below_7 = and_next i 6 (and_next i 5 below_5 c.in_default-bad_row-3.ensures) c.in_default-bad_next.ensures in
    let below_8 = and_next i 7 below_7 c.in_default-steps.ensures in
    record {
      judged = first_fault i _ 8 _ c.broken_at-in-Some-bad_zone_list.ensures below_8 c.in-Some-bad_zone_list.ensures;
      walks = tt;
      zones = tt;
      nodes = tt;
      mappings = tt;
    }

pub returns-in-Some-unserved_node : goal.returns-in-Some-unserved_node
returns-in-Some-unserved_node c =
    let i = c.args.image.now in
    let below_3 = and_next i 2 (and_next i 1 (none_yet i) c.in_default.ensures) c.in_default-bad_station.ensures in
    let below_5 = and_next i 4 (and_next i 3 below_3 c.in_default-bad_row.ensures) c.in_default-bad_row-2.ensures in
    let below_7 = and_next i 6 (and_next i 5 below_5 c.in_default-bad_row-3.ensures) c.in_default-bad_next.ensures in
    let below_9 = and_next i 8 (and_next i 7 below_7 c.in_default-steps.ensures) c.in_default-bad_zone_list.ensures in
    record {
      judged = first_fault i _ 9 _ c.broken_at-in-Some-unserved_node.ensures below_9 c.in-Some-unserved_node.ensures;
      walks = tt;
      zones = tt;
      nodes = tt;
      mappings = tt;
    }

pub returns-in-Some-bad_mapping : goal.returns-in-Some-bad_mapping
returns-in-Some-bad_mapping c =
    let i = c.args.image.now in
    let below_3 = and_next i 2 (and_next i 1 (none_yet i) c.in_default.ensures) c.in_default-bad_station.ensures in
    let below_5 = and_next i 4 (and_next i 3 below_3 c.in_default-bad_row.ensures) c.in_default-bad_row-2.ensures in
    let below_7 = and_next i 6 (and_next i 5 below_5 c.in_default-bad_row-3.ensures) c.in_default-bad_next.ensures in
    let below_9 = and_next i 8 (and_next i 7 below_7 c.in_default-steps.ensures) c.in_default-bad_zone_list.ensures in
    let below_10 = and_next i 9 below_9 c.in_default-unserved_node.ensures in
    record {
      judged = first_fault i _ 10 _ c.broken_at-in-Some-bad_mapping.ensures below_10 c.in-Some-bad_mapping.ensures;
      walks = tt;
      zones = tt;
      nodes = tt;
      mappings = tt;
    }

pub returns : goal.returns
returns c =
    let i = c.args.image.now in
    let below_3 = and_next i 2 (and_next i 1 (none_yet i) c.in_default.ensures) c.in_default-bad_station.ensures in
    let below_5 = and_next i 4 (and_next i 3 below_3 c.in_default-bad_row.ensures) c.in_default-bad_row-2.ensures in
    let below_7 = and_next i 6 (and_next i 5 below_5 c.in_default-bad_row-3.ensures) c.in_default-bad_next.ensures in
    let below_9 = and_next i 8 (and_next i 7 below_7 c.in_default-steps.ensures) c.in_default-bad_zone_list.ensures in
    let below_10 = and_next i 9 below_9 c.in_default-unserved_node.ensures in
    let passes = all_kept i (and_next i 10 below_10 c.in_default-bad_mapping.ensures) in
    record {
      judged = (passes, c.summarize.ensures);
      walks = walks_home i passes;
      zones = zones_agree i passes c.routers-routers.ensures.bounded;
      nodes = λ k node at. nodes_served i k node passes at;
      mappings = mappings_true i passes;
    }
