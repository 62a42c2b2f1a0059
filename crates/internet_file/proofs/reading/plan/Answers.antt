use Rattle.std.proofs.Common.{◌≡◌, ◌∙◌, ap, subst, Ok}
use Rattle.std.specs.Option.{unwrap_or}
use Rattle.toml.specs.View.{table_view}
use Rattle.at_base.specs.declared.error.Part.TheVariants.{Cable, Router, Node, Lose, Action}
use Rattle.file_entries.proofs.Notes.{part_valid}
use Rattle.internet_file.specs.Files.{actions_in, cables_in, losses_in, nodes_in, routers_in}
use Rattle.internet_file.proofs.Soundness.{sound}
use Rattle.internet_file.proofs.reading.plan.Goals as goal

pub invariant_of-result : goal.invariant_of-result
invariant_of-result c =
    let ms = table_view c.args.table.now in
    let cables = c.in_ok-cables.cables in
    let routers = c.in_ok-routers.routers in
    let nodes = c.in_ok-nodes.nodes in
    let losses = c.in_ok-losses.losses in
    let actions = c.in_ok-actions.actions in
    let count = c.unwrap_or-count.result in
    let same : count ≡ c.in-Some.ticks = c.unwrap_or-count.ensures ∙ ap (λ o. unwrap_or o 100000) c.in-Some.is in
    sound ms (record {
      ticks = c.in-Some.ticks;
      cables = cables.entries;
      routers = routers.entries;
      nodes = nodes.entries;
      losses = losses.entries;
      actions = actions.entries;
    }) (part_valid Cable cables.bad cables.entries (cables_in ms) c.in_ok-cables.ensures.read c.in_default-bad.is)
    (subst (λ xs. routers_in xs ms ≡ Ok routers.entries) c.as_slice.ensures
    (part_valid Router routers.bad routers.entries (routers_in c.as_slice.result.now ms) c.in_ok-routers.ensures.read c.in_default-bad-2.is))
    (subst (λ xs. nodes_in xs ms ≡ Ok nodes.entries) c.as_slice-2.ensures
    (part_valid Node nodes.bad nodes.entries (nodes_in c.as_slice-2.result.now ms) c.in_ok-nodes.ensures.read c.in_default-bad-3.is))
    (subst (λ n. losses_in n cables.entries ms ≡ Ok losses.entries) same
    (subst (λ xs. losses_in count xs ms ≡ Ok losses.entries) c.as_slice-3.ensures
    (part_valid Lose losses.bad losses.entries (losses_in count c.as_slice-3.result.now ms) c.in_ok-losses.ensures.read c.in_default-bad-4.is)))
    (subst (λ n. actions_in n nodes.entries ms ≡ Ok actions.entries) same
    (subst (λ xs. actions_in count xs ms ≡ Ok actions.entries) c.as_slice-4.ensures
    (part_valid Action actions.bad actions.entries (actions_in count c.as_slice-4.result.now ms) c.in_ok-actions.ensures.read c.in_default-bad-5.is)))
