use Rattle.std.proofs.Common.{◌≡◌, ◌∙◌, Ok, ap, length, subst}
use Rattle.std.specs.Option.{unwrap_or}
use Rattle.toml.specs.View.{table_view}
use Rattle.at_base.specs.declared.error.Part.TheVariants.{Cable, Router, Node}
use Rattle.file_entries.proofs.Notes.{part_valid}
use Rattle.table_image.specs.declared.version.Version.TheVariants.{V2}
use Rattle.tables_file.specs.Files.{cables_in, nodes_in, routers_in}
use Rattle.tables_file.proofs.Whole.{tables_are}
use Rattle.tables_file.proofs.reading.image.Goals as goal

pub of-requires : goal.of-requires
of-requires c =
    let v = c.in-Some.version in
    let ms = table_view c.args.table.now in
    let mark = c.mark_of-mark.result in
    let cables = c.in_ok-cables.cables in
    let routers = c.in_ok-routers.routers in
    let nodes = c.in_ok-nodes.nodes in
    let chosen = c.unwrap_or-version.result in
    let same : chosen ≡ v = c.unwrap_or-version.ensures ∙ ap (λ o. unwrap_or o V2) c.in-Some.is in
    let whole = tables_are v mark ms cables.entries routers.entries nodes.entries
    (subst (λ x. cables_in x ms ≡ Ok cables.entries) same
    (part_valid Cable cables.bad cables.entries (cables_in chosen ms) c.in_ok-cables.ensures.read c.in_default-bad.is))
    (subst (λ x. routers_in x cables.entries mark ms ≡ Ok routers.entries) same
    (subst (λ xs. routers_in chosen xs mark ms ≡ Ok routers.entries) c.as_slice.ensures
    (part_valid Router routers.bad routers.entries (routers_in chosen c.as_slice.result.now mark ms) c.in_ok-routers.ensures.read
    c.in_default-bad-2.is)))
    (subst (λ x. nodes_in x (length cables.entries) mark ms ≡ Ok nodes.entries) same
    (subst (λ n. nodes_in chosen n mark ms ≡ Ok nodes.entries) c.len.ensures
    (part_valid Node nodes.bad nodes.entries (nodes_in chosen c.len.result mark ms) c.in_ok-nodes.ensures.read c.in_default-bad-3.is))) in
    rw (c.from_vec.ensures, c.into_vec.ensures, c.from_vec-2.ensures, c.into_vec-2.ensures, c.from_vec-3.ensures, c.into_vec-3.ensures) whole
