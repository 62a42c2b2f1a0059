-- Tables of which nothing was read are read as by the format of images.
use Rattle.std.proofs.Common.{◌≡◌, ◌∙◌, ℕ, List, [], length, Result, Ok, refl, sym, ap}
use Rattle.image_feed.specs.Growing.{IsCut}
use Rattle.at_base.specs.declared.error.Cause.TheVariants as causes
use Rattle.at_base.specs.Limits.{max_cables, max_nodes, max_routers}
use Rattle.at_base.specs.Grammar.{number, one, run}
use Rattle.at_base.specs.Reading.{◌>>=◌, field_at, read}
use Rattle.table_image.specs.Flaws.{faults}
use Rattle.table_image.specs.Internet.{Internet, internet}
use Rattle.table_image.specs.Reading.{image_at}
use Rattle.table_image.specs.Spelling.{cable_spelling, counted, front_spelling, image_spelling, node_spelling, router_spelling}
use Rattle.table_image.specs.Tests.{is_magic, within}
use Rattle.table_image.specs.Versions.{version_of}
use Rattle.table_image.specs.declared.cable.Cable.{Cable}
use Rattle.table_image.specs.declared.flaw.Fault.{Fault}
use Rattle.table_image.specs.declared.node.Node.{Node}
use Rattle.table_image.specs.declared.router.Router.{Router}
use Rattle.table_image.specs.declared.version.Version.{Version}
use Rattle.image_feed.specs.declared.tables.Tables.{Tables}
use Rattle.image_feed.specs.Growing.{growth_on}
use Rattle.image_feed.specs.Parts.{cable_on, node_on, router_on}
use Rattle.image_feed.specs.Tables.{IsNew, cables_part, end_part, image_head, nodes_part, routers_part, tables_on}
use Rattle.image_feed.proofs.Anew.{assoc, cable_new, counted_new, node_new, router_new}
use Rattle.image_feed.proofs.Leading.{growth_new}

module _ (t : Tables) (new : IsNew t) (version : Version) where
  cables_new : (bytes : List ℕ)
      → growth_on max_cables (cable_spelling version) (λ like c. cable_on version like c) t.cables.left t.cables.items.items t.cables.hint
      t.cables.next bytes ≡ read faults (counted one max_cables (λ low. cable_spelling version) (λ c. 0)) bytes
  cables_new bytes =
      growth_new max_cables (cable_spelling version) (λ like c. cable_on version like c) t.cables.left t.cables.items.items t.cables.hint
      t.cables.next bytes new.cables_left new.cables
      (λ like b. cable_new version like t.cables.next b new.cable_head new.names_left new.names_front)
      ∙ counted_new one max_cables (λ low. cable_spelling version) (λ c. 0) bytes

  routers_new : (cables : ℕ) (bytes : List ℕ)
      → growth_on max_routers (router_spelling version cables) (λ like r. router_on version cables like r) t.routers.left t.routers.items.items
      t.routers.hint t.routers.next bytes ≡ read faults (counted one max_routers (λ low. router_spelling version cables) (λ r. 0)) bytes
  routers_new cables bytes =
      growth_new max_routers (router_spelling version cables) (λ like r. router_on version cables like r) t.routers.left t.routers.items.items
      t.routers.hint t.routers.next bytes new.routers_left new.routers
      (λ like b. router_new version cables like t.routers.next b new.router)
      ∙ counted_new one max_routers (λ low. router_spelling version cables) (λ r. 0) bytes

  nodes_new : (cables : ℕ) (bytes : List ℕ)
      → growth_on max_nodes (node_spelling version cables) (λ like n. node_on version cables n) t.nodes.left t.nodes.items.items t.nodes.hint
      t.nodes.next bytes ≡ read faults (counted one max_nodes (λ low. node_spelling version cables) (λ n. 0)) bytes
  nodes_new cables bytes =
      growth_new max_nodes (node_spelling version cables) (λ like n. node_on version cables n) t.nodes.left t.nodes.items.items t.nodes.hint
      t.nodes.next bytes new.nodes_left new.nodes (λ like b. node_new version cables t.nodes.next b new.node)
      ∙ counted_new one max_nodes (λ low. node_spelling version cables) (λ n. 0) bytes

  -- reads what follows the cables
  abbrev with_nodes : List Cable → List Router × List ℕ → Result (Internet × List ℕ) Fault
  with_nodes cables r =
      read faults (counted one max_nodes (λ low. node_spelling version (length cables)) (λ n. 0)) r.1
      >>= λ n. Ok (internet version cables r.0 n.0, n.1)

  abbrev ends : Internet × List ℕ → Result Internet Fault
  ends x = end_part x.0 x.1

  with_nodes_new : (cables : List Cable) (r : List Router × List ℕ) → (with_nodes cables r >>= ends) ≡ nodes_part version t cables r.0 r.1
  with_nodes_new cables r =
      assoc (read faults (counted one max_nodes (λ low. node_spelling version (length cables)) (λ n. 0)) r.1) _ ends
      (λ n. end_part (internet version cables r.0 n.0) n.1) (λ n. refl)
      ∙ ap (λ (m : Result (List Node × List ℕ) Fault). m >>= λ n. end_part (internet version cables r.0 n.0) n.1)
      (sym (nodes_new (length cables) r.1))

  pub others_new : (cables : List Cable) (bytes : List ℕ)
      → ((read faults (counted one max_routers (λ low. router_spelling version (length cables)) (λ r. 0)) bytes >>= with_nodes cables) >>= ends)
      ≡ routers_part version t cables bytes
  others_new cables bytes =
      assoc (read faults (counted one max_routers (λ low. router_spelling version (length cables)) (λ r. 0)) bytes) (with_nodes cables) ends
      (λ r. nodes_part version t cables r.0 r.1) (with_nodes_new cables)
      ∙ ap (λ (m : Result (List Router × List ℕ) Fault). m >>= λ r. nodes_part version t cables r.0 r.1) (sym (routers_new (length cables) bytes))

  pub all_new : (bytes : List ℕ)
      → (read faults (counted one max_cables (λ low. cable_spelling version) (λ c. 0)) bytes >>= λ c. routers_part version t c.0 c.1)
      ≡ cables_part version t bytes
  all_new bytes =
      ap (λ (m : Result (List Cable × List ℕ) Fault). m >>= λ c. routers_part version t c.0 c.1) (sym (cables_new bytes))

module _ (t : Tables) (new : IsNew t) where
  -- what follows the head and the cables
  abbrev after_front : (Version × List Cable) × List ℕ → Result Internet Fault
  after_front f = routers_part f.0.0 t f.0.1 f.1

  pub image_new : (bytes : List ℕ) → image_at bytes ≡ tables_on t bytes
  unfolding image_at image_spelling front_spelling image_head
  image_new bytes =
      assoc (read faults front_spelling bytes) _ (λ x. end_part x.0 x.1) after_front (λ f. others_new t new f.0.0 f.0.1 f.1)
      ∙ assoc (field_at faults (run 4 is_magic) bytes) _ after_front
      (λ s. field_at faults (number one (within 1 2 causes.Version)) s.1 >>= λ v. cables_part (version_of v.0) t v.1) (λ s.
      assoc (field_at faults (number one (within 1 2 causes.Version)) s.1) _ after_front (λ v. cables_part (version_of v.0) t v.1) (λ v.
      assoc (read faults (counted one max_cables (λ low. cable_spelling (version_of v.0)) (λ c. 0)) v.1) _ after_front
      (λ c. routers_part (version_of v.0) t c.0 c.1) (λ c. refl)
      ∙ all_new t new (version_of v.0) v.1))
      ∙ sym (rw new.head (assoc (field_at faults (run 4 is_magic) bytes) _ _
      (λ s. field_at faults (number one (within 1 2 causes.Version)) s.1 >>= λ v. cables_part (version_of v.0) t v.1) (λ s.
      assoc (field_at faults (number one (within 1 2 causes.Version)) s.1) _ _ (λ v. cables_part (version_of v.0) t v.1) (λ v. refl))))

  -- no bytes end within the first field
  pub nothing_cut : IsCut (tables_on t) []
  unfolding image_head
  nothing_cut = rw new.head refl
