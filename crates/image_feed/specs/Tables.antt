-- The tables of an internet of which a part was read.
use Rattle.std.specs.Prelude.{◌≡◌, ℕ, Bool, true, ◌&&◌, ◌==◌, List, [], Option, None, Some, Result, Ok, Err, length, is_some, if◌then◌else◌}
use Rattle.at_base.specs.declared.error.Cause.TheVariants as causes
use Rattle.at_base.specs.declared.error.Cause.TheVariants.{Trailing}
use Rattle.at_base.specs.Limits.{max_cables, max_nodes, max_routers}
use Rattle.at_base.specs.Grammar.{Grammar, done, field, number, run, one}
use Rattle.at_base.specs.Reading.{◌>>=◌}
use Rattle.table_image.specs.Contexts.{nothing, with_cables}
use Rattle.table_image.specs.Flaws.{Wrong, Here, fault_of}
use Rattle.table_image.specs.Internet.{Internet, internet}
use Rattle.table_image.specs.Spelling.{cable_spelling, node_spelling, router_spelling}
use Rattle.table_image.specs.Tests.{is_magic, magic, within}
use Rattle.table_image.specs.Versions.{version_number, version_of}
use Rattle.table_image.specs.declared.cable.Cable.{Cable}
use Rattle.table_image.specs.declared.context.Context.{Context}
use Rattle.table_image.specs.declared.flaw.Fault.{Fault}
use Rattle.table_image.specs.declared.router.Router.{Router}
use Rattle.table_image.specs.declared.version.Version.{Version}
use Rattle.image_feed.specs.declared.front.Front.TheVariants.{Same}
use Rattle.image_feed.specs.declared.tables.ImageHead.{ImageHead}
use Rattle.image_feed.specs.declared.tables.TableParts.{TableParts}
use Rattle.image_feed.specs.declared.tables.Tables.{Tables}
use Rattle.image_feed.specs.Growing.{growth_on, head_on, none_left}
use Rattle.image_feed.specs.Parts.{IsNewNode, IsNewRouter, cable_on, node_on, router_on}

-- the first fields of an image
unfoldable pub image_head : Grammar Wrong true ImageHead
image_head =
    field (run 4 is_magic) (λ h. magic) (λ s.
    field (number one (within 1 2 causes.Version)) (λ h. version_number h.version) (λ version.
    done (record { version = version_of version })))

-- the context of the routers and nodes of an internet with these cables
abbrev pub context_of : Version → List Cable → Context
context_of version cables = with_cables (length cables) (nothing version)

-- the internet, where nothing follows it
abbrev pub end_part : Internet → List ℕ → Result Internet Fault
end_part i bytes = if length bytes == 0 then Ok i else Err (fault_of (length bytes) (Here Trailing))

-- an internet with these cables and routers
abbrev pub nodes_part : Version → Tables → List Cable → List Router → List ℕ → Result Internet Fault
nodes_part version t cables routers bytes =
    growth_on max_nodes (node_spelling version (length cables)) (λ like n. node_on version (length cables) n) t.nodes.left t.nodes.items.items
    t.nodes.hint t.nodes.next bytes >>= λ n. end_part (internet version cables routers n.0) n.1

-- an internet with these cables
abbrev pub routers_part : Version → Tables → List Cable → List ℕ → Result Internet Fault
routers_part version t cables bytes =
    growth_on max_routers (router_spelling version (length cables)) (λ like r. router_on version (length cables) like r) t.routers.left
    t.routers.items.items t.routers.hint t.routers.next bytes >>= λ r. nodes_part version t cables r.0 r.1

-- an internet after the first fields of its image
abbrev pub cables_part : Version → Tables → List ℕ → Result Internet Fault
cables_part version t bytes =
    growth_on max_cables (cable_spelling version) (λ like c. cable_on version like c) t.cables.left t.cables.items.items t.cables.hint t.cables.next
    bytes >>= λ c. routers_part version t c.0 c.1

-- what reading gives of the bytes that follow those that were read
abbrev pub tables_on : Tables → List ℕ → Result Internet Fault
tables_on t bytes = head_on image_head t.head bytes >>= λ h. cables_part h.0.version t h.1

-- whether all was read
abbrev pub is_whole : Tables → Bool
is_whole t = is_some t.head && none_left t.cables.left && none_left t.routers.left && none_left t.nodes.left

-- the version in the head; version 1 where no head was read
abbrev pub version_in : Option ImageHead → Version
version_in None = version_of 1
version_in (Some head) = head.version

-- the internet that was read
abbrev pub internet_of : Tables → Internet
internet_of t = internet (version_in t.head) t.cables.items.items t.routers.items.items t.nodes.items.items

-- the internet of these parts
abbrev pub parts_internet : TableParts → Internet
parts_internet p = internet p.version p.cables p.routers p.nodes

-- nothing was read
pub record IsNew (t : Tables) : Type 0 where
  pub head : t.head ≡ None
  pub cables_left : t.cables.left ≡ None
  pub cables : t.cables.items.items ≡ []
  pub cable_head : t.cables.next.head ≡ None
  pub names_left : t.cables.next.names.left ≡ None
  pub names_front : t.cables.next.names.front ≡ Same 0
  pub routers_left : t.routers.left ≡ None
  pub routers : t.routers.items.items ≡ []
  pub router : IsNewRouter t.routers.next
  pub nodes_left : t.nodes.left ≡ None
  pub nodes : t.nodes.items.items ≡ []
  pub node : IsNewNode t.nodes.next
