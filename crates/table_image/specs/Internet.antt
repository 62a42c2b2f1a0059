-- An internet: the contents of an image, as lists, and the version of its format.
use Rattle.std.specs.Prelude.{List}
use Rattle.table_image.specs.declared.cable.Cable.{Cable}
use Rattle.table_image.specs.declared.router.Router.{Router}
use Rattle.table_image.specs.declared.node.Node.{Node}
use Rattle.table_image.specs.declared.version.Version.{Version}

-- the tables of all routers and nodes of an internet at one moment, in a version of the format
pub record Internet : Type 0 where
  pub version : Version
  pub cables : List Cable
  pub routers : List Router
  pub nodes : List Node

-- the internet of these parts, in a version of the format
abbrev pub internet : Version → List Cable → List Router → List Node → Internet
internet v c r n = record { version = v; cables = c; routers = r; nodes = n }
