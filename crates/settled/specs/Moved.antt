-- What an internet's rows may become without a change of range or distance: another next router, as near as the one
-- before, and Good or Suspect.
use Rattle.std.specs.Prelude.{◌≡◌, ℕ, ◌+◌, ◌==◌, true, false, Some, length, slice_get}
use Rattle.audit.specs.Routing.{owner}
use Rattle.audit.specs.Rules.{same_row}
use Rattle.rtmp.specs.States.{is_usable}
use Rattle.table_image.specs.Internet.{Internet}
use Rattle.table_image.specs.Rows.{is_direct}
use Rattle.table_image.specs.declared.port.Port.{Port}
use Rattle.table_image.specs.declared.row.Row.{Row}
use Rattle.table_image.specs.declared.router.Router.{Router}

-- the row of router r leads to another router, on the cable of the row's port, that has its range one nearer
pub record IsWay (i : Internet) (r : ℕ) (router : Router) (row : Row) : Type 0 where
  pub port : Port
  pub port_at : slice_get router.ports row.port ≡ Some port
  pub next : ℕ
  pub owned : owner i port.cable row.next ≡ Some next
  pub other : (r == next) ≡ false
  pub nearer : Row
  pub found : same_row (slice_get i.routers next) row ≡ Some nearer
  pub one_less : nearer.distance + 1 ≡ row.distance

-- A row of router r became another: its range and its distance stayed, it is usable, a direct row stayed with its port,
-- and any other leads one nearer.
pub record IsMoved (i : Internet) (r : ℕ) (router : Router) (before after : Row) : Type 0 where
  pub start : before.start ≡ after.start
  pub end : before.end ≡ after.end
  pub distance : before.distance ≡ after.distance
  pub usable : is_usable after.state ≡ true
  pub direct : is_direct before ≡ is_direct after
  pub stays : is_direct before ≡ true → before.port ≡ after.port
  pub leads : is_direct after ≡ false → IsWay i r router after

-- the rows of router r became others, and all else of it stayed
pub record IsMovedRouter (i : Internet) (r : ℕ) (before after : Router) : Type 0 where
  pub ports : before.ports ≡ after.ports
  pub lists : before.lists ≡ after.lists
  pub count : length before.rows ≡ length after.rows
  pub rows : (k : ℕ) (a b : Row) → slice_get before.rows k ≡ Some a → slice_get after.rows k ≡ Some b → IsMoved i r before a b

-- the rows of an internet's routers became others, and all else stayed
pub record IsMovedTo (before after : Internet) : Type 0 where
  pub version : before.version ≡ after.version
  pub cables : before.cables ≡ after.cables
  pub nodes : before.nodes ≡ after.nodes
  pub count : length before.routers ≡ length after.routers
  pub each : (r : ℕ) (a b : Router) → slice_get before.routers r ≡ Some a → slice_get after.routers r ≡ Some b
      → IsMovedRouter before r a b
