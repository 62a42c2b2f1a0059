-- Where a router sends datagrams for a network, by its own tables and by the image's.
use Rattle.std.specs.Prelude.{◌≡◌, ℕ, Some, slice_get}
use Rattle.at_base.specs.declared.address.Addr.{Addr}
use Rattle.audit.specs.Routing.{Here, On, Nowhere, hand, home, owner}
use Rattle.router.specs.Holding.{Holding, hand as hand_in}
use Rattle.router.specs.declared.hand.Hand.TheVariants as to
use Rattle.table_image.specs.Internet.{Internet}
use Rattle.table_image.specs.declared.port.Port.{Port}
use Rattle.table_image.specs.declared.router.Router.{Router}

-- A router with the image's tables makes the image's routing decision for a network: neither has a route; or both put
-- datagrams on the cable of a port, which is the network's home; or both hand them, over the cable of a port, to the
-- owner of an address there.
pub data Agree (i : Internet) (r : ℕ) (router : Router) (h : Holding) (n : ℕ) : Type 0 where
  BothNowhere : hand_in h.routes n ≡ to.Nowhere → hand i r n ≡ Nowhere → Agree i r router h n
  BothHere : (q : ℕ) (port : Port) → slice_get router.ports q ≡ Some port → hand_in h.routes n ≡ to.Here q → hand i r n ≡ Here port.cable
      → home i n ≡ Some port.cable → Agree i r router h n
  BothOn : (q : ℕ) (port : Port) (s : ℕ) (a : Addr) → slice_get router.ports q ≡ Some port → hand_in h.routes n ≡ to.On q a
      → hand i r n ≡ On s port.cable a → owner i port.cable a ≡ Some s → Agree i r router h n
