-- The routes of datagrams on a cable, with the results of lookups.
use Rattle.std.specs.Prelude.{Bool, true, false, ℕ, ◌+◌, cond, List, [], ◌∷◌}
use Rattle.at_base.specs.Address.{same_address}
use Rattle.cable_model.specs.Outcomes.{Held, Places, Sender, framed, held_by, to_other, to_target}
use Rattle.at_base.specs.Multicast.{all_hw, group_hw}
use Rattle.cable_model.specs.Transcript.{Entry, Reached}
use Rattle.cable_model.specs.declared.entry.How.TheVariants as how
use Rattle.cable_model.specs.declared.outlet.Outlet.{Outlet}
use Rattle.cable_model.specs.declared.resolve.Found.TheVariants.{At, Nobody, Later}
use Rattle.cable_model.specs.declared.route.Route.{Route}
use Rattle.cable_model.specs.declared.route.Route.TheVariants as way
use Rattle.ddp.specs.Bodies.{body, target}
use Rattle.station.specs.declared.heard.Kind.TheVariants.{Ddp}
use Rattle.station.specs.declared.output.Next.{Next}
use Rattle.station.specs.declared.output.Next.TheVariants as next
use Rattle.station.specs.declared.output.Output.{Output}
use Rattle.station.specs.declared.output.Output.TheVariants as output

-- the route of a datagram on a cable
abbrev pub way_of : Places → ℕ → Next → List ℕ → Route
way_of places cable (next.Station a) bytes =
    cond (same_address (target bytes) a) (way.Target a (places.finds cable a)) (way.Other a (places.finds cable a))
way_of places cable next.All bytes = way.All (places.lists (target bytes).net)
way_of places cable (next.Group g) bytes = way.Group g

-- the entries of a datagram sent on a route
abbrev pub way_entries : Sender → List ℕ → Route → List Entry
way_entries s bytes (way.Target a found) = to_target s bytes found
way_entries s bytes (way.Other a found) = to_other s bytes found
way_entries s bytes (way.All listed) =
    cond listed (Reached s.cable s.station how.All (body bytes) ∷ framed s all_hw Ddp bytes ∷ []) (framed s all_hw Ddp bytes ∷ [])
way_entries s bytes (way.Group g) = framed s (group_hw g) Ddp bytes ∷ []

-- the datagram that is to be held, if it is for a station whose hardware address isn't known yet
abbrev pub way_held : ℕ → List ℕ → Route → List Held
way_held cable bytes (way.Target a found) = held_by found cable a bytes
way_held cable bytes (way.Other a found) = held_by found cable a bytes
way_held cable bytes (way.All listed) = []
way_held cable bytes (way.Group g) = []

-- the station and cable of an outlet, with the stamp of the next frame
abbrev pub sender_at : Outlet → ℕ → Sender
sender_at exit stamp = record { stamp = stamp; cable = exit.cable; station = exit.station }

-- the greatest number of entries of an output
abbrev pub lines_for : Output → ℕ
lines_for (output.Made port to bytes) = 3
lines_for (output.Passed port to bytes) = 2
lines_for (output.Kept port bytes) = 2
lines_for (output.Dropped cause bytes) = 2
lines_for (output.Wire port to bytes) = 3

-- the greatest number of entries of outputs
abbrev pub all_lines : List Output → ℕ
all_lines [] = 0
all_lines (o ∷ os) = lines_for o + all_lines os

-- 1 for an output whose bytes may be stored without an entry of their own, else 0
abbrev pub spare_for : Output → ℕ
spare_for (output.Made port to bytes) = 0
spare_for (output.Passed port to bytes) = 1
spare_for (output.Kept port bytes) = 1
spare_for (output.Dropped cause bytes) = 1
spare_for (output.Wire port to bytes) = 0

-- the number of outputs whose bytes may be stored without an entry of their own
abbrev pub all_spare : List Output → ℕ
all_spare [] = 0
all_spare (o ∷ os) = spare_for o + all_spare os

-- a datagram on this route adds no entry and doesn't wait
abbrev pub is_nowhere_way : Route → Bool
is_nowhere_way (way.Other a Nobody) = true
is_nowhere_way (way.Other a Later) = false
is_nowhere_way (way.Other a (At hw)) = false
is_nowhere_way (way.Target a found) = false
is_nowhere_way (way.All listed) = false
is_nowhere_way (way.Group g) = false
