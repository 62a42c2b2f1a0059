-- What a station has to ask, and what came of it. (This project's own)
use Rattle.std.specs.Prelude.{ℕ, ◌+◌, ◌-◌, ◌%◌, nat_le, Bool, false, true, ◌&&◌, ◌||◌, List, [], ◌∷◌, fold, is_some, map, min, replicate, Option, Some, None, slice_set, if◌then◌else◌}
use Rattle.std.specs.List.{list_all, list_any}
use Rattle.std.specs.Option.{unwrap_or}
use Rattle.at_base.specs.declared.address.Addr.{Addr}
use Rattle.ddp.specs.Datagram.{Datagram}
use Rattle.rtmp.specs.Data.{RoutingData, routing_in, tuples_heard}
use Rattle.rtmp.specs.declared.request.Horizon.TheVariants.{Whole}
use Rattle.rtmp.specs.declared.tuple.Nonextended.TheVariants.{AsRanges}
use Rattle.station.specs.Ways.{is_to}
use Rattle.survey.specs.Answers.{is_answer, zones_told}
use Rattle.survey.specs.Known.{beyond, pushed, range_next, router_next, wanted_of, with_router, with_tuples, with_zones, zone_next}
use Rattle.survey.specs.Slots.{answered_told, asked, due, first_open, free, heard, is_answered, is_free, passed, silent_told}
use Rattle.survey.specs.declared.agenda.Aim.{Aim}
use Rattle.survey.specs.declared.agenda.First.{First}
use Rattle.survey.specs.declared.agenda.Pattern.{Pattern}
use Rattle.survey.specs.declared.agenda.Place.{Place}
use Rattle.survey.specs.declared.agenda.Place.TheVariants as place
use Rattle.survey.specs.declared.agenda.Turn.{Turn}
use Rattle.survey.specs.declared.known.Ranged.{Ranged}
use Rattle.survey.specs.declared.known.Routered.{Routered}
use Rattle.survey.specs.declared.known.Zoned.{Zoned}
use Rattle.survey.specs.declared.question.Question.{Question}
use Rattle.survey.specs.declared.question.Wanted.TheVariants.{Echo, Routes, Names}
use Rattle.survey.specs.declared.slots.Open.{Open}
use Rattle.survey.specs.declared.slots.Told.{Told}
use Rattle.survey.specs.declared.slots.Told.TheVariants.{Asked}

-- how many questions wait for answers at most
abbrev pub max_slots : ℕ
max_slots = 64

-- What a station is to ask; the routers, ranges and zones that it knows; the questions that wait for answers, each in its
-- slot; the ID of the next question; and what happened in the last step.
pub record Planned : Type 0 where
  pub aim : Aim
  pub routers : List Routered
  pub ranges : List Ranged
  pub zones : List Zoned
  pub slots : List (Option Open)
  pub id : ℕ
  pub told : List Told

-- nothing was asked yet
abbrev pub planned : Aim → Planned
planned aim = record { aim = aim; routers = []; ranges = []; zones = []; slots = replicate max_slots None; id = 1; told = [] }

-- ---- The next question

-- the question to a router
abbrev pub to_router : List Ranged → Routered → Question
to_router gs r = record { to = r.at; wanted = unwrap_or (wanted_of gs r.asked) Echo }

-- the question to the routers of a range
abbrev pub to_range : Ranged → Question
to_range g = record { to = beyond g; wanted = Routes Whole }

-- the question for names in a zone, to a router
abbrev pub about_zone : Pattern → Zoned → Addr → Question
about_zone p z router = record { to = router; wanted = Names (record { object = p.object; kind = p.kind; zone = z.name }) }

-- the first question; where it names no station it is for the router
abbrev pub at_first : First → Addr → Question
at_first f router = record { to = unwrap_or f.to router; wanted = f.wanted }

-- a question with this ID that wasn't asked yet, from a place
abbrev pub fresh : ℕ → Place → Question → Turn
fresh id p q = record { place = p; item = first_open q id }

-- the question for names in this zone, if there is one and if names are looked for
abbrev pub zone_turn : ℕ → Addr → Option Pattern → Option (ℕ × Zoned) → Option Turn
zone_turn id router None z = None
zone_turn id router (Some p) None = None
zone_turn id router (Some p) (Some z) = Some (fresh id (place.Zone z.0 z.1) (about_zone p z.1 router))

-- the next zone in which names have to be looked for
abbrev pub next_zone : Planned → Addr → Option Turn
next_zone a router = zone_turn a.id router a.aim.pattern (zone_next 0 a.zones)

-- the next range whose routers have to be asked, or the next zone
abbrev pub next_range : Planned → Addr → Option Turn
next_range a router = by (range_next 0 a.ranges)
  where
    by : Option (ℕ × Ranged) → Option Turn
    by None = next_zone a router
    by (Some g) = Some (fresh a.id (place.Range g.0 g.1) (to_range g.1))

-- the next router that has to be asked, or the next range or zone
abbrev pub next_router : Planned → Addr → Option Turn
next_router a router = by (router_next a.ranges 0 a.routers)
  where
    by : Option (ℕ × Routered) → Option Turn
    by None = next_range a router
    by (Some r) = Some (fresh a.id (place.Router r.0 r.1) (to_router a.ranges r.1))

-- the next question that wasn't asked yet
abbrev pub next_new : Planned → Addr → Option Turn
next_new a router = by a.aim.first
  where
    by : Option First → Option Turn
    by None = next_router a router
    by (Some f) = Some (fresh a.id place.First (at_first f router))

-- a question that wasn't asked yet, where a slot is free
abbrev pub new_if : Planned → Addr → Option ℕ → Option Turn
new_if a router None = None
new_if a router (Some k) = next_new a router

-- The question that is asked now: one that has to be asked once more, or else, where a slot is free, one that wasn't asked
-- yet.
abbrev pub turn : Planned → Addr → Option Turn
turn a router = by (due 0 a.slots)
  where
    by : Option (ℕ × Open) → Option Turn
    by None = new_if a router (free 0 a.slots)
    by (Some o) = Some (record { place = place.Again o.0; item = o.1 })

-- nothing waits for an answer, and there is nothing to ask
abbrev pub is_quiet : Planned → Addr → Bool
is_quiet a router = by (next_new a router)
  where
    by : Option Turn → Bool
    by None = list_all is_free a.slots
    by (Some t) = false

-- ---- A tick

-- the first question after it was asked once more
abbrev pub first_after : Option First → Option First
first_after None = None
first_after (Some f) = if nat_le f.times 1 then None else Some (record f { times = f.times - 1 })

-- what is known after a question from this place was asked
abbrev pub marked : Place → Planned → Planned
marked place.First a = record a { aim = record a.aim { first = first_after a.aim.first } }
marked (place.Router k r) a = record a { routers = slice_set a.routers k (record r { asked = min (r.asked + 1) 65535 }) }
marked (place.Range k g) a = record a { ranges = slice_set a.ranges k (record g { asked = min (g.asked + 1) 255 }) }
marked (place.Zone k z) a = record a { zones = slice_set a.zones k (record z { asked = true }) }
marked (place.Again k) a = a

-- the slot of a question from this place: its own, or the first that is free
abbrev pub slot_of : Planned → Place → ℕ
slot_of a place.First = unwrap_or (free 0 a.slots) 0
slot_of a (place.Router k r) = unwrap_or (free 0 a.slots) 0
slot_of a (place.Range k g) = unwrap_or (free 0 a.slots) 0
slot_of a (place.Zone k z) = unwrap_or (free 0 a.slots) 0
slot_of a (place.Again k) = k

-- the ID after this one
abbrev pub next_id : ℕ → ℕ
next_id id = (id + 1) % 65536

-- the next ID after a question from this place was asked
abbrev pub id_after : ℕ → Place → ℕ
id_after id place.First = next_id id
id_after id (place.Router k r) = next_id id
id_after id (place.Range k g) = next_id id
id_after id (place.Zone k z) = next_id id
id_after id (place.Again k) = id

-- a question was asked, if there is one
abbrev pub after_turn : Planned → Option Turn → Planned
after_turn a None = record a { told = [] }
after_turn a (Some t) = record (marked t.place a) {
  slots = slice_set a.slots (slot_of a t.place) (Some (asked t.item));
  id = id_after a.id t.place;
  told = Asked (asked t.item) ∷ [];
}

-- what waits is a tick older
abbrev pub a_tick_later : Planned → Planned
a_tick_later a = record a { slots = map passed a.slots; told = fold silent_told a.told a.slots }

-- A tick in which this question was asked, if there is one.
abbrev pub ticked : Planned → Option Turn → Planned
ticked a t = a_tick_later (after_turn a t)

-- ---- A datagram

-- the zones that are known, with those that the datagram names, if it answers the question in a slot
abbrev pub zones_after : Datagram → List Zoned → Option Open → List Zoned
zones_after d zs None = zs
zones_after d zs (Some o) = if is_answer o.question o.id d then with_zones (zones_told o.question.wanted d.payload) zs else zs

-- the datagram is routing data that routers and ranges are learnt from: all stations of the cable are told it, or it answers
-- a question
abbrev pub is_lesson : Planned → Datagram → Bool
is_lesson a d = a.aim.spreads && (is_to 1 1 d || is_to 1 251 d && list_any (is_answered d) a.slots)

-- routing data of a router were learnt, if there are some
abbrev pub with_routes : Addr → Option RoutingData → Planned → Planned
with_routes source None a = a
with_routes source (Some p) a =
    record a { routers = with_router source a.routers; ranges = with_tuples (tuples_heard AsRanges p.written) a.ranges }

-- what is known after the routing data in a datagram, if it has some to learn from
abbrev pub taught : Planned → Datagram → Planned
taught a d = if is_lesson a d then with_routes d.source (routing_in d.payload) a else a

-- what is known of zones after a datagram, if names are looked for
abbrev pub named : Planned → Datagram → List Zoned
named a d = if is_some a.aim.pattern then fold (zones_after d) a.zones a.slots else a.zones

-- A datagram that the station accepted: it may answer questions, and tell of routers, ranges and zones.
abbrev pub heard_by : Planned → Datagram → Planned
heard_by a d = record (taught a d) {
  zones = named a d;
  slots = map (heard d a.id) a.slots;
  id = if list_any (is_answered d) a.slots then next_id a.id else a.id;
  told = fold (answered_told d) [] a.slots;
}
