-- The events of a run: what each does, and which error each has.
use Rattle.std.specs.Prelude.{◌≡◌, ◌⊎◌, ℕ, ◌+◌, ◌<◌, ◌≤◌, ◌==◌, Bool, false, cond, List, [], ◌∷◌, ◌++◌, Option, Some, None, Result, Ok, Err}
use Rattle.std.specs.Prelude.{length, nat_lt, slice_get, take}
use Rattle.at_base.specs.declared.address.Addr.{Addr}
use Rattle.at_base.specs.declared.error.Error.{Error}
use Rattle.at_base.specs.declared.error.Error.TheVariants.{Full, Memory, NoSuch, NotAudited}
use Rattle.at_base.specs.declared.error.Fault.{Fault}
use Rattle.at_base.specs.declared.error.What.TheVariants as what
use Rattle.audit.specs.Rules.{Passes}
use Rattle.audit.specs.Verdicts.{IsFirst}
use Rattle.cable_model.specs.Outcomes.{IsLeast}
use Rattle.ddp.specs.declared.header.Header.{Header}
use Rattle.frozen.specs.Orders.{ask_data, ask_order, bytes_for, send_order}
use Rattle.frozen.specs.Runs.{Running, TakenBy, cabling, pending_in, take_refusal}
use Rattle.events.specs.declared.event.Event.{Event}
use Rattle.events.specs.declared.event.Event.TheVariants.{Send, Request, Take}
use Rattle.frozen.specs.declared.order.Order.{Order}
use Rattle.image_stations.specs.Finding.{station_at}
use Rattle.legal_runs.specs.Legs.{places_of}
use Rattle.run_cables.specs.Wired.{IsSentOn, send_room}
use Rattle.table_image.specs.Internet.{Internet}

-- The header of a datagram whose source isn't set yet.
abbrev pub header_for : Addr → ℕ → ℕ → ℕ → Bool → Header
header_for target target_socket source_socket kind summed = record {
  summed = summed;
  target = target;
  source = record { net = 0; node = 0 };
  target_socket = target_socket;
  source_socket = source_socket;
  kind = kind;
}

-- A node sends a datagram with this data by the order, and no station's contents change.
pub record SentBy (old : Running) (o : Order) (payload : List ℕ) (new : Running) : Type 0 where
  pub internet : new.internet ≡ old.internet
  pub stations : new.stations ≡ old.stations
  pub sent : IsSentOn (places_of old.internet) o.station o.cable o.next (bytes_for o payload) old.wiring new.wiring

-- There is an order, and a node sent a datagram with this data by it.
abbrev pub Sends : Running → Result Order Error → List ℕ → Running → Type 0
Sends old (Err e) payload new = ⊥
Sends old (Ok o) payload new = SentBy old o payload new

-- There is such a station, and it took the frame.
abbrev pub Takes : Running → ℕ → Option ℕ → Running → Type 0
Takes old stamp None new = ⊥
Takes old stamp (Some s) new = TakenBy old stamp s new

-- The effect of an event: a node sends a datagram or a request for names, or a station takes a frame.
abbrev pub Happens : Running → Event → Running → Type 0
Happens old (Send node via target target_socket source_socket kind summed payload) new =
    Sends old (send_order old.internet node via (header_for target target_socket source_socket kind summed) (length payload)) payload new
Happens old (Request node via id name) new = Sends old (ask_order old.internet node via) (ask_data old.internet node id name) new
Happens old (Take stamp station) new = Takes old stamp (station_at old.internet station) new

-- Why an order isn't carried out: the error in place of an order, or too little room for the entries that may follow.
abbrev pub order_refusal : Running → Result Order Error → Option Error
order_refusal r (Err e) = Some e
order_refusal r (Ok o) = cond (nat_lt (cabling r).limit (length (cabling r).lines + send_room r.wiring)) (Some Full) None

-- Why a take is refused: no such station, or the first error of `take_refusal`.
abbrev pub taking_refusal : Running → ℕ → Option ℕ → Option Error
taking_refusal r stamp None = Some (NoSuch what.Station)
taking_refusal r stamp (Some s) = take_refusal r stamp s

-- The first error of an event, other than Memory.
abbrev pub refusal : Running → Event → Option Error
refusal r (Send node via target target_socket source_socket kind summed payload) =
    order_refusal r (send_order r.internet node via (header_for target target_socket source_socket kind summed) (length payload))
refusal r (Request node via id name) = order_refusal r (ask_order r.internet node via)
refusal r (Take stamp station) = taking_refusal r stamp (station_at r.internet station)

-- Why no run starts over the image: NotAudited with the audit's first fault, or Memory for an image that passes.
abbrev pub IsUnstarted : Internet → Error → Type 0
IsUnstarted i e = ((f : Fault) × (e ≡ NotAudited f) × IsFirst i f) ⊎ ((e ≡ Memory) × Passes i)

-- The events were carried out, one after the other; before each of them, `refusal` had no error for it.
pub data Happened : Running → List Event → Running → Type 0 where
  Nothing : (r : Running) → Happened r [] r
  Another : (old between new : Running) (es : List Event) (e : Event) → Happened old es between → refusal between e ≡ None
      → Happens between e new → Happened old (es ++ e ∷ []) new

-- A call returns this error: its first error, or Memory if it has no other.
abbrev pub IsRefused : Option Error → Error → Type 0
IsRefused first e = (first ≡ Some e) ⊎ ((e ≡ Memory) × (first ≡ None))

-- The events before the k-th were carried out, and the k-th has this error.
pub record Stopped (old : Running) (es : List Event) (k : ℕ) (e : Error) (new : Running) : Type 0 where
  pub event : Event
  pub at : slice_get es k ≡ Some event
  pub before : Happened old (take k es) new
  pub refused : IsRefused (refusal new event) e

-- The lowest pending stamp, and the lowest station for which it is pending.
abbrev pub IsNext : Running → ℕ → ℕ → Type 0
IsNext r stamp s = IsLeast (pending_in r) stamp s

-- n times, the frame with the lowest pending stamp was taken by the lowest station for which it was pending.
pub data Drained : Running → ℕ → Running → Type 0 where
  Undrained : (r : Running) → Drained r 0 r
  Taken : (old between new : Running) (n stamp s : ℕ) → Drained old n between → IsNext between stamp s
      → take_refusal between stamp s ≡ None → TakenBy between stamp s new → Drained old (n + 1) new

-- At most `most` frames were taken, and fewer only if no frame is pending any more.
pub record DrainsTo (old : Running) (most : ℕ) (none_left : Bool) (new : Running) : Type 0 where
  pub number : ℕ
  pub few : number ≤ most
  pub drained : Drained old number new
  pub left : none_left ≡ (length (pending_in new) == 0)
  pub all : none_left ≡ false → number ≡ most

-- Fewer than `most` frames were taken, and the next take has this error.
pub record DrainStops (old : Running) (most : ℕ) (e : Error) (new : Running) : Type 0 where
  pub number : ℕ
  pub few : number < most
  pub drained : Drained old number new
  pub stamp : ℕ
  pub station : ℕ
  pub next : IsNext new stamp station
  pub refused : IsRefused (take_refusal new stamp station) e
