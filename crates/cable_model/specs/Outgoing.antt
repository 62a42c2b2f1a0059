-- What happens on the cables while a station's outputs go out, where datagrams are held until an address is known.
use Rattle.std.specs.Prelude.{◌≡◌, ℕ, suc, Bool, true, false, cond, List, [], ◌∷◌, ◌++◌, Option, Some, None, Contains, IsSome}
use Rattle.at_base.specs.Multicast.{all_hw}
use Rattle.at_base.specs.declared.address.Addr.{Addr}
use Rattle.cable_model.specs.Holdings.{is_open}
use Rattle.cable_model.specs.Logs.{Adds, Cabling, transcript, pending_on}
use Rattle.cable_model.specs.Outcomes.{Held, Places, Sender, all_entries, all_stored, entries_of, framed, heard_by, held_next, held_of}
use Rattle.cable_model.specs.Outcomes.{sent_entries, stored_of}
use Rattle.cable_model.specs.Pending.{Pair}
use Rattle.cable_model.specs.Transcript.{Entry, Hold, Lost, Took, next_stamp}
use Rattle.cable_model.specs.declared.resolve.Found.{Found}
use Rattle.cable_model.specs.declared.resolve.Found.TheVariants.{At, Nobody, Later}
use Rattle.cable_model.specs.declared.resolve.HeldBy.{HeldBy}
use Rattle.cable_model.specs.declared.seat.Seat.{Seat}
use Rattle.station.specs.Hearing.{Hearing}
use Rattle.station.specs.Lawful.{AreLawful}
use Rattle.station.specs.Resolution.{response_in}
use Rattle.station.specs.declared.heard.Kind.TheVariants.{Aarp}
use Rattle.station.specs.declared.output.Next.{Next}
use Rattle.station.specs.declared.output.Output.{Output}

-- the entry of a datagram that a station holds, with this stamp
abbrev pub held_entry : ℕ → ℕ → Held → Entry
held_entry stamp station w =
    Hold (record { stamp = stamp; cable = w.cable; station = station; next = w.next; bytes = w.bytes })

-- the stamp, if a datagram is held with it
abbrev pub if_open : List Entry → Option ℕ → Option ℕ
if_open t None = None
if_open t (Some stamp) = cond (is_open t stamp) (Some stamp) None

-- the loss of a datagram, if there is one
abbrev pub losses : Option ℕ → List Entry
losses None = []
losses (Some stamp) = Lost stamp ∷ []

-- the loss of the datagram that is let go to make room, if it is held
abbrev pub let_go : List Entry → Option ℕ → List Entry
let_go t shed = losses (if_open t shed)

-- the request for an address, if one goes out
abbrev pub asked : Sender → Option (List ℕ) → List Entry
asked s None = []
asked s (Some bytes) = framed s all_hw Aarp bytes ∷ []

-- the bytes of the request, if one goes out
abbrev pub asked_bytes : Option (List ℕ) → List (List ℕ)
asked_bytes None = []
asked_bytes (Some bytes) = bytes ∷ []

-- The entries of a datagram that is held: its Hold, which takes the next stamp, the loss of the one that is let go, and
-- the request for the address.
abbrev pub held_entries : List Entry → ℕ → Held → HeldBy → List Entry
held_entries t station w by =
    held_entry (next_stamp t) station w
    ∷ (let_go t by.shed ++ asked (record { stamp = suc (next_stamp t); cable = w.cable; station = station }) by.ask)

-- The datagram of a station that can't go out yet, if there is one, is held: these are its entries and their bytes, and
-- the resolver changes as `Holds` says.
abbrev pub IsHeldBy : {X : Type 0} → (X → ℕ → Addr → ℕ → HeldBy → X → Type 0) → ℕ → List Entry → List Held
    → X → List Entry → List (List ℕ) → X → Type 0
IsHeldBy Holds station t [] x es ks y = (es ≡ []) × (ks ≡ []) × (y ≡ x)
IsHeldBy Holds station t (w ∷ ws) x es ks y =
    (by : HeldBy) × Holds x w.cable w.next (next_stamp t) by y
    × (es ≡ held_entries t station w by) × (ks ≡ asked_bytes by.ask)

-- After the transcript t an output of a station goes out: these are its entries and their bytes.
pub record GoesOut {X : Type 0} (places : X → Places) (Holds : X → ℕ → Addr → ℕ → HeldBy → X → Type 0)
    (seats : List Seat) (station : ℕ) (t : List Entry) (o : Output) (x : X) (es : List Entry) (ks : List (List ℕ)) (y : X)
    : Type 0 where
  pub more : List Entry
  pub asks : List (List ℕ)
  pub entries : es ≡ entries_of (places x) seats station (next_stamp t) o ++ more
  pub bytes : ks ≡ stored_of (places x) seats station o ++ asks
  pub held :
      IsHeldBy Holds station (t ++ entries_of (places x) seats station (next_stamp t) o) (held_of (places x) seats station o) x more asks y

-- After the transcript t the outputs of a station go out, one after another: these are their entries and their bytes.
abbrev pub GoOut : {X : Type 0} → (X → Places) → (X → ℕ → Addr → ℕ → HeldBy → X → Type 0) → List Seat → ℕ → List Entry
    → List Output → X → List Entry → List (List ℕ) → X → Type 0
GoOut places Holds seats station t [] x es ks y = (es ≡ []) × (ks ≡ []) × (y ≡ x)
GoOut {X} places Holds seats station t (o ∷ os) x es ks y =
    (first rest : List Entry) × (bytes others : List (List ℕ)) × (z : X)
    × GoesOut places Holds seats station t o x first bytes z
    × GoOut places Holds seats station (t ++ first) os z rest others y
    × (es ≡ first ++ rest) × (ks ≡ bytes ++ others)

-- A station with this many ports took a frame that was pending for it and sent `added`, while the resolver changed from
-- x to y. The bytes of the new entries are those of `added` and of the requests that went out. Nothing is sent after an
-- AARP response; and where nothing was sent, room is left for further entries.
pub record IsTaken {X : Type 0} (places : X → Places) (Holds : X → ℕ → Addr → ℕ → HeldBy → X → Type 0) (ports : ℕ)
    (old new : Cabling) (stamp station : ℕ) (Hears : Hearing → List Output → Type 0) (x y : X) : Type 0 where
  pub pair : Pair
  pub was_pending : Contains (pending_on old) pair
  pub of_stamp : pair.frame.stamp ≡ stamp
  pub of_station : pair.seat.station ≡ station
  pub added : List Output
  pub heard : Hears (heard_by pair) added
  pub lawful : AreLawful ports added
  pub quiet : IsSome (response_in (heard_by pair)) → added ≡ []
  pub told : List Entry
  pub bytes : List (List ℕ)
  pub out : GoOut places Holds old.seats station (transcript old ++ Took stamp station ∷ []) added x told bytes y
  pub entries : Adds old new (Took stamp station ∷ told)
  pub stored : new.kept ≡ old.kept ++ bytes
  pub room : added ≡ [] → new.spare ≡ old.rooms.take.pairs

-- A datagram that a station made went out on a cable, or is held, while the resolver changed from x to y.
pub record IsSent {X : Type 0} (places : X → Places) (Holds : X → ℕ → Addr → ℕ → HeldBy → X → Type 0)
    (old new : Cabling) (cable station : ℕ) (to : Next) (bytes : List ℕ) (x y : X) : Type 0 where
  pub more : List Entry
  pub asks : List (List ℕ)
  pub held : IsHeldBy Holds station (transcript old ++ sent_entries (places x) old cable station to bytes)
      (held_next (places x) cable to bytes) x more asks y
  pub entries : Adds old new (sent_entries (places x) old cable station to bytes ++ more)
  pub stored : new.kept ≡ old.kept ++ (bytes ∷ asks)

-- the address isn't resolved yet
abbrev pub is_later : Found → Bool
is_later Later = true
is_later (At hw) = false
is_later Nobody = false

-- The lookup of every address is answered.
abbrev pub IsAnswering : Places → Type 0
IsAnswering places = (cable : ℕ) (a : Addr) → is_later (places.finds cable a) ≡ false

-- A station took a frame, as in `IsTaken`, where every lookup is answered: nothing is held.
pub record IsTakenAtOnce (places : Places) (ports : ℕ) (old new : Cabling) (stamp station : ℕ)
    (Hears : Hearing → List Output → Type 0) : Type 0 where
  pub pair : Pair
  pub was_pending : Contains (pending_on old) pair
  pub of_stamp : pair.frame.stamp ≡ stamp
  pub of_station : pair.seat.station ≡ station
  pub added : List Output
  pub heard : Hears (heard_by pair) added
  pub lawful : AreLawful ports added
  pub entries :
      Adds old new (Took stamp station ∷ all_entries places old.seats station (next_stamp (transcript old)) added)
  pub stored : new.kept ≡ old.kept ++ all_stored places old.seats station added
