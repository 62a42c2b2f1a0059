-- A resolver that finds, holds and asks as a transcript with resolution says.
use Rattle.std.specs.Prelude.{◌≡◌, ◌≤◌, ℕ, true, List, [], ◌∷◌, ◌++◌}
use Rattle.at_base.specs.declared.address.Addr.{Addr}
use Rattle.table_image.specs.Internet.{Internet}
use Rattle.cable_model.specs.Outcomes.{Held, Places}
use Rattle.cable_model.specs.Outgoing.{held_entries}
use Rattle.cable_model.specs.Transcript.{Dropped, Entry, Hold, Lost, Put, Reached, Sent, Took, next_stamp}
use Rattle.cable_model.specs.declared.resolve.HeldBy.{HeldBy}
use Rattle.legal_runs.specs.Stations.{is_on}
use Rattle.resolved_runs.specs.Mapped.{places_after}
use Rattle.resolved_runs.specs.Resolved.{held_by_port}

-- After the transcript t the entry changes neither what is held nor what is known: a datagram was sent, reached its cable
-- or was dropped, or a frame was put with a new stamp.
abbrev pub IsCalm : List Entry → Entry → Type 0
IsCalm t (Put frame) = next_stamp t ≤ frame.stamp
IsCalm t (Sent station body) = Unit {0}
IsCalm t (Reached cable station how body) = Unit {0}
IsCalm t (Dropped router cause body) = Unit {0}
IsCalm t (Took stamp station) = ⊥
IsCalm t (Lost stamp) = ⊥
IsCalm t (Hold held) = ⊥

-- A resolver for station s: while it knows what the station knows and holds after a transcript, it finds what the station
-- finds on its cables; it still does after a calm entry; and where it holds one more datagram for one of these cables, what is
-- given up and asked for is what the transcript says, and it knows what the station knows after the entries of that.
pub record IsResolver {X : Type 0} (places : X → Places) (Holds : X → ℕ → Addr → ℕ → HeldBy → X → Type 0) (i : Internet)
    (s : ℕ) (Knows : X → List Entry → Type 0) : Type 0 where
  pub finds : (x : X) (t : List Entry) → Knows x t → (cable : ℕ) (a : Addr) → is_on i s cable ≡ true
      → (places x).finds cable a ≡ (places_after i t s).finds cable a
  pub lists : (x : X) (t : List Entry) → Knows x t → (net : ℕ) → (places x).lists net ≡ (places_after i t s).lists net
  pub stays : (x : X) (t : List Entry) (e : Entry) → Knows x t → IsCalm t e → Knows x (t ++ e ∷ [])
  pub holds : (x y : X) (t : List Entry) (w : Held) (by : HeldBy) → Knows x t → is_on i s w.cable ≡ true
      → Holds x w.cable w.next (next_stamp t) by y
      → (by ≡ held_by_port i t s w) × Knows y (t ++ held_entries t s w by)
