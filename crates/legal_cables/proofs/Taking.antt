-- A station takes a frame over live cables that keep what their transcript says: a block of a transcript with resolution.
use Rattle.std.proofs.Common.{◌≡◌, ℕ, List, [], ◌∷◌, ◌++◌, Option, Some, None, Contains, IsSome, refl, sym, ap, ◌∙◌, subst, append-nil, slice_get}
use Rattle.aarp.specs.declared.packet.Packet.{Packet}
use Rattle.audit.specs.Rules.{Passes}
use Rattle.table_image.specs.Bounds.{IsBounded}
use Rattle.table_image.specs.Internet.{Internet}
use Rattle.station.specs.Hearing.{Hearing}
use Rattle.station.specs.Resolution.{packet_at, response_of}
use Rattle.station.specs.declared.output.Output.{Output}
use Rattle.cable_model.specs.Books.{HasOneSeat}
use Rattle.cable_model.specs.Logs.{Adds}
use Rattle.cable_model.specs.Outcomes.{heard_by}
use Rattle.cable_model.specs.Outgoing.{GoOut}
use Rattle.cable_model.specs.Pending.{Pair, pending}
use Rattle.cable_model.specs.Transcript.{Entry, Took}
use Rattle.legal_runs.specs.Stations.{cable_seats}
use Rattle.legal_runs.proofs.Seated.{one_seat}
use Rattle.live_cables.specs.Finding.{Knowing, answer_of, places_of, seat_by}
use Rattle.live_cables.specs.Holding.{Holds, IsLearntBy, IsTold}
use Rattle.live_cables.specs.Living.{Stays, TakesStill, Wires, happened, knowing}
use Rattle.resolved_runs.specs.Fitting.{SeatsFit}
use Rattle.resolved_runs.specs.ResolvedRuns.{IsLegalResolved, ResolvedBlock, taking}
use Rattle.resolved_runs.proofs.Erased.{erases}
use Rattle.resolved_runs.proofs.HeldStamps.{put_once}
use Rattle.resolved_runs.proofs.Told.{IsTold as IsToldSo}
use Rattle.legal_cables.specs.Keeping.{AreKept, IsKept, Keeps, Resolves, ResolvesTake}
use Rattle.legal_cables.proofs.Answering.{answer_heard, nothing_said, this_said}
use Rattle.legal_cables.proofs.Freed.{answer, freed_block}
use Rattle.legal_cables.proofs.Releasing.{adds_then}
use Rattle.legal_cables.proofs.Resolving.{Knows}
use Rattle.legal_cables.proofs.Took.{books, keeps_took}

-- The same for any station.
pub keeps_for : (i : Internet) (w : Wires) (s r : ℕ) (t : List Entry) → Keeps i (knowing w s) t → Keeps i (knowing w r) t
keeps_for i w s r t k = record { seats_are = k.seats_are; own = k.own; ranges = k.ranges; each = k.each }

-- Cables with these entries and mappings keep what a station's knowledge does.
pub finish : (i : Internet) (old new : Wires) (block : List Entry) (k : Knowing) → AreKept i old
    → ResolvedBlock i (happened old) block → Adds old.cabling new.cabling block → Stays old new → new.maps ≡ k.maps
    → Keeps i k (happened old ++ block) → (r : Resolves i old new) × (r.block ≡ block)
finish i old new block k kept legal adds stays maps keeps = (
  record {
    block = block;
    legal = legal;
    adds = adds;
    keeps = record {
      seats_are = adds.seats ∙ kept.seats_are;
      own = stays.own ∙ kept.own;
      ranges = stays.ranges ∙ kept.ranges;
      each = λ n q at.
          let e = keeps.each n q at in (
            e.0,
            ap (λ ms. slice_get ms n) maps ∙ e.1,
            subst (λ t. IsKept i t q.station q.cable e.0) (sym adds.added) e.2,
          );
    };
  },
  refl,
)

module _ (i : Internet) (ok : Passes i) (bounded : IsBounded i) (fit : SeatsFit i) (old new : Wires) (stamp station ports : ℕ)
    (Hears : Hearing → List Output → Type 0) (legal : IsLegalResolved i (happened old)) (kept : AreKept i old)
    (w : TakesStill stamp station ports Hears old new) where
  abbrev pub t : List Entry
  t = happened old

  abbrev pub pair : Pair
  pair = w.1.took.pair

  abbrev pub outputs : List Output
  outputs = w.1.took.added

  told_t : IsToldSo i t
  told_t = (erases i ok fit t legal).told

  pub there : Contains (pending (cable_seats i) t) pair
  there = subst (λ ss. Contains (pending ss t) pair) kept.seats_are w.1.took.was_pending

  entry_is : Took stamp station ≡ taking pair
  entry_is = ap (λ n. Took n station) (sym w.1.took.of_stamp) ∙ ap (Took pair.frame.stamp) (sym w.1.took.of_station)

  -- What the station knew, and how its outputs went.
  pub out : GoOut places_of Holds (cable_seats i) pair.seat.station (t ++ taking pair ∷ []) outputs (knowing old station)
      w.1.took.told w.1.took.bytes w.1.after
  out =
      subst (λ ss. GoOut places_of Holds ss pair.seat.station (t ++ taking pair ∷ []) outputs (knowing old station) w.1.took.told
      w.1.took.bytes w.1.after) kept.seats_are
      (subst (λ s. GoOut places_of Holds old.cabling.seats s (t ++ taking pair ∷ []) outputs (knowing old station) w.1.took.told
      w.1.took.bytes w.1.after) (sym w.1.took.of_station)
      (subst (λ e. GoOut places_of Holds old.cabling.seats station (t ++ e ∷ []) outputs (knowing old station) w.1.took.told
      w.1.took.bytes w.1.after) entry_is w.1.took.out))

  abbrev pub response : Option Packet
  response = response_of pair.frame.kind (packet_at pair.frame.bytes)

  pub knows : response ≡ None → Knows i pair.seat.station (knowing old station) (t ++ taking pair ∷ [])
  knows none = record {
    station = sym w.1.took.of_station;
    keeps = keeps_took i t told_t pair there (knowing old station) none (keeps_for i old 0 station t kept);
    booked = books i t told_t pair there;
  }

  answer_is : w.1.answer ≡ answer_of (heard_by pair)
  answer_is =
      answer_heard old.cabling stamp station w.1.answer (put_once i t told_t)
      (subst HasOneSeat (sym kept.seats_are) (one_seat i ok)) w.1.said pair w.1.took.was_pending w.1.took.of_stamp w.1.took.of_station

  -- Nothing more is told.
  pub silent : response ≡ None → ResolvedBlock i t (taking pair ∷ w.1.took.told)
      → Knows i pair.seat.station w.1.after (t ++ taking pair ∷ w.1.took.told) → ResolvesTake i old new stamp station
  silent none block knows_then =
      let told : IsTold old.cabling.seats station None (w.1.taken, w.1.after.maps) (new.cabling, w.0.maps) =
      subst (λ o. IsTold old.cabling.seats station o (w.1.taken, w.1.after.maps) (new.cabling, w.0.maps))
      (answer_is ∙ nothing_said (heard_by pair) none) w.1.told in
      let entries : Adds old.cabling w.1.taken (taking pair ∷ w.1.took.told) =
      subst (λ e. Adds old.cabling w.1.taken (e ∷ w.1.took.told)) entry_is w.1.took.entries in
      let all : Adds old.cabling new.cabling (taking pair ∷ w.1.took.told) =
      subst (Adds old.cabling new.cabling) (append-nil (taking pair ∷ w.1.took.told))
      (adds_then old.cabling w.1.taken new.cabling (taking pair ∷ w.1.took.told) [] entries told.0) in
      let f = finish i old new (taking pair ∷ w.1.took.told) w.1.after kept block all w.3 (w.2 ∙ told.1) knows_then.keeps in
      record { all = f.0; rest = w.1.took.told; first = f.1 ∙ ap (λ e. e ∷ w.1.took.told) (sym entry_is) }

  -- A response is told.
  pub telling : (sent : Packet) → response ≡ Some sent → ResolvesTake i old new stamp station
  telling sent is =
      let quiet : outputs ≡ [] = w.1.took.quiet (subst (λ (o : Option Packet). IsSome o) (sym is) refl) in
      let none = subst (λ os. GoOut places_of Holds (cable_seats i) pair.seat.station (t ++ taking pair ∷ []) os (knowing old station)
      w.1.took.told w.1.took.bytes w.1.after) quiet out in
      let entries : Adds old.cabling w.1.taken (taking pair ∷ []) =
      subst (λ es. Adds old.cabling w.1.taken (taking pair ∷ es)) none.0
      (subst (λ e. Adds old.cabling w.1.taken (e ∷ w.1.took.told)) entry_is w.1.took.entries) in
      let told : IsTold old.cabling.seats station (Some (answer i ok bounded t told_t pair there sent is)) (w.1.taken, w.1.after.maps)
      (new.cabling, w.0.maps) =
      subst (λ o. IsTold old.cabling.seats station o (w.1.taken, w.1.after.maps) (new.cabling, w.0.maps))
      (answer_is ∙ this_said (heard_by pair) sent is) w.1.told in
      let learnt : IsLearntBy (seat_by (cable_seats i) pair.seat.station pair.seat.port)
      (answer i ok bounded t told_t pair there sent is) (w.1.taken, old.maps) (new.cabling, w.0.maps) =
      subst (λ k. IsLearntBy (seat_by (cable_seats i) pair.seat.station pair.seat.port)
      (answer i ok bounded t told_t pair there sent is) (w.1.taken, k.maps) (new.cabling, w.0.maps)) none.2
      (subst (λ s. IsLearntBy (seat_by (cable_seats i) s pair.seat.port)
      (answer i ok bounded t told_t pair there sent is) (w.1.taken, w.1.after.maps) (new.cabling, w.0.maps)) (sym w.1.took.of_station)
      (subst (λ ss. IsLearntBy (seat_by ss station pair.seat.port)
      (answer i ok bounded t told_t pair there sent is) (w.1.taken, w.1.after.maps) (new.cabling, w.0.maps)) kept.seats_are told)) in
      let b = freed_block i ok bounded t told_t pair there sent is (knowing old station) w.0.maps w.1.taken new.cabling
      (keeps_for i old 0 station t kept) entries.added learnt in
      let f = finish i old new (taking pair ∷ b.0) (record (knowing old station) { maps = w.0.maps }) kept b.1
      (adds_then old.cabling w.1.taken new.cabling (taking pair ∷ []) b.0 entries b.2) w.3 w.2 b.3 in
      record { all = f.0; rest = b.0; first = f.1 ∙ ap (λ e. e ∷ b.0) (sym entry_is) }
