-- Where a station sends, what is held for another router's address on the cable is waited for as before.
use Rattle.std.proofs.Common.{◌≡◌, ℕ, ◌<◌, ◌≤◌, true, false, List, [], ◌∷◌, ◌++◌, Some}
use Rattle.std.proofs.Common.{refl, sym, ap, ◌∙◌, subst, append-nil, length, drop}
use Rattle.std.specs.List.{AllByRecursion as Each}
use Rattle.aarp.specs.Choosing.{Choice}
use Rattle.aarp.specs.Mapping.{Mappings}
use Rattle.at_base.specs.declared.address.Addr.{Addr}
use Rattle.audit.proofs.WalkLists.{At}
use Rattle.cable_model.specs.Books.{HasOneSeat}
use Rattle.cable_model.specs.Logs.{Cabling, transcript}
use Rattle.cable_model.specs.Outcomes.{Held, cable_of}
use Rattle.cable_model.specs.Outgoing.{held_entries}
use Rattle.cable_model.specs.Pending.{is_for}
use Rattle.cable_model.specs.Transcript.{Entry, next_stamp}
use Rattle.cable_model.specs.declared.resolve.HeldBy.{HeldBy}
use Rattle.cable_model.specs.declared.seat.Seat.{Seat}
use Rattle.lasting.proofs.Awaiting.{AreWaited, all_calm, waited_held, waited_later, waited_learnt}
use Rattle.lasting.proofs.Given.{no_losses}
use Rattle.lasting.proofs.Numbered.{gives_counts, still_counted}
use Rattle.lasting.proofs.Reasked.{AreAwaited, nobody}
use Rattle.lasting.proofs.Speaking.{calm_below}
use Rattle.lasting.proofs.Walking as walking
use Rattle.lasting.specs.Resting.{IsBelow}
use Rattle.live_cables.proofs.Pending.{Has}
use Rattle.live_cables.specs.Finding.{Knowing, seat_by}
use Rattle.live_cables.specs.Holding.{Holds, with_learnt}
use Rattle.live_cables.specs.Living.{GivesOut, Wires}
use Rattle.live_cables.specs.Steps.{AreLossesOf, are_calm, loses_by, losses_since}
use Rattle.live_cables.specs.declared.answer.Answer.{Answer}
use Rattle.live_node.specs.Living.{LivingNode}
use Rattle.live_router.proofs.Settled.{AreSettled}
use Rattle.live_router.specs.Living.{Living}
use Rattle.station.specs.declared.member.Member.{Member}
use Rattle.station.specs.declared.member.Member.TheVariants.{Router as RouterMember, Node as NodeMember}
use Rattle.station.specs.declared.output.Next.{Next}
use Rattle.station.specs.declared.output.Next.TheVariants as next
use Rattle.station.specs.declared.output.Output.{Output}
use Rattle.station.specs.declared.output.Output.TheVariants as output

-- no frames are lost
abbrev pub are_none : List ℕ → Type 0
are_none ss = ss ≡ []

-- a fact that always holds
abbrev pub anyone : ℕ → ℕ → Addr → Type 0
anyone station port a = Unit {0}

-- then there are no losses
none_lost : (ss : List ℕ) (es : List Entry) → ss ≡ [] → AreLossesOf ss es → es ≡ []
none_lost ss [] e h = refl
none_lost [] (x ∷ es) e h = absurd h
none_lost (s ∷ ss) (x ∷ es) e h = absurd (let f = e in cc)

-- The ports have settled on their addresses; a station has one seat on a cable; and a router's seat is found by its port, and
-- hears what is sent to its hardware address.
module _ (seats : List Seat) (ports : ℕ → List Choice) (routers : ℕ) (settled : (k : ℕ) → AreSettled (ports k)) (one_seat : HasOneSeat seats)
    (by_port : (j : ℕ) (s : Seat) → At seats j s → s.station < routers → seat_by seats s.station s.port ≡ Some j)
    (reached : (j : ℕ) (s : Seat) → At seats j s → s.station < routers → (sender : ℕ) → (sender ≡ s.station → ⊥) → is_for s.hw sender s ≡ true)
    (cabled : (s : Seat) → Has seats s → s.station < routers → cable_of seats s.station s.port ≡ s.cable) where
  -- what is known of a router, by its number, or of a node
  abbrev pub IsKnown : ℕ → Member Living LivingNode → Type 0
  IsKnown k (RouterMember l) = l.router.ports ≡ ports k
  IsKnown k (NodeMember n) = routers ≤ k

  -- what is waited for, as steps keep it
  abbrev pub Inv : (Seat → Addr → Seat → Type 0) → ℕ → List Entry → List Mappings → Type 0
  Inv X bound t maps = IsBelow t × AreWaited seats ports routers X bound t maps

  module _ (X : Seat → Addr → Seat → Type 0) (bound : ℕ) where
    -- entries are added that end no pair
    pub inv_grows : (t es : List Entry) (maps : List Mappings) → are_calm t es ≡ true → Inv X bound t maps → Inv X bound (t ++ es) maps
    inv_grows t es maps calm h = (calm_below t es h.0 calm, waited_later seats ports routers X bound t es maps calm h.1)

    -- a datagram is held
    pub inv_holds : (station : ℕ) (t : List Entry) (w : Held) (k l : Knowing) (by : HeldBy) → k.seats ≡ seats → k.station ≡ station
        → anyone station w.cable w.next → Holds k w.cable w.next (next_stamp t) by l → Inv X bound t k.maps
        → Inv X bound (t ++ held_entries t station w by) l.maps
    inv_holds station t w k l by same at any holds h = (
      calm_below t (held_entries t station w by) h.0 (all_calm seats ports routers station t w by),
      waited_held seats ports routers X bound station t w k l by same at holds h.0 h.1,
    )

    -- nothing is lost
    pub inv_lost : (ss : List ℕ) (t es : List Entry) (maps : List Mappings) → are_none ss → AreLossesOf ss es → Inv X bound t maps
        → Inv X bound (t ++ es) maps
    inv_lost ss t es maps none h inv =
        subst (λ l. Inv X bound l maps) (sym (ap (λ l. t ++ l) (none_lost ss es none h) ∙ append-nil t)) inv

    -- a response is learnt
    pub inv_learns : (t : List Entry) (maps : List Mappings) (i : ℕ) (answer : Answer) → Inv X bound t maps
        → Inv X bound t (with_learnt maps i answer)
    inv_learns t maps i answer h = (h.0, waited_learnt seats ports routers X bound t maps i answer h.1)

  -- where cables lose no frames, none is lost
  pub spared : (old : Wires) → ((cable : ℕ) → loses_by old.losing cable ≡ false) → (c : Cabling)
      → are_none (losses_since old.losing (length old.cabling.lines) c)
  spared old none c = no_losses (λ f. Unit {0}) (Unit {0}) (loses_by old.losing) none (drop (length old.cabling.lines) (transcript c))

  -- each output may go out
  pub any_out : (X : Seat → Addr → Seat → Type 0) (bound : ℕ) (station : ℕ) (os : List Output)
      → Each (walking.MayPutOut (Inv X bound) seats anyone anyone are_none (λ s p a m. tt) (λ s a h m. tt) (inv_grows X bound) (inv_holds X bound)
      (inv_lost X bound) (inv_learns X bound) station) os
  any_out X bound station [] = tt
  any_out X bound station (o ∷ os) = (one o, any_out X bound station os)
    where
      to : (port : ℕ) (n : Next)
          → walking.MaySend (Inv X bound) seats anyone anyone are_none (λ s p a m. tt) (λ s a h m. tt) (inv_grows X bound) (inv_holds X bound)
          (inv_lost X bound) (inv_learns X bound) station port n
      to port (next.Station a) = tt
      to port next.All = tt
      to port (next.Group g) = tt

      one : (o : Output)
          → walking.MayPutOut (Inv X bound) seats anyone anyone are_none (λ s p a m. tt) (λ s a h m. tt) (inv_grows X bound) (inv_holds X bound)
          (inv_lost X bound) (inv_learns X bound) station o
      one (output.Made port way bytes) = to port way
      one (output.Passed port way bytes) = to port way
      one (output.Kept port bytes) = tt
      one (output.Dropped cause bytes) = tt
      one (output.Wire port hw bytes) = tt

  -- ---- What a station sends

  -- what is waited for stays so where outputs are given out
  pub gives_waited : (bound station : ℕ) (os : List Output) (old new : Wires)
      → GivesOut station os old new → AreAwaited seats ports routers bound old → AreAwaited seats ports routers bound new
  gives_waited bound station os old new h inv =
      let w = walking.gives (Inv nobody bound) seats anyone anyone are_none (λ s p a m. tt) (λ s a h m. tt) (inv_grows nobody bound) (inv_holds nobody bound)
      (inv_lost nobody bound) (inv_learns nobody bound) station os old new inv.same (spared old inv.lossless) (any_out nobody bound station os) h
      (inv.counted.below, inv.waited) in
      let counts = gives_counts station os old new h in
      record {
        same = counts.seats ∙ inv.same;
        lossless = λ cable. ap (λ l. loses_by l cable) h.4.losing ∙ inv.lossless cable;
        counted = still_counted old.cabling new.cabling inv.counted counts;
        waited = w.1;
      }
