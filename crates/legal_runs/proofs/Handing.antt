-- A router that carries a datagram on puts it on the cable onto which it hands datagrams for its network.
use Rattle.std.proofs.Common.{◌≡◌, ℕ, ◌+◌, Bool, true, false, cond, List, [], ◌∷◌, ◌++◌, Some, refl}
use Rattle.std.proofs.Common.{ap, subst, sym, ◌∙◌}
use Rattle.std.specs.Prelude.{◌==◌, ◌||◌}
use Rattle.std.specs.List.{AllByRecursion as Each}
use Rattle.at_base.specs.Address.{same_address}
use Rattle.at_base.specs.declared.address.Addr.{Addr}
use Rattle.ddp.specs.Bodies.{body, hops, target, with_hops}
use Rattle.table_image.specs.Internet.{Internet}
use Rattle.audit.specs.Routing.{Hand, Here, On, Nowhere, hand}
use Rattle.audit.specs.Rules.{Passes}
use Rattle.cable_model.specs.Outcomes.{Places, Sender, leg as leg_on, to_other, to_target}
use Rattle.cable_model.specs.declared.resolve.Found.{Found}
use Rattle.cable_model.specs.declared.resolve.Found.TheVariants.{At, Nobody, Later}
use Rattle.cable_model.specs.Pending.{Pair, pending}
use Rattle.cable_model.specs.Transcript.{Entry, Sent, Put, Took, Reached, Dropped, Lost, Hold, next_stamp, stamps}
use Rattle.cable_model.proofs.Counting.{contained_at}
use Rattle.cable_model.proofs.Pairs.{EndsNone}
use Rattle.legal_runs.specs.Carriage.{AreByHand, cable_of_hand}
use Rattle.legal_runs.specs.Legal.{IsLegal}
use Rattle.legal_runs.specs.Legs.{Leg, fate, fate_by, final, is_copy, leg, leg_bytes, passed, places_of, sender}
use Rattle.legal_runs.specs.Losses.{Another, Nothing, Said}
use Rattle.legal_runs.specs.Stations.{cable_seats, has_address}
use Rattle.legal_runs.proofs.Frames.{Framed, target_inside}
use Rattle.legal_runs.proofs.Rising.{GoesOn, IsRising, RisingBlock, SendsOne, Starts, TakesOne, legal_rises, said_ends_none}
use Rattle.legal_runs.proofs.Runs.{known, rising_run}
use Rattle.station.specs.declared.output.Next.{Next}
use Rattle.station.specs.declared.output.Next.TheVariants as next

target_with : (n : ℕ) (bytes : List ℕ) → target (with_hops n bytes) ≡ target bytes
target_with n [] = refl
target_with n (b ∷ bytes) = refl

-- Whether a datagram is carried on after some entries.
abbrev carried_after : List Entry → Bool → Bool
carried_after [] on = on
carried_after (Put f ∷ es) on = carried_after es on
carried_after (Took stamp station ∷ es) on = carried_after es true
carried_after (Sent station body ∷ es) on = carried_after es false
carried_after (Reached cable station how body ∷ es) on = carried_after es on
carried_after (Dropped router cause body ∷ es) on = carried_after es on
carried_after (Lost stamp ∷ es) on = carried_after es on
carried_after (Hold held ∷ es) on = carried_after es on

module _ (i : Internet) where
  by_hand_more : (es fs : List Entry) (on : Bool) → AreByHand i on es → AreByHand i (carried_after es on) fs → AreByHand i on (es ++ fs)
  by_hand_more [] fs on h g = g
  by_hand_more (Put f ∷ es) fs on h g = (h.0, by_hand_more es fs on h.1 g)
  by_hand_more (Took stamp station ∷ es) fs on h g = by_hand_more es fs true h g
  by_hand_more (Sent station body ∷ es) fs on h g = by_hand_more es fs false h g
  by_hand_more (Reached cable station how body ∷ es) fs on h g = by_hand_more es fs on h g
  by_hand_more (Dropped router cause body ∷ es) fs on h g = by_hand_more es fs on h g
  by_hand_more (Lost stamp ∷ es) fs on h g = by_hand_more es fs on h g
  by_hand_more (Hold held ∷ es) fs on h g = by_hand_more es fs on h g

  -- What stations make is put anew.
  anew : (es : List Entry) → Each EndsNone es → AreByHand i false es
  anew [] h = tt
  anew (Put f ∷ es) h = (tt, anew es h.1)
  anew (Took stamp station ∷ es) h = absurd h.0
  anew (Sent station body ∷ es) h = anew es h.1
  anew (Reached cable station how body ∷ es) h = anew es h.1
  anew (Dropped router cause body ∷ es) h = anew es h.1
  anew (Lost stamp ∷ es) h = anew es h.1
  anew (Hold held ∷ es) h = anew es h.1

  said_anew : (on : Bool) (n : ℕ) (ls : List Leg) (es : List Entry) → Said i n ls es → AreByHand i on es
  said_anew on n ls es (Nothing m) = tt
  said_anew on n ls es (Another m stamp l more fs le said) =
      anew (leg i stamp l ++ fs) (said_ends_none i m (l ∷ more) (Sent l.station l.body ∷ (leg i stamp l ++ fs))
      (Another m stamp l more fs le said)).1

  either : (b : Bool) (es fs : List Entry) → AreByHand i true es → AreByHand i true fs → AreByHand i true (cond b es fs)
  either true es fs h g = h
  either false es fs h g = g

  leg_by : (places : Places) (s : Sender) (to : Next) (bytes : List ℕ)
      → cable_of_hand (hand i s.station (target bytes).net) ≡ Some s.cable → AreByHand i true (leg_on places s to bytes)
  leg_by places s (next.Station a) bytes h =
      either (same_address (target bytes) a) _ _ (straight (places.finds s.cable a)) (onward (places.finds s.cable a))
    where
      straight : (f : Found) → AreByHand i true (to_target s bytes f)
      straight (At hw) = (h, tt)
      straight Nobody = tt
      straight Later = tt

      onward : (f : Found) → AreByHand i true (to_other s bytes f)
      onward (At hw) = (h, tt)
      onward Nobody = tt
      onward Later = tt
  leg_by places s next.All bytes h = either (places.lists (target bytes).net) _ _ (h, tt) (h, tt)
  leg_by places s (next.Group g) bytes h = (h, tt)

  module _ (stamp : ℕ) (p : Pair) (framed : Framed p.frame.bytes) where
    -- The frame that is passed on is for the same network.
    same_net : (target (with_hops (hops p.frame.bytes + 1) (body p.frame.bytes))).net ≡ (target p.frame.bytes).net
    same_net =
        ap (λ (a : Addr). a.net) (target_with (hops p.frame.bytes + 1) (body p.frame.bytes) ∙ target_inside p.frame.bytes framed)

    passed_on : (r c : ℕ) (whom : Next) → cable_of_hand (hand i r (target p.frame.bytes).net) ≡ Some c
        → AreByHand i true (leg i stamp (passed r p c whom))
    passed_on r c whom h =
        let l = passed r p c whom in
        leg_by (places_of i) (sender stamp l) whom (leg_bytes l) (ap (λ n. cable_of_hand (hand i r n)) same_net ∙ h)

    by_fate : (r : ℕ) (h : Hand) → hand i r (target p.frame.bytes).net ≡ h → AreByHand i true (fate_by i stamp r p h)
    by_fate r Nowhere e = tt
    by_fate r (Here c) e =
        either ((target p.frame.bytes).node == 0 || has_address i r c (target p.frame.bytes)) _ _ tt
        (either (hops p.frame.bytes == 15) _ _ tt (passed_on r c (final (target p.frame.bytes)) (ap cable_of_hand e)))
    by_fate r (On s c a) e =
        either (hops p.frame.bytes == 15) _ _ tt (passed_on r c (next.Station a) (ap cable_of_hand e))

    fate_by_hand : AreByHand i true (fate i stamp p)
    fate_by_hand = either (is_copy i p) _ _ (by_fate p.seat.station (hand i p.seat.station (target p.frame.bytes).net) refl) tt

-- ---- Transcripts

module _ (i : Internet) (ok : Passes i) where
  block_by_hand : (t block : List Entry) (on : Bool) → IsRising i t → RisingBlock i t block → AreByHand i on block
  block_by_hand t block on rising (SendsOne l es made own said) = said_anew i on (next_stamp t) (l ∷ []) es said
  block_by_hand t block on rising (TakesOne p ls es there made its answers h) =
      let k = contained_at (pending (cable_seats i) t) p there in
      let q = known i ok t p k.0 (rising_run i ok t rising) k.1 in
      let fs = fate i h.stamp p in
      subst (AreByHand i true) (sym h.whole)
      (by_hand_more i fs h.rest true (fate_by_hand i h.stamp p q.framed)
      (said_anew i (carried_after fs true) (h.stamp + stamps fs) ls h.rest h.said))

  pub handed_by : (t : List Entry) → IsRising i t → AreByHand i false t
  handed_by t Starts = tt
  handed_by t (GoesOn front block rising b) =
      by_hand_more i front block false (handed_by front rising) (block_by_hand front block (carried_after front false) rising b)

  pub are_by_hand : (t : List Entry) → IsLegal i t → AreByHand i false t
  are_by_hand t legal = handed_by t (legal_rises i t legal)
