-- The entries of a leg or of a fate: at most one frame, and nothing that is taken, lost or held.
use Rattle.std.proofs.Common.{◌≡◌, ℕ, ◌+◌, ◌||◌, ◌==◌, Bool, true, false, cond, List, [], ◌∷◌, refl, subst, sym, arith}
use Rattle.std.specs.List.{AllByRecursion as Each}
use Rattle.at_base.specs.Address.{same_address}
use Rattle.ddp.specs.Bodies.{hops, target}
use Rattle.table_image.specs.Internet.{Internet}
use Rattle.audit.specs.Routing.{Hand, Here, On, Nowhere, hand}
use Rattle.cable_model.specs.Outcomes.{Places, Sender, leg as leg_on, to_other, to_target}
use Rattle.cable_model.specs.declared.resolve.Found.{Found}
use Rattle.cable_model.specs.declared.resolve.Found.TheVariants.{At, Nobody, Later}
use Rattle.cable_model.specs.Pending.{Pair}
use Rattle.cable_model.specs.Transcript.{AreNumbered, Entry, Frame, Sent, Put, Took, Reached, Dropped, Lost, Hold}
use Rattle.cable_model.proofs.Pairs.{EndsNone}
use Rattle.legal_runs.specs.Legs.{Leg, fate, fate_by, final, is_copy, leg, leg_bytes, passed, places_of, sender}
use Rattle.legal_runs.specs.Stations.{has_address}
use Rattle.station.specs.declared.output.Next.{Next}
use Rattle.station.specs.declared.output.Next.TheVariants as next

-- The datagram reached a cable or was dropped.
abbrev pub IsEnd : Entry → Type 0
IsEnd (Reached cable station how body) = Unit {0}
IsEnd (Dropped router cause body) = Unit {0}
IsEnd (Sent station body) = ⊥
IsEnd (Put frame) = ⊥
IsEnd (Took stamp station) = ⊥
IsEnd (Lost stamp) = ⊥
IsEnd (Hold held) = ⊥

-- The entries of one datagram: it ended, or a frame with this stamp was put, or both, or neither.
pub data Shape (stamp : ℕ) : List Entry → Type 0 where
  Nothing : Shape stamp []
  Ended : (e : Entry) → IsEnd e → Shape stamp (e ∷ [])
  Framed : (f : Frame) → f.stamp ≡ stamp → Shape stamp (Put f ∷ [])
  Both : (e : Entry) (f : Frame) → IsEnd e → f.stamp ≡ stamp → Shape stamp (e ∷ Put f ∷ [])

-- ---- What follows from the shape

end_none : (e : Entry) → IsEnd e → EndsNone e
end_none (Reached c s how b) h = tt
end_none (Dropped r cause b) h = tt
end_none (Sent s b) h = tt
end_none (Put f) h = tt
end_none (Took p s) h = absurd h
end_none (Lost p) h = absurd h
end_none (Hold d) h = tt

-- Entries of this shape end no pair.
pub shape_none : (stamp : ℕ) (es : List Entry) → Shape stamp es → Each EndsNone es
shape_none stamp es Nothing = tt
shape_none stamp es (Ended e h) = (end_none e h, tt)
shape_none stamp es (Framed f same) = (tt, tt)
shape_none stamp es (Both e f h same) = (end_none e h, (tt, tt))

end_numbered : (stamp : ℕ) (e : Entry) (es : List Entry) → IsEnd e → AreNumbered stamp es → AreNumbered stamp (e ∷ es)
end_numbered stamp (Reached c s how b) es h n =
    let same : 0 + stamp ≡ stamp = omega arith in (tt, subst (λ k. AreNumbered k es) (sym same) n)
end_numbered stamp (Dropped r cause b) es h n =
    let same : 0 + stamp ≡ stamp = omega arith in (tt, subst (λ k. AreNumbered k es) (sym same) n)
end_numbered stamp (Sent s b) es h n = absurd h
end_numbered stamp (Put f) es h n = absurd h
end_numbered stamp (Took p s) es h n = absurd h
end_numbered stamp (Lost p) es h n = absurd h
end_numbered stamp (Hold d) es h n = absurd h

-- A frame of entries of this shape has this stamp.
pub shape_numbered : (stamp : ℕ) (es : List Entry) → Shape stamp es → AreNumbered stamp es
shape_numbered stamp es Nothing = tt
shape_numbered stamp es (Ended e h) = end_numbered stamp e [] h tt
shape_numbered stamp es (Framed f same) = (same, tt)
shape_numbered stamp es (Both e f h same) = end_numbered stamp e (Put f ∷ []) h (same, tt)

-- ---- Legs and fates

either : (stamp : ℕ) (b : Bool) (es fs : List Entry) → Shape stamp es → Shape stamp fs → Shape stamp (cond b es fs)
either stamp true es fs h g = h
either stamp false es fs h g = g

shape_to : (s : Sender) (bytes : List ℕ) (f : Found) → Shape s.stamp (to_target s bytes f) × Shape s.stamp (to_other s bytes f)
shape_to s bytes (At hw) = (Both _ _ tt refl, Framed _ refl)
shape_to s bytes Nobody = (Ended _ tt, Nothing)
shape_to s bytes Later = (Ended _ tt, Nothing)

shape_on : (places : Places) (s : Sender) (to : Next) (bytes : List ℕ) → Shape s.stamp (leg_on places s to bytes)
shape_on places s (next.Station a) bytes =
    let both = shape_to s bytes (places.finds s.cable a) in
    either s.stamp (same_address (target bytes) a) _ _ both.0 both.1
shape_on places s next.All bytes = either s.stamp (places.lists (target bytes).net) _ _ (Both _ _ tt refl) (Framed _ refl)
shape_on places s (next.Group g) bytes = Framed _ refl

module _ (i : Internet) (stamp : ℕ) where
  -- The entries of a leg have this shape.
  pub leg_shape : (l : Leg) → Shape stamp (leg i stamp l)
  leg_shape l = shape_on (places_of i) (sender stamp l) l.next (leg_bytes l)

  shape_by : (r : ℕ) (p : Pair) (h : Hand) → Shape stamp (fate_by i stamp r p h)
  shape_by r p Nowhere = Ended _ tt
  shape_by r p (Here c) =
      either stamp ((target p.frame.bytes).node == 0 || has_address i r c (target p.frame.bytes)) _ _ (Ended _ tt)
      (either stamp (hops p.frame.bytes == 15) _ _ (Ended _ tt) (leg_shape (passed r p c (final (target p.frame.bytes)))))
  shape_by r p (On s c a) =
      either stamp (hops p.frame.bytes == 15) _ _ (Ended _ tt) (leg_shape (passed r p c (next.Station a)))

  -- The entries of a fate have this shape.
  pub fate_shape : (p : Pair) → Shape stamp (fate i stamp p)
  fate_shape p =
      either stamp (is_copy i p) _ _ (shape_by p.seat.station p (hand i p.seat.station (target p.frame.bytes).net)) Nothing

  pub leg_numbered : (l : Leg) → AreNumbered stamp (leg i stamp l)
  leg_numbered l = shape_numbered stamp (leg i stamp l) (leg_shape l)

  pub fate_numbered : (p : Pair) → AreNumbered stamp (fate i stamp p)
  fate_numbered p = shape_numbered stamp (fate i stamp p) (fate_shape p)
