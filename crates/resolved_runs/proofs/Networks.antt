-- In a transcript that is legal with losses, what is in a frame to one station isn't for network 0.
use Rattle.std.proofs.Common.{◌≡◌, ◌≢◌, ℕ, ◌+◌, ◌<◌, Bool, true, false, cond, not, ◌||◌, ◌&&◌, ◌==◌, List, [], ◌∷◌}
use Rattle.std.proofs.Common.{ap, arith, refl, subst, sym, ◌∙◌, lt-ltb, true≢false}
use Rattle.std.specs.List.{AllByRecursion as Each}
use Rattle.at_base.specs.Address.{same_address}
use Rattle.at_base.specs.Multicast.{all_hw, group_hw, is_all}
use Rattle.at_base.specs.declared.address.Addr.{Addr}
use Rattle.ddp.specs.Bodies.{body, hops, target, with_hops}
use Rattle.table_image.specs.Internet.{Internet}
use Rattle.audit.specs.Routing.{Hand, Here, On, Nowhere, hand}
use Rattle.audit.specs.Rules.{Passes}
use Rattle.station.specs.declared.heard.Kind.TheVariants.{Ddp}
use Rattle.station.specs.declared.output.DropCause.TheVariants.{HopLimit}
use Rattle.station.specs.declared.output.Next.{Next}
use Rattle.station.specs.declared.output.Next.TheVariants as next
use Rattle.cable_model.specs.declared.entry.How.TheVariants as how
use Rattle.cable_model.specs.declared.resolve.Found.{Found}
use Rattle.cable_model.specs.declared.resolve.Found.TheVariants.{At as FoundAt, Nobody, Later}
use Rattle.cable_model.specs.Outcomes.{Places, Sender, framed as framed_by, leg as leg_on, to_other, to_target}
use Rattle.cable_model.specs.Pending.{Pair, pending}
use Rattle.cable_model.specs.Transcript.{Entry, Sent, Put, Took, Reached, Dropped, Lost, Hold, stamps}
use Rattle.cable_model.proofs.Counting.{contained_at, each-append}
use Rattle.legal_runs.specs.Answers.{ByRouter, MayLeave, IsMade, OnCable, Straight, ToThem, ToThese}
use Rattle.legal_runs.specs.Legs.{Leg, fate, fate_by, final, is_copy, is_unicast, leg, leg_bytes, passed, places_of, sender}
use Rattle.legal_runs.specs.Losses.{Another, Nothing as NothingSaid, Said}
use Rattle.legal_runs.specs.LossyRuns.{IsLegalWithLosses}
use Rattle.legal_runs.specs.Stations.{cable_seats, has_address}
use Rattle.legal_runs.proofs.Frames.{Framed, target_inside}
use Rattle.legal_runs.proofs.Lossy.{Empty, Gone, Kept, Lossy, whole_is}
use Rattle.legal_runs.proofs.Passing.{copy_parts}
use Rattle.legal_runs.proofs.Rising.{GoesOn, IsRising, RisingBlock, SendsOne, Starts, TakesOne}
use Rattle.legal_runs.proofs.Runs.{known, rising_run}
use Rattle.legal_runs.proofs.Seated.{home_is, listed_some}

-- The entry puts no frame to one station that is for network 0.
abbrev pub IsSome : Entry → Type 0
IsSome (Put f) = is_unicast f.to ≡ true → (target f.bytes).net ≢ 0
IsSome (Sent s b) = Unit {0}
IsSome (Took k s) = Unit {0}
IsSome (Reached c s how b) = Unit {0}
IsSome (Dropped r c b) = Unit {0}
IsSome (Lost k) = Unit {0}
IsSome (Hold d) = Unit {0}

-- A hop count doesn't change whom a datagram is for.
target_with : (n : ℕ) (bytes : List ℕ) → target (with_hops n bytes) ≡ target bytes
target_with n [] = refl
target_with n (b ∷ bytes) = refl

-- ---- Legs

module _ (places : Places) (s : Sender) (bytes : List ℕ) where
  module _ (some : (target bytes).net ≢ 0) where
    some_target : (o : Found) → Each IsSome (to_target s bytes o)
    some_target (FoundAt hw) = (tt, (λ u. some, tt))
    some_target Nobody = (tt, tt)
    some_target Later = (tt, tt)

    some_other : (o : Found) → Each IsSome (to_other s bytes o)
    some_other (FoundAt hw) = (λ u. some, tt)
    some_other Nobody = tt
    some_other Later = tt

    leg_some : (n : Next) → Each IsSome (leg_on places s n bytes)
    leg_some (next.Station a) =
        elim (same_address (target bytes) a) as (λ b. Each IsSome
        (cond b (to_target s bytes (places.finds s.cable a)) (to_other s bytes (places.finds s.cable a)))) [
          | true ↦ some_target (places.finds s.cable a)
          | false ↦ some_other (places.finds s.cable a)
        ]
    leg_some next.All =
        elim (places.lists (target bytes).net) as (λ b. Each IsSome
        (cond b (Reached s.cable s.station how.All (body bytes) ∷ framed_by s all_hw Ddp bytes ∷ []) (framed_by s all_hw Ddp bytes ∷ []))) [
          | true ↦ (tt, (λ u. some, tt))
          | false ↦ (λ u. some, tt)
        ]
    leg_some (next.Group g) = (λ u. some, tt)

  all_some : Each IsSome (leg_on places s next.All bytes)
  all_some = by (places.lists (target bytes).net)
    where
      not_one : is_unicast all_hw ≡ true → (target bytes).net ≢ 0
      not_one u = absurd (true≢false (sym u))

      by : (b : Bool) → Each IsSome
          (cond b (Reached s.cable s.station how.All (body bytes) ∷ framed_by s all_hw Ddp bytes ∷ []) (framed_by s all_hw Ddp bytes ∷ []))
      by true = (tt, (not_one, tt))
      by false = (not_one, tt)

  group_some : (g : ℕ) → g < 253 → Each IsSome (leg_on places s (next.Group g) bytes)
  group_some g lt = (λ u. absurd (true≢false (sym u ∙ group_is)), tt)
    where
      last : (b : Bool) → (not b && not (true && true)) ≡ false
      last true = refl
      last false = refl

      group_is : is_unicast (group_hw g) ≡ false
      group_is = ap (λ b. not (is_all (group_hw g)) && not (true && b)) (lt-ltb g 253 lt) ∙ last (is_all (group_hw g))

module _ (i : Internet) (ok : Passes i) where
  goes_some : (stamp : ℕ) (l : Leg) → MayLeave i l → Each IsSome (leg i stamp l)
  goes_some stamp l (Straight e on single one) =
      let low = listed_some i ok (target l.body).net l.cable (home_is i ok (target l.body).net l.cable on) in
      leg_some (places_of i) (sender stamp l) (leg_bytes l)
      (λ z. let same = ap (λ (a : Addr). a.net) (target_with l.hops l.body) in absurd (omega (arith, low, same, z))) l.next
  goes_some stamp l (ByRouter a r e own some) =
      leg_some (places_of i) (sender stamp l) (leg_bytes l)
      (λ z. some (sym (ap (λ (a : Addr). a.net) (target_with l.hops l.body)) ∙ z)) l.next
  goes_some stamp l (ToThem e on all) =
      subst (λ n. Each IsSome (leg_on (places_of i) (sender stamp l) n (leg_bytes l))) (sym e)
      (all_some (places_of i) (sender stamp l) (leg_bytes l))
  goes_some stamp l (OnCable e none all) =
      subst (λ n. Each IsSome (leg_on (places_of i) (sender stamp l) n (leg_bytes l))) (sym e)
      (all_some (places_of i) (sender stamp l) (leg_bytes l))
  goes_some stamp l (ToThese g lt e none all) =
      subst (λ n. Each IsSome (leg_on (places_of i) (sender stamp l) n (leg_bytes l))) (sym e)
      (group_some (places_of i) (sender stamp l) (leg_bytes l) g lt)

  -- ---- Fates

  passed_some : (stamp r : ℕ) (p : Pair) (c : ℕ) (whom : Next) → Framed p.frame.bytes → (target p.frame.bytes).net ≢ 0
      → Each IsSome (leg i stamp (passed r p c whom))
  passed_some stamp r p c whom framed some =
      leg_some (places_of i) (sender stamp (passed r p c whom)) (leg_bytes (passed r p c whom))
      (λ z. some (sym (ap (λ (a : Addr). a.net)
      (target_with (hops p.frame.bytes + 1) (body p.frame.bytes) ∙ target_inside p.frame.bytes framed)) ∙ z)) whom

  fate_by_some : (stamp r : ℕ) (p : Pair) (h : Hand) → Framed p.frame.bytes → (target p.frame.bytes).net ≢ 0
      → Each IsSome (fate_by i stamp r p h)
  fate_by_some stamp r p Nowhere framed some = (tt, tt)
  fate_by_some stamp r p (Here c) framed some =
      by ((target p.frame.bytes).node == 0 || has_address i r c (target p.frame.bytes)) (hops p.frame.bytes == 15)
    where
      by : (a b : Bool) → Each IsSome (cond a (Reached c r how.Own (body p.frame.bytes) ∷ [])
          (cond b (Dropped r HopLimit (body p.frame.bytes) ∷ []) (leg i stamp (passed r p c (final (target p.frame.bytes))))))
      by true b = (tt, tt)
      by false true = (tt, tt)
      by false false = passed_some stamp r p c (final (target p.frame.bytes)) framed some
  fate_by_some stamp r p (On s c a) framed some = by (hops p.frame.bytes == 15)
    where
      by : (b : Bool) → Each IsSome (cond b (Dropped r HopLimit (body p.frame.bytes) ∷ []) (leg i stamp (passed r p c (next.Station a))))
      by true = (tt, tt)
      by false = passed_some stamp r p c (next.Station a) framed some

  fate_some : (stamp : ℕ) (p : Pair) → Framed p.frame.bytes → Each IsSome (fate i stamp p)
  fate_some stamp p framed = by (is_copy i p) refl
    where
      by : (b : Bool) → is_copy i p ≡ b
          → Each IsSome (cond b (fate_by i stamp p.seat.station p (hand i p.seat.station (target p.frame.bytes).net)) [])
      by true e =
          fate_by_some stamp p.seat.station p (hand i p.seat.station (target p.frame.bytes).net) framed (copy_parts i p e).some
      by false e = tt

  -- ---- Transcripts

  said_some : (n : ℕ) (ls : List Leg) (es : List Entry) → Said i n ls es → Each (IsMade i) ls → Each IsSome es
  said_some n ls es (NothingSaid m) made = tt
  said_some n ls es (Another m stamp l more fs le said) made = (
    tt,
    each-append IsSome (leg i stamp l) fs (goes_some stamp l made.0.goes)
        (said_some (stamp + stamps (leg i stamp l)) more fs said made.1),
  )

  block_some : (t block : List Entry) → IsRising i t → RisingBlock i t block → Each IsSome block
  block_some t block rising (SendsOne l es made own said) = said_some _ (l ∷ []) es said (made, tt)
  block_some t block rising (TakesOne p ls es there made its answers handled) =
      let at = contained_at (pending (cable_seats i) t) p there in
      let framed = (known i ok t p at.0 (rising_run i ok t rising) at.1).framed in (
        tt,
        subst (Each IsSome) (sym handled.whole)
            (each-append IsSome (fate i handled.stamp p) handled.rest (fate_some handled.stamp p framed)
            (said_some (handled.stamp + stamps (fate i handled.stamp p)) ls handled.rest handled.said made)),
      )

  rising_some : (t : List Entry) → IsRising i t → Each IsSome t
  rising_some t Starts = tt
  rising_some t (GoesOn front block rising b) =
      each-append IsSome front block (rising_some front rising) (block_some front block rising b)

  lossy_some : (es fs : List Entry) → Lossy es fs → Each IsSome es → Each IsSome fs
  lossy_some es fs Empty h = tt
  lossy_some es fs (Kept e xs ys k) h = (h.0, lossy_some xs ys k h.1)
  lossy_some es fs (Gone s xs ys k) h = (tt, lossy_some xs ys k h)

  -- No frame to one station is for network 0.
  pub all_are_some : (t : List Entry) → IsLegalWithLosses i t → Each IsSome t
  all_are_some t legal =
      let w = whole_is i t legal in lossy_some w.entries t w.lossy (rising_some w.entries w.rising)
