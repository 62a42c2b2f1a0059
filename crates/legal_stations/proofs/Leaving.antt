-- The datagrams that a station made, as legs: each is sent and goes onto a cable.
use Rattle.std.proofs.Common.{◌≡◌, ℕ, ◌+◌, Bool, true, false, not, ◌||◌, ◌==◌, cond, List, [], ◌∷◌, ◌++◌, Option, Some, None}
use Rattle.std.proofs.Common.{refl, sym, ap, ◌∙◌, subst, arith, append-nil, append_assoc}
use Rattle.std.specs.List.{AllByRecursion as Each}
use Rattle.at_base.specs.Spelling.{bytes_of}
use Rattle.at_base.specs.declared.address.Addr.{Addr}
use Rattle.cable_model.specs.Outcomes.{all_entries, cable_of, entries_of, leg as leg_on, sender_by}
use Rattle.cable_model.specs.Transcript.{Entry, Sent, is_put, stamps}
use Rattle.cable_model.proofs.Counting.{count-append}
use Rattle.ddp.specs.Bodies.{target, with_hops}
use Rattle.ddp.specs.Datagram.{datagram, datagram_of}
use Rattle.ddp.proofs.Written.{Fitting}
use Rattle.legal_stations.specs.Made.{legs}
use Rattle.legal_runs.specs.Answers.{MayLeave, IsBody, IsMade, IsOwn, Straight, ToThem, is_other}
use Rattle.legal_runs.specs.Legal.{Block, Sends, said}
use Rattle.legal_runs.specs.Legs.{Leg, leg, leg_bytes, places_of, sender}
use Rattle.legal_runs.specs.Requests.{is_broadcast, is_forward, is_lookup}
use Rattle.legal_runs.specs.Stations.{cable_holds, cable_seats, is_on}
use Rattle.legal_runs.proofs.Frames.{no_hops, whole}
use Rattle.nbp.specs.Packets.{NbpPacket}
use Rattle.std.proofs.lemmas.Bool.{eqb-false, eqb-true}
use Rattle.station.specs.Lawful.{IsGood}
use Rattle.station.specs.Making.{all_made}
use Rattle.station.specs.Ways.{replying, straight}
use Rattle.station.specs.declared.output.Next.TheVariants as next
use Rattle.station.specs.declared.output.Output.{Output}
use Rattle.station.specs.declared.output.Output.TheVariants.{Made, Passed, Kept, Dropped, Wire}
use Rattle.station.specs.declared.way.Way.{Way}
use Rattle.table_image.specs.Internet.{Internet}
use Rattle.legal_stations.proofs.Datagrams.{names_of}
use Rattle.legal_stations.proofs.Making.{is_sent}
use Rattle.legal_stations.proofs.Answered.{leg_by}

-- ---- Entries of outputs, one after another

pub entries_more : (i : Internet) (s stamp : ℕ) (xs ys : List Output)
    → all_entries (places_of i) (cable_seats i) s stamp (xs ++ ys)
    ≡ all_entries (places_of i) (cable_seats i) s stamp xs
    ++ all_entries (places_of i) (cable_seats i) s (stamp + stamps (all_entries (places_of i) (cable_seats i) s stamp xs)) ys
entries_more i s stamp [] ys =
    let n : stamp ≡ stamp + 0 = omega arith in
    ap (λ k. all_entries (places_of i) (cable_seats i) s k ys) n
entries_more i s stamp (x ∷ xs) ys =
    let first = entries_of (places_of i) (cable_seats i) s stamp x in
    let rest = all_entries (places_of i) (cable_seats i) s (stamp + stamps first) xs in
    let both = count-append is_put first rest in
    let n : stamp + stamps first + stamps rest ≡ stamp + stamps (first ++ rest) = omega (arith, both) in
    ap (λ es. first ++ es) (entries_more i s (stamp + stamps first) xs ys)
    ∙ (sym (append_assoc first rest (all_entries (places_of i) (cable_seats i) s (stamp + stamps first + stamps rest) ys))
    ∙ ap (λ k. (first ++ rest) ++ all_entries (places_of i) (cable_seats i) s k ys) n)

-- ---- Datagrams that stations made

-- A datagram that a station made has no hops yet, so its body is what goes onto the cable.
made_bytes : (l : Leg) → IsBody l.body → l.hops ≡ 0 → leg_bytes l ≡ l.body
made_bytes l is fresh = ap (λ n. with_hops n l.body) fresh ∙ no_hops l.body (whole l.body is)

made_agrees : (i : Internet) (stamp : ℕ) (l : Leg) → IsBody l.body → l.hops ≡ 0
    → leg_on (places_of i) (sender stamp l) l.next l.body ≡ leg i stamp l
made_agrees i stamp l is fresh = ap (leg_on (places_of i) (sender stamp l) l.next) (sym (made_bytes l is fresh))

-- A node that sends a datagram on its own initiative adds a block of a legal transcript.
pub sendings : (i : Internet) (t : List Entry) (l : Leg) → IsMade i l → IsOwn i l
    → Block i t (Sent l.station l.body ∷ leg_on (places_of i) (sender (stamps t) l) l.next l.body)
sendings i t l made own =
    subst (λ es. Block i t (Sent l.station l.body ∷ es)) (append-nil (leg i (stamps t) l)
    ∙ sym (made_agrees i (stamps t) l made.whole made.fresh))
    (Sends l made own)

-- The station made the output, and it leaves in an allowed way.
abbrev pub Leaves : Internet → ℕ → Output → Type 0
Leaves i s (Made port to bytes) = IsMade i (leg_by i s port to bytes)
Leaves i s (Passed port to bytes) = ⊥
Leaves i s (Kept port bytes) = ⊥
Leaves i s (Dropped cause bytes) = ⊥
Leaves i s (Wire port to bytes) = ⊥

-- The output is no request.
abbrev pub AsksNothing : Output → Type 0
AsksNothing (Made port to bytes) = is_other bytes ≡ true
AsksNothing (Passed port to bytes) = Unit {0}
AsksNothing (Kept port bytes) = Unit {0}
AsksNothing (Dropped cause bytes) = Unit {0}
AsksNothing (Wire port to bytes) = Unit {0}

module _ (i : Internet) (s : ℕ) where
  -- The entries of the datagrams that a station made.
  pub said_is : (stamp : ℕ) (os : List Output) → Each (Leaves i s) os
      → all_entries (places_of i) (cable_seats i) s stamp os ≡ said i stamp (legs i s os)
  said_is stamp [] h = refl
  said_is stamp (Made port to bytes ∷ os) h =
      let l = leg_by i s port to bytes in
      let on = leg_on (places_of i) (sender_by (cable_seats i) s stamp port) to bytes in
      let n : stamp + (0 + stamps on) ≡ stamp + stamps on = omega arith in
      ap (λ b. Sent s b ∷ (on ++ all_entries (places_of i) (cable_seats i) s (stamp + (0 + stamps on)) os)) (whole bytes h.0.whole).same
      ∙ (ap (λ k. Sent s bytes ∷ (on ++ all_entries (places_of i) (cable_seats i) s k os)) n
      ∙ (ap (λ es. Sent s bytes ∷ (es ++ all_entries (places_of i) (cable_seats i) s (stamp + stamps es) os))
      (made_agrees i stamp l h.0.whole refl)
      ∙ ap (λ es. Sent s bytes ∷ (leg i stamp l ++ es)) (said_is (stamp + stamps (leg i stamp l)) os h.1)))
  said_is stamp (Passed port to bytes ∷ os) h = absurd h.0
  said_is stamp (Kept port bytes ∷ os) h = absurd h.0
  said_is stamp (Dropped cause bytes ∷ os) h = absurd h.0
  said_is stamp (Wire port to bytes ∷ os) h = absurd h.0

  -- The legs of made datagrams leave in an allowed way.
  pub legs_made : (os : List Output) → Each (Leaves i s) os → Each (IsMade i) (legs i s os)
  legs_made [] h = tt
  legs_made (Made port to bytes ∷ os) h = (h.0, legs_made os h.1)
  legs_made (Passed port to bytes ∷ os) h = absurd h.0
  legs_made (Kept port bytes ∷ os) h = absurd h.0
  legs_made (Dropped cause bytes ∷ os) h = absurd h.0
  legs_made (Wire port to bytes ∷ os) h = absurd h.0

  pub legs_here : (os : List Output) → Each (λ (l : Leg). l.station ≡ s) (legs i s os)
  legs_here [] = tt
  legs_here (Made port to bytes ∷ os) = (refl, legs_here os)
  legs_here (Passed port to bytes ∷ os) = legs_here os
  legs_here (Kept port bytes ∷ os) = legs_here os
  legs_here (Dropped cause bytes ∷ os) = legs_here os
  legs_here (Wire port to bytes ∷ os) = legs_here os

  pub legs_other : (os : List Output) → Each AsksNothing os → Each (λ (l : Leg). is_other l.body ≡ true) (legs i s os)
  legs_other [] h = tt
  legs_other (Made port to bytes ∷ os) h = (h.0, legs_other os h.1)
  legs_other (Passed port to bytes ∷ os) h = legs_other os h.1
  legs_other (Kept port bytes ∷ os) h = legs_other os h.1
  legs_other (Dropped cause bytes ∷ os) h = legs_other os h.1
  legs_other (Wire port to bytes ∷ os) h = legs_other os h.1

-- ---- Ways

-- The packet is no request.
abbrev pub is_quiet : Option NbpPacket → Bool
is_quiet o = not (is_broadcast o || is_forward o || is_lookup o)

-- A way by which datagrams of the station leave in an allowed way.
pub record IsWay (i : Internet) (s : ℕ) (w : Way) : Type 0 where
  pub fits : Fitting w.header
  pub seated : is_on i s (cable_of (cable_seats i) s w.port) ≡ true
  pub goes : (l : Leg) → l.cable ≡ cable_of (cable_seats i) s w.port → l.next ≡ w.next → target l.body ≡ w.header.target → MayLeave i l

-- If there is a way, datagrams leave by it in an allowed way.
abbrev pub MayGo : Internet → ℕ → Option Way → Type 0
MayGo i s None = Unit {0}
MayGo i s (Some w) = IsWay i s w

-- Data sent by this way, if there is one, are no request.
abbrev pub IsQuiet : Option Way → List ℕ → Type 0
IsQuiet None payload = Unit {0}
IsQuiet (Some w) payload = is_quiet (names_of (datagram_of w.header payload)) ≡ true

module _ (i : Internet) (s n : ℕ) where
  all_leave : (w : Way) → IsWay i s w → (ps : List (List ℕ)) → Each (IsGood n) (all_made w ps) → Each (Leaves i s) (all_made w ps)
  all_leave w is [] h = tt
  all_leave w is (p ∷ ps) h =
      let it = is_sent w.header p is.fits h.0.2 in (
        record {
          seated = is.seated;
          whole = it.is_body;
          fresh = refl;
          goes = is.goes (leg_by i s w.port w.next (bytes_of datagram (datagram_of w.header p))) refl refl it.target_is;
        },
        all_leave w is ps h.1,
      )

  all_quiet : (w : Way) → IsWay i s w → (ps : List (List ℕ)) → Each (IsGood n) (all_made w ps) → Each (IsQuiet (Some w)) ps
      → Each AsksNothing (all_made w ps)
  all_quiet w is [] h q = tt
  all_quiet w is (p ∷ ps) h q = (ap is_quiet (is_sent w.header p is.fits h.0.2).asks ∙ q.0, all_quiet w is ps h.1 q.1)

  pub replies_leave : (o : Option Way) → MayGo i s o → (ps : List (List ℕ)) → Each (IsGood n) (replying o ps)
      → Each (Leaves i s) (replying o ps)
  replies_leave None is ps h = tt
  replies_leave (Some w) is ps h = all_leave w is ps h

  pub replies_quiet : (o : Option Way) → MayGo i s o → (ps : List (List ℕ)) → Each (IsGood n) (replying o ps) → Each (IsQuiet o) ps
      → Each AsksNothing (replying o ps)
  replies_quiet None is ps h q = tt
  replies_quiet (Some w) is ps h q = all_quiet w is ps h q

-- Directly to a target on the cable.
pub goes_straight : (i : Internet) (a : Addr) (c : ℕ) → cable_holds i c a.net ≡ true → (a.node == 0) ≡ false → (l : Leg) → l.cable ≡ c
    → l.next ≡ straight a → target l.body ≡ a → MayLeave i l
goes_straight i a c holds some l on to for = by (a.node == 255) refl
  where
    here : cable_holds i l.cable (target l.body).net ≡ true
    here = ap (λ k. cable_holds i k (target l.body).net) on ∙ (ap (λ (t : Addr). cable_holds i c t.net) for ∙ holds)

    by : (b : Bool) → (a.node == 255) ≡ b → MayLeave i l
    by true e =
        ToThem (to ∙ ap (λ b. cond b next.All (next.Station a)) e) here (ap (λ (t : Addr). t.node) for ∙ eqb-true a.node 255 e)
    by false e =
        Straight (to ∙ (ap (λ b. cond b next.All (next.Station a)) e ∙ ap next.Station (sym for))) here
        (λ z. eqb-false a.node 0 some (sym (ap (λ (t : Addr). t.node) for) ∙ z))
        (λ z. eqb-false a.node 255 e (sym (ap (λ (t : Addr). t.node) for) ∙ z))
