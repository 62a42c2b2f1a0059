-- A frame with a response, as it is taken.
use Rattle.std.proofs.Common.{◌≡◌, ℕ, ◌≤◌, Bool, true, false, ◌==◌, ◌&&◌, ◌||◌, not, List, [], ◌∷◌, ◌++◌, Option, Some, None, inl, inr}
use Rattle.std.proofs.Common.{refl, sym, ap, ◌∙◌, subst, arith, eq-eqb}
use Rattle.std.specs.Prelude.{Contains, IsSome}
use Rattle.aarp.specs.declared.packet.Function.{Function}
use Rattle.aarp.specs.declared.packet.Function.TheVariants.{Request, Response, Probe}
use Rattle.aarp.specs.declared.packet.Packet.{Packet}
use Rattle.cable_model.specs.Books.{HasOneSeat}
use Rattle.cable_model.specs.Logs.{Cabling, transcript}
use Rattle.cable_model.specs.Outcomes.{heard_by, is_named}
use Rattle.cable_model.specs.Outgoing.{GoOut, IsTaken}
use Rattle.cable_model.specs.Pending.{Pair, ends, pairs, pending, was_ended}
use Rattle.cable_model.specs.Transcript.{ArePutOnce, Entry, Took, count, one}
use Rattle.cable_model.specs.declared.seat.Seat.{Seat}
use Rattle.cable_model.proofs.Counting.{At, any-append, contained_at, count_none, each_all, filter_one}
use Rattle.cable_model.proofs.Pairs.{pending_is, pending_less}
use Rattle.live_cables.specs.Finding.{Knowing, answer_of, places_of, said}
use Rattle.live_cables.specs.Holding.{AreFew, Holds}
use Rattle.live_cables.specs.Putting.{IsAnswer}
use Rattle.live_cables.specs.declared.answer.Answer.{Answer}
use Rattle.live_cables.proofs.Knows.{few_same, knows_out}
use Rattle.station.specs.Hearing.{Hearing}
use Rattle.station.specs.Resolution.{packet_at, response_in, response_of}
use Rattle.station.specs.declared.heard.Kind.{Kind}
use Rattle.station.specs.declared.heard.Kind.TheVariants.{Ddp, Aarp}
use Rattle.station.specs.declared.output.Output.{Output}

-- ---- A frame and a station have one pair

-- At most one pending pair has the stamp and the station of a pending pair.
one_named : (seats : List Seat) → HasOneSeat seats → (t : List Entry) → ArePutOnce t → (p : Pair) (k : ℕ) → At (pending seats t) k p
    → count (is_named p.frame.stamp p.seat.station) (pending seats t) ≤ 1
one_named seats one_seat t once p k at =
    let name = is_named p.frame.stamp p.seat.station in
    let took = Took p.frame.stamp p.seat.station in
    let less = pending_less seats one_seat name t p k once at in
    let is = pending_is seats one_seat name (t ++ took ∷ []) in
    let none = count_none (λ q. not (was_ended (t ++ took ∷ []) q) && name q) (pairs seats (t ++ took ∷ []))
    (each_all _ _ (λ q. ap (λ b. not b && name q) (any-append (ends q) t (took ∷ [])) ∙ gone (was_ended t q) (name q))) in
    let few = one_few (name p) in
    omega (arith, less, is, none, few)
  where
    gone : (a b : Bool) → (not (a || (b || false)) && b) ≡ false
    gone true b = refl
    gone false true = refl
    gone false false = refl

    one_few : (b : Bool) → one b ≤ 1
    one_few true = omega arith
    one_few false = omega arith

named : (stamp station : ℕ) (p : Pair) → p.frame.stamp ≡ stamp → p.seat.station ≡ station → is_named stamp station p ≡ true
named stamp station p e s =
    ap (λ b. b && station == p.seat.station) (eq-eqb stamp p.frame.stamp (sym e)) ∙ eq-eqb station p.seat.station (sym s)

pub same_pair : (seats : List Seat) → HasOneSeat seats → (t : List Entry) → ArePutOnce t → (p q : Pair) → Contains (pending seats t) p
    → Contains (pending seats t) q → q.frame.stamp ≡ p.frame.stamp → q.seat.station ≡ p.seat.station → q ≡ p
same_pair seats one_seat t once p q hp hq e s =
    let here = contained_at (pending seats t) p hp in
    let there = contained_at (pending seats t) q hq in
    let few = one_named seats one_seat t once p here.0 here.1 in
    let fp = filter_one (is_named p.frame.stamp p.seat.station) (pending seats t) here.0 p few here.1
    (named p.frame.stamp p.seat.station p refl refl) in
    let fq = filter_one (is_named p.frame.stamp p.seat.station) (pending seats t) there.0 q few there.1
    (named p.frame.stamp p.seat.station q e s) in
    let both : (q ∷ []) ≡ (p ∷ []) = sym fq ∙ fp in
    cc

-- ---- A response

of_said : (port : ℕ) (o : Option Packet) (a : Answer) → Some a ≡ said port o → IsSome (response_of Aarp o)
of_said port None a e = absurd cc
of_said port (Some p) a e = by p.function refl
  where
    by : (f : Function) → p.function ≡ f → IsSome (response_of Aarp (Some p))
    by Request i = absurd (let e2 = rw i at e in cc)
    by Response i = rw i refl
    by Probe i = absurd (let e2 = rw i at e in cc)

is_response : (h : Hearing) (a : Answer) → Some a ≡ answer_of h → IsSome (response_in h)
is_response h a e = by h.kind refl
  where
    by : (k : Kind) → h.kind ≡ k → IsSome (response_in h)
    by Ddp i = absurd (let e2 = rw i at e in cc)
    by Aarp i = let e2 = rw i at e in rw i (of_said h.port (packet_at h.bytes) a e2)

-- The frame that is taken is the response that was heard.
responds : (c : Cabling) (stamp station : ℕ) (answer : Answer) → ArePutOnce (transcript c) → HasOneSeat c.seats
    → IsAnswer c stamp station (Some answer) → (p : Pair) → Contains (pending c.seats (transcript c)) p → p.frame.stamp ≡ stamp
    → p.seat.station ≡ station → IsSome (response_in (heard_by p))
responds c stamp station answer once one_seat (inl (h, heard, is)) p there e s =
    let same = same_pair c.seats one_seat (transcript c) once p heard.pair there heard.was_pending (heard.of_stamp ∙ sym e)
    (heard.of_station ∙ sym s) in
    subst (λ q. IsSome (response_in (heard_by q))) same
    (subst (λ h. IsSome (response_in h)) heard.heard (is_response h answer is))
responds c stamp station answer once one_seat (inr (none, is)) p there e s = absurd cc

-- ---- A response that is taken

-- The resolver stays as it is, there is room for the datagrams that were held, and the take is the same by any knowledge.
pub record TakesQuietly (ports : ℕ) (old mid : Cabling) (stamp station : ℕ) (Hears : Hearing → List Output → Type 0)
    (x y : Knowing) : Type 0 where
  pub stays : y ≡ x
  pub room : mid.spare ≡ old.rooms.take.pairs
  pub by_any : (z : Knowing) → IsTaken places_of Holds ports old mid stamp station Hears z z

pub takes_quietly : (ports : ℕ) (old mid : Cabling) (stamp station : ℕ) (Hears : Hearing → List Output → Type 0) (x y : Knowing)
    (answer : Answer) → ArePutOnce (transcript old) → HasOneSeat old.seats → IsAnswer old stamp station (Some answer)
    → IsTaken places_of Holds ports old mid stamp station Hears x y → TakesQuietly ports old mid stamp station Hears x y
takes_quietly ports old mid stamp station Hears x y answer once one_seat is h =
    let none = h.quiet (responds old stamp station answer once one_seat is h.pair h.was_pending h.of_stamp h.of_station) in
    let t = transcript old ++ Took stamp station ∷ [] in
    let out = subst (λ os. GoOut places_of Holds old.seats station t os x h.told h.bytes y) none h.out in
    record {
      stays = out.2;
      room = h.room none;
      by_any = λ z. record {
        pair = h.pair;
        was_pending = h.was_pending;
        of_stamp = h.of_stamp;
        of_station = h.of_station;
        added = h.added;
        heard = h.heard;
        lawful = h.lawful;
        quiet = h.quiet;
        told = h.told;
        bytes = h.bytes;
        out = subst (λ os. GoOut places_of Holds old.seats station t os z h.told h.bytes z) (sym none) (out.0, out.1, refl);
        entries = h.entries;
        stored = h.stored;
        room = h.room;
      };
    }

-- A frame that tells no mapping at a seat was taken.
pub few_taken : (ports : ℕ) (old mid : Cabling) (stamp station : ℕ) (Hears : Hearing → List Output → Type 0) (x y : Knowing)
    → IsTaken places_of Holds ports old mid stamp station Hears x y → AreFew x.maps → AreFew y.maps
few_taken ports old mid stamp station Hears x y h few =
    few_same x y
    (knows_out old.seats station (transcript old ++ Took stamp station ∷ []) h.added x h.told h.bytes y h.out) few
