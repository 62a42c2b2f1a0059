-- What a station puts out leaves as a transcript with resolution says, where its resolver knows what the station knows.
use Rattle.std.proofs.Common.{◌≡◌, ℕ, Bool, true, false, cond, List, [], ◌∷◌, ◌++◌}
use Rattle.std.proofs.Common.{refl, sym, ap, ◌∙◌, subst, arith, append-nil, append_assoc}
use Rattle.std.specs.List.{AllByRecursion as Each}
use Rattle.at_base.specs.Address.{same_address}
use Rattle.at_base.specs.Multicast.{all_hw}
use Rattle.at_base.specs.declared.address.Addr.{Addr}
use Rattle.at_base.specs.declared.address.Hw.{Hw}
use Rattle.ddp.specs.Bodies.{body, target, with_hops}
use Rattle.table_image.specs.Internet.{Internet}
use Rattle.station.specs.declared.heard.Kind.TheVariants.{Ddp}
use Rattle.station.specs.declared.output.Next.{Next}
use Rattle.station.specs.declared.output.Next.TheVariants as next
use Rattle.station.specs.declared.output.Output.{Output}
use Rattle.station.specs.declared.output.Output.TheVariants.{Made, Passed, Kept, Dropped, Wire}
use Rattle.cable_model.specs.declared.entry.How.{How}
use Rattle.cable_model.specs.declared.entry.How.TheVariants as how
use Rattle.cable_model.specs.declared.resolve.Found.{Found}
use Rattle.cable_model.specs.declared.resolve.Found.TheVariants.{At, Nobody, Later}
use Rattle.cable_model.specs.declared.resolve.HeldBy.{HeldBy}
use Rattle.cable_model.specs.Outcomes.{Held, Places, Sender, cable_of, framed, held_by, held_next, leg as leg_on, to_other}
use Rattle.cable_model.specs.Outcomes.{to_target}
use Rattle.cable_model.specs.Outgoing.{GoOut, IsHeldBy, held_entries}
use Rattle.cable_model.specs.Pending.{Pair}
use Rattle.cable_model.specs.Transcript as entry
use Rattle.cable_model.specs.Transcript.{Entry, Reached, Sent, next_stamp}
use Rattle.cable_model.proofs.Stamps.{next_after}
use Rattle.legal_runs.specs.Answers.{IsBody}
use Rattle.legal_runs.specs.Legs.{Leg, leg_bytes}
use Rattle.legal_runs.specs.Stations.{cable_seats, is_on}
use Rattle.legal_runs.proofs.Frames.{no_hops, whole}
use Rattle.resolved_runs.specs.Fates.{fate_with}
use Rattle.resolved_runs.specs.Mapped.{places_after}
use Rattle.resolved_runs.specs.Resolved.{resolved_leg, resolved_said, waiting_entries}
use Rattle.resolved_runs.specs.ResolvedRuns.{resolved_fate, resolved_handled}
use Rattle.legal_stations.specs.Fated.{DroppedHere, IsFate, KeptHere, NoFate, PassedOn}
use Rattle.legal_stations.specs.Made.{legs}
use Rattle.legal_stations.specs.Resolver.{IsCalm, IsResolver}
use Rattle.legal_stations.proofs.Answered.{leg_by}
use Rattle.legal_stations.proofs.Leaving.{Leaves}

-- ---- Places that find the same

-- Two answers to all lookups on a cable agree.
pub record Agree (cable : ℕ) (x y : Places) : Type 0 where
  pub finds : (a : Addr) → x.finds cable a ≡ y.finds cable a
  pub lists : (net : ℕ) → x.lists net ≡ y.lists net

-- A leg depends on what lookups find alone.
leg_same : (x y : Places) (s : Sender) → Agree s.cable x y → (n : Next) (bytes : List ℕ) → leg_on x s n bytes ≡ leg_on y s n bytes
leg_same x y s same (next.Station a) bytes =
    ap (λ f. cond (same_address (target bytes) a) (to_target s bytes f) (to_other s bytes f)) (same.finds a)
leg_same x y s same next.All bytes =
    ap (λ b. cond b (Reached s.cable s.station how.All (body bytes) ∷ framed s all_hw Ddp bytes ∷ [])
    (framed s all_hw Ddp bytes ∷ []))
    (same.lists (target bytes).net)
leg_same x y s same (next.Group g) bytes = refl

held_same : (x y : Places) (cable : ℕ) → Agree cable x y → (n : Next) (bytes : List ℕ)
    → held_next x cable n bytes ≡ held_next y cable n bytes
held_same x y cable same (next.Station a) bytes = ap (λ f. held_by f cable a bytes) (same.finds a)
held_same x y cable same next.All bytes = refl
held_same x y cable same (next.Group g) bytes = refl

-- What is held for the next station of a datagram on a cable is held for that cable.
pub held_on : (places : Places) (P : ℕ → Type 0) (cable : ℕ) (n : Next) (bytes : List ℕ) → P cable
    → Each (λ (w : Held). P w.cable) (held_next places cable n bytes)
held_on places P cable (next.Station a) bytes p = by (places.finds cable a)
  where
    by : (f : Found) → Each (λ (w : Held). P w.cable) (held_by f cable a bytes)
    by Later = (p, tt)
    by (At hw) = tt
    by Nobody = tt
held_on places P cable next.All bytes p = tt
held_on places P cable (next.Group g) bytes p = tt

-- ---- Calm entries

-- Each of the entries is calm after those before it.
abbrev AreCalm : List Entry → List Entry → Type 0
AreCalm t [] = Unit {0}
AreCalm t (e ∷ es) = IsCalm t e × AreCalm (t ++ e ∷ []) es

-- A frame with the next stamp, after its datagram reached the cable.
reached_put_calm : (t : List Entry) (s : Sender) (h : How) (to : Hw) (bytes : List ℕ) → s.stamp ≡ next_stamp t
    → AreCalm t (Reached s.cable s.station h (body bytes) ∷ framed s to Ddp bytes ∷ [])
reached_put_calm t s h to bytes e =
    let after = next_after t (Reached s.cable s.station h (body bytes)) in
    (tt, (omega (arith, e, after), tt))

leg_calm : (places : Places) (t : List Entry) (s : Sender) (n : Next) (bytes : List ℕ) → s.stamp ≡ next_stamp t
    → AreCalm t (leg_on places s n bytes)
leg_calm places t s (next.Station a) bytes e = by (same_address (target bytes) a) (places.finds s.cable a)
  where
    by : (b : Bool) (f : Found) → AreCalm t (cond b (to_target s bytes f) (to_other s bytes f))
    by true (At hw) = reached_put_calm t s how.Station hw bytes e
    by true Nobody = (tt, tt)
    by true Later = (tt, tt)
    by false (At hw) = (omega (arith, e), tt)
    by false Nobody = tt
    by false Later = tt
leg_calm places t s next.All bytes e = by (places.lists (target bytes).net)
  where
    by : (b : Bool) → AreCalm t (cond b (Reached s.cable s.station how.All (body bytes) ∷ framed s all_hw Ddp bytes ∷ [])
        (framed s all_hw Ddp bytes ∷ []))
    by true = reached_put_calm t s how.All all_hw bytes e
    by false = (omega (arith, e), tt)
leg_calm places t s (next.Group g) bytes e = (omega (arith, e), tt)

module _ {X : Type 0} (places : X → Places) (Holds : X → ℕ → Addr → ℕ → HeldBy → X → Type 0) (i : Internet) (station : ℕ)
    (Knows : X → List Entry → Type 0) (resolver : IsResolver places Holds i station Knows) where
  agree : (x : X) (t : List Entry) (cable : ℕ) → Knows x t → is_on i station cable ≡ true
      → Agree cable (places x) (places_after i t station)
  agree x t cable k seated = record { finds = λ a. resolver.finds x t k cable a seated; lists = resolver.lists x t k }

  stay_all : (x : X) (t es : List Entry) → Knows x t → AreCalm t es → Knows x (t ++ es)
  stay_all x t [] k calm = subst (Knows x) (sym (append-nil t)) k
  stay_all x t (e ∷ es) k calm =
      subst (Knows x) (append_assoc t (e ∷ []) es) (stay_all x (t ++ e ∷ []) es (resolver.stays x t e k calm.0) calm.1)

  -- A datagram that is held, if there is one.
  waits : (t : List Entry) (ws : List Held) (x y : X) (more : List Entry) (asks : List (List ℕ)) → Knows x t
      → Each (λ (w : Held). is_on i station w.cable ≡ true) ws → IsHeldBy Holds station t ws x more asks y
      → (more ≡ waiting_entries i t station ws) × Knows y (t ++ more)
  waits t [] x y more asks k seated h =
      (h.0, subst (Knows y) (sym (append-nil t) ∙ ap (λ es. t ++ es) (sym h.0)) (subst (λ z. Knows z t) (sym h.2) k))
  waits t (w ∷ ws) x y more asks k seated h =
      let r = resolver.holds x y t w h.0 k seated.0 h.1 in (
        h.2 ∙ ap (held_entries t station w) r.0,
        subst (λ es. Knows y (t ++ es)) (sym h.2) r.1,
      )

  -- The entries of a datagram that the station puts on a cable, as a transcript with resolution says.
  abbrev out : ℕ → List Entry → ℕ → Next → List ℕ → List Entry
  out s t cable n bytes =
      leg_on (places_after i t s) (record { stamp = next_stamp t; cable = cable; station = s }) n bytes
      ++ waiting_entries i
      (t ++ leg_on (places_after i t s) (record { stamp = next_stamp t; cable = cable; station = s }) n bytes) s
      (held_next (places_after i t s) cable n bytes)

  -- A datagram that the station puts on a cable has these entries.
  goes : (t : List Entry) (stamp cable : ℕ) (n : Next) (bytes : List ℕ) (x y : X) (more : List Entry) (asks : List (List ℕ))
      → stamp ≡ next_stamp t → Knows x t → is_on i station cable ≡ true
      → IsHeldBy Holds station (t ++ leg_on (places x) (record { stamp = stamp; cable = cable; station = station }) n bytes)
      (held_next (places x) cable n bytes) x more asks y
      → (leg_on (places x) (record { stamp = stamp; cable = cable; station = station }) n bytes ++ more
      ≡ out station t cable n bytes)
      × Knows y (t ++ (leg_on (places x) (record { stamp = stamp; cable = cable; station = station }) n bytes ++ more))
  goes t stamp cable n bytes x y more asks e k seated h =
      let there = places_after i t station in
      let mine : List Entry = leg_on (places x) (record { stamp = stamp; cable = cable; station = station }) n bytes in
      let said : List Entry = leg_on there (record { stamp = next_stamp t; cable = cable; station = station }) n bytes in
      let same : mine ≡ said =
      leg_same (places x) there (record { stamp = stamp; cable = cable; station = station }) (agree x t cable k seated) n bytes
      ∙ ap (λ m. leg_on there (record { stamp = m; cable = cable; station = station }) n bytes) e in
      let calm = leg_calm there t (record { stamp = next_stamp t; cable = cable; station = station }) n bytes refl in
      let h' = subst (λ ws. IsHeldBy Holds station (t ++ said) ws x more asks y)
      (held_same (places x) there cable (agree x t cable k seated) n bytes)
      (subst (λ es. IsHeldBy Holds station (t ++ es) (held_next (places x) cable n bytes) x more asks y) same h) in
      let w = waits (t ++ said) (held_next there cable n bytes) x y more asks (stay_all x t said k calm)
      (held_on there (λ c. is_on i station c ≡ true) cable n bytes seated) h' in (
        ap (λ es. es ++ more) same ∙ ap (λ es. said ++ es) w.0,
        subst (Knows y) (append_assoc t said more ∙ ap (λ es. t ++ (es ++ more)) (sym same)) w.1,
      )

  -- ---- The datagrams that the station made

  -- The leg of a datagram that the station made.
  abbrev pub leg_over : ℕ → Next → List ℕ → Leg
  leg_over cable to bytes = record { station = station; cable = cable; next = to; body = bytes; hops = 0 }

  -- The entries of a datagram that the station made, where nothing is held.
  abbrev sent : List Entry → Places → ℕ → Next → List ℕ → List Entry
  sent t places cable to bytes =
      Sent station (body bytes) ∷ leg_on places (record { stamp = next_stamp t; cable = cable; station = station }) to bytes

  -- A datagram that the station made has the entries of its leg.
  pub sent_goes : (t : List Entry) (cable : ℕ) (to : Next) (bytes : List ℕ) (x y : X) (more : List Entry) (asks : List (List ℕ))
      → IsBody bytes → Knows x t → is_on i station cable ≡ true
      → IsHeldBy Holds station (t ++ sent t (places x) cable to bytes) (held_next (places x) cable to bytes) x more asks y
      → (sent t (places x) cable to bytes ++ more
      ≡ Sent station bytes ∷ resolved_leg i (t ++ Sent station bytes ∷ []) (leg_over cable to bytes))
      × Knows y (t ++ (sent t (places x) cable to bytes ++ more))
  sent_goes t cable to bytes x y more asks is k seated h =
      let first = Sent station (body bytes) in
      let u = t ++ first ∷ [] in
      let mine : List Entry = leg_on (places x) (record { stamp = next_stamp t; cable = cable; station = station }) to bytes in
      let held = subst (λ v. IsHeldBy Holds station v (held_next (places x) cable to bytes) x more asks y)
      (sym (append_assoc t (first ∷ []) mine)) h in
      let w = goes u (next_stamp t) cable to bytes x y more asks (sym (next_after t first)) (resolver.stays x t first k tt) seated held in
      let own : body bytes ≡ bytes = (whole bytes is).same in
      let spelled : with_hops 0 bytes ≡ bytes = no_hops bytes (whole bytes is) in (
        ap (λ l. first ∷ l) w.0
            ∙ (ap (λ b. Sent station b ∷ out station (t ++ Sent station b ∷ []) cable to bytes) own
            ∙ ap (λ b. Sent station bytes ∷ out station (t ++ Sent station bytes ∷ []) cable to b) (sym spelled)),
        subst (Knows y) (append_assoc t (first ∷ []) (mine ++ more)) w.1,
      )

  said_goes : (t : List Entry) (os : List Output) (x y : X) (es : List Entry) (ks : List (List ℕ)) → Each (Leaves i station) os
      → Knows x t → GoOut places Holds (cable_seats i) station t os x es ks y
      → (es ≡ resolved_said i t (legs i station os)) × Knows y (t ++ es)
  said_goes t [] x y es ks leaves k g =
      (g.0, subst (Knows y) (sym (append-nil t) ∙ ap (λ l. t ++ l) (sym g.0)) (subst (λ z. Knows z t) (sym g.2) k))
  said_goes t (Made port to bytes ∷ os) x y es ks leaves k g =
      let first = g.0 in
      let rest = g.1 in
      let z = g.4 in
      let l = leg_by i station port to bytes in
      let here = sent_goes t (cable_of (cable_seats i) station port) to bytes x z g.5.more g.5.asks leaves.0.whole k leaves.0.seated
      g.5.held in
      let is = g.5.entries ∙ here.0 in
      let more = said_goes (t ++ first) os z y rest g.3 leaves.1 (subst (λ a. Knows z (t ++ a)) (sym g.5.entries) here.1) g.6 in (
        g.7 ∙ (ap (λ a. a ++ rest) is ∙ ap (λ a. Sent station bytes ∷ (resolved_leg i (t ++ Sent station bytes ∷ []) l ++ a))
            (more.0 ∙ ap (λ a. resolved_said i (t ++ a) (legs i station os)) is)),
        subst (Knows y) (append_assoc t first rest ∙ ap (λ a. t ++ a) (sym g.7)) more.1,
      )
  said_goes t (Passed port to bytes ∷ os) x y es ks leaves k g = absurd leaves.0
  said_goes t (Kept port bytes ∷ os) x y es ks leaves k g = absurd leaves.0
  said_goes t (Dropped cause bytes ∷ os) x y es ks leaves k g = absurd leaves.0
  said_goes t (Wire port to bytes ∷ os) x y es ks leaves k g = absurd leaves.0

  -- An output that isn't put on a cable as a datagram has one entry.
  pub one_goes : (t : List Entry) (e : Entry) (x y : X) (es more : List Entry) (asks : List (List ℕ)) → Knows x t → IsCalm t e
      → es ≡ e ∷ more → IsHeldBy Holds station (t ++ e ∷ []) [] x more asks y → (es ≡ e ∷ []) × Knows y (t ++ es)
  one_goes t e x y es more asks k calm is h =
      let alone : es ≡ e ∷ [] = is ∙ ap (λ l. e ∷ l) h.0 in (
        alone,
        subst (λ l. Knows y (t ++ l)) (sym alone) (subst (λ z. Knows z (t ++ e ∷ [])) (sym h.2) (resolver.stays x t e k calm)),
      )

  -- ---- The fate of the datagram that the station took

  module _ (p : Pair) where
    -- The fate, and then the datagrams that the station made.
    rest : (t : List Entry) (made : List Output) (x z y : X) (first others : List Entry) (ks : List (List ℕ)) (es : List Entry)
        → first ≡ resolved_fate i t p → Knows z (t ++ first) → Each (Leaves i station) made
        → GoOut places Holds (cable_seats i) station (t ++ first) made z others ks y → es ≡ first ++ others
        → (es ≡ resolved_handled i t p (legs i station made)) × Knows y (t ++ es)
    rest t made x z y first others ks es is k leaves g both =
        let w = said_goes (t ++ first) made z y others ks leaves k g in (
          both ∙ (ap (λ a. first ++ a) w.0 ∙ ap (λ f. f ++ resolved_said i (t ++ f) (legs i station made)) is),
          subst (Knows y) (append_assoc t first others ∙ ap (λ a. t ++ a) (sym both)) w.1,
        )

    pub fate_goes : (t : List Entry) (front made : List Output) (x y : X) (es : List Entry) (ks : List (List ℕ))
        → IsFate i station (λ leg. fate_with i leg p) front → Each (Leaves i station) made → Knows x t
        → GoOut places Holds (cable_seats i) station t (front ++ made) x es ks y
        → (es ≡ resolved_handled i t p (legs i station made)) × Knows y (t ++ es)
    fate_goes t front made x y es ks (NoFate is) leaves k g =
        let none : resolved_fate i t p ≡ [] = is (resolved_leg i t) in
        let w = said_goes t made x y es ks leaves k g in (
          w.0 ∙ (ap (λ u. resolved_said i u (legs i station made)) (sym (append-nil t))
              ∙ ap (λ f. f ++ resolved_said i (t ++ f) (legs i station made)) (sym none)),
          w.1,
        )
    fate_goes t front made x y es ks (KeptHere q bytes is) leaves k g =
        let e = Reached (cable_of (cable_seats i) station q) station how.Own (body bytes) in
        let o = one_goes t e x g.4 g.0 g.5.more g.5.asks k tt
        g.5.entries g.5.held in
        rest t made x g.4 y g.0 g.1 g.3 es (o.0 ∙ sym (is (resolved_leg i t))) o.1 leaves g.6 g.7
    fate_goes t front made x y es ks (DroppedHere cause bytes is) leaves k g =
        let o = one_goes t (entry.Dropped station cause (body bytes)) x g.4 g.0 g.5.more g.5.asks k tt g.5.entries g.5.held in
        rest t made x g.4 y g.0 g.1 g.3 es (o.0 ∙ sym (is (resolved_leg i t))) o.1 leaves g.6 g.7
    fate_goes t front made x y es ks (PassedOn q l here on seated is) leaves k g =
        let cable = cable_of (cable_seats i) station q in
        let o = goes t (next_stamp t) cable l.next (leg_bytes l) x g.4 g.5.more g.5.asks refl k
        (ap (is_on i station) on ∙ seated) g.5.held in
        let own = ap (λ c. out station t c l.next (leg_bytes l)) on ∙ ap (λ s. out s t l.cable l.next (leg_bytes l)) (sym here) in
        rest t made x g.4 y g.0 g.1 g.3 es (g.5.entries ∙ (o.0 ∙ (own ∙ sym (is (resolved_leg i t)))))
        (subst (λ a. Knows g.4 (t ++ a)) (sym g.5.entries) o.1) leaves g.6 g.7
