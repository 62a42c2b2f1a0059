-- A broadcast request that ends at a router: one lookup or forward request for each cable that lists its zone.
use Rattle.std.proofs.Common.{◌≡◌, ℕ, suc, ◌+◌, ◌⊎◌, inl, inr, Bool, true, false, cond, ◌&&◌, ◌==◌, if◌then◌else◌, List, [], ◌∷◌, ◌++◌}
use Rattle.std.proofs.Common.{Option, Some, None, IsTrue, filter, map, position, refl, sym, ap, ◌∙◌, subst, arith, eqb-true, eq-eqb}
use Rattle.std.specs.List.{All, AllByRecursion as Each, flat_map, list_any}
use Rattle.std.proofs.lemmas.Bool.{and_from, and_parts}
use Rattle.std.proofs.lemmas.List.Elements.{All-tail}
use Rattle.at_base.specs.Range.{Span, is_between, same_range}
use Rattle.at_base.specs.Text.{is_name, same_name}
use Rattle.ddp.specs.Datagram.{Datagram}
use Rattle.table_image.specs.Bounds.{IsBounded}
use Rattle.table_image.specs.Internet.{Internet}
use Rattle.table_image.specs.declared.cable.Cable.{Cable}
use Rattle.audit.specs.Places.{index_of, on}
use Rattle.audit.specs.Routing.{home}
use Rattle.audit.specs.Rules.{Passes}
use Rattle.audit.specs.Walks.{StepsTo, Steps, Stops}
use Rattle.audit.specs.ZoneLists.{ranges_with}
use Rattle.audit.proofs.WalkFacts.{is_between_when, not_both}
use Rattle.audit.proofs.WalkLists.{At, at_within}
use Rattle.audit.proofs.WalkSteps.{cable_good, steps}
use Rattle.audit.proofs.ZonesAgree.{zones_agree}
use Rattle.image_stations.specs.Holders.{HoldsRouter}
use Rattle.legal_stations.specs.Made.{legs}
use Rattle.legal_runs.specs.Answers.{Expands, IsForward, IsLookup, IsMade}
use Rattle.legal_runs.specs.Legs.{Leg}
use Rattle.legal_runs.specs.Requests.{listing, listing_from, zone_of}
use Rattle.legal_runs.proofs.Seated.{home_is}
use Rattle.nbp.specs.Expansion.{ask, ask_by, asks}
use Rattle.nbp.specs.Packets.{NbpPacket, key, names_in}
use Rattle.nbp.specs.declared.expansion.Ask.{Ask}
use Rattle.nbp.specs.declared.expansion.Ask.TheVariants.{Forward}
use Rattle.nbp.specs.declared.packet.Function.{Function}
use Rattle.nbp.specs.declared.packet.Function.TheVariants.{BroadcastRequest, Reply}
use Rattle.router.specs.Holding.{Holding}
use Rattle.router.specs.Requests.{asked, ranges, requests_made}
use Rattle.station.specs.Lawful.{IsGood, are_bytes}
use Rattle.station.specs.Ways.{is_summed}
use Rattle.station.specs.declared.output.Output.{Output}
use Rattle.station.specs.declared.output.Output.TheVariants.{Made}
use Rattle.zip_zones.specs.Zones.{ranges_of}
use Rattle.legal_stations.proofs.Answered.{Answered, forwarded, looked, request_of}
use Rattle.legal_stations.proofs.LookedUp.{bytes_of_made, made_is}
use Rattle.legal_stations.proofs.Looking.{first_range, of_range, port_there, some_port}
use Rattle.legal_stations.proofs.Requested.{Requested, requested}

-- The range of a cable.
abbrev span : Cable → Span
span c = record { start = c.start; end = c.end }

module _ (i : Internet) (ok : Passes i) (r : ℕ) (h : Holding) (holder : HoldsRouter i r h)
    (summed : Bool) (p : NbpPacket) (it : Requested p) where
  -- The leg is a lookup or a forward request for the cable.
  abbrev Asks : ℕ → Leg → Type 0
  Asks c l = IsLookup i (key p) r c l ⊎ IsForward i (key p) r c l

  -- The outputs that the router makes for one question.
  abbrev makes : Ask → List Output
  makes a = asked h (request_of summed p it) a

  -- ---- One cable

  module _ (c : ℕ) (cable : Cable) (there : At i.cables c cable) where
    test : Span → Bool
    test s = same_range (span cable) s

    starts : is_between cable.start cable.end cable.start ≡ true
    starts = let good = cable_good i ok c cable there in is_between_when cable.start cable.end cable.start (omega arith) good.up

    own_range : test (span cable) ≡ true
    unfolding test
    own_range = and_from _ _ (eq-eqb cable.start _ refl) (eq-eqb cable.end _ refl)

    -- The cable's range holds the cable's start.
    same_holds : (s : Span) → test s ≡ true → is_between s.start s.end cable.start ≡ true
    unfolding test
    same_holds s e =
        let parts = and_parts (cable.start == s.start) (cable.end == s.end) e in
        let low : cable.start ≡ s.start = eqb-true _ _ parts.0 in
        let high : cable.end ≡ s.end = eqb-true _ _ parts.1 in
        let good = cable_good i ok c cable there in
        let up = good.up in
        is_between_when s.start s.end cable.start (omega (arith, low)) (omega (arith, high, up))

    listed : home i cable.start ≡ Some c
    listed = home_is i ok cable.start c (ap (λ o. on o (λ c. is_between c.start c.end cable.start)) there ∙ starts)

    ports_are : position test (ranges h.ports) ≡ index_of (of_range i test) holder.router.ports
    ports_are = ap (λ ports. position test (ranges ports)) holder.ports ∙ first_range i test holder.router.ports

    -- If no port has the cable's range, a request to its start is passed on.
    passed_on : position test (ranges h.ports) ≡ None → Answered i r (Asks c) (makes (Forward cable.start))
    passed_on none = by (steps i ok r cable.start c (at_within i.routers r holder.router holder.known) listed)
      where
        by : Steps i cable.start c r → Answered i r (Asks c) (makes (Forward cable.start))
        by (Stops here near port) =
            let found = some_port i holder.router c cable there test r holder.known port own_range in
            absurd (not_both (index_of (of_range i test) holder.router.ports) found.0 (sym ports_are ∙ none) found.1)
        by (StepsTo s d a handed own below nearer mine its other) =
            let m = forwarded i ok r h holder summed p it cable.start c s d a listed handed own in
            record { port = m.port; to = m.to; bytes = m.bytes; is = m.is; kind = inr m.kind; made = m.made }

    -- The outputs that the router makes for the cable's range.
    answered : Answered i r (Asks c) (makes (ask (ranges h.ports) (span cable)))
    unfolding test
    answered = by (position test (ranges h.ports)) refl
      where
        by : (o : Option ℕ) → position test (ranges h.ports) ≡ o → Answered i r (Asks c) (makes (ask_by (span cable) o))
        by None e = passed_on e
        by (Some q) e =
            let low = (cable_good i ok c cable there).low in
            let found = sym ports_are ∙ e in
            let on = port_there i holder.router c cable there test ok cable.start (omega (arith, low)) starts same_holds q found in
            let m = looked i ok r h holder summed p it q c on in
            record { port = m.port; to = m.to; bytes = m.bytes; is = m.is; kind = inl m.kind; made = m.made }

  -- ---- All cables

  -- The outputs that the router makes for the ranges of those cables that have the zone.
  abbrev made_for : List ℕ → List Cable → List Output
  made_for z cs = flat_map makes (map (ask (ranges h.ports)) (ranges_with z cs))

  -- The legs are for the cables, and leave in an allowed way.
  abbrev Are : List ℕ → List Output → Type 0
  Are cs outputs = Expands i (key p) r cs (legs i r outputs) × Each (IsMade i) (legs i r outputs)

  more : (n c : ℕ) (cs : List ℕ) (first rest : List Output) → Answered i r (Asks c) first → All (IsGood n) (first ++ rest)
      → (All (IsGood n) rest → Are cs rest) → Are (c ∷ cs) (first ++ rest)
  more n c cs first rest a good others =
      subst (λ x. Are (c ∷ cs) (x ++ rest)) (sym a.is) (by (subst (λ x. All (IsGood n) (x ++ rest)) a.is good))
    where
      by : All (IsGood n) (Made a.port a.to a.bytes ∷ rest) → Are (c ∷ cs) (Made a.port a.to a.bytes ∷ rest)
      by fine =
          let w = others (All-tail (IsGood n) (Made a.port a.to a.bytes) rest fine) in
          ((a.kind, w.0), (a.made (bytes_of_made n a.port a.to a.bytes rest fine), w.1))

  expanded : (n k : ℕ) (z : List ℕ) (cs : List Cable) → is_name z ≡ true → ((j : ℕ) (c : Cable) → At cs j c → At i.cables (k + j) c)
      → All (IsGood n) (made_for z cs) → Are (listing_from k z cs) (made_for z cs)
  expanded n k z [] name there good = (tt, tt)
  expanded n k z (c ∷ cs) name there good =
      subst (λ b. Are (cond (b && list_any (same_name z) c.zones) (k ∷ listing_from (suc k) z cs) (listing_from (suc k) z cs))
      (made_for z (c ∷ cs))) (sym name)
      (by (list_any (same_name z) c.zones) good (expanded n (suc k) z cs name later))
    where
      outputs : Bool → List Output
      outputs b =
          flat_map makes (map (ask (ranges h.ports)) (map span
          (cond b (c ∷ filter (λ c. list_any (same_name z) c.zones) cs) (filter (λ c. list_any (same_name z) c.zones) cs))))

      here : At i.cables k c
      here = let e : k + 0 ≡ k = omega arith in subst (λ m. At i.cables m c) e (there 0 c refl)

      later : (j : ℕ) (d : Cable) → At cs j d → At i.cables (suc k + j) d
      later j d at = let e : k + suc j ≡ suc k + j = omega arith in subst (λ m. At i.cables m d) e (there (suc j) d at)

      by : (b : Bool) → All (IsGood n) (outputs b) → (All (IsGood n) (made_for z cs) → Are (listing_from (suc k) z cs) (made_for z cs))
          → Are (cond b (k ∷ listing_from (suc k) z cs) (listing_from (suc k) z cs)) (outputs b)
      by true fine others =
          more n k (listing_from (suc k) z cs) (makes (ask (ranges h.ports) (span c))) (made_for z cs)
          (answered k c here) fine others
      by false fine others = others fine

  -- No cable lists bytes that are not a valid name.
  none_listed : (z : List ℕ) (k : ℕ) (cs : List Cable) → is_name z ≡ false → listing_from k z cs ≡ []
  none_listed z k [] e = refl
  none_listed z k (c ∷ cs) e =
      ap (λ b. cond (b && list_any (same_name z) c.zones) (k ∷ listing_from (suc k) z cs) (listing_from (suc k) z cs)) e
      ∙ none_listed z (suc k) cs e

  -- The outputs that the router makes for a zone.
  pub expands : (n : ℕ) (z : List ℕ) → IsBounded i → All (IsGood n) (flat_map makes (asks (ranges h.ports) z h.zones))
      → Are (listing i z) (flat_map makes (asks (ranges h.ports) z h.zones))
  expands n z bounded good = by (is_name z) refl good
    where
      outputs : Bool → List Output
      outputs b = flat_map makes (map (ask (ranges h.ports)) (if b then ranges_of z h.zones else []))

      known : ranges_of z h.zones ≡ ranges_with z i.cables
      known = ap (ranges_of z) holder.zones ∙ (zones_agree i ok bounded r holder.router holder.known).listing z

      first : (j : ℕ) (c : Cable) → At i.cables j c → At i.cables (0 + j) c
      first j c at = let e : j ≡ 0 + j = omega arith in subst (λ m. At i.cables m c) e at

      by : (b : Bool) → is_name z ≡ b → All (IsGood n) (outputs b) → Are (listing i z) (outputs b)
      by true name fine =
          let same : outputs true ≡ made_for z i.cables = ap (λ x. flat_map makes (map (ask (ranges h.ports)) x)) known in
          subst (Are (listing i z)) (sym same) (expanded n 0 z i.cables name first (subst (All (IsGood n)) same fine))
      by false name fine = subst (λ cs. Are cs []) (sym (none_listed z 0 i.cables name)) (tt, tt)

  moved : (z w : List ℕ) (outputs made : List Output) → z ≡ w → outputs ≡ made → Are (listing i w) made → Are (listing i z) outputs
  moved z w outputs made zone same a = subst (λ x. Are (listing i x) outputs) (sym zone) (subst (Are (listing i w)) (sym same) a)

-- The requests that a router makes from a broadcast request.
pub broadcast_expands : (i : Internet) (r n : ℕ) (h : Holding) (d : Datagram) (p : NbpPacket) → Passes i → IsBounded i → HoldsRouter i r h
    → IsTrue (are_bytes d.payload) → names_in d.payload ≡ Some p → p.function ≡ BroadcastRequest
    → All (IsGood n) (requests_made h d (Some p))
    → Expands i (key p) r (listing i (zone_of (key p))) (legs i r (requests_made h d (Some p)))
    × Each (IsMade i) (legs i r (requests_made h d (Some p)))
broadcast_expands i r n h d p ok bounded holder bytes read function good =
    let it = requested d.payload p bytes read (λ e. other p.function function e) in
    let made = made_is h d p it BroadcastRequest function in
    let all = expands i ok r h holder (is_summed d) p it n it.tuple.zone bounded (subst (All (IsGood n)) made good) in
    moved i ok r h holder (is_summed d) p it (zone_of (key p)) it.tuple.zone _ _ it.zone made all
  where
    other : (f : Function) → f ≡ BroadcastRequest → f ≡ Reply → ⊥
    other f e g = cc
