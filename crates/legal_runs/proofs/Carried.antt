-- A datagram that reached a cable was carried by the routers of its walk.
use Rattle.std.proofs.Common.{◌≡◌, ℕ, ◌+◌, ◌≤◌, Bool, true, false, not, cond, List, [], ◌∷◌, ◌++◌, Some, length, refl, sym, ap}
use Rattle.std.proofs.Common.{◌∙◌, subst, arith, append-nil, append_assoc, length-append}
use Rattle.std.specs.List.{AllByRecursion as Each}
use Rattle.at_base.specs.declared.address.Addr.{Addr}
use Rattle.ddp.specs.Bodies.{body, hops, target}
use Rattle.table_image.specs.Internet.{Internet}
use Rattle.audit.specs.Routing.{hand}
use Rattle.audit.specs.Rules.{Passes}
use Rattle.cable_model.specs.declared.seat.Seat.{Seat}
use Rattle.cable_model.specs.Pending.{Pair, pairs, pairs_of, pending, was_ended}
use Rattle.cable_model.specs.Transcript.{Entry, Sent, Put, Took, Reached, Dropped, Lost, Hold, AreNumbered, above, next_stamp, stamp_from}
use Rattle.cable_model.specs.Transcript.{stamps}
use Rattle.cable_model.proofs.Counting.{At, contained_at, each-append, each_all, each_at, each_map, each_more, filter_at}
use Rattle.cable_model.proofs.Pairs.{pairs-append}
use Rattle.cable_model.proofs.Stamps.{above_more, next_after, stamp_from-append}
use Rattle.legal_runs.specs.Answers.{IsMade}
use Rattle.legal_runs.specs.Carriage.{AreCarried, Chains, IsChain, Stamped, after, chain_in, none_yet, of_stamp}
use Rattle.legal_runs.specs.Legal.{IsLegal}
use Rattle.legal_runs.specs.Legs.{Leg, fate, fate_by, is_copy, leg}
use Rattle.legal_runs.specs.Losses.{Another, Handled, Nothing, Said}
use Rattle.legal_runs.specs.Stations.{cable_seats}
use Rattle.legal_runs.proofs.Does.{Does, HopsFine, IsNext, IsOf}
use Rattle.legal_runs.proofs.Fates.{copy_router, fate_does}
use Rattle.legal_runs.proofs.Frames.{Framed, target_inside}
use Rattle.legal_runs.proofs.Paths.{Path, path_home, path_on}
use Rattle.legal_runs.proofs.Requested.{of_hops}
use Rattle.legal_runs.proofs.Rises.{Rises, numbered_most, numbered_rises}
use Rattle.legal_runs.proofs.Rising.{GoesOn, IsRising, RisingBlock, SendsOne, Starts, TakesOne, legal_rises}
use Rattle.legal_runs.proofs.Runs.{Run, known, made_does, rising_run}
use Rattle.legal_runs.proofs.Shapes.{fate_numbered, leg_numbered}
use Rattle.legal_runs.proofs.StampedLists.{FreshFrom, fresh_less, fresh_more, of_end, of_front}

-- ---- The chains after entries

-- The chains after some entries.
abbrev pub after_all : List Entry → Chains → Chains
after_all [] w = w
after_all (e ∷ es) w = after_all es (after e w)

after-append : (es fs : List Entry) (w : Chains) → after_all (es ++ fs) w ≡ after_all fs (after_all es w)
after-append [] fs w = refl
after-append (e ∷ es) fs w = after-append es fs (after e w)

carried-append : (i : Internet) (es fs : List Entry) (w : Chains) → AreCarried i w es → AreCarried i (after_all es w) fs
    → AreCarried i w (es ++ fs)
carried-append i [] fs w h g = g
carried-append i (e ∷ es) fs w h g = (h.0, carried-append i es fs (after e w) h.1 g)

-- Later entries leave the chains of earlier frames as they are.
kept : (es : List Entry) (w : Chains) (k : ℕ) (chain : List ℕ) → of_stamp k w.frames ≡ Some chain
    → of_stamp k (after_all es w).frames ≡ Some chain
kept [] w k chain e = e
kept (Sent s b ∷ es) w k chain e = kept es (after (Sent s b) w) k chain e
kept (Took p s ∷ es) w k chain e = kept es (after (Took p s) w) k chain e
kept (Put f ∷ es) w k chain e =
    kept es (after (Put f) w) k chain (of_front w.frames (record { stamp = f.stamp; value = w.now } ∷ []) k chain e)
kept (Reached c s how b ∷ es) w k chain e = kept es w k chain e
kept (Dropped r cause b ∷ es) w k chain e = kept es w k chain e
kept (Lost p ∷ es) w k chain e = kept es w k chain e
kept (Hold held ∷ es) w k chain e = kept es w k chain e

-- Stamps that are above those of a transcript have no chain yet.
fresh_after : (n : ℕ) (es : List Entry) (w : Chains) → FreshFrom n w.frames → FreshFrom (stamp_from n es) (after_all es w).frames
fresh_after n [] w fresh = fresh
fresh_after n (Sent s b ∷ es) w fresh = fresh_after n es (after (Sent s b) w) fresh
fresh_after n (Took p s ∷ es) w fresh = fresh_after n es (after (Took p s) w) fresh
fresh_after n (Put f ∷ es) w fresh =
    fresh_after (above n f.stamp) es (after (Put f) w) (fresh_more n f.stamp w.frames w.now fresh)
fresh_after n (Reached c s how b ∷ es) w fresh = fresh_after n es w fresh
fresh_after n (Dropped r cause b ∷ es) w fresh = fresh_after n es w fresh
fresh_after n (Lost p ∷ es) w fresh = fresh_after n es w fresh
fresh_after n (Hold d ∷ es) w fresh =
    fresh_after (above n d.stamp) es w (fresh_less n (above n d.stamp) w.frames (above_more n d.stamp) fresh)

fresh_frames : (t : List Entry) → FreshFrom (next_stamp t) (after_all t none_yet).frames
fresh_frames t = fresh_after 0 t none_yet (λ k le. refl)

module _ (i : Internet) where
  -- The chain of a copy leads to the station that takes it.
  abbrev pub HasPath : Chains → Pair → Type 0
  HasPath w p =
      is_copy i p ≡ true
      → (chain : List ℕ) × (of_stamp p.frame.stamp w.frames ≡ Some chain) × Path i (target p.frame.bytes).net chain p.seat.station
      × (hops p.frame.bytes ≡ length chain)

  -- The result of some entries: carriage holds of each, and the chains of their copies lead to the stations that take
  -- them.
  record Leaves (es : List Entry) (w : Chains) : Type 0 where
    carried : AreCarried i w es
    paths : Each (HasPath (after_all es w)) (pairs (cable_seats i) es)

  module _ (d now : List ℕ) (hop : ℕ) (long : hop ≡ length now) where
    abbrev OfNow : Entry → Type 0
    OfNow e = IsOf i (λ c. IsChain i (target d).net c now) d hop e

    -- Carriage holds of the entries of one datagram with this chain.
    of_carried : (frames : List (Stamped (List ℕ))) (es : List Entry) → Each OfNow es → AreCarried i (record { now = now; frames = frames }) es
    of_carried frames [] h = tt
    of_carried frames (Reached c s how b ∷ es) h =
        (subst (λ x. IsChain i (target x).net c now) (sym h.0.0) h.0.1, of_carried frames es h.1)
    of_carried frames (Put f ∷ es) h = ((h.0.0, h.0.3 ∙ long), of_carried (frames ++ record { stamp = f.stamp; value = now } ∷ []) es h.1)
    of_carried frames (Dropped r cause b ∷ es) h = (tt, of_carried frames es h.1)
    of_carried frames (Sent s b ∷ es) h = absurd h.0
    of_carried frames (Took p s ∷ es) h = absurd h.0
    of_carried frames (Lost p ∷ es) h = absurd h.0
    of_carried frames (Hold held ∷ es) h = absurd h.0

    -- The frame has this chain.
    abbrev IsNow : Chains → Pair → Type 0
    IsNow w p = of_stamp p.frame.stamp w.frames ≡ Some now

    -- The frames among the entries have this chain.
    of_frames : (n : ℕ) (frames : List (Stamped (List ℕ))) (es : List Entry) → Each OfNow es → FreshFrom n frames → Rises n es
        → Each (IsNow (after_all es (record { now = now; frames = frames }))) (pairs (cable_seats i) es)
    of_frames n frames [] h fresh new = tt
    of_frames n frames (Reached c s how b ∷ es) h fresh new = of_frames n frames es h.1 fresh new.1
    of_frames n frames (Dropped r cause b ∷ es) h fresh new = of_frames n frames es h.1 fresh new.1
    of_frames n frames (Sent s b ∷ es) h fresh new = absurd h.0
    of_frames n frames (Took p s ∷ es) h fresh new = absurd h.0
    of_frames n frames (Lost p ∷ es) h fresh new = absurd h.0
    of_frames n frames (Hold held ∷ es) h fresh new = absurd h.0
    of_frames n frames (Put f ∷ es) h fresh new =
        let more = frames ++ record { stamp = f.stamp; value = now } ∷ [] in
        let w : Chains = record { now = now; frames = more } in
        let there : of_stamp f.stamp (after_all es w).frames ≡ Some now =
        kept es w f.stamp now (of_end frames f.stamp now (fresh f.stamp new.0)) in
        each-append (IsNow (after_all es w)) (pairs_of (cable_seats i) (Put f)) (pairs (cable_seats i) es)
        (each_map (IsNow (after_all es w)) (λ (s : Seat). record { frame = f; seat = s }) _ (each_all _ _ (λ s. there)))
        (of_frames (above n f.stamp) more es h.1 (fresh_more n f.stamp frames now fresh) new.1)

    -- A leg or a fate leaves the chains that its copies need.
    does_leave : (stamp : ℕ) (frames : List (Stamped (List ℕ))) (es : List Entry) → FreshFrom stamp frames → AreNumbered stamp es
        → Does i (λ s. Path i (target d).net now s) (λ c. IsChain i (target d).net c now) d hop es
        → Leaves es (record { now = now; frames = frames })
    does_leave stamp frames es fresh new does = record {
      carried = of_carried frames es does.of;
      paths =
          both (pairs (cable_seats i) es) (of_frames stamp frames es does.of fresh (numbered_rises stamp es new))
          does.goes_to (of_hops i (λ c. IsChain i (target d).net c now) d hop es does.of);
    }
      where
        both : (ps : List Pair) → Each (IsNow (after_all es (record { now = now; frames = frames }))) ps
            → Each (IsNext i (λ s. Path i (target d).net now s) d) ps → Each (λ p. hops p.frame.bytes ≡ hop) ps
            → Each (HasPath (after_all es (record { now = now; frames = frames }))) ps
        both [] h g n = tt
        both (p ∷ ps) h g n = (
          (λ copy.
              let next = g.0 copy in
              (now, h.0, subst (λ (a : Addr). Path i a.net now p.seat.station) (sym next.1) next.0, n.0 ∙ long)),
          both ps h.1 g.1 n.1,
        )

  -- ---- Transcripts

  -- The chains of a transcript and their properties.
  pub record Carries (t : List Entry) : Type 0 where
    pub carried : AreCarried i none_yet t
    pub paths : Each (HasPath (after_all t none_yet)) (pairs (cable_seats i) t)

  grow : (t es : List Entry) → Carries t → Leaves es (after_all t none_yet) → Carries (t ++ es)
  grow t es c l =
      let w = after_all t none_yet in
      let same : after_all (t ++ es) none_yet ≡ after_all es w = after-append t es none_yet in
      record {
        carried = carried-append i t es none_yet c.carried l.carried;
        paths =
            subst (λ v. Each (HasPath v) (pairs (cable_seats i) (t ++ es))) (sym same)
            (subst (Each (HasPath (after_all es w))) (sym (pairs-append (cable_seats i) t es))
            (each-append (HasPath (after_all es w)) (pairs (cable_seats i) t) (pairs (cable_seats i) es)
            (each_more (HasPath w) (HasPath (after_all es w)) (pairs (cable_seats i) t)
            (λ p f copy. let g = f copy in (g.0, kept es w p.frame.stamp g.0 g.1, g.2, g.3)) c.paths) l.paths));
      }

  now_after : (t : List Entry) (e : Entry) → (after_all (t ++ e ∷ []) none_yet).now ≡ (after e (after_all t none_yet)).now
  now_after t e = ap (λ (w : Chains). w.now) (after-append t (e ∷ []) none_yet)

  -- The chains with another name for their `now`.
  renamed : (es : List Entry) (w : Chains) (now : List ℕ) → w.now ≡ now → Leaves es (record { now = now; frames = w.frames }) → Leaves es w
  renamed es w now e l = subst (λ n. Leaves es (record { now = n; frames = w.frames })) (sym e) l

-- The next stamp after entries with consecutive stamps that are at least the next one.
next_most : (t es : List Entry) (stamp : ℕ) → next_stamp t ≤ stamp → AreNumbered stamp es → next_stamp (t ++ es) ≤ stamp + stamps es
next_most t es stamp le new =
    let most = numbered_most (next_stamp t) stamp es le new in
    let sum = stamp_from-append 0 t es in
    omega (arith, most, sum)

module _ (i : Internet) (ok : Passes i) where
  -- A datagram that a station made has an empty chain.
  one_carries : (t : List Entry) (stamp : ℕ) (l : Leg) → next_stamp t ≤ stamp → IsMade i l → Carries i t
      → Carries i ((t ++ Sent l.station l.body ∷ []) ++ leg i stamp l)
  one_carries t stamp l le made c =
      let first = Sent l.station l.body in
      let before = t ++ first ∷ [] in
      let es = leg i stamp l in
      let w = after_all before none_yet in
      let next = next_after t first in
      let fresh = fresh_less (next_stamp before) stamp w.frames (omega (arith, next, le)) (fresh_frames before) in
      let does = made_does i ok (λ s. Path i (target l.body).net [] s) (λ c. IsChain i (target l.body).net c []) stamp l made (λ s. tt)
      (λ c. tt) in
      grow i before es (grow i t (first ∷ []) c (record { carried = (tt, tt); paths = tt }))
      (renamed i es w [] (now_after i t first) (does_leave i l.body [] l.hops made.fresh stamp w.frames es fresh (leg_numbered i stamp l) does))

  -- Datagrams that stations made have empty chains.
  said_carries : (t : List Entry) (n : ℕ) (ls : List Leg) (es : List Entry) → Said i n ls es → next_stamp t ≤ n → Each (IsMade i) ls
      → Carries i t → Carries i (t ++ es)
  said_carries t n ls es (Nothing m) le made c = subst (Carries i) (sym (append-nil t)) c
  said_carries t n ls es (Another m stamp l more fs over said) le made c =
      let first = Sent l.station l.body in
      let before = t ++ first ∷ [] in
      let own = leg i stamp l in
      let next = next_after t first in
      let most = next_most before own stamp (omega (arith, next, le, over))
      (leg_numbered i stamp l) in
      subst (Carries i) (append_assoc before own fs ∙ append_assoc t (first ∷ []) (own ++ fs))
      (said_carries (before ++ own) (stamp + stamps own) more fs said most made.1
      (one_carries t stamp l (omega (arith, le, over)) made.0 c))

  -- The fate of a pair that was taken.
  fate_leaves : (t : List Entry) (p : Pair) → Framed p.frame.bytes → HopsFine i p → HasPath i (after_all t none_yet) p
      → (stamp : ℕ) → next_stamp t ≤ stamp
      → Leaves i (fate i stamp p) (after_all (t ++ Took p.frame.stamp p.seat.station ∷ []) none_yet)
  fate_leaves t p framed fine way stamp le = by (is_copy i p) refl
    where
      took : Entry
      took = Took p.frame.stamp p.seat.station

      w : Chains
      w = after_all (t ++ took ∷ []) none_yet

      fresh : FreshFrom stamp w.frames
      fresh =
          let next = next_after t took in
          fresh_less (next_stamp (t ++ took ∷ [])) stamp w.frames (omega (arith, next, le)) (fresh_frames (t ++ took ∷ []))

      by : (b : Bool) → is_copy i p ≡ b → Leaves i (fate i stamp p) w
      by false copy =
          let none : fate i stamp p ≡ [] =
          ap (λ b. cond b (fate_by i stamp p.seat.station p (hand i p.seat.station (target p.frame.bytes).net)) []) copy in
          subst (λ es. Leaves i es w) (sym none) (record { carried = tt; paths = tt })
      by true copy =
          let g = way copy in
          let router = (copy_router i p copy).0 in
          let now : w.now ≡ g.0 ++ p.seat.station ∷ [] = now_after i t took ∙ ap (λ o. chain_in o ++ p.seat.station ∷ []) g.1 in
          let same = target_inside p.frame.bytes framed in
          let last = length-append g.0 (p.seat.station ∷ []) in
          let count_is = g.3 in
          let long : hops p.frame.bytes + 1 ≡ length (g.0 ++ p.seat.station ∷ []) = omega (arith, last, count_is) in
          let does = fate_does i ok (λ s. Path i (target (body p.frame.bytes)).net (g.0 ++ p.seat.station ∷ []) s)
          (λ c. IsChain i (target (body p.frame.bytes)).net c (g.0 ++ p.seat.station ∷ [])) stamp p framed copy fine
          (λ c listed here. subst (λ (a : Addr). IsChain i a.net c (g.0 ++ p.seat.station ∷ [])) (sym same)
          (path_home i ok (target p.frame.bytes).net g.0 p.seat.station c listed g.2 router here))
          (λ s d a on. subst (λ (x : Addr). Path i x.net (g.0 ++ p.seat.station ∷ []) s) (sym same)
          (path_on i (target p.frame.bytes).net g.0 p.seat.station s d a g.2 router on)) in
          renamed i (fate i stamp p) w (g.0 ++ p.seat.station ∷ []) now
          (does_leave i (body p.frame.bytes) (g.0 ++ p.seat.station ∷ []) (hops p.frame.bytes + 1) long stamp w.frames (fate i stamp p)
          fresh (fate_numbered i stamp p) does)

  took_carries : (t : List Entry) (p : Pair) (k : ℕ) (ls : List Leg) (es : List Entry) → At (pending (cable_seats i) t) k p
      → Each (IsMade i) ls → Handled i (next_stamp t) p ls es → Run i ok t → Carries i t
      → Carries i (t ++ Took p.frame.stamp p.seat.station ∷ es)
  took_carries t p k ls es at made h r c =
      let took = Took p.frame.stamp p.seat.station in
      let before = t ++ took ∷ [] in
      let fs = fate i h.stamp p in
      let w = filter_at (λ q. not (was_ended t q)) (pairs (cable_seats i) t) k p at in
      let q = known i ok t p k r at in
      let way = each_at (HasPath i (after_all t none_yet)) (pairs (cable_seats i) t) w.0 p w.1 c.paths in
      let c1 : Carries i before = grow i t (took ∷ []) c (record { carried = (tt, tt); paths = tt }) in
      let c2 : Carries i (before ++ fs) = grow i before fs c1 (fate_leaves t p q.framed q.fine way h.stamp h.above) in
      let next = next_after t took in
      let high = h.above in
      let most = next_most before fs h.stamp (omega (arith, next, high)) (fate_numbered i h.stamp p) in
      subst (λ es. Carries i (t ++ took ∷ es)) (sym h.whole)
      (subst (Carries i) (append_assoc before fs h.rest ∙ append_assoc t (took ∷ []) (fs ++ h.rest))
      (said_carries (before ++ fs) (h.stamp + stamps fs) ls h.rest h.said most made c2))

  event : (t block : List Entry) → RisingBlock i t block → Run i ok t → Carries i t → Carries i (t ++ block)
  event t block (SendsOne l es made own said) r c =
      said_carries t (next_stamp t) (l ∷ []) es said (omega arith) (made, tt) c
  event t block (TakesOne p ls es there made its answers handled) r c =
      let at = contained_at (pending (cable_seats i) t) p there in
      took_carries t p at.0 ls es at.1 made handled r c

  pub carries : (t : List Entry) → IsRising i t → Carries i t
  carries t Starts = record { carried = tt; paths = tt }
  carries t (GoesOn front block rising b) = event front block b (rising_run i ok front rising) (carries front rising)

pub are_carried : (i : Internet) (t : List Entry) → Passes i → IsLegal i t → AreCarried i none_yet t
are_carried i t ok legal = (carries i ok t (legal_rises i t legal)).carried
