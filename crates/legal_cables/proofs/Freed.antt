-- A station took a response: its mapping is learnt, and the datagrams that were held for its source are put.
use Rattle.std.proofs.Common.{◌≡◌, ℕ, Bool, true, false, not, ◌&&◌, cond, List, [], ◌∷◌, ◌++◌, Some, Contains}
use Rattle.std.proofs.Common.{refl, sym, ap, ◌∙◌, subst, arith, filter, map, slice_get, slice_set, append_assoc}
use Rattle.std.proofs.lemmas.Bool.{and_parts}
use Rattle.aarp.specs.Mapping.{Mappings, is_for, learnt}
use Rattle.aarp.specs.declared.held.Held.{Held}
use Rattle.aarp.specs.declared.packet.Packet.{Packet}
use Rattle.at_base.specs.Address.{same_address}
use Rattle.audit.specs.Rules.{Passes}
use Rattle.table_image.specs.Bounds.{IsBounded}
use Rattle.table_image.specs.Internet.{Internet}
use Rattle.station.specs.Resolution.{packet_at, response_of}
use Rattle.cable_model.specs.Holdings.{still_held}
use Rattle.cable_model.specs.Logs.{Adds, Cabling, transcript}
use Rattle.cable_model.specs.Pending.{Pair, pending}
use Rattle.cable_model.specs.Transcript.{Entry, Holding}
use Rattle.cable_model.proofs.Counting.{count-filter, count_le}
use Rattle.legal_runs.specs.Stations.{cable_seats}
use Rattle.live_cables.specs.Finding.{Knowing, seat_by, seat_on}
use Rattle.live_cables.specs.Holding.{AreReleased, IsLearntBy, stamps_for, with_learnt}
use Rattle.live_cables.specs.declared.answer.Answer.{Answer}
use Rattle.live_cables.proofs.Learning.{get_set, set_again}
use Rattle.resolved_runs.specs.Resolved.{held_at, resolving, station_seats}
use Rattle.resolved_runs.specs.ResolvedRuns.{ResolvedBlock, Resolves as ResolvesFrame, taking}
use Rattle.resolved_runs.proofs.Elements.{kept_in}
use Rattle.resolved_runs.proofs.Told.{IsTold}
use Rattle.legal_stations.proofs.Responding.{TakenAt, taken_at}
use Rattle.legal_cables.specs.Keeping.{IsKept, Keeps}
use Rattle.legal_cables.proofs.After.{after_none}
use Rattle.legal_cables.proofs.Changes.{keeps_set}
use Rattle.legal_cables.proofs.Effects.{numbered}
use Rattle.legal_cables.proofs.Finds.{same_turned}
use Rattle.legal_cables.proofs.Kept.{as_held}
use Rattle.legal_cables.proofs.Learnt.{answer_is, kept_learnt}
use Rattle.legal_cables.proofs.Others.{few_held, is_mine}
use Rattle.legal_cables.proofs.Placed.{HasSeat, on_is, only_is}
use Rattle.legal_cables.proofs.Ports.{by_port}
use Rattle.legal_cables.proofs.Releasing.{ToFree, all_freed, freed, held_apart, without_passing}
use Rattle.legal_cables.proofs.Took.{books, kept_took, silent_others, taken}

-- ---- Lists

filter_map : {X Y : Type 0} (f : X → Y) (t : Y → Bool) (u : X → Bool) → ((x : X) → t (f x) ≡ u x) → (xs : List X)
    → filter t (map f xs) ≡ map f (filter u xs)
filter_map f t u same [] = refl
filter_map f t u same (x ∷ xs) =
    ap (λ b. cond b (f x ∷ filter t (map f xs)) (filter t (map f xs))) (same x)
    ∙ (ap (λ l. cond (u x) (f x ∷ l) l) (filter_map f t u same xs) ∙ by (u x))
  where
    by : (b : Bool) → cond b (f x ∷ map f (filter u xs)) (map f (filter u xs)) ≡ map f (cond b (x ∷ filter u xs) (filter u xs))
    by true = refl
    by false = refl

map_map : {X Y Z : Type 0} (f : X → Y) (g : Y → Z) (xs : List X) → map g (map f xs) ≡ map (λ x. g (f x)) xs
map_map f g [] = refl
map_map f g (x ∷ xs) = ap (λ l. g (f x) ∷ l) (map_map f g xs)

-- ---- The mappings of the seat

with_learnt_is : (ms : List Mappings) (n : ℕ) (answer : Answer) (m : Mappings) → slice_get ms n ≡ Some m
    → with_learnt ms n answer ≡ slice_set ms n (record {
      known = learnt answer.source answer.source_hw m.known;
      held = filter (λ h. not (is_for answer.source h)) m.held;
    })
with_learnt_is ms n answer m e =
    let mid : Mappings = record m { known = learnt answer.source answer.source_hw m.known } in
    rw e (rw (get_set ms n m mid e) (set_again ms n mid (record mid { held = filter (λ h. not (is_for answer.source h)) mid.held })))

stamps_for_is : (ms : List Mappings) (n : ℕ) (answer : Answer) (m : Mappings) (hs : List Holding) → slice_get ms n ≡ Some m
    → m.held ≡ map as_held hs
    → stamps_for (slice_get ms n) answer ≡ map (λ (g : Holding). Some g.stamp) (filter (λ (h : Holding). same_address answer.source h.next) hs)
stamps_for_is ms n answer m hs e held =
    ap (λ o. stamps_for o answer) e
    ∙ (ap (λ l. map (λ (h : Held). h.stamp) (filter (is_for answer.source) l)) held
    ∙ (ap (map (λ (h : Held). h.stamp)) (filter_map as_held (is_for answer.source) (λ (h : Holding). same_address answer.source h.next)
    (λ h. same_turned h.next answer.source) hs)
    ∙ map_map as_held (λ (h : Held). h.stamp) (filter (λ (h : Holding). same_address answer.source h.next) hs)))

module _ (i : Internet) (ok : Passes i) (bounded : IsBounded i) (t : List Entry) (told : IsTold i t) (p : Pair)
    (there : Contains (pending (cable_seats i) t) p) (sent : Packet)
    (is : response_of p.frame.kind (packet_at p.frame.bytes) ≡ Some sent) where
  abbrev s : ℕ
  s = p.seat.station

  abbrev c : ℕ
  c = p.frame.cable

  abbrev u : List Entry
  u = taken i t told p there

  -- What the station tells the cables.
  abbrev pub answer : Answer
  answer = record { port = p.seat.port; source = sent.source; source_hw = sent.source_hw }

  abbrev test : Holding → Bool
  test h = same_address sent.source h.next

  abbrev hs : List Holding
  hs = held_at u s c

  w : TakenAt i p
  w = taken_at i t p there

  -- The station's seat on the frame's cable.
  its : HasSeat i s c
  its =
      let station : w.seat.station ≡ s = sym (ap (λ z. z.station) w.is) in
      record {
        place = w.place;
        seat = w.seat;
        at = w.at;
        station = station;
        cable = w.on;
        on = ap (seat_on (cable_seats i) c) (sym station)
            ∙ (ap (λ x. seat_on (cable_seats i) x w.seat.station) (sym w.on) ∙ on_is i ok w.place w.seat w.at);
        only = ap (λ x. station_seats i x c) (sym station)
            ∙ (ap (λ x. station_seats i w.seat.station x) (sym w.on) ∙ only_is i ok w.place w.seat w.at);
      }

  found : seat_by (cable_seats i) s p.seat.port ≡ Some w.place
  found =
      ap (λ x. seat_by (cable_seats i) x p.seat.port) (ap (λ z. z.station) w.is)
      ∙ (ap (seat_by (cable_seats i) w.seat.station) (ap (λ z. z.port) w.is) ∙ by_port i ok w.place w.seat w.at)

  free : ToFree i s c u sent.source_hw u (filter test hs)
  free = record {
    held = λ g among. kept_in (is_mine s c) (still_held u) g (kept_in test hs g among).0;
    apart = λ n.
        let part = count-filter (numbered n) test hs in
        let le = count_le (λ h. test h && numbered n h) (numbered n) hs (λ h q. (and_parts (test h) (numbered n h) q).1) in
        let few = held_apart u s c n (few_held u n ((books i t told p there).once n)) in
        omega (arith, part, le, few);
  }

  -- The entries are those of the response.
  entries_are : resolving i u p ≡ map (freed sent.source_hw) (filter test hs)
  entries_are =
      let a = answer_is p.frame sent is in
      rw a.read (rw a.function refl)

  -- The block, and what the seats keep after it.
  pub freed_block : (k : Knowing) (ms : List Mappings) (old new : Cabling) → Keeps i k t → transcript old ≡ u
      → IsLearntBy (seat_by (cable_seats i) s p.seat.port) answer (old, k.maps) (new, ms)
      → (es : List Entry) × ResolvedBlock i t (taking p ∷ es) × Adds old new es × Keeps i (record k { maps = ms }) (t ++ taking p ∷ es)
  unfolding its
  freed_block k ms old new keeps e learnt_by =
      let h : IsLearntBy (Some w.place) answer (old, k.maps) (new, ms) =
      subst (λ o. IsLearntBy o answer (old, k.maps) (new, ms)) found learnt_by in
      let kept0 = keeps.each w.place w.seat w.at in
      let m = kept0.0 in
      let kept : IsKept i t s c m =
      subst (λ x. IsKept i t x c m) (sym (ap (λ z. z.station) w.is))
      (subst (λ x. IsKept i t w.seat.station x m) w.on kept0.2) in
      let knows = kept_learnt i ok bounded t told p there sent is m kept in
      let stamps = stamps_for_is k.maps w.place answer m hs kept0.1 knows.held in
      let put = all_freed i s c u sent.source_hw u hs (filter test hs) old new e (after_none i s c u (books i t told p there)) free
      (subst (λ l. AreReleased sent.source_hw l old new) stamps h.0) in
      let n : Mappings = record {
        known = learnt sent.source sent.source_hw m.known;
        held = filter (λ x. not (is_for sent.source x)) m.held;
      } in
      let left : n.held ≡ map as_held (filter (λ x. not (test x)) hs) =
      ap (filter (λ x. not (is_for sent.source x))) knows.held
      ∙ filter_map as_held (λ x. not (is_for sent.source x)) (λ x. not (test x)) (λ x. ap not (same_turned x.next sent.source)) hs in
      let gone = without_passing test hs (λ z. held_apart u s c z (few_held u z ((books i t told p there).once z))) in
      let es : List Entry = map (freed sent.source_hw) (filter test hs) in
      let kept_then : IsKept i (u ++ es) s c n = put.1.own _ n knows refl (left ∙ ap (map as_held) (sym gone)) in
      let all = keeps_set i ok s c its k t (u ++ es) n keeps kept_then
      (λ x y z other was. put.1.others x y z other
      (kept_took i t told p there x y z (silent_others i t told p there x y other) was)) in
      let maps_are : ms ≡ slice_set k.maps its.place n =
      h.1 ∙ with_learnt_is k.maps w.place answer m kept0.1 in
      let whole : u ++ es ≡ t ++ taking p ∷ es = append_assoc t (taking p ∷ []) es in (
        es,
        subst (λ x. ResolvedBlock i t (taking p ∷ x)) entries_are (ResolvesFrame p there (answer_is p.frame sent is).kind),
        put.0,
        subst (Keeps i (record k { maps = ms })) whole (subst (λ x. Keeps i (record k { maps = x }) (u ++ es)) (sym maps_are) all),
      )
