-- What is put for an event, and what waits then.
use Rattle.std.proofs.Common.{◌≡◌, ℕ, ◌+◌, ◌≤◌, Bool, true, false, cond, List, [], ◌∷◌, ◌++◌, Option, Some, None, ap, arith, filter, map, refl}
use Rattle.std.specs.Prelude.{slice_get}
use Rattle.std.specs.List.{flat_map}
use Rattle.aarp.specs.Choosing.{Choice}
use Rattle.aarp.specs.Mapping.{asked_once_more, forgotten, is_asked_again, is_for, mapping_of, to_ask}
use Rattle.aarp.specs.declared.held.Held.{Held}
use Rattle.aarp.specs.declared.packet.Function.{Function}
use Rattle.aarp.specs.declared.packet.Function.TheVariants.{Request, Response, Probe}
use Rattle.aarp.specs.declared.packet.Packet.{Packet}
use Rattle.at_base.specs.declared.address.Addr.{Addr}
use Rattle.at_base.specs.declared.address.Hw.{Hw}
use Rattle.cabled.specs.Acting.{Event, Tick, Heard}
use Rattle.cabled.specs.Putting.{Put, all_asked, all_dressed, asked_again, asked_by, datagram_by, released_by, with_tick}
use Rattle.cabled.specs.Steps.{Running, called, called_from, doubted, heard_by, hearing_at, is_another, outputs_for, packet_of, put_for, step, told, told_at, told_after}
use Rattle.cabled.specs.declared.peers.Peers.{Peers}
use Rattle.cabled.specs.declared.peers.Peers.TheVariants.{Played, Real}
use Rattle.live_router.specs.Living.{Living}
use Rattle.live_router.specs.Ticking.{ticked_live}
use Rattle.port.specs.Ports.{Ported}
use Rattle.route_laws.proofs.Counting.{count_both, count_filter, count_flat, count_split}
use Rattle.route_laws.proofs.Dressing.{all_counted, at_hand, set_counted}
use Rattle.route_laws.specs.Carrying.{datagram_in, datagrams_in, made_for, made_in, outputs_heard, passed_for, passed_in, waiting_at, waiting_in}
use Rattle.station.specs.Hearing.{Hearing}
use Rattle.station.specs.Lawful.{count}
use Rattle.station.specs.declared.output.Output.{Output}

-- ---- A response

released_counted : (test : List ℕ → Bool) (k : ℕ) (a : Addr) (hw : Hw) (held : List Held)
    → datagrams_in (released_by k a hw held) ≡ map (λ h. h.bytes) (filter (is_for a) held)
released_counted test k a hw held = each (filter (is_for a) held)
  where
    each : (hs : List Held) → datagrams_in (map (λ h. datagram_by k hw h.bytes) hs) ≡ map (λ h. h.bytes) hs
    each [] = refl
    each (h ∷ hs) = ap (λ (l : List (List ℕ)). h.bytes ∷ l) (each hs)

-- what is put for an AARP packet and what waits then is no more than what waited before
abbrev IsTold : (List ℕ → Bool) → Ported → List Put × Ported → Type 0
IsTold test p d = count test (datagrams_in d.0) + count test (waiting_at d.1) ≤ count test (waiting_at p)

doubted_same : (peers : Peers) (a : Addr) (hw : Hw) (p : Ported) → waiting_at (doubted peers a hw p) ≡ waiting_at p
doubted_same Played a hw p = refl
doubted_same Real a hw p = by (is_another hw (mapping_of a p.maps.known))
  where
    by : (b : Bool) → waiting_at (cond b (record p { maps = record p.maps { known = forgotten a p.maps.known } }) p) ≡ waiting_at p
    by true = refl
    by false = refl

told_counted : (test : List ℕ → Bool) (peers : Peers) (k : ℕ) (sent : Packet) (p : Ported) → IsTold test p (told peers k sent p)
told_counted test peers k sent p = at sent.function refl
  where
    at : (f : Function) → sent.function ≡ f → IsTold test p (told peers k sent p)
    at Request is = rw is (omega arith)
    at Probe is =
        let same = ap (λ (l : List (List ℕ)). count test l) (doubted_same peers sent.target sent.source_hw p) in
        rw is (omega (arith, same))
    at Response is =
        let put = ap (λ (l : List (List ℕ)). count test l) (released_counted test k sent.source sent.source_hw p.maps.held) in
        let split = count_split test (λ (h : Held). h.bytes) (is_for sent.source) p.maps.held in
        rw is (omega (arith, put, split))

told_at_counted : (test : List ℕ → Bool) (peers : Peers) (k : ℕ) (ports : List Ported) (sent : Option Packet) (p : Option Ported)
    → slice_get ports k ≡ p → at_hand test (told_at peers k ports sent p) ≤ count test (waiting_in ports)
told_at_counted test peers k ports None p is = omega arith
told_at_counted test peers k ports (Some sent) None is = omega arith
told_at_counted test peers k ports (Some sent) (Some p) is =
    let here = told_counted test peers k sent p in
    let all = set_counted test ports k p (told peers k sent p).1 is in
    omega (arith, here, all)

-- ---- A frame

put_counted : (test : List ℕ → Bool) (peers : Peers) (l : Living) (ports : List Ported) (x : Hearing)
    → at_hand test (put_for peers l ports x)
    ≤ count test (flat_map made_in (outputs_for peers l x)) + count test (flat_map passed_in (outputs_for peers l x)) + count test (waiting_in ports)
put_counted test peers l ports x = by (all_dressed (outputs_for peers l x) ports) (all_counted test (outputs_for peers l x) ports)
  where
    by : (d : List Put × List Ported) → at_hand test d
        ≤ count test (flat_map made_in (outputs_for peers l x)) + count test (flat_map passed_in (outputs_for peers l x)) + count test (waiting_in ports)
        → at_hand test (told_after peers x d)
        ≤ count test (flat_map made_in (outputs_for peers l x)) + count test (flat_map passed_in (outputs_for peers l x)) + count test (waiting_in ports)
    by d few =
        let sent = packet_of x.kind x.bytes in
        let more = told_at_counted test peers x.port d.1 sent (slice_get d.1 x.port) refl in
        let put = count_flat test datagram_in d.0 (told_at peers x.port d.1 sent (slice_get d.1 x.port)).0 in
        omega (arith, few, more, put)

heard_counted : (test : List ℕ → Bool) (r : Running) (x : Option Hearing)
    → count test (datagrams_in (heard_by r x).0) + count test (waiting_in (heard_by r x).1.ports)
    ≤ count test (flat_map made_in (outputs_heard r.peers r.living x)) + count test (flat_map passed_in (outputs_heard r.peers r.living x))
    + count test (waiting_in r.ports)
heard_counted test r None = omega arith
heard_counted test r (Some x) = put_counted test r.peers r.living r.ports x

-- ---- A tick

-- what waits at the ports after they were called by their addresses
called_same : (choices : List Choice) (k : ℕ) (ports : List Ported) → waiting_in (called_from choices k ports) ≡ waiting_in ports
called_same choices k [] = refl
called_same choices k (p ∷ ps) = ap (λ (l : List (List ℕ)). waiting_at p ++ l) (called_same choices (k + 1) ps)

asked_nothing : (k : ℕ) (p : Ported) (addresses : List Addr) → datagrams_in (map (λ a. asked_by k a p) addresses) ≡ []
asked_nothing k p [] = refl
asked_nothing k p (a ∷ addresses) = asked_nothing k p addresses

all_asked_nothing : (test : List ℕ → Bool) (k : ℕ) (ports : List Ported) → count test (datagrams_in (all_asked k ports)) ≡ 0
all_asked_nothing test k [] = refl
all_asked_nothing test k (p ∷ ps) =
    let mine = ap (λ (l : List (List ℕ)). count test l) (asked_nothing k p (to_ask p.maps.held)) in
    let others = all_asked_nothing test (k + 1) ps in
    let both = count_flat test datagram_in (asked_again k p) (all_asked (k + 1) ps) in
    omega (arith, mine, others, both)

raised_same : (hs : List Held) → map (λ h. h.bytes) (map asked_once_more hs) ≡ map (λ h. h.bytes) hs
raised_same [] = refl
raised_same (h ∷ hs) = ap (λ (l : List (List ℕ)). h.bytes ∷ l) (raised_same hs)

ticked_fewer : (test : List ℕ → Bool) (ports : List Ported) → count test (waiting_in (map with_tick ports)) ≤ count test (waiting_in ports)
ticked_fewer test [] = omega arith
ticked_fewer test (p ∷ ps) =
    let others = ticked_fewer test ps in
    let same = ap (λ (l : List (List ℕ)). count test l) (raised_same (filter is_asked_again p.maps.held)) in
    let mine = count_filter test (λ (h : Held). h.bytes) is_asked_again p.maps.held in
    let after = count_both test (waiting_at (with_tick p)) (waiting_in (map with_tick ps)) in
    let before = count_both test (waiting_at p) (waiting_in ps) in
    omega (arith, others, same, mine, after, before)

ticked_counted : (test : List ℕ → Bool) (os : List Output) (given ports : List Ported) → waiting_in given ≡ waiting_in ports
    → count test (datagrams_in ((all_dressed os given).0 ++ all_asked 0 (all_dressed os given).1))
    + count test (waiting_in (map with_tick (all_dressed os given).1))
    ≤ count test (flat_map made_in os) + count test (flat_map passed_in os) + count test (waiting_in ports)
ticked_counted test os given ports same =
    let few = all_counted test os given in
    let before = ap (λ (l : List (List ℕ)). count test l) same in
    let put = count_flat test datagram_in (all_dressed os given).0 (all_asked 0 (all_dressed os given).1) in
    let nothing = all_asked_nothing test 0 (all_dressed os given).1 in
    let fewer = ticked_fewer test (all_dressed os given).1 in
    omega (arith, few, before, put, nothing, fewer)

-- What is put for an event and what waits then is no more than what is made and passed on for it, and what waited before.
pub step_counted : (test : List ℕ → Bool) (r : Running) (e : Event)
    → count test (datagrams_in (step r e).0) + count test (waiting_in (step r e).1.ports)
    ≤ count test (made_for r e) + count test (passed_for r e) + count test (waiting_in r.ports)
step_counted test r Tick =
    ticked_counted test (ticked_live r.living).0 (called (ticked_live r.living).1.router.ports r.ports) r.ports
    (called_same (ticked_live r.living).1.router.ports 0 r.ports)
step_counted test r (Heard k f) = heard_counted test r (hearing_at r.peers r.ports k f)
