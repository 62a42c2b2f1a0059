-- What is put for outputs, and what waits then, is no more than the datagrams in the outputs and what waited before.
use Rattle.std.proofs.Common.{◌≡◌, ℕ, ◌+◌, ◌≤◌, Bool, true, false, cond, List, [], ◌∷◌, ◌++◌, Option, Some, None, ap, arith, length, map, refl, suc, zero}
use Rattle.std.specs.Prelude.{nat_lt, slice_get, slice_set}
use Rattle.std.specs.List.{flat_map}
use Rattle.std.proofs.lemmas.List.{map_push}
use Rattle.at_base.specs.Limits.{max_held}
use Rattle.aarp.specs.Mapping.{counted, holding}
use Rattle.aarp.specs.declared.held.Held.{Held}
use Rattle.at_base.specs.declared.address.Addr.{Addr}
use Rattle.at_base.specs.declared.address.Hw.{Hw}
use Rattle.cabled.specs.Putting.{Put, all_dressed, asked_by, dressed, first_asked, sent, sent_at, sent_to}
use Rattle.port.specs.Ports.{Ported, found, is_first, waiting}
use Rattle.route_laws.proofs.Counting.{count_both, count_flat}
use Rattle.route_laws.specs.Carrying.{datagram_in, datagrams_in, made_in, passed_in, waiting_at, waiting_in}
use Rattle.station.specs.Lawful.{count, one}
use Rattle.station.specs.declared.output.Next.{Next}
use Rattle.station.specs.declared.output.Next.TheVariants as next
use Rattle.station.specs.declared.output.Output.{Output}
use Rattle.station.specs.declared.output.Output.TheVariants.{Made, Passed, Kept, Dropped, Wire}

-- how many of the datagrams that packets carry, and of those that wait at ports, pass a test
abbrev pub at_hand : (List ℕ → Bool) → List Put × List Ported → ℕ
at_hand test d = count test (datagrams_in d.0) + count test (waiting_in d.1)

-- ---- One port

-- the port with this index is replaced by another
pub set_counted : (test : List ℕ → Bool) (ports : List Ported) (k : ℕ) (p q : Ported) → slice_get ports k ≡ Some p
    → count test (waiting_in (slice_set ports k q)) + count test (waiting_at p) ≡ count test (waiting_in ports) + count test (waiting_at q)
set_counted test [] k p q is = absurd cc
set_counted test (r ∷ rs) zero p q is =
    let same : r ≡ p = cc in
    let mine = ap (λ (x : Ported). count test (waiting_at x)) same in
    omega (arith, count_both test (waiting_at q) (waiting_in rs), count_both test (waiting_at r) (waiting_in rs), mine)
set_counted test (r ∷ rs) (suc k) p q is =
    let others = set_counted test rs k p q is in
    omega (arith, others, count_both test (waiting_at r) (waiting_in (slice_set rs k q)), count_both test (waiting_at r) (waiting_in rs))

-- one datagram more is held at most
held_more : (test : List ℕ → Bool) (h : Held) (held : List Held)
    → count test (map (λ h. h.bytes) (holding h held)) ≤ count test (map (λ h. h.bytes) held) + one (test h.bytes)
held_more test h [] = omega arith
held_more test h (g ∷ gs) = by (nat_lt (length (gs ++ counted h (g ∷ gs) ∷ [])) max_held)
  where
    rest : List Held
    rest = gs ++ counted h (g ∷ gs) ∷ []

    pushed : count test (map (λ h. h.bytes) rest) ≡ count test (map (λ h. h.bytes) gs) + one (test h.bytes)
    pushed =
        let all = ap (λ (l : List (List ℕ)). count test l) (map_push (λ (h : Held). h.bytes) gs (counted h (g ∷ gs))) in
        let parts = count_both test (map (λ h. h.bytes) gs) (h.bytes ∷ []) in
        omega (arith, all, parts)

    by : (b : Bool) → count test (map (λ h. h.bytes) (cond b (g ∷ rest) rest)) ≤ count test (map (λ h. h.bytes) (g ∷ gs)) + one (test h.bytes)
    by true = omega (arith, pushed)
    by false = omega (arith, pushed)

-- what a port puts for a datagram, and what waits there then
abbrev IsFor : (List ℕ → Bool) → List ℕ → Ported → List Put × Ported → Type 0
IsFor test bytes p d = count test (datagrams_in d.0) + count test (waiting_at d.1) ≤ one (test bytes) + count test (waiting_at p)

asked_nothing : (k : ℕ) (a : Addr) (p : Ported) → datagrams_in (first_asked k a p) ≡ []
asked_nothing k a p = by (is_first p a)
  where
    by : (b : Bool) → datagrams_in (cond b (asked_by k a p ∷ []) []) ≡ []
    by true = refl
    by false = refl

sent_to_counted : (test : List ℕ → Bool) (k : ℕ) (a : Addr) (bytes : List ℕ) (p : Ported) (hw : Option Hw)
    → IsFor test bytes p (sent_to k a bytes p hw)
sent_to_counted test k a bytes p (Some hw) = omega arith
sent_to_counted test k a bytes p None =
    let more = held_more test (waiting a bytes) p.maps.held in
    let nothing = ap (λ (l : List (List ℕ)). count test l) (asked_nothing k a p) in
    omega (arith, more, nothing)

sent_counted : (test : List ℕ → Bool) (k : ℕ) (to : Next) (bytes : List ℕ) (p : Ported) → IsFor test bytes p (sent k to bytes p)
sent_counted test k next.All bytes p = omega arith
sent_counted test k (next.Group g) bytes p = omega arith
sent_counted test k (next.Station a) bytes p = sent_to_counted test k a bytes p (found p a)

-- ---- Outputs

at_port : (test : List ℕ → Bool) (k : ℕ) (to : Next) (bytes : List ℕ) (ports : List Ported) (p : Option Ported) → slice_get ports k ≡ p
    → at_hand test (sent_at k to bytes ports p) ≤ one (test bytes) + count test (waiting_in ports)
at_port test k to bytes ports None is = omega arith
at_port test k to bytes ports (Some p) is =
    let here = sent_counted test k to bytes p in
    let all = set_counted test ports k p (sent k to bytes p).1 is in
    omega (arith, here, all)

dressed_counted : (test : List ℕ → Bool) (o : Output) (ports : List Ported)
    → at_hand test (dressed o ports) ≤ count test (made_in o) + count test (passed_in o) + count test (waiting_in ports)
dressed_counted test (Made k to bytes) ports =
    let most = at_port test k to bytes ports (slice_get ports k) refl in
    omega (arith, most)
dressed_counted test (Passed k to bytes) ports =
    let most = at_port test k to bytes ports (slice_get ports k) refl in
    omega (arith, most)
dressed_counted test (Kept k bytes) ports = omega arith
dressed_counted test (Dropped cause bytes) ports = omega arith
dressed_counted test (Wire k to bytes) ports = omega arith

pub all_counted : (test : List ℕ → Bool) (os : List Output) (ports : List Ported)
    → at_hand test (all_dressed os ports)
    ≤ count test (flat_map made_in os) + count test (flat_map passed_in os) + count test (waiting_in ports)
all_counted test [] ports = omega arith
all_counted test (o ∷ os) ports =
    let first = dressed_counted test o ports in
    let others = all_counted test os (dressed o ports).1 in
    let put = count_flat test datagram_in (dressed o ports).0 (all_dressed os (dressed o ports).1).0 in
    let made = count_both test (made_in o) (flat_map made_in os) in
    let passed = count_both test (passed_in o) (flat_map passed_in os) in
    omega (arith, first, others, put, made, passed)
