-- In a tick a router makes at most three datagrams and probes for each port, not counting queries.
use Rattle.std.proofs.Common.{◌≡◌, ℕ, ◌+◌, ◌≤◌, Bool, true, false, List, [], ◌∷◌, ◌++◌, length}
use Rattle.std.proofs.Common.{Option, Some, None, ◌⊎◌, inl, inr, refl, ap, subst, ◌∙◌, arith, length-append}
use Rattle.std.proofs.lemmas.List.{length-map}
use Rattle.std.specs.Prelude.{◌*◌, nat_lt, option_to_list}
use Rattle.aarp.specs.Choosing.{Choice, settled, ticked}
use Rattle.aarp.specs.declared.packet.Packet.{Packet}
use Rattle.at_base.specs.Range.{Span}
use Rattle.at_base.specs.Spelling.{bytes_of}
use Rattle.at_base.specs.declared.address.Addr.{Addr}
use Rattle.live_router.specs.Ticking.{data_by, data_from, data_way, packets_for, ports_ticked, probes}
use Rattle.station.specs.Resolution.{probed}
use Rattle.rtmp.specs.Data.{routing_data}
use Rattle.rtmp.specs.Sending.{packet_numbered}
use Rattle.rtmp.specs.declared.request.Horizon.TheVariants.{Split}
use Rattle.rtmp.specs.declared.row.Row.{Row}
use Rattle.station.specs.Made.{AreMade}
use Rattle.station.specs.Making.{made}
use Rattle.station.specs.declared.output.Output.{Output}

option_len : {A : Type 0} (o : Option A) → length (option_to_list o) ≤ 1
option_len None = omega arith
option_len (Some x) = omega arith

packets_few : (k : ℕ) (range : Span) (me : Addr) (rows : List Row) → length (packets_for k range me rows) ≤ 3
packets_few k range me rows =
    let first = option_to_list (packet_numbered Split k range me 0 rows) in
    let second = option_to_list (packet_numbered Split k range me 1 rows) in
    let third = option_to_list (packet_numbered Split k range me 2 rows) in
    omega (
      arith,
      option_len (packet_numbered Split k range me 0 rows),
      option_len (packet_numbered Split k range me 1 rows),
      option_len (packet_numbered Split k range me 2 rows),
      length-append first (second ++ third),
      length-append second third,
    )

data_few : (k : ℕ) (range : Span) (me : Option Addr) (rows : List Row) → length (data_by k range me rows) ≤ 3
data_few k range None rows = omega arith
data_few k range (Some me) rows =
    omega (
      arith,
      packets_few k range me rows,
      length-map (packets_for k range me rows) (λ p. made (data_way k me) (bytes_of routing_data p)),
    )

-- the number of probes and packets of routing data that a port sends in a tick
abbrev of_port : ℕ → Choice → List Row → ℕ
of_port k c rows =
    length (probed k (ticked c).1) + length (data_by k (ticked c).0.range (settled (ticked c).0) rows)

-- a port that sends a probe in a tick isn't settled after it
probes_or_settled : (c : Choice) → ((ticked c).1 ≡ None) ⊎ ((ticked c).0.is_settled ≡ false)
probes_or_settled c = by c.is_settled (nat_lt 0 c.minds.listens) c.minds.is_elsewhere (nat_lt c.probes 10) refl refl refl refl
  where
    by : (s l w p : Bool) → c.is_settled ≡ s → nat_lt 0 c.minds.listens ≡ l → c.minds.is_elsewhere ≡ w → nat_lt c.probes 10 ≡ p
        → ((ticked c).1 ≡ None) ⊎ ((ticked c).0.is_settled ≡ false)
    by true l w p e f g h = inl (rw e refl)
    by false true w p e f g h = inl (rw (e, f) refl)
    by false false true p e f g h = inl (rw (e, f, g) refl)
    by false false false true e f g h = inr (rw (e, f, g, h) refl)
    by false false false false e f g h = inl (rw (e, f, g, h) refl)

-- a port that isn't settled sends no routing data
pair_few : (k : ℕ) (c : Choice) (probe : Option Packet) (rows : List Row) → (probe ≡ None) ⊎ (c.is_settled ≡ false)
    → length (probed k probe) + length (data_by k c.range (settled c) rows) ≤ 3
pair_few k c None rows h = omega (arith, data_few k c.range (settled c) rows)
pair_few k c (Some p) rows (inl e) = absurd cc
pair_few k c (Some p) rows (inr e) =
    let none : settled c ≡ None = rw e refl in
    rw none (omega arith)

port_few : (k : ℕ) (c : Choice) (rows : List Row) → of_port k c rows ≤ 3
port_few k c rows = pair_few k (ticked c).0 (ticked c).1 rows (probes_or_settled c)

pub ports_few : (k : ℕ) (ports : List Choice) (rows : List Row)
    → length (probes k ports) + length (data_from k (ports_ticked ports) rows) ≤ 3 * length ports
ports_few k [] rows = omega arith
ports_few k (c ∷ cs) rows =
    omega (
      arith,
      port_few k c rows,
      ports_few (k + 1) cs rows,
      length-append (probed k (ticked c).1) (probes (k + 1) cs),
      length-append (data_by k (ticked c).0.range (settled (ticked c).0) rows) (data_from (k + 1) (ports_ticked cs) rows),
    )

-- the number of ports stays the same
pub ticked_len : (ports : List Choice) → length (ports_ticked ports) ≡ length ports
ticked_len ports = length-map ports (λ c. (ticked c).0)

-- outputs that were made for the ports after a tick were made for the ports before it
pub made_in : (ports after : List Choice) (probed sent : List Output) → after ≡ ports_ticked ports
    → (AreMade (length after) probed → AreMade (length after) sent) → AreMade (length ports) probed → AreMade (length ports) sent
made_in ports after probed sent is then_made =
    let same : length after ≡ length ports = ap (λ (l : List Choice). length l) is ∙ ticked_len ports in
    subst (λ n. AreMade n probed → AreMade n sent) same then_made

-- a tick with at most 200 queries has at most 256 outputs
pub tick_few : (ports after : List Choice) (rows : List Row) (probed sent : List Output) → length ports ≤ 16
    → after ≡ ports_ticked ports → probed ≡ probes 0 ports
    → length sent ≤ length probed + length (data_from 0 after rows) + 200 → length sent ≤ 256
tick_few ports after rows probed sent few is first all =
    let bound = ports_few 0 ports rows in
    let by_data = ap (λ (l : List Choice). length (data_from 0 l rows)) is in
    let by_probes = ap (λ (l : List Output). length l) first in
    omega (arith, few, bound, by_data, by_probes, all)
