-- Receiving a frame changes nothing of a router's state but its exactly-once requests and the choices of addresses that
-- aren't settled.
use Rattle.std.proofs.Common.{◌≡◌, ℕ, zero, suc, List, [], ◌∷◌, Option, Some, None, refl, ap, subst, sym, ◌∙◌}
use Rattle.std.specs.Prelude.{option_and_then, slice_get, slice_set}
use Rattle.aarp.specs.Choosing.{Choice, heard as hears_choice, settled}
use Rattle.aarp.proofs.Settled.{address_stays}
use Rattle.aarp.specs.declared.packet.Packet.{Packet}
use Rattle.ddp.specs.Datagram.{Datagram}
use Rattle.station.specs.Hearing.{Hearing}
use Rattle.station.specs.Values.{datagram_at}
use Rattle.station.specs.declared.heard.Kind.{Kind}
use Rattle.station.specs.declared.heard.Kind.TheVariants.{Ddp, Aarp}
use Rattle.station.specs.declared.output.Output.{Output}
use Rattle.router.specs.Answers.{Hears, heard_datagram, heard_kind}
use Rattle.router.specs.Holding.{Holding, own_at}
use Rattle.router.specs.Resolution.{ports_after, with_choice}
use Rattle.station.specs.Resolution.{packet_at}
use Rattle.router.specs.Stays.{TablesStay}

-- each port has the same address after one of them received a packet
port_same : (ports : List Choice) (p q : ℕ) (w : Packet) (c : Choice) → slice_get ports p ≡ Some c
    → own_at (slice_set ports p (hears_choice w c)) q ≡ own_at ports q
port_same [] p q w c at = absurd cc
port_same (x ∷ xs) zero zero w c at = address_stays w c ∙ ap (option_and_then settled) (sym at)
port_same (x ∷ xs) zero (suc q) w c at = refl
port_same (x ∷ xs) (suc p) zero w c at = refl
port_same (x ∷ xs) (suc p) (suc q) w c at = port_same xs p q w c at

choice_same : (ports : List Choice) (p q : ℕ) (w : Packet) (c : Option Choice) → slice_get ports p ≡ c
    → own_at (with_choice ports p w c) q ≡ own_at ports q
choice_same ports p q w None at = refl
choice_same ports p q w (Some c) at = port_same ports p q w c at

ports_same : (ports : List Choice) (p q : ℕ) (w : Option Packet) → own_at (ports_after ports p w) q ≡ own_at ports q
ports_same ports p q None = refl
ports_same ports p q (Some w) = choice_same ports p q w (slice_get ports p) refl

datagram_stays : (h : Holding) (x : Hearing) (d : Option Datagram) → TablesStay h (heard_datagram h x d).1
datagram_stays h x None = record { routes = refl; zones = refl; addresses = λ q. refl }
datagram_stays h x (Some d) = record { routes = refl; zones = refl; addresses = λ q. refl }

kind_stays : (h : Holding) (x : Hearing) (k : Kind) → TablesStay h (heard_kind k h x).1
kind_stays h x Ddp = datagram_stays h x (datagram_at x.bytes)
kind_stays h x Aarp = record { routes = refl; zones = refl; addresses = λ q. ports_same h.ports x.port q (packet_at x.bytes) }

pub tables_stay : (old new : Holding) (x : Hearing) (added : List Output) → Hears old x added new → TablesStay old new
tables_stay old new x added h =
    subst (TablesStay old) (sym (ap (λ (p : List Output × Holding). p.1) h)) (kind_stays old x x.kind)
