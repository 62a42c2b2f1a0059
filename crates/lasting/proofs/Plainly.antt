-- Datagrams that stations make are plain where their types are.
use Rattle.std.proofs.Common.{◌≡◌, ◌≢◌, ℕ, ◌%◌, Bool, true, false, ◌&&◌, ◌==◌, cond, List, [], ◌∷◌}
use Rattle.std.proofs.Common.{Option, Some, None, refl, sym, ap, ◌∙◌, map, eqb-true}
use Rattle.std.specs.List.{AllByRecursion as Each}
use Rattle.aarp.specs.declared.packet.Packet.{Packet}
use Rattle.at_base.specs.declared.address.Addr.{Addr}
use Rattle.ddp.specs.Datagram.{Datagram}
use Rattle.ddp.specs.declared.header.Header.{Header}
use Rattle.lasting.proofs.Typed.{read_kind, written_kind}
use Rattle.lasting.specs.Plain.{IsPlain, IsPlainKind, IsPlainOutput}
use Rattle.station.specs.Making.{made}
use Rattle.station.specs.Resolution.{wired}
use Rattle.station.specs.Values.{datagram_at}
use Rattle.station.specs.Ways.{is_to, replying, way_from}
use Rattle.station.specs.declared.output.Next.{Next}
use Rattle.station.specs.declared.output.Output.{Output}
use Rattle.station.specs.declared.way.Way.{Way}

pub plain_kind : (a b : ℕ) → a ≡ b % 256 → IsPlainKind b → (a ≢ 1) × (a ≢ 6)
plain_kind a b e p = (λ f. p.0 (sym e ∙ f), λ f. p.1 (sym e ∙ f))

-- the datagram in plain bytes has such a type
pub read_plain : (bytes : List ℕ) (d : Datagram) → IsPlain bytes → datagram_at bytes ≡ Some d → IsPlainKind d.kind
read_plain bytes d p e = let k = read_kind bytes d e in (λ f. p.0 (sym k ∙ f), λ f. p.1 (sym k ∙ f))

-- and isn't for the sockets of routing data and of ZIP
pub not_routing : (d : Datagram) → IsPlainKind d.kind → is_to 1 1 d ≡ false
not_routing d p = by (d.kind == 1) refl
  where
    by : (b : Bool) → (d.kind == 1) ≡ b → (b && d.target_socket == 1) ≡ false
    by true e = absurd (p.0 (ap (λ n. n % 256) (eqb-true d.kind 1 e)))
    by false e = refl

pub not_zones : (d : Datagram) → IsPlainKind d.kind → is_to 6 6 d ≡ false
not_zones d p = by (d.kind == 6) refl
  where
    by : (b : Bool) → (d.kind == 6) ≡ b → (b && d.target_socket == 6) ≡ false
    by true e = absurd (p.1 (ap (λ n. n % 256) (eqb-true d.kind 6 e)))
    by false e = refl

-- ---- What is made

-- the datagrams of a way, if there is one, are plain
abbrev pub IsPlainWay : Option Way → Type 0
IsPlainWay None = Unit {0}
IsPlainWay (Some w) = IsPlainKind w.header.kind

pub made_plain : (w : Way) (payload : List ℕ) → IsPlainKind w.header.kind → IsPlainOutput (made w payload)
made_plain w payload p = plain_kind _ w.header.kind (written_kind w.header payload) p

all_plain : (w : Way) (payloads : List (List ℕ)) → IsPlainKind w.header.kind → Each IsPlainOutput (map (made w) payloads)
all_plain w [] p = tt
all_plain w (x ∷ xs) p = (made_plain w x p, all_plain w xs p)

pub replying_plain : (w : Option Way) (payloads : List (List ℕ)) → IsPlainWay w → Each IsPlainOutput (replying w payloads)
replying_plain None payloads p = tt
replying_plain (Some w) payloads p = all_plain w payloads p

pub from_plain : (source : Option Addr) (q : ℕ) (to : Next) (header : Header) → IsPlainKind header.kind → IsPlainWay (way_from source q to header)
from_plain None q to header p = tt
from_plain (Some a) q to header p = p

pub maybe_plain : (b : Bool) (w : Option Way) → IsPlainWay w → IsPlainWay (cond b w None)
maybe_plain true w p = p
maybe_plain false w p = tt

pub either_plain : (b : Bool) (xs ys : List Output) → Each IsPlainOutput xs → Each IsPlainOutput ys → Each IsPlainOutput (cond b xs ys)
either_plain true xs ys x y = x
either_plain false xs ys x y = y

pub wired_plain : (p : ℕ) (o : Option Packet) → Each IsPlainOutput (wired p o)
wired_plain p None = tt
wired_plain p (Some sent) = (tt, tt)

pub two : IsPlainKind 2
two = (λ e. cc, λ e. cc)

pub three : IsPlainKind 3
three = (λ e. cc, λ e. cc)
