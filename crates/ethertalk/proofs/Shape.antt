-- The format of a frame is lawful: each projection gives its part.
use Rattle.std.proofs.Common.{◌≡◌, ℕ, ◌≤◌, Bool, true, false, cond, ltb, List, None, Some, refl, sym, arith}
use Rattle.std.proofs.lemmas.Bool.{ltb-false}
use Rattle.at_base.proofs.Fields.{is_right, not_wrong}
use Rattle.at_base.proofs.Texts.{same_bytes_is}
use Rattle.at_base.specs.Lawful.{IsLawful}
use Rattle.at_base.specs.Text.{same_bytes}
use Rattle.ethertalk.specs.Frames.{frame, kind_of, llc, protocol_of, wrong_header, wrong_length, wrong_protocol}
use Rattle.ethertalk.specs.declared.fault.Fault.TheVariants.{Header, Protocol}
use Rattle.station.specs.declared.heard.Kind.TheVariants.{Aarp, Ddp}

-- a length that passes is at least that of the headers
length_least : (n : ℕ) → wrong_length n ≡ None → 8 ≤ n
length_least n h = ltb-false _ _ (not_wrong (ltb n 8) _ _ h).0

header_is : (bytes : List ℕ) → wrong_header bytes ≡ None → llc ≡ bytes
header_is bytes e = sym (same_bytes_is bytes llc (is_right (same_bytes bytes llc) Header e))

-- a SNAP protocol that passes is that of its kind
protocol_is : (bytes : List ℕ) → wrong_protocol bytes ≡ None → protocol_of (kind_of bytes) ≡ bytes
protocol_is bytes = by (same_bytes bytes (protocol_of Ddp)) refl
  where
    by : (b : Bool) → same_bytes bytes (protocol_of Ddp) ≡ b
        → cond b None (cond (same_bytes bytes (protocol_of Aarp)) None (Some Protocol)) ≡ None
        → protocol_of (cond b Ddp Aarp) ≡ bytes
    by true t h = sym (same_bytes_is bytes (protocol_of Ddp) t)
    by false t h = sym (same_bytes_is bytes (protocol_of Aarp) (is_right (same_bytes bytes (protocol_of Aarp)) Protocol h))

pub frame_lawful : IsLawful frame
unfolding frame
frame_lawful = λ to p1. (
  λ from p2 len p3 header p4 protocol p5 packet p6. refl,
  λ from p2. (
    λ len p3 header p4 protocol p5 packet p6. refl,
    λ len p3. (
      λ header p4 protocol p5 packet p6. omega (arith, length_least len p3.1, p6.0),
      λ header p4. (
        λ protocol p5 packet p6. header_is header p4.1,
        λ protocol p5. (
          λ packet p6. protocol_is protocol p5.1,
          λ packet p6. (refl, tt),
        ),
      ),
    ),
  ),
)
