-- The bytes of a header and data, with and without a sum.
use Rattle.std.proofs.Common.{◌≡◌, ℕ, ◌≤◌, ◌<◌, ◌+◌, Bool, true, false, cond, IsTrue, List, ◌∷◌, length, drop, refl, sym, ap, ◌∙◌, arith}
use Rattle.std.specs.Int.{byte_at}
use Rattle.at_base.specs.Checksum.{sum_of}
use Rattle.at_base.specs.Spelling.{IsValue, Spells}
use Rattle.ddp.specs.declared.header.Header.{Header}
use Rattle.ddp.specs.Datagram.{Datagram, datagram, unsummed, datagram_of, first_word, checksum_of}
use Rattle.ddp.specs.InPlace.{with_sum}
use Rattle.ddp.proofs.Shape.{laid, bytes_laid, IsLaid, value_laid, laid_value}

-- the numbers of a header fit their fields
pub record Fitting (h : Header) : Type 0 where
  pub target_net : h.target.net < 65536
  pub source_net : h.source.net < 65536
  pub target_node : h.target.node < 256
  pub source_node : h.source.node < 256
  pub target_socket : h.target_socket < 256
  pub source_socket : h.source_socket < 256
  pub kind : h.kind < 256

pub unsummed_value : (h : Header) (payload : List ℕ) → Fitting h → length payload ≤ 586 → IsValue datagram (unsummed h payload)
unsummed_value h payload f few = laid_value (unsummed h payload) (record {
  word = omega arith;
  least = omega arith;
  most = omega arith;
  checksum = omega arith;
  target_net = f.target_net;
  source_net = f.source_net;
  target_node = f.target_node;
  source_node = f.source_node;
  target_socket = f.target_socket;
  source_socket = f.source_socket;
  kind = f.kind;
  len = omega arith;
  reserved = omega arith;
  hops = omega arith;
})

-- setting the sum leaves the other fields as they are
summed_laid : (d : Datagram) (n : ℕ) → n < 65536 → IsLaid d → IsLaid (record d { checksum = n })
summed_laid d n fits h = record {
  word = h.word;
  least = h.least;
  most = h.most;
  checksum = fits;
  target_net = h.target_net;
  source_net = h.source_net;
  target_node = h.target_node;
  source_node = h.source_node;
  target_socket = h.target_socket;
  source_socket = h.source_socket;
  kind = h.kind;
  len = h.len;
  reserved = h.reserved;
  hops = h.hops;
}

summed_bytes : (d : Datagram) → with_sum (laid d) ≡ laid (record d { checksum = sum_of (drop 4 (laid d)) })
summed_bytes d = refl

summed_spelled : (d : Datagram) (bytes : List ℕ) → Spells datagram bytes d → sum_of (drop 4 bytes) < 65536
    → Spells datagram (with_sum bytes) (record d { checksum = checksum_of d })
summed_spelled d bytes (v, parts) fits =
    let is : bytes ≡ laid d = parts ∙ bytes_laid d in
    let n : sum_of (drop 4 bytes) ≡ checksum_of d = ap (λ (b : List ℕ). sum_of (drop 4 b)) parts in
    let same : sum_of (drop 4 (laid d)) ≡ checksum_of d = ap (λ (b : List ℕ). sum_of (drop 4 b)) (sym (bytes_laid d)) in
    let small : checksum_of d < 65536 = rw (← n) fits in
    let e : Datagram = record d { checksum = checksum_of d } in (
      laid_value e (summed_laid d (checksum_of d) small (value_laid d v)),
      ap with_sum is ∙ summed_bytes d ∙ ap
          (λ (m : ℕ). laid (record d { checksum = m })) same ∙ sym (bytes_laid e),
    )

pub written : (h : Header) (payload bytes : List ℕ) → Spells datagram bytes (unsummed h payload)
    → (IsTrue h.summed → sum_of (drop 4 bytes) < 65536)
    → Spells datagram (cond h.summed (with_sum bytes) bytes) (datagram_of h payload)
written h payload bytes s fits = by_case h.summed fits
  where
    by_case : (b : Bool) → (IsTrue b → sum_of (drop 4 bytes) < 65536)
        → Spells datagram (cond b (with_sum bytes) bytes)
        (record (unsummed h payload) { checksum = cond b (checksum_of (unsummed h payload)) 0 })
    by_case true f = summed_spelled (unsummed h payload) bytes s (f refl)
    by_case false f = s

-- the bytes of a header and data, one by one
abbrev plain : Header → List ℕ → List ℕ
plain h payload =
    byte_at 1 (13 + length payload) ∷ byte_at 0 (13 + length payload) ∷ 0 ∷ 0
    ∷ byte_at 1 h.target.net ∷ byte_at 0 h.target.net ∷ byte_at 1 h.source.net ∷ byte_at 0 h.source.net
    ∷ h.target.node ∷ h.source.node ∷ h.target_socket ∷ h.source_socket ∷ h.kind
    ∷ payload

plain_laid : (h : Header) (payload : List ℕ) → Fitting h → plain h payload ≡ laid (unsummed h payload)
plain_laid h payload f =
    let w : first_word (unsummed h payload) ≡ 13 + length payload = omega arith in
    let b8 : byte_at 0 h.target.node ≡ h.target.node = omega (arith, f.target_node) in
    let b9 : byte_at 0 h.source.node ≡ h.source.node = omega (arith, f.source_node) in
    let b10 : byte_at 0 h.target_socket ≡ h.target_socket = omega (arith, f.target_socket) in
    let b11 : byte_at 0 h.source_socket ≡ h.source_socket = omega (arith, f.source_socket) in
    let b12 : byte_at 0 h.kind ≡ h.kind = omega (arith, f.kind) in
    sym (rw (w, b8, b9, b10, b11, b12) refl)

pub plain_spelled : (h : Header) (payload : List ℕ) → Fitting h → length payload ≤ 586
    → Spells datagram (plain h payload) (unsummed h payload)
plain_spelled h payload f few = (unsummed_value h payload f few, plain_laid h payload f ∙ sym (bytes_laid (unsummed h payload)))
