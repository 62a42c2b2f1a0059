-- A request in its datagram: the bytes carry the request, and they are a body.
use Rattle.std.proofs.Common.{◌≡◌, ℕ, ◌+◌, ◌*◌, ◌/◌, ◌%◌, ◌<◌, ◌≤◌, ◌⊎◌, inl, inr, Bool, true, false, cond, ◌==◌, List, [], ◌∷◌, ◌++◌}
use Rattle.std.proofs.Common.{drop, length, Some, Result, refl, sym, ap, subst, ◌∙◌, arith, append-nil, IsTrue}
use Rattle.std.specs.Prelude.{fold}
use Rattle.std.proofs.lemmas.List.{length-append}
use Rattle.std.proofs.lemmas.Nat.{or_lt}
use Rattle.at_base.specs.declared.error.Error.{Error}
use Rattle.at_base.specs.Checksum.{step, folded, sum_of}
use Rattle.at_base.specs.Packets.{packets}
use Rattle.at_base.specs.Reading.{read}
use Rattle.at_base.specs.Spelling.{Begins, Spells, bytes_of}
use Rattle.at_base.proofs.Readers.{begins_read, spelled_begins}
use Rattle.ddp.specs.declared.header.Header.{Header}
use Rattle.ddp.specs.Datagram.{Datagram, checksum_of, datagram, datagram_of, unsummed}
use Rattle.ddp.specs.Bodies.{target}
use Rattle.ddp.proofs.Agreement.{value_agrees}
use Rattle.ddp.proofs.Shape.{bytes_laid, datagram_lawful}
use Rattle.ddp.proofs.Written.{Fitting, unsummed_value, written}
use Rattle.legal_runs.specs.Answers.{IsBody}
use Rattle.legal_runs.specs.Requests.{packet_in, request, value_of}
use Rattle.nbp.specs.declared.packet.Function.{Function}
use Rattle.nbp.specs.declared.tuple.Tuple.{Tuple}
use Rattle.nbp.specs.Packets.{IsTuple, front_bytes, packet, packet_of}
use Rattle.nbp.proofs.Shape.{packet_lawful, read_back, written as packet_written}
use Rattle.station.specs.Lawful.{are_bytes}

-- The bytes of a request fit into a datagram.
request_few : (f : Function) (id : ℕ) (t : Tuple) → id < 256 → IsTuple t → length (bytes_of packet (packet_of f id t)) ≤ 586
request_few f id t small h =
    let same = packet_written f id t small h.at_node h.socket h.enumerator h.object_few h.kind_few h.zone_few in
    let front = front_bytes f id t.at t.socket t.enumerator in
    let a = length-append (front ++ (length t.object ∷ t.object) ++ (length t.kind ∷ t.kind)) (length t.zone ∷ t.zone) in
    let b = length-append (front ++ (length t.object ∷ t.object)) (length t.kind ∷ t.kind) in
    let c = length-append front (length t.object ∷ t.object) in
    let o = h.object_few in
    let k = h.kind_few in
    let z = h.zone_few in
    subst (λ (l : List ℕ). length l ≤ 586) same (omega (arith, a, b, c, o, k, z))

-- ---- The checksum

step_fits : (sum byte : ℕ) → step sum byte < 65536
step_fits sum byte =
    let n : ℕ = (sum + byte) % 65536 in
    let high : n * 2 % 65536 < 65536 = omega arith in
    let low : n / 32768 < 65536 = omega arith in
    or_lt 16 (n * 2 % 65536) (n / 32768) high low

folded_fits : (sum : ℕ) (bytes : List ℕ) → sum < 65536 → fold step sum bytes < 65536
folded_fits sum [] h = h
folded_fits sum (b ∷ bytes) h = folded_fits (step sum b) bytes (step_fits sum b)

-- A checksum fits its field.
pub sum_fits : (bytes : List ℕ) → sum_of bytes < 65536
sum_fits bytes = by (folded bytes) (folded_fits 0 bytes (omega arith))
  where
    by : (n : ℕ) → n < 65536 → cond (n == 0) 65535 n < 65536
    by n h = grind arith

-- The checksum isn't computed over the checksum field.
same_sum : (d : Datagram) (n : ℕ) → checksum_of (record d { checksum = n }) ≡ checksum_of d
same_sum d n =
    let sum : List ℕ → ℕ = λ b. sum_of (drop 4 b) in
    ap sum (bytes_laid (record d { checksum = n })) ∙ sym (ap sum (bytes_laid d))

sum_right : (h : Header) (payload : List ℕ)
    → ((datagram_of h payload).checksum ≡ 0) ⊎ ((datagram_of h payload).checksum ≡ checksum_of (datagram_of h payload))
sum_right h payload = by h.summed
  where
    plain : Datagram
    plain = unsummed h payload

    by : (b : Bool) → (cond b (checksum_of plain) 0 ≡ 0)
        ⊎ (cond b (checksum_of plain) 0 ≡ checksum_of (record plain { checksum = cond b (checksum_of plain) 0 }))
    by true = inr (sym (same_sum plain (checksum_of plain)))
    by false = inl refl

-- ---- A request in its datagram

module _ (h : Header) (f : Function) (id : ℕ) (t : Tuple) (fits : Fitting h) (small : id < 256) (good : IsTuple t) where
  -- The datagram's bytes.
  abbrev pub sealed : List ℕ
  sealed = bytes_of datagram (datagram_of h (bytes_of packet (packet_of f id t)))

  spelled : Spells datagram sealed (datagram_of h (bytes_of packet (packet_of f id t)))
  spelled =
      let payload = bytes_of packet (packet_of f id t) in
      let plain = bytes_of datagram (unsummed h payload) in
      let value = unsummed_value h payload fits (request_few f id t small good) in
      ((written h payload plain (value, refl) (λ yes. sum_fits (drop 4 plain))).0, refl)

  begins : Begins datagram sealed (datagram_of h (bytes_of packet (packet_of f id t)))
  begins =
      let d = datagram_of h (bytes_of packet (packet_of f id t)) in
      subst (λ b. Begins datagram b d) (append-nil sealed) (spelled_begins datagram sealed [] d spelled)

  -- The bytes carry the request.
  pub carried : h.kind ≡ 2 → h.target_socket ≡ 2 → request sealed ≡ Some (packet_of f id t)
  unfolding request
  carried kind socket =
      let payload = bytes_of packet (packet_of f id t) in
      let d = datagram_of h payload in
      let one = read_back f id t [] small good in
      let there : Begins packet payload (packet_of f id t) = subst (λ b. Begins packet b (packet_of f id t)) (append-nil payload) one.0 in
      ap (λ (x : Result (Datagram × List ℕ) Error). packet_in (value_of x)) (begins_read packets datagram datagram_lawful sealed d begins)
      ∙ carries d kind socket (ap value_of (begins_read packets packet packet_lawful payload (packet_of f id t) there))
    where
      carries : (d : Datagram) → d.kind ≡ 2 → d.target_socket ≡ 2 → value_of (read packets packet d.payload) ≡ Some (packet_of f id t)
          → packet_in (Some d) ≡ Some (packet_of f id t)
      carries d a b e = rw (a, b) e

  -- The bytes are for the target.
  pub target_is : target sealed ≡ h.target
  target_is = (value_agrees sealed _ begins).1

  -- The bytes are a body.
  pub body_is : IsTrue (are_bytes sealed) → IsBody sealed
  body_is bytes = record {
    value = datagram_of h (bytes_of packet (packet_of f id t));
    spelled = spelled;
    each = bytes;
    fresh = refl;
    sum = sum_right h (bytes_of packet (packet_of f id t));
  }
