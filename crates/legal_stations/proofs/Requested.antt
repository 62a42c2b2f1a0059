-- The packet that was read from a datagram: it has one tuple, its numbers fit, and its key has the tuple's zone.
use Rattle.std.proofs.Common.{◌≡◌, ℕ, zero, suc, ◌<◌, List, [], ◌∷◌, ◌++◌, Some, Result, Ok, Err, refl}
use Rattle.std.proofs.Common.{sym, ap, ◌∙◌, subst, arith, IsTrue, append-nil}
use Rattle.std.proofs.lemmas.Bool.{and_parts, ltb-true}
use Rattle.at_base.specs.declared.error.Error.{Error}
use Rattle.at_base.specs.Packets.{packets}
use Rattle.at_base.specs.Reading.{read, value_of as station_value}
use Rattle.at_base.specs.Spelling.{Begins, IsValue, bytes_of}
use Rattle.at_base.proofs.Fields.{IsBytes}
use Rattle.at_base.proofs.Laws.{read_follows, read_takes}
use Rattle.at_base.proofs.Readers.{begins_read, spelled_begins}
use Rattle.nbp.specs.declared.packet.Function.{Function}
use Rattle.nbp.specs.declared.packet.Function.TheVariants.{Reply}
use Rattle.nbp.specs.declared.tuple.Tuple.{Tuple}
use Rattle.nbp.specs.Packets.{IsTuple, NbpPacket, key, packet, packet_of, tuple, names_in}
use Rattle.nbp.proofs.Shape.{one_tuple, packet_lawful, tuple_lawful}
use Rattle.legal_runs.specs.Requests.{zone_in, zone_of, value_of}
use Rattle.station.specs.Lawful.{are_bytes}

-- A list of bytes is a list of numbers below 256.
bytes_fit : (bytes : List ℕ) → IsTrue (are_bytes bytes) → IsBytes bytes
bytes_fit [] h i = omega arith
bytes_fit (b ∷ bytes) h zero = ltb-true _ _ (and_parts _ _ h).0
bytes_fit (b ∷ bytes) h (suc i) = bytes_fit bytes (and_parts _ _ h).1 i

-- The payload begins with the packet that was read from it.
begins : (payload : List ℕ) (p : NbpPacket) → IsTrue (are_bytes payload) → names_in payload ≡ Some p → Begins packet payload p
unfolding names_in
begins payload p bytes e = by (read packets packet payload) refl e
  where
    by : (x : Result (NbpPacket × List ℕ) Error) → read packets packet payload ≡ x → station_value x ≡ Some p → Begins packet payload p
    by (Err x) is e = cc
    by (Ok x) is e =
        let fits = bytes_fit payload bytes in
        let took = read_takes packets packet packet_lawful payload x fits is in
        let same : x.0 ≡ p = cc in
        subst (Begins packet payload) same (x.1, took.0.parts, took.1, read_follows packets packet packet_lawful payload x fits is)

id_fits : (p : NbpPacket) → IsValue packet p → p.id < 256
unfolding packet
id_fits p (h, (id, rest)) = id.0

-- ---- The zone of a key

tuple_again : (t : Tuple) → IsValue tuple t → value_of (read packets tuple ((bytes_of tuple t ++ []) ++ [])) ≡ Some t
tuple_again t v =
    let b : Begins tuple ((bytes_of tuple t ++ []) ++ []) t =
    subst (λ b. Begins tuple b t) (sym (append-nil (bytes_of tuple t ++ []))) (spelled_begins tuple (bytes_of tuple t) [] t (v, refl)) in
    ap value_of (begins_read packets tuple tuple_lawful ((bytes_of tuple t ++ []) ++ []) t b)

-- The zone of a key is its tuple's.
key_zone : (f : Function) (id : ℕ) (t : Tuple) → IsValue packet (packet_of f id t) → zone_of (key (packet_of f id t)) ≡ t.zone
unfolding packet zone_of
key_zone f id t (h, (id_good, (len, each, whole))) = ap zone_in (tuple_again t each.0)

-- ---- The packet that was read

-- A packet other than a reply has one tuple, and its key has the tuple's zone.
pub record Requested (p : NbpPacket) : Type 0 where
  pub tuple : Tuple
  pub is : p ≡ packet_of p.function p.id tuple
  pub fits : IsTuple tuple
  pub id : p.id < 256
  pub zone : zone_of (key p) ≡ tuple.zone

pub requested : (payload : List ℕ) (p : NbpPacket) → IsTrue (are_bytes payload) → names_in payload ≡ Some p → (p.function ≡ Reply → ⊥)
    → Requested p
requested payload p bytes e other =
    let b = begins payload p bytes e in
    let one = one_tuple p payload b other in
    let value : IsValue packet p = b.2 in
    record {
      tuple = one.0;
      is = one.2;
      fits = one.1;
      id = id_fits p value;
      zone = ap (λ q. zone_of (key q)) one.2 ∙ key_zone p.function p.id one.0 (subst (IsValue packet) one.2 value);
    }
