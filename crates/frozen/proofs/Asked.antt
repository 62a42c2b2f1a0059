-- A node's request for names is neither a forward request nor a lookup.
use Rattle.std.proofs.Common.{◌≡◌, ℕ, Bool, true, false, ◌||◌, ◌&&◌, ◌==◌, ◌/◌, ◌%◌, cond, if◌then◌else◌, nat_lt}
use Rattle.std.proofs.Common.{Err, List, None, Ok, Option, Result, Some, [], ap, arith, length, refl, subst, sym, ◌∷◌}
use Rattle.std.proofs.lemmas.Bool.{le-ltb}
use Rattle.at_base.proofs.Readers.{begins_read}
use Rattle.at_base.specs.Grammar.{Grammar, done, field, list, number, one}
use Rattle.at_base.specs.Packets.{any, packets}
use Rattle.at_base.specs.Reading.{field_at, list_at, read, ◌>>=◌}
use Rattle.at_base.specs.Spelling.{Spells}
use Rattle.at_base.specs.declared.address.Addr.{Addr}
use Rattle.at_base.specs.declared.error.Error.{Error}
use Rattle.at_base.specs.declared.error.Error.TheVariants.{Truncated}
use Rattle.ddp.proofs.Shape.{datagram_lawful}
use Rattle.ddp.specs.Datagram.{Datagram, datagram, datagram_of}
use Rattle.ddp.specs.declared.header.Header.{Header}
use Rattle.end_node.specs.Asking.{request_bytes}
use Rattle.frozen.specs.Orders.{ask_data, data_at, data_by, node_at}
use Rattle.legal_stations.proofs.Datagrams.{begins_whole}
use Rattle.legal_runs.specs.Requests.{is_forward, is_lookup, packet_in, request, value_of}
use Rattle.nbp.specs.Packets.{NbpPacket, function_of, key, packet, packet_of, tuple, wrong_head}
use Rattle.nbp.specs.declared.packet.Function.TheVariants.{BroadcastRequest}
use Rattle.nbp.specs.declared.tuple.Tuple.{Tuple}
use Rattle.table_image.specs.Internet.{Internet}
use Rattle.table_image.specs.declared.node.Node.{Node}

-- The request in bytes that spell a datagram is the one that the datagram carries.
pub request_of : (bytes : List ℕ) (d : Datagram) → Spells datagram bytes d → request bytes ≡ packet_in (Some d)
unfolding request
request_of bytes d s =
    ap (λ (x : Result (Datagram × List ℕ) Error). packet_in (value_of x))
    (begins_read packets datagram datagram_lawful bytes d (begins_whole bytes d s))

-- The packet is neither a forward request nor a lookup.
abbrev pub IsQuiet : Option NbpPacket → Type 0
IsQuiet o = (is_forward o || is_lookup o) ≡ false

abbrev Quiet : Result (NbpPacket × List ℕ) Error → Type 0
Quiet r = IsQuiet (value_of r)

goes_on : {A : Type 0} (r : Result A Error) (f : A → Result (NbpPacket × List ℕ) Error) → ((x : A) → Quiet (f x))
    → Quiet (r >>= f)
goes_on (Ok x) f h = h x
goes_on (Err e) f h = refl

unless_cut : (b : Bool) (r : Result (NbpPacket × List ℕ) Error) → Quiet r → Quiet (if b then Err Truncated else r)
unless_cut true r h = refl
unless_cut false r h = h

-- A packet after its first byte.
abbrev after_head : ℕ → Grammar Error true NbpPacket
after_head h =
    field (number one any) (λ p. p.id) (λ id.
    list (λ low. tuple) (λ t. 0) (h % 16) (λ p. p.tuples) (λ tuples.
    done (record { function = function_of (h / 16); id = id; tuples = tuples })))

after_quiet : (bytes : List ℕ) → Quiet (read packets (after_head 17) bytes)
after_quiet bytes =
    goes_on (field_at packets (number one any) bytes)
    (λ x. list_at (λ low. read packets tuple) (λ t. 0) 0 1 x.1 >>= λ ts.
    Ok (record { function = BroadcastRequest; id = x.0; tuples = ts.0 }, ts.1))
    (λ x. goes_on (list_at (λ low. read packets tuple) (λ t. 0) 0 1 x.1)
    (λ ts. Ok (record { function = BroadcastRequest; id = x.0; tuples = ts.0 }, ts.1)) (λ ts. refl))

head_read : (rest : List ℕ) → field_at packets (number one wrong_head) (17 ∷ rest) ≡ Ok (17, rest)
head_read rest = let e : nat_lt (length (17 ∷ rest)) 1 ≡ false = le-ltb (length (17 ∷ rest)) 1 (omega arith) in rw e refl

-- Bytes that begin with a broadcast request's first byte are read as a broadcast request, or can't be read.
read_quiet : (rest : List ℕ) → Quiet (read packets packet (17 ∷ rest))
unfolding packet
read_quiet rest =
    unless_cut (nat_lt (length (17 ∷ rest)) 2)
    (field_at packets (number one wrong_head) (17 ∷ rest) >>= λ x. read packets (after_head x.0) x.1)
    (subst (λ (r : Result (ℕ × List ℕ) Error). Quiet (r >>= λ x. read packets (after_head x.0) x.1)) (sym (head_read rest))
    (after_quiet rest))

-- The first byte of a broadcast request.
front : (id : ℕ) (t : Tuple) → request_bytes id t ≡ 17 ∷ key (packet_of BroadcastRequest id t)
unfolding packet
front id t = refl

-- The bytes of a broadcast request are neither a forward request nor a lookup.
asked_quiet : (id : ℕ) (t : Tuple) → IsQuiet (value_of (read packets packet (request_bytes id t)))
asked_quiet id t =
    subst (λ (b : List ℕ). Quiet (read packets packet b)) (sym (front id t)) (read_quiet (key (packet_of BroadcastRequest id t)))

nothing_quiet : IsQuiet (value_of (read packets packet []))
unfolding packet
nothing_quiet = refl

data_quiet : (i : Internet) (a : Addr) (id : ℕ) (t : Tuple) → IsQuiet (value_of (read packets packet (ask_data i a id t)))
data_quiet i a id t = by (node_at i.nodes a)
  where
    at : (n : Option Node) → IsQuiet (value_of (read packets packet (data_at n id t)))
    at None = nothing_quiet
    at (Some node) = asked_quiet id _

    by : (n : Option ℕ) → IsQuiet (value_of (read packets packet (data_by i n id t)))
    by None = nothing_quiet
    by (Some k) = at _

-- A datagram with the bytes of a broadcast request is neither a forward request nor a lookup.
pub ask_quiet : (i : Internet) (a : Addr) (id : ℕ) (t : Tuple) (h : Header)
    → IsQuiet (packet_in (Some (datagram_of h (ask_data i a id t))))
ask_quiet i a id t h =
    by (h.kind == 2 && h.target_socket == 2) (value_of (read packets packet (ask_data i a id t))) (data_quiet i a id t)
  where
    by : (b : Bool) (o : Option NbpPacket) → IsQuiet o → IsQuiet (cond b o None)
    by true o h = h
    by false o h = refl
