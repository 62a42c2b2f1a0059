-- The format of an NBP packet: each projection gives its part; the bytes of a packet with one tuple; and that they are
-- read back.
use Rattle.std.proofs.Common.{◌≡◌, ℕ, zero, suc, ◌+◌, ◌*◌, ◌/◌, ◌<◌, ◌≤◌, Bool, true, false, cond, List, [], ◌∷◌, ◌++◌, length, Some, None}
use Rattle.std.proofs.Common.{refl, sym, ap, ◌∙◌, arith, append_assoc}
use Rattle.std.specs.Prelude.{nat_lt, ◌||◌, ◌==◌, ◌%◌}
use Rattle.std.specs.Int.{byte_at}
use Rattle.std.proofs.lemmas.Bool.{ltb-false, le-ltb, eqb-true}
use Rattle.std.proofs.lemmas.List.{append-nil}
use Rattle.at_base.specs.declared.error.Error.{Error}
use Rattle.at_base.specs.declared.error.Field.TheVariants.{NameLength}
use Rattle.at_base.specs.Packets.{packets, any, within, text, address}
use Rattle.at_base.specs.Spelling.{IsValue, ListPasses, Begins, bytes_of}
use Rattle.at_base.specs.Lawful.{IsLawful}
use Rattle.at_base.proofs.Fields.{not_wrong}
use Rattle.at_base.proofs.Laws.{follows_all}
use Rattle.at_base.proofs.Packets.{address_lawful, text_lawful}
use Rattle.at_base.proofs.Readers.{begins_one, spelled_begins}
use Rattle.nbp.specs.declared.packet.Function.{Function}
use Rattle.nbp.specs.declared.packet.Function.TheVariants.{BroadcastRequest, Lookup, Reply, ForwardRequest}
use Rattle.nbp.specs.declared.tuple.Tuple.{Tuple}
use Rattle.nbp.specs.Packets.{NbpPacket, IsTuple, tuple, packet, packet_of, front_bytes, key, number_of, function_of, is_function, is_count}

-- ---- each projection gives its part

pub tuple_lawful : IsLawful tuple
unfolding tuple
tuple_lawful = (
  address_lawful,
  λ at p. (
    λ socket q enumerator r object s kind t zone u. refl,
    λ socket q. (
      λ enumerator r object s kind t zone u. refl,
      λ enumerator r. (
        λ object s kind t zone u. refl,
        (
          text_lawful 1 any,
          λ object s. (
            λ kind t zone u. refl,
            (text_lawful 1 any, λ kind t. (λ zone u. refl, (text_lawful 0 any, λ zone u. (refl, tt)))),
          ),
        ),
      ),
    ),
  ),
)

-- a function's number is that function's
number_is : (n : ℕ) → is_function n ≡ true → number_of (function_of n) ≡ n
number_is zero h = absurd cc
number_is (suc zero) h = refl
number_is (suc (suc zero)) h = refl
number_is (suc (suc (suc zero))) h = refl
number_is (suc (suc (suc (suc zero)))) h = refl
number_is (suc (suc (suc (suc (suc n))))) h = absurd (grind arith)

right_function : (b c : Bool) (v w : Error) → cond b (cond c None (Some v)) (Some w) ≡ None → b ≡ true
right_function true c v w h = refl
right_function false c v w h = absurd cc

pub packet_lawful : IsLawful packet
unfolding packet
packet_lawful = (
  λ y h. omega arith,
  λ b p. (
    λ id q tuples len. let n = number_is (b / 16) (right_function (is_function (b / 16)) _ _ _ p.1) in omega (arith, n, len),
    λ id q. (λ tuples len. refl, ((λ low. tuple_lawful), λ tuples len. (refl, tt))),
  ),
)

-- ---- the bytes of a packet with one tuple

no_more : (o k z : List ℕ) (m n : ℕ) → ((o ++ []) ++ (m ∷ ((k ++ []) ++ (n ∷ ((z ++ []) ++ []))))) ++ [] ++ [] ≡ o ++ (m ∷ (k ++ (n ∷ z)))
no_more o k z m n =
    let last : (z ++ []) ++ [] ≡ z = append-nil (z ++ []) ∙ append-nil z in
    let later : (k ++ []) ++ (n ∷ ((z ++ []) ++ [])) ≡ k ++ (n ∷ z) =
    ap (λ (l : List ℕ). l ++ (n ∷ ((z ++ []) ++ []))) (append-nil k) ∙ ap (λ (l : List ℕ). k ++ (n ∷ l)) last in
    let all = (o ++ []) ++ (m ∷ ((k ++ []) ++ (n ∷ ((z ++ []) ++ [])))) in
    append-nil (all ++ []) ∙ append-nil all ∙ ap (λ (l : List ℕ). l ++ (m ∷ ((k ++ []) ++ (n ∷ ((z ++ []) ++ []))))) (append-nil o)
    ∙ ap (λ (l : List ℕ). o ++ (m ∷ l)) later

laid : (f : Function) (id : ℕ) (t : Tuple) → bytes_of packet (packet_of f id t) ≡ byte_at 0 (number_of f * 16 + 1) ∷ byte_at 0 id
    ∷ byte_at 1 t.at.net ∷ byte_at 0 t.at.net ∷ byte_at 0 t.at.node ∷ byte_at 0 t.socket ∷ byte_at 0 t.enumerator
    ∷ byte_at 0 (length t.object) ∷ (t.object ++ (byte_at 0 (length t.kind) ∷ (t.kind ++ (byte_at 0 (length t.zone) ∷ t.zone))))
unfolding packet tuple text address
laid f id t =
    ap (λ (l : List ℕ). byte_at 0 (number_of f * 16 + 1) ∷ byte_at 0 id ∷ byte_at 1 t.at.net ∷ byte_at 0 t.at.net ∷ byte_at 0 t.at.node
    ∷ byte_at 0 t.socket ∷ byte_at 0 t.enumerator ∷ byte_at 0 (length t.object) ∷ l)
    (no_more t.object t.kind t.zone (byte_at 0 (length t.kind)) (byte_at 0 (length t.zone)))

function_small : (f : Function) → number_of f ≤ 4
function_small BroadcastRequest = omega arith
function_small Lookup = omega arith
function_small Reply = omega arith
function_small ForwardRequest = omega arith

-- the bytes of a packet with one tuple, as they are written
pub written : (f : Function) (id : ℕ) (t : Tuple) → id < 256 → t.at.node < 256 → t.socket < 256 → t.enumerator < 256
    → length t.object ≤ 32 → length t.kind ≤ 32 → length t.zone ≤ 32
    → front_bytes f id t.at t.socket t.enumerator ++ (length t.object ∷ t.object) ++ (length t.kind ∷ t.kind) ++ (length t.zone ∷ t.zone)
    ≡ bytes_of packet (packet_of f id t)
written f id t small node socket enumerator object kind zone =
    let small_head = function_small f in
    let a : byte_at 0 (number_of f * 16 + 1) ≡ number_of f * 16 + 1 = omega (arith, small_head) in
    let b : byte_at 0 id ≡ id = omega arith in
    let c : byte_at 0 t.at.node ≡ t.at.node = omega arith in
    let d : byte_at 0 t.socket ≡ t.socket = omega arith in
    let e : byte_at 0 t.enumerator ≡ t.enumerator = omega arith in
    let o : byte_at 0 (length t.object) ≡ length t.object = omega arith in
    let k : byte_at 0 (length t.kind) ≡ length t.kind = omega arith in
    let z : byte_at 0 (length t.zone) ≡ length t.zone = omega arith in
    let parts : (t.object ++ (length t.kind ∷ t.kind)) ++ (length t.zone ∷ t.zone)
    ≡ t.object ++ (length t.kind ∷ (t.kind ++ (length t.zone ∷ t.zone))) =
    append_assoc t.object (length t.kind ∷ t.kind) (length t.zone ∷ t.zone) in
    rw (laid f id t, a, b, c, d, e, o, k, z, parts) refl

-- ---- reading back what was written

right_length : (least n : ℕ) → least ≤ n → n ≤ 32 → within least 32 NameLength n ≡ None
right_length least n some few =
    let a : nat_lt n least ≡ false = le-ltb _ _ some in
    let b : nat_lt 32 n ≡ false = le-ltb _ _ few in
    rw (a, b) refl

text_value : (least : ℕ) (s : List ℕ) → least ≤ length s → length s ≤ 32 → IsValue (text least any) s
unfolding text
text_value least s some few = ((omega arith, right_length least (length s) some few), ((refl, refl), refl))

tuple_value : (t : Tuple) → IsTuple t → IsValue tuple t
unfolding tuple address
tuple_value t h = (
  ((h.at_net, refl), ((h.at_node, refl), refl)),
  (
    (h.socket, refl),
    (
      (h.enumerator, refl),
      (
        text_value 1 t.object h.object_some h.object_few,
        (text_value 1 t.kind h.kind_some h.kind_few, (text_value 0 t.zone (omega arith) h.zone_few, refl)),
      ),
    ),
  ),
)

packet_value : (f : Function) (id : ℕ) (t : Tuple) → id < 256 → IsTuple t → IsValue packet (packet_of f id t)
unfolding packet
packet_value BroadcastRequest id t small h = ((omega arith, refl), ((small, refl), (refl, (tuple_value t h, tt), refl)))
packet_value Lookup id t small h = ((omega arith, refl), ((small, refl), (refl, (tuple_value t h, tt), refl)))
packet_value Reply id t small h = ((omega arith, refl), ((small, refl), (refl, (tuple_value t h, tt), refl)))
packet_value ForwardRequest id t small h = ((omega arith, refl), ((small, refl), (refl, (tuple_value t h, tt), refl)))

pub read_back : (f : Function) (id : ℕ) (t : Tuple) (rest : List ℕ) → id < 256 → IsTuple t
    → Begins packet (bytes_of packet (packet_of f id t) ++ rest) (packet_of f id t)
    × ((p : NbpPacket) → Begins packet (bytes_of packet (packet_of f id t) ++ rest) p → p ≡ packet_of f id t)
read_back f id t rest small h =
    let b = spelled_begins packet (bytes_of packet (packet_of f id t)) rest (packet_of f id t) (packet_value f id t small h, refl) in
    (b, λ p c. begins_one packets packet packet_lawful (bytes_of packet (packet_of f id t) ++ rest) (packet_of f id t) p b c)

-- ---- a request has one tuple

right_count : (b c : Bool) (v w : Error) → cond b (cond c None (Some v)) (Some w) ≡ None → c ≡ true
right_count true true v w h = refl
right_count true false v w h = absurd cc
right_count false c v w h = absurd cc

or_false : (b : Bool) → (b || false) ≡ true → b ≡ true
or_false true h = refl
or_false false h = absurd cc

count_is_one : (f : Function) (n : ℕ) → (f ≡ Reply → ⊥) → is_count (number_of f) n ≡ true → n ≡ 1
count_is_one BroadcastRequest n other h = eqb-true _ _ (or_false (n == 1) h)
count_is_one Lookup n other h = eqb-true _ _ (or_false (n == 1) h)
count_is_one Reply n other h = absurd (other refl)
count_is_one ForwardRequest n other h = eqb-true _ _ (or_false (n == 1) h)

within_bounds : (least n : ℕ) → within least 32 NameLength n ≡ None → (least ≤ n) × (n ≤ 32)
within_bounds least n h =
    let some = not_wrong (nat_lt n least) _ _ h in
    let few = not_wrong (nat_lt 32 n) _ _ some.1 in
    (ltb-false _ _ some.0, ltb-false _ _ few.0)

text_bounds : (least : ℕ) (s : List ℕ) → IsValue (text least any) s → (least ≤ length s) × (length s ≤ 32)
unfolding text
text_bounds least s h = within_bounds least (length s) h.0.1

is_tuple : (t : Tuple) → IsValue tuple t → IsTuple t
unfolding tuple address
is_tuple t (((net, good_net), ((node, good_node), at)), ((socket, good), ((enumerator, right), (object, (kind, (zone, whole)))))) = record {
  at_net = net;
  at_node = node;
  socket = socket;
  enumerator = enumerator;
  object_some = (text_bounds 1 t.object object).0;
  object_few = (text_bounds 1 t.object object).1;
  kind_some = (text_bounds 1 t.kind kind).0;
  kind_few = (text_bounds 1 t.kind kind).1;
  zone_few = (text_bounds 0 t.zone zone).1;
}

-- a list of length 1 that passes has one valid tuple
only_one : (f : Function) (id : ℕ) (tuples : List Tuple) → length tuples ≡ 1 → ListPasses (λ low. IsValue tuple) (λ t. 0) 0 tuples
    → (t : Tuple) × IsTuple t × (record { function = f; id = id; tuples = tuples } ≡ packet_of f id t)
only_one f id [] one each = absurd (omega arith)
only_one f id (t ∷ []) one each = (t, is_tuple t each.0, refl)
only_one f id (t ∷ u ∷ tuples) one each = absurd (omega arith)

one_in : (f : Function) (id : ℕ) (tuples : List Tuple) → (f ≡ Reply → ⊥)
    → IsValue packet (record { function = f; id = id; tuples = tuples })
    → (t : Tuple) × IsTuple t × (record { function = f; id = id; tuples = tuples } ≡ packet_of f id t)
unfolding packet
one_in f id tuples other ((fits, good), (id_good, (len, each, whole))) =
    let b = number_of f * 16 + length tuples in
    let n : b / 16 ≡ number_of f = omega (arith, len) in
    let m : b % 16 ≡ length tuples = omega (arith, len) in
    let count : is_count (b / 16) (b % 16) ≡ true = right_count (is_function (b / 16)) _ _ _ good in
    let same : is_count (number_of f) (length tuples) ≡ true =
    sym (ap (is_count (number_of f)) m) ∙ sym (ap (λ (k : ℕ). is_count k (b % 16)) n) ∙ count in
    only_one f id tuples (count_is_one f (length tuples) other same) each

pub one_tuple : (p : NbpPacket) (bytes : List ℕ) → Begins packet bytes p → (p.function ≡ Reply → ⊥)
    → (t : Tuple) × IsTuple t × (p ≡ packet_of p.function p.id t)
one_tuple p bytes (rest, parts, h, f) other = one_in p.function p.id p.tuples other h

-- ---- the key of a request

-- only the first byte depends on the function
pub same_key : (f g : Function) (id : ℕ) (t : Tuple) → key (packet_of f id t) ≡ key (packet_of g id t)
unfolding packet
same_key f g id t = refl

-- bytes after the packet aren't part of its key
pub key_alone : (p q : NbpPacket) (bytes rest : List ℕ) → Begins packet bytes p → Begins packet (bytes ++ rest) q → key q ≡ key p
key_alone p q bytes rest (after, parts, h, f) c =
    let b : Begins packet (bytes ++ rest) p = (
      after ++ rest,
      ap (λ (l : List ℕ). l ++ rest) parts ∙ append_assoc (bytes_of packet p) after rest,
      h,
      follows_all packet p (after ++ rest),
    ) in
    ap key (begins_one packets packet packet_lawful (bytes ++ rest) p q b c)
