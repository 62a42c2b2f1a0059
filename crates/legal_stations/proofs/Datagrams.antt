-- The datagram in a frame: a body with a hop count.
use Rattle.std.proofs.Common.{◌≡◌, ℕ, zero, suc, inl, inr, true, ◌&&◌, ◌==◌, ◌⊎◌, cond, IsTrue, List, [], ◌∷◌, Option, Some, None, Result}
use Rattle.std.proofs.Common.{Err, Ok, ap, append-nil, drop, eq-eqb, nat_lt, refl, subst, sym, ◌∙◌}
use Rattle.std.specs.List.{list_all}
use Rattle.std.proofs.lemmas.Bool.{and_parts, or_left, or_right}
use Rattle.at_base.specs.Checksum.{sum_of}
use Rattle.at_base.specs.Packets.{packets}
use Rattle.at_base.specs.Reading.{read, value_of}
use Rattle.at_base.specs.Spelling.{Begins, Spells}
use Rattle.at_base.proofs.Readers.{begins_read, spelled_begins}
use Rattle.ddp.specs.Bodies.{body, hops, target, with_hops}
use Rattle.ddp.specs.Datagram.{Datagram, checksum_of, datagram}
use Rattle.ddp.proofs.Agreement.{spells_with_hops, value_agrees}
use Rattle.ddp.proofs.Shape.{bytes_laid, datagram_lawful, laid}
use Rattle.legal_runs.specs.Answers.{IsBody}
use Rattle.legal_runs.specs.Requests.{packet_in, request, value_of as value_in}
use Rattle.legal_runs.proofs.Frames.{Framed, inside_is}
use Rattle.nbp.specs.Packets.{NbpPacket, packet, names_in}
use Rattle.station.specs.Lawful.{are_bytes}
use Rattle.station.specs.Values.{datagram_at}
use Rattle.station.specs.Ways.{checks}

-- Bytes that spell a datagram begin with it.
pub begins_whole : (bytes : List ℕ) (d : Datagram) → Spells datagram bytes d → Begins datagram bytes d
begins_whole bytes d s = subst (λ (b : List ℕ). Begins datagram b d) (append-nil bytes) (spelled_begins datagram bytes [] d s)

-- ---- The result of reading

same_value : {E A B : Type 0} (x : Result (A × B) E) → value_in x ≡ value_of x
same_value (Ok x) = refl
same_value (Err e) = refl

-- The packet of a request in a datagram.
abbrev pub names_of : Datagram → Option NbpPacket
names_of d = cond (d.kind == 2 && d.target_socket == 2) (names_in d.payload) None

-- The request in bytes that spell a datagram.
pub request_in : (bytes : List ℕ) (d : Datagram) → Spells datagram bytes d → request bytes ≡ names_of d
unfolding request names_in
request_in bytes d s =
    let b = begins_whole bytes d s in
    ap (λ x. packet_in (value_in x)) (begins_read packets datagram datagram_lawful bytes d b)
    ∙ ap (λ o. cond (d.kind == 2 && d.target_socket == 2) o None) (same_value (read packets packet d.payload))

at_bytes : (bytes : List ℕ) (d : Datagram) → Spells datagram bytes d → datagram_at bytes ≡ Some d
unfolding datagram_at
at_bytes bytes d s = ap value_of (begins_read packets datagram datagram_lawful bytes d (begins_whole bytes d s))

-- ---- Fields that stay the same

-- The datagram with another hop count.
abbrev pub hopped : ℕ → Datagram → Datagram
hopped n d = record d { hops = n }

-- The checksum doesn't depend on the hop count.
sum_stays : (n : ℕ) (d : Datagram) → checksum_of (hopped n d) ≡ checksum_of d
sum_stays n d = ap (λ b. sum_of (drop 4 b)) (bytes_laid (hopped n d)) ∙ ap (λ b. sum_of (drop 4 b)) (sym (bytes_laid d))

checked : (n : ℕ) (d : Datagram) → (d.checksum ≡ 0) ⊎ (d.checksum ≡ checksum_of d) → checks (hopped n d) ≡ true
checked n d (inl e) = or_left (d.checksum == 0) _ (eq-eqb d.checksum 0 e)
checked n d (inr e) = or_right (d.checksum == 0) _ (eq-eqb d.checksum (checksum_of (hopped n d)) (e ∙ sym (sum_stays n d)))

drop_all : (n : ℕ) (bytes : List ℕ) → are_bytes bytes ≡ true → are_bytes (drop n bytes) ≡ true
drop_all zero bytes e = e
drop_all (suc n) [] e = refl
drop_all (suc n) (b ∷ bytes) e = drop_all n bytes (and_parts (nat_lt b 256) (list_all (λ b. nat_lt b 256) bytes) e).1

-- The data of a datagram are bytes.
pub data_bytes : (d : Datagram) (bytes : List ℕ) → bytes ≡ laid d → IsTrue (are_bytes bytes) → IsTrue (are_bytes d.payload)
data_bytes d bytes is each = drop_all 13 (laid d) (subst (λ (b : List ℕ). are_bytes b ≡ true) is each)

-- ---- The datagram of a frame

-- The datagram that a station reads from a frame's bytes: it is whole and agrees with the bytes.
pub record Inside (bytes : List ℕ) : Type 0 where
  pub d : Datagram
  pub read_is : datagram_at bytes ≡ Some d
  pub spelled : Spells datagram bytes d
  pub hops_is : hops bytes ≡ d.hops
  pub target_is : target bytes ≡ d.target
  pub checks_is : checks d ≡ true
  pub each : IsTrue (are_bytes d.payload)
  pub asks : request (body bytes) ≡ names_of d

pub inside : (bytes : List ℕ) → Framed bytes → IsBody (body bytes) → Inside bytes
inside bytes f is =
    let d = hopped f.count is.value in
    let same : bytes ≡ with_hops f.count (body bytes) = f.is ∙ ap (with_hops f.count) (sym (inside_is bytes f)) in
    let s : Spells datagram bytes d =
    subst (λ (b : List ℕ). Spells datagram b d) (sym same) (spells_with_hops f.count (body bytes) is.value f.few is.spelled) in
    let a = value_agrees bytes d (begins_whole bytes d s) in
    record {
      d = d;
      read_is = at_bytes bytes d s;
      spelled = s;
      hops_is = a.0;
      target_is = a.1;
      checks_is = checked f.count is.value is.sum;
      each = data_bytes is.value (body bytes) (is.spelled.1 ∙ bytes_laid is.value) is.each;
      asks = request_in (body bytes) is.value is.spelled;
    }
