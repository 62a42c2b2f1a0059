-- A datagram and the bytes that begin with it have the same hop count, target and body.
use Rattle.std.proofs.Common.{◌≡◌, ◌≤◌, ℕ, ◌<◌, ◌+◌, ◌*◌, ◌/◌, ◌%◌, List, [], ◌++◌, length, take, refl, sym, ap, subst, ◌∙◌, arith}
use Rattle.std.specs.Int.{byte_at}
use Rattle.std.proofs.lemmas.List.{take_at, append-nil}
use Rattle.at_base.specs.declared.address.Addr.{Addr}
use Rattle.at_base.specs.Spelling.{bytes_of, Spells, Begins}
use Rattle.at_base.proofs.Readers.{spelled_begins, begins_one}
use Rattle.ddp.specs.declared.header.Header.{Header}
use Rattle.at_base.specs.Packets.{packets}
use Rattle.ddp.specs.Datagram.{Datagram, datagram, datagram_of, first_word, length_of}
use Rattle.ddp.specs.Bodies.{named_length, hops, target, with_hops, body}
use Rattle.ddp.proofs.Shape.{datagram_lawful, laid, bytes_laid, IsLaid, value_laid, laid_value}

-- the length in the bytes of a first word
word_length : (w : ℕ) → w < 65536 → byte_at 1 w % 4 * 256 + byte_at 0 w ≡ w % 1024
word_length w h = omega arith

word_hops : (w : ℕ) → w < 65536 → byte_at 1 w / 4 % 16 ≡ w / 1024 % 16
word_hops w h = omega arith

-- the bytes of a two-byte number give the number
word_again : (n : ℕ) → n < 65536 → byte_at 1 n * 256 + byte_at 0 n ≡ n
word_again n h = omega arith

length_is : (d : Datagram) → IsLaid d → first_word d % 1024 ≡ length_of d
length_is d h = omega (arith, h.len, h.least)

laid_length : (d : Datagram) (rest : List ℕ) → IsLaid d → named_length (laid d ++ rest) ≡ length_of d
laid_length d rest h = word_length (first_word d) h.word ∙ length_is d h

laid_hops : (d : Datagram) (rest : List ℕ) → IsLaid d → hops (laid d ++ rest) ≡ d.hops
laid_hops d rest h = word_hops (first_word d) h.word ∙ h.hops

laid_target : (d : Datagram) (rest : List ℕ) → IsLaid d → target (laid d ++ rest) ≡ d.target
laid_target d rest h =
    let net = word_again d.target.net h.target_net in
    let node : byte_at 0 d.target.node ≡ d.target.node = omega (arith, h.target_node) in
    let made : ℕ → ℕ → Addr = λ a b. record { net = a; node = b } in
    ap (λ (a : ℕ). made a (byte_at 0 d.target.node)) net ∙ ap (made d.target.net) node

-- the datagram with another hop count
abbrev hopped : ℕ → Datagram → Datagram
hopped n d = record d { hops = n }

first_bytes : (n : ℕ) (d : Datagram) → n ≤ 15 → IsLaid d
    → (byte_at 1 (first_word d) / 64 * 64 + n * 4 + byte_at 1 (first_word d) % 4 ≡ byte_at 1 (first_word (hopped n d)))
    × (byte_at 0 (first_word d) ≡ byte_at 0 (first_word (hopped n d)))
first_bytes n d few h =
    let k = length_is d h in
    (omega (arith, h.word, h.reserved, h.hops, h.most), omega (arith, h.word, h.reserved, h.hops, h.most))

laid_hopped : (n : ℕ) (d : Datagram) → n ≤ 15 → IsLaid d → with_hops n (laid d) ≡ laid (hopped n d)
laid_hopped n d few h = let f = first_bytes n d few h in rw (f.0, f.1) refl

hopped_laid : (n : ℕ) (d : Datagram) → n ≤ 15 → IsLaid d → IsLaid (hopped n d)
hopped_laid n d few h =
    let k = length_is d h in
    record {
      word = omega (arith, h.word, h.reserved, h.hops, h.most);
      least = omega (arith, h.word, h.reserved, h.hops, h.most, h.least);
      most = omega (arith, h.word, h.reserved, h.hops, h.most, h.least);
      checksum = h.checksum;
      target_net = h.target_net;
      source_net = h.source_net;
      target_node = h.target_node;
      source_node = h.source_node;
      target_socket = h.target_socket;
      source_socket = h.source_socket;
      kind = h.kind;
      len = omega (arith, h.word, h.reserved, h.hops, h.most, h.least, h.len);
      reserved = omega (arith, h.word, h.reserved, h.hops, h.most);
      hops = omega (arith, h.word, h.reserved, h.hops, h.most);
    }

laid_body : (d : Datagram) (rest : List ℕ) → IsLaid d → body (laid d ++ rest) ≡ bytes_of datagram (hopped 0 d)
laid_body d rest h =
    let len : length (laid d) ≡ length_of d = omega arith in
    let taken : take (named_length (laid d ++ rest)) (laid d ++ rest) ≡ laid d = ap (λ (n : ℕ). take n (laid d ++ rest))
    (laid_length d rest h) ∙ take_at (laid d) rest (length_of d) len in
    ap (with_hops 0) taken ∙ laid_hopped 0 d (omega arith) h ∙ sym (bytes_laid (hopped 0 d))

pub record Agrees (bytes : List ℕ) (d : Datagram) : Type 0 where
  pub hops : hops bytes ≡ d.hops
  pub target : target bytes ≡ d.target
  pub len : named_length bytes ≡ length_of d
  pub body : body bytes ≡ bytes_of datagram (hopped 0 d)

agreement : (bytes : List ℕ) (d : Datagram) → Begins datagram bytes d → Agrees bytes d
agreement bytes d (rest, parts, v, f) =
    let h = value_laid d v in
    let whole : laid d ++ rest ≡ bytes = sym (parts ∙ ap (λ (b : List ℕ). b ++ rest) (bytes_laid d)) in
    let there : Agrees (laid d ++ rest) d =
    record { hops = laid_hops d rest h; target = laid_target d rest h; len = laid_length d rest h; body = laid_body d rest h } in
    subst (λ (b : List ℕ). Agrees b d) whole there

pub value_agrees : (bytes : List ℕ) (d : Datagram) → Begins datagram bytes d
    → (hops bytes ≡ d.hops) × (target bytes ≡ d.target) × (named_length bytes ≡ length_of d) ×
    (body bytes ≡ bytes_of datagram (record d { hops = 0 }))
value_agrees bytes d b = let a = agreement bytes d b in (a.hops, a.target, a.len, a.body)

pub no_hops : (h : Header) (payload bytes : List ℕ) → Spells datagram bytes (datagram_of h payload)
    → (hops bytes ≡ 0) × (body bytes ≡ bytes)
no_hops h payload bytes s =
    let d = datagram_of h payload in
    let b : Begins datagram bytes d = subst (λ (b : List ℕ). Begins datagram b d) (append-nil bytes)
    (spelled_begins datagram bytes [] d s) in
    let a = agreement bytes d b in
    (a.hops, a.body ∙ sym s.1)

pub read_back : (h : Header) (payload bytes rest : List ℕ) → Spells datagram bytes (datagram_of h payload)
    → Begins datagram (bytes ++ rest) (datagram_of h payload) ×
    ((d : Datagram) → Begins datagram (bytes ++ rest) d → d ≡ datagram_of h payload)
read_back h payload bytes rest s =
    let b = spelled_begins datagram bytes rest (datagram_of h payload) s in
    (b, λ d c. begins_one packets datagram datagram_lawful (bytes ++ rest) (datagram_of h payload) d b c)

-- setting the hop count of a datagram changes only its first byte, whatever follows it
with_hops_front : (n : ℕ) (d : Datagram) (rest : List ℕ) → with_hops n (laid d ++ rest) ≡ with_hops n (laid d) ++ rest
with_hops_front n d rest = refl

pub read_with_hops : (n : ℕ) (bytes : List ℕ) (d : Datagram) → n ≤ 15 → Begins datagram bytes d
    → Begins datagram (with_hops n bytes) (record d { hops = n })
read_with_hops n bytes d few (rest, parts, v, f) =
    let h = value_laid d v in
    let e = hopped n d in
    let whole : bytes ≡ laid d ++ rest = parts ∙ ap (λ (b : List ℕ). b ++ rest) (bytes_laid d) in
    let set : with_hops n bytes ≡ laid e ++ rest =
    ap (with_hops n) whole ∙ with_hops_front n d rest ∙ ap (λ (b : List ℕ). b ++ rest) (laid_hopped n d few h) in
    let spelled : Spells datagram (laid e) e = (laid_value e (hopped_laid n d few h), sym (bytes_laid e)) in
    subst (λ (b : List ℕ). Begins datagram b e) (sym set) (spelled_begins datagram (laid e) rest e spelled)

pub spells_with_hops : (n : ℕ) (bytes : List ℕ) (d : Datagram) → n ≤ 15 → Spells datagram bytes d
    → Spells datagram (with_hops n bytes) (record d { hops = n })
spells_with_hops n bytes d few (v, parts) =
    let h = value_laid d v in
    let e = hopped n d in
    (laid_value e (hopped_laid n d few h), ap (with_hops n) (parts ∙ bytes_laid d) ∙ laid_hopped n d few h ∙ sym (bytes_laid e))
