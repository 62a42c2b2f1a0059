-- The format of a datagram: each projection gives its part; and the bytes of a datagram, one by one.
use Rattle.std.proofs.Common.{◌≡◌, ℕ, ◌≤◌, ◌<◌, ◌-◌, ◌/◌, ◌%◌, false, ltb, List, [], ◌∷◌, length, None, refl, ap, ◌∙◌, arith}
use Rattle.std.specs.Int.{byte_at}
use Rattle.std.proofs.lemmas.Bool.{ltb-false}
use Rattle.std.proofs.lemmas.List.{append-nil, length-append}
use Rattle.at_base.proofs.Fields.{not_wrong}
use Rattle.at_base.specs.Spelling.{IsValue, bytes_of}
use Rattle.at_base.specs.Lawful.{IsLawful}
use Rattle.ddp.specs.Datagram.{Datagram, datagram, first_word, wrong_word}

-- the length in a word that passes the test
pub word_passes : (w : ℕ) → wrong_word w ≡ None → (13 ≤ w % 1024) × (w % 1024 ≤ 599)
word_passes w h =
    let least = not_wrong (ltb (w % 1024) 13) _ _ h in
    let most = not_wrong (ltb 599 (w % 1024)) _ _ least.1 in
    (ltb-false _ _ least.0, ltb-false _ _ most.0)

pub datagram_lawful : IsLawful datagram
unfolding datagram
datagram_lawful = (
  λ y h. omega arith,
  λ w p1. (
    λ b p2 c p3 d p4 e p5 f p6 g p7 h p8 i p9 j p10. (let k = word_passes w p1.1 in omega (arith, k.0, p1.0, p10.0)),
    (
      λ y h. omega (arith, h.1.1.1.1.1.1.1.1.0.0, length-append y.payload []),
      λ b p2. (
        λ c p3 d p4 e p5 f p6 g p7 h p8 i p9 j p10. refl,
        λ c p3. (
          λ d p4 e p5 f p6 g p7 h p8 i p9 j p10. refl,
          λ d p4. (
            λ e p5 f p6 g p7 h p8 i p9 j p10. refl,
            λ e p5. (
              λ f p6 g p7 h p8 i p9 j p10. refl,
              λ f p6. (
                λ g p7 h p8 i p9 j p10. refl,
                λ g p7. (
                  λ h p8 i p9 j p10. refl,
                  λ h p8. (
                    λ i p9 j p10. refl,
                    λ i p9. (λ j p10. refl, λ j p10. (refl, tt)),
                  ),
                ),
              ),
            ),
          ),
        ),
      ),
    ),
  ),
)

-- the bytes of a datagram, one by one
abbrev pub laid : Datagram → List ℕ
laid d =
    byte_at 1 (first_word d) ∷ byte_at 0 (first_word d) ∷ byte_at 1 d.checksum ∷ byte_at 0 d.checksum
    ∷ byte_at 1 d.target.net ∷ byte_at 0 d.target.net ∷ byte_at 1 d.source.net ∷ byte_at 0 d.source.net
    ∷ byte_at 0 d.target.node ∷ byte_at 0 d.source.node ∷ byte_at 0 d.target_socket ∷ byte_at 0 d.source_socket ∷ byte_at 0 d.kind
    ∷ d.payload

pub bytes_laid : (d : Datagram) → bytes_of datagram d ≡ laid d
unfolding datagram
bytes_laid d = simp append-nil

-- the facts about a value of the format, field by field
pub record IsLaid (d : Datagram) : Type 0 where
  pub word : first_word d < 65536
  pub least : 13 ≤ first_word d % 1024
  pub most : first_word d % 1024 ≤ 599
  pub checksum : d.checksum < 65536
  pub target_net : d.target.net < 65536
  pub source_net : d.source.net < 65536
  pub target_node : d.target.node < 256
  pub source_node : d.source.node < 256
  pub target_socket : d.target_socket < 256
  pub source_socket : d.source_socket < 256
  pub kind : d.kind < 256
  pub len : length d.payload ≡ first_word d % 1024 - 13
  pub reserved : first_word d / 16384 ≡ d.reserved
  pub hops : first_word d / 1024 % 16 ≡ d.hops

pub value_laid : (d : Datagram) → IsValue datagram d → IsLaid d
unfolding datagram
value_laid d h =
    let k = word_passes (first_word d) h.0.1 in
    let last = h.1.1.1.1.1.1.1.1.1.1 in
    record {
      word = h.0.0;
      least = k.0;
      most = k.1;
      checksum = h.1.0.0;
      target_net = h.1.1.0.0;
      source_net = h.1.1.1.0.0;
      target_node = h.1.1.1.1.0.0;
      source_node = h.1.1.1.1.1.0.0;
      target_socket = h.1.1.1.1.1.1.0.0;
      source_socket = h.1.1.1.1.1.1.1.0.0;
      kind = h.1.1.1.1.1.1.1.1.0.0;
      len = h.1.1.1.1.1.1.1.1.1.0.0;
      reserved = ap (λ (x : Datagram). x.reserved) last;
      hops = ap (λ (x : Datagram). x.hops) last;
    }

passes_word : (w : ℕ) → 13 ≤ w % 1024 → w % 1024 ≤ 599 → wrong_word w ≡ None
passes_word w least most =
    let a : ltb (w % 1024) 13 ≡ false = grind arith in
    let b : ltb 599 (w % 1024) ≡ false = grind arith in
    rw (a, b) refl

pub laid_value : (d : Datagram) → IsLaid d → IsValue datagram d
unfolding datagram
laid_value d h =
    let made : ℕ → ℕ → Datagram = λ a b. record d { reserved = a; hops = b } in
    let whole : made (first_word d / 16384) (first_word d / 1024 % 16) ≡ d = ap
    (λ (a : ℕ). made a (first_word d / 1024 % 16)) h.reserved ∙ ap (made d.reserved) h.hops in (
      (h.word, passes_word (first_word d) h.least h.most),
      (
        (h.checksum, refl),
        (
          (h.target_net, refl),
          (
            (h.source_net, refl),
            (
              (h.target_node, refl),
              ((h.source_node, refl), ((h.target_socket, refl), ((h.source_socket, refl), ((h.kind, refl), ((h.len, refl), whole))))),
            ),
          ),
        ),
      ),
    )
