-- The bytes of blocks and frames, part by part.
use Rattle.std.proofs.Common.{◌≡◌, ℕ, ◌+◌, ◌/◌, ◌%◌, ◌^◌, ◌<◌, ◌≤◌, ◌==◌, Bool, true, false, List, [], ◌∷◌, ◌++◌, length, codes}
use Rattle.std.proofs.Common.{Option, inl, inr, refl, arith}
use Rattle.std.specs.Int.{byte_at}
use Rattle.std.specs.Fmt.{decimal}
use Rattle.std.proofs.lemmas.Bool.{eq-eqb}
use Rattle.std.proofs.lemmas.Bool.Decides.{eqb_tells}
use Rattle.std.proofs.lemmas.Fmt.{length-decimal-le}
use Rattle.std.proofs.lemmas.List.{append_assoc, length-append}
use Rattle.at_base.specs.Spelling.{bytes_of}
use Rattle.pcapng.specs.Blocks.{PacketBlock, interface, interface_total, options, packet_block, packet_total, wrong_captured}
use Rattle.pcapng.specs.Captures.{cable_name}
use Rattle.pcapng.specs.Fields.{Wrong, any, filling, four, four_bytes, only, two_bytes}

-- two lists of four numbers, which are equal one by one
four_alike : {a b c d k l m n : ℕ} → a ≡ k → b ≡ l → c ≡ m → d ≡ n → a ∷ b ∷ c ∷ d ∷ [] ≡ k ∷ l ∷ m ∷ n ∷ []
four_alike p q r s = rw (p, q, r, s) refl

-- a number of four bytes is its halves
pub four_laid : (wrong : ℕ → Option Wrong) (n : ℕ) → n < 2 ^ 32 → bytes_of (four wrong) n ≡ four_bytes n
unfolding four
four_laid wrong n fits =
    let a : byte_at 1 (n / 65536) ≡ byte_at 3 n = omega arith in
    let b : byte_at 0 (n / 65536) ≡ byte_at 2 n = omega arith in
    let c : byte_at 1 (n % 65536) ≡ byte_at 1 n = omega arith in
    let d : byte_at 0 (n % 65536) ≡ byte_at 0 n = omega arith in
    four_alike a b c d

-- the parts of an interface description, grouped as they are printed and as the format has them
regroup_name : (h k n p f g : List ℕ) → h ++ (k ++ n ++ p) ++ f ++ g ≡ h ++ (k ++ (n ++ (p ++ (f ++ g))))
regroup_name h k n p f g = simp append_assoc

-- what is printed of an interface with a name is its block
pub interface_laid : (name : List ℕ) (total : ℕ) → length name < 2 ^ 16 → total ≡ interface_total name
    → (four_bytes 1 ++ four_bytes total ++ two_bytes 1 ++ two_bytes 0 ++ four_bytes 0)
    ++ (two_bytes 2 ++ two_bytes (length name) ++ name ++ filling (length name)) ++ four_bytes 0 ++ four_bytes total
    ≡ bytes_of interface name
unfolding interface
interface_laid name total few is =
    let most : interface_total name < 2 ^ 32 = omega arith in
    let all = interface_total name in
    rw (is, four_laid (only 1) 1 (omega arith), four_laid any all most, four_laid (only 0) 0 (omega arith), four_laid (only all) all most)
    (regroup_name (four_bytes 1 ++ four_bytes all ++ two_bytes 1 ++ two_bytes 0 ++ four_bytes 0) (two_bytes 2 ++ two_bytes (length name))
    name (filling (length name)) (four_bytes 0) (four_bytes all))

-- whether a block has options is seen from its length
pub options_seen : (len : ℕ) (lost : Bool) → (packet_total len true == packet_total len lost) ≡ lost
options_seen len true = eq-eqb _ _ refl
options_seen len false =
    elim (eqb_tells (packet_total len true) (packet_total len false)) [ inl p ↦ absurd (omega (arith, p.1)) | inr p ↦ p.0 ]

-- the parts of a packet's block, grouped as they are printed and as the format has them
regroup_packet : (h p f o g : List ℕ) → h ++ p ++ f ++ o ++ g ≡ h ++ (p ++ (f ++ (o ++ g)))
regroup_packet h p f o g = simp append_assoc

-- what is printed of a packet is its block
pub packet_laid : (b : PacketBlock) (len total : ℕ) → b.interface < 256 → b.time < 2 ^ 64 → len < 2 ^ 16 → len ≡ length b.packet
    → total ≡ packet_total len b.lost
    → (four_bytes 6 ++ four_bytes total ++ four_bytes b.interface ++ (four_bytes (b.time / 2 ^ 32) ++ four_bytes (b.time % 2 ^ 32))
    ++ four_bytes len ++ four_bytes len) ++ b.packet ++ filling len ++ bytes_of (options b.lost) b.lost ++ four_bytes total
    ≡ bytes_of packet_block b
unfolding packet_block
packet_laid b len total seat time few same is =
    let more = length_few b.lost in
    let most : packet_total (length b.packet) b.lost < 2 ^ 32 = omega (arith, more) in
    let all = packet_total (length b.packet) b.lost in
    let n = length b.packet in
    rw (
      is,
      same,
      options_seen n b.lost,
      four_laid (only 6) 6 (omega arith),
      four_laid any all most,
      four_laid any b.interface (omega arith),
      four_laid any (b.time / 2 ^ 32) (omega arith),
      four_laid any (b.time % 2 ^ 32) (omega arith),
      four_laid (wrong_captured all) n (omega arith),
      four_laid (only n) n (omega arith),
      four_laid (only all) all most,
    )
    (regroup_packet (four_bytes 6 ++ four_bytes all ++ four_bytes b.interface
    ++ (four_bytes (b.time / 2 ^ 32) ++ four_bytes (b.time % 2 ^ 32)) ++ four_bytes n ++ four_bytes n)
    b.packet (filling n) (bytes_of (options b.lost) b.lost) (four_bytes all))
  where
    length_few : (lost : Bool) → packet_total (length b.packet) lost < 2 ^ 32
    length_few true = omega arith
    length_few false = omega arith

-- a cable's name is short
pub name_few : (cable start end : ℕ) → cable < 256 → start < 65536 → end < 65536 → length (cable_name cable start end) ≤ 22
name_few cable start end c s e =
    let a = length-decimal-le 3 (cable + 1) (omega arith) (omega arith) (omega arith) in
    let b = length-decimal-le 5 start (omega arith) (omega arith) (omega arith) in
    let d = length-decimal-le 5 end (omega arith) (omega arith) (omega arith) in
    let e1 = length-append (decimal (cable + 1) ++ codes ", ") (decimal start ++ codes "-" ++ decimal end) in
    let e2 = length-append (decimal (cable + 1)) (codes ", ") in
    let e3 = length-append (decimal start ++ codes "-") (decimal end) in
    let e4 = length-append (decimal start) (codes "-") in
    omega (arith, e1, e2, e3, e4, a, b, d)
