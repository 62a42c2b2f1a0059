-- Fields, blocks and frames are values of their formats.
use Rattle.std.proofs.Common.{◌≡◌, ℕ, ◌+◌, ◌*◌, ◌/◌, ◌%◌, ◌^◌, ◌<◌, Bool, true, false, List, length, Option, None, refl}
use Rattle.std.proofs.Common.{ap, arith}
use Rattle.std.proofs.lemmas.Bool.{eq-eqb}
use Rattle.std.proofs.lemmas.List.{length-replicate}
use Rattle.at_base.proofs.Texts.{same_bytes_self}
use Rattle.at_base.specs.Spelling.{IsValue}
use Rattle.pcapng.proofs.Laid.{options_seen}
use Rattle.pcapng.specs.Blocks.{PacketBlock, interface, interface_total, options, packet_block, packet_total, section}
use Rattle.pcapng.specs.Blocks.{wrong_captured}
use Rattle.pcapng.specs.Fields.{Wrong, any, filling, four, gap, only, only_bytes}

-- a number passes the test of itself
pub only_self : (n : ℕ) → only n n ≡ None
only_self n = rw (eq-eqb n n refl) refl

-- bytes pass the test of themselves
pub only_bytes_self : (bytes : List ℕ) → only_bytes bytes bytes ≡ None
only_bytes_self bytes = rw (same_bytes_self bytes) refl

-- a number that fits four bytes and passes the test is a value
pub four_value : (wrong : ℕ → Option Wrong) (n : ℕ) → n < 2 ^ 32 → wrong n ≡ None → IsValue (four wrong) n
unfolding four
four_value wrong n fits passes =
    let whole : n / 65536 * 65536 + n % 65536 ≡ n = omega arith in
    ((omega arith, refl), ((omega arith, rw whole passes), whole))

-- a number of four bytes that any value passes, and one that only itself passes
any_value : (n : ℕ) → n < 2 ^ 32 → IsValue (four any) n
any_value n fits = four_value any n fits refl

only_value : (n : ℕ) → n < 2 ^ 32 → IsValue (four (only n)) n
only_value n fits = four_value (only n) n fits (only_self n)

pub section_value : IsValue section tt
unfolding section
section_value = (
  only_value 0x0A0D0D0A (omega arith),
  (
    only_value 28 (omega arith),
    (
      only_value 0x1A2B3C4D (omega arith),
      ((omega arith, refl), ((omega arith, refl), ((refl, refl), (only_value 28 (omega arith), refl)))),
    ),
  ),
)

pub interface_value : (name : List ℕ) → length name < 2 ^ 16 → IsValue interface name
unfolding interface
interface_value name few =
    let all = interface_total name in
    let most : interface_total name < 2 ^ 32 = omega arith in
    let zeros : length (filling (length name)) ≡ gap (length name) = length-replicate (gap (length name)) 0 in (
      only_value 1 (omega arith),
      (
        any_value all most,
        (
          (omega arith, refl),
          (
            (omega arith, refl),
            (
              only_value 0 (omega arith),
              (
                (omega arith, refl),
                (
                  (omega arith, rw (eq-eqb all all refl) refl),
                  (
                    (refl, refl),
                    ((zeros, only_bytes_self (filling (length name))), (only_value 0 (omega arith), (only_value all most, refl))),
                  ),
                ),
              ),
            ),
          ),
        ),
      ),
    )

options_value : (lost : Bool) → IsValue (options lost) lost
unfolding options
options_value false = refl
options_value true = ((omega arith, refl), ((omega arith, refl), ((refl, refl), (only_value 0 (omega arith), refl))))

-- the length of a packet fits that of its block
captured_passes : (len : ℕ) (lost : Bool) → wrong_captured (packet_total len lost) len ≡ None
captured_passes len true = rw (eq-eqb (packet_total len true) (packet_total len true) refl) refl
captured_passes len false = rw (options_seen len false, eq-eqb (packet_total len false) (packet_total len false) refl) refl

total_few : (len : ℕ) (lost : Bool) → len < 2 ^ 16 → packet_total len lost < 2 ^ 32
total_few len true few = omega arith
total_few len false few = omega arith

pub packet_value : (b : PacketBlock) → b.interface < 256 → b.time < 2 ^ 64 → length b.packet < 2 ^ 16 → IsValue packet_block b
unfolding packet_block
packet_value b seat time few =
    let n = length b.packet in
    let all = packet_total n b.lost in
    let most = total_few n b.lost few in
    let zeros : length (filling n) ≡ gap n = length-replicate (gap n) 0 in
    let whole : b.time / 2 ^ 32 * 2 ^ 32 + b.time % 2 ^ 32 ≡ b.time = omega arith in
    let same : (t : ℕ) → t ≡ b.time → record b { time = t } ≡ b = λ t e. ap (λ (u : ℕ). record b { time = u }) e in (
      only_value 6 (omega arith),
      (
        any_value all most,
        (
          any_value b.interface (omega arith),
          (
            any_value (b.time / 2 ^ 32) (omega arith),
            (
              any_value (b.time % 2 ^ 32) (omega arith),
              (
                four_value (wrong_captured all) n (omega arith) (captured_passes n b.lost),
                (
                  only_value n (omega arith),
                  (
                    (refl, refl),
                    (
                      (zeros, only_bytes_self (filling n)),
                      (rw (options_seen n b.lost) (options_value b.lost), (only_value all most, same _ whole)),
                    ),
                  ),
                ),
              ),
            ),
          ),
        ),
      ),
    )
