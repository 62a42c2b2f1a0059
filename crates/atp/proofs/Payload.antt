-- The data of a packet: bytes up to the end of the input.
use Rattle.std.proofs.Common.{◌≡◌, ℕ, zero, suc, ◌≤◌, ◌<◌, ◌%◌, ◌++◌, List, [], ◌∷◌, length, Ok, refl, ap, ◌∙◌, arith}
use Rattle.at_base.specs.Packets.{packets}
use Rattle.at_base.specs.Reading.{read, many_at}
use Rattle.at_base.specs.Spelling.{bytes_of, list_bytes}
use Rattle.at_base.proofs.Fields.{IsBytes}
use Rattle.at_base.proofs.Items.{many_turn}
use Rattle.at_base.proofs.Laws.{read_again}
use Rattle.atp.specs.Packets.{data_byte}

byte_read : (low b : ℕ) (rest : List ℕ) → b < 256 → read packets (data_byte low) (b ∷ rest) ≡ Ok (b, rest)
byte_read low b rest lt =
    let same : b % 256 ≡ b = omega arith in
    let whole : b ∷ rest ≡ bytes_of (data_byte low) b ++ rest = ap (λ (x : ℕ). x ∷ rest) (omega arith) in
    ap (read packets (data_byte low)) whole ∙ read_again packets (data_byte low) (λ n p. (refl, tt)) b rest ((omega arith, refl), refl) tt

pub payload_read : (low most : ℕ) (bytes : List ℕ) → IsBytes bytes → length bytes ≤ most
    → many_at (λ low. read packets (data_byte low)) (λ b. 0) low most bytes ≡ Ok bytes
payload_read low zero [] fits le = refl
payload_read low zero (b ∷ bytes) fits le = absurd (omega arith)
payload_read low (suc most) [] fits le = refl
payload_read low (suc most) (b ∷ bytes) fits le =
    many_turn (λ low. read packets (data_byte low)) (λ b. 0) low most (b ∷ bytes) (omega arith)
    ∙ rw (byte_read low b bytes (fits 0), payload_read 0 most bytes (λ i. fits (suc i)) (omega arith)) refl

pub whole_read : (bytes : List ℕ) → IsBytes bytes → many_at (λ low. read packets (data_byte low)) (λ b. 0) 0 (length bytes) bytes ≡ Ok bytes
whole_read bytes fits = payload_read 0 (length bytes) bytes fits (omega arith)

-- the bytes of data are the data itself
pub payload_bytes : (low : ℕ) (bytes : List ℕ) → IsBytes bytes → list_bytes (λ low. bytes_of (data_byte low)) (λ b. 0) low bytes ≡ bytes
payload_bytes low [] fits = refl
payload_bytes low (b ∷ bytes) fits =
    let h = fits 0 in
    let same : b % 256 ≡ b = omega arith in
    let rest = payload_bytes 0 bytes (λ i. fits (suc i)) in
    rw (rest) (ap (λ (x : ℕ). x ∷ bytes) (omega arith))
