-- Bytes whose length is that in their header are the bytes of the datagram in them.
use Rattle.std.proofs.Common.{◌≡◌, ℕ, ◌≤◌, ◌<◌, ◌+◌, ◌*◌, List, ◌∷◌, length, get_or, drop, refl, sym, ap, ◌∙◌, arith, drop-cons}
use Rattle.std.specs.Int.{byte_at}
use Rattle.std.proofs.lemmas.List.{length-drop}
use Rattle.at_base.proofs.Fields.{IsBytes}
use Rattle.ddp.specs.Datagram.{first_word}
use Rattle.ddp.specs.Bodies.{word_at, named_length}
use Rattle.ddp.specs.InPlace.{datagram_in, IsDatagram}
use Rattle.ddp.proofs.Shape.{laid, bytes_laid, IsLaid, laid_value}

-- the bytes of a header, and the bytes after it
pub header_first : (s : List ℕ) → 13 ≤ length s
    → s ≡ get_or s 0 0 ∷ get_or s 1 0 ∷ get_or s 2 0 ∷ get_or s 3 0 ∷ get_or s 4 0 ∷ get_or s 5 0 ∷ get_or s 6 0 ∷ get_or s 7 0
    ∷ get_or s 8 0 ∷ get_or s 9 0 ∷ get_or s 10 0 ∷ get_or s 11 0 ∷ get_or s 12 0 ∷ drop 13 s
header_first s h =
    let e0 : s ≡ get_or s 0 0 ∷ drop 1 s = drop-cons s 0 0 (omega arith) in
    let e1 : drop 1 s ≡ get_or s 1 0 ∷ drop 2 s = drop-cons s 1 0 (omega arith) in
    let e2 : drop 2 s ≡ get_or s 2 0 ∷ drop 3 s = drop-cons s 2 0 (omega arith) in
    let e3 : drop 3 s ≡ get_or s 3 0 ∷ drop 4 s = drop-cons s 3 0 (omega arith) in
    let e4 : drop 4 s ≡ get_or s 4 0 ∷ drop 5 s = drop-cons s 4 0 (omega arith) in
    let e5 : drop 5 s ≡ get_or s 5 0 ∷ drop 6 s = drop-cons s 5 0 (omega arith) in
    let e6 : drop 6 s ≡ get_or s 6 0 ∷ drop 7 s = drop-cons s 6 0 (omega arith) in
    let e7 : drop 7 s ≡ get_or s 7 0 ∷ drop 8 s = drop-cons s 7 0 (omega arith) in
    let e8 : drop 8 s ≡ get_or s 8 0 ∷ drop 9 s = drop-cons s 8 0 (omega arith) in
    let e9 : drop 9 s ≡ get_or s 9 0 ∷ drop 10 s = drop-cons s 9 0 (omega arith) in
    let e10 : drop 10 s ≡ get_or s 10 0 ∷ drop 11 s = drop-cons s 10 0 (omega arith) in
    let e11 : drop 11 s ≡ get_or s 11 0 ∷ drop 12 s = drop-cons s 11 0 (omega arith) in
    let e12 : drop 12 s ≡ get_or s 12 0 ∷ drop 13 s = drop-cons s 12 0 (omega arith) in
    cc

-- the first word of the datagram in the bytes
word_in : (s : List ℕ) → 13 ≤ length s → named_length s ≡ length s → first_word (datagram_in s) ≡ word_at 0 s
word_in s least named = omega (arith, length-drop 13 s)

pub high : (a b : ℕ) → a < 256 → b < 256 → byte_at 1 (a * 256 + b) ≡ a
high a b ha hb = omega arith

pub low : (a b : ℕ) → a < 256 → b < 256 → byte_at 0 (a * 256 + b) ≡ b
low a b ha hb = omega arith

parts_in : (s : List ℕ) → IsBytes s → 13 ≤ length s → named_length s ≡ length s → s ≡ laid (datagram_in s)
parts_in s fits least named =
    let front = header_first s least in
    let w : first_word (datagram_in s) ≡ get_or s 0 0 * 256 + get_or s 1 0 = word_in s least named in
    let b0 : byte_at 1 (first_word (datagram_in s)) ≡ get_or s 0 0 = ap (byte_at 1) w ∙ high _ _ (fits 0) (fits 1) in
    let b1 : byte_at 0 (first_word (datagram_in s)) ≡ get_or s 1 0 = ap (byte_at 0) w ∙ low _ _ (fits 0) (fits 1) in
    let b2 : byte_at 1 (word_at 2 s) ≡ get_or s 2 0 = high _ _ (fits 2) (fits 3) in
    let b3 : byte_at 0 (word_at 2 s) ≡ get_or s 3 0 = low _ _ (fits 2) (fits 3) in
    let b4 : byte_at 1 (word_at 4 s) ≡ get_or s 4 0 = high _ _ (fits 4) (fits 5) in
    let b5 : byte_at 0 (word_at 4 s) ≡ get_or s 5 0 = low _ _ (fits 4) (fits 5) in
    let b6 : byte_at 1 (word_at 6 s) ≡ get_or s 6 0 = high _ _ (fits 6) (fits 7) in
    let b7 : byte_at 0 (word_at 6 s) ≡ get_or s 7 0 = low _ _ (fits 6) (fits 7) in
    let b8 : byte_at 0 (get_or s 8 0) ≡ get_or s 8 0 = omega (arith, fits 8) in
    let b9 : byte_at 0 (get_or s 9 0) ≡ get_or s 9 0 = omega (arith, fits 9) in
    let b10 : byte_at 0 (get_or s 10 0) ≡ get_or s 10 0 = omega (arith, fits 10) in
    let b11 : byte_at 0 (get_or s 11 0) ≡ get_or s 11 0 = omega (arith, fits 11) in
    let b12 : byte_at 0 (get_or s 12 0) ≡ get_or s 12 0 = omega (arith, fits 12) in
    front ∙ sym (rw (b0, b1, b2, b3, b4, b5, b6, b7, b8, b9, b10, b11, b12) refl)

laid_in : (s : List ℕ) → IsBytes s → 13 ≤ length s → length s ≤ 599 → named_length s ≡ length s → IsLaid (datagram_in s)
laid_in s fits least most named =
    let w = word_in s least named in
    record {
      word = omega (arith, w, fits 0, fits 1);
      least = omega (arith, w);
      most = omega (arith, w);
      checksum = omega (arith, fits 2, fits 3);
      target_net = omega (arith, fits 4, fits 5);
      source_net = omega (arith, fits 6, fits 7);
      target_node = fits 8;
      source_node = fits 9;
      target_socket = fits 10;
      source_socket = fits 11;
      kind = fits 12;
      len = omega (arith, w, length-drop 13 s);
      reserved = omega (arith, w, fits 0, fits 1);
      hops = omega (arith, w, fits 0, fits 1);
    }

pub datagram_there : (s : List ℕ) → IsBytes s → 13 ≤ length s → length s ≤ 599 → named_length s ≡ length s → IsDatagram s
datagram_there s fits least most named = record {
  whole = (laid_value (datagram_in s) (laid_in s fits least most named), parts_in s fits least named ∙ sym (bytes_laid (datagram_in s)));
  least = least;
  most = most;
}
