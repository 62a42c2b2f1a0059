-- Reading a datagram where the bytes have an extent.
use Rattle.std.proofs.Common.{◌≡◌, ℕ, ◌≤◌, ◌<◌, ◌-◌, ◌%◌, true, false, ltb, List, ◌∷◌, ◌++◌, length, get_or, take, drop, Some, None, Ok}
use Rattle.std.proofs.Common.{Err, refl, sym, subst, ◌∙◌, inl, inr, arith, drop-cons}
use Rattle.std.specs.Int.{w16, to_be_bytes}
use Rattle.std.proofs.lemmas.Bool.{ltb-true, ltb-false, lt-ltb, le-ltb}
use Rattle.std.proofs.lemmas.List.{length-drop, length-take, take-append-drop, get_or-take}
use Rattle.at_base.specs.declared.error.Error.{Error}
use Rattle.at_base.specs.declared.error.Error.TheVariants.{Truncated, BadLength}
use Rattle.at_base.specs.Spelling.{Begins}
use Rattle.at_base.specs.FirstFault.{FirstFault}
use Rattle.at_base.specs.Reading.{Reads}
use Rattle.at_base.proofs.Fields.{IsBytes, ok, ok_is, IsBytes-take, guard_ok, guard_err}
use Rattle.at_base.proofs.Laws.{read_refused}
use Rattle.at_base.proofs.Readers.{spelled_begins, begins_read, reads_ok, reads_err}
use Rattle.at_base.specs.Packets.{packets}
use Rattle.ddp.specs.Datagram.{Datagram, datagram, wrong_word}
use Rattle.ddp.specs.Bodies.{word_at, named_length}
use Rattle.ddp.specs.InPlace.{datagram_in, IsDatagram, extent}
use Rattle.ddp.proofs.Shape.{datagram_lawful}
use Rattle.ddp.proofs.Places.{high, low, datagram_there}

-- the facts about an extent that was found
pub record IsExtent (bytes : List ℕ) (n : ℕ) : Type 0 where
  pub is : n ≡ named_length bytes
  pub least : 13 ≤ n
  pub most : n ≤ 599
  pub there : n ≤ length bytes

pub extent_found : (bytes : List ℕ) (n : ℕ) → extent bytes ≡ Ok n → IsExtent bytes n
extent_found bytes n e =
    let a = guard_ok (ltb (length bytes) 13) Truncated _ n e in
    let b = guard_ok (ltb (named_length bytes) 13) BadLength _ n a.1 in
    let c = guard_ok (ltb 599 (named_length bytes)) BadLength _ n b.1 in
    let d = guard_ok (ltb (length bytes) (named_length bytes)) Truncated (Ok (named_length bytes)) n c.1 in
    let is : named_length bytes ≡ n = ok_is {E = Error} (named_length bytes) n d.1 in
    let least = ltb-false _ _ b.0 in
    let most = ltb-false _ _ c.0 in
    let there = ltb-false _ _ d.0 in
    record { is = sym is; least = omega arith; most = omega arith; there = omega arith }

-- the bytes up to an extent that was found are one datagram
pub extent_datagram : (bytes : List ℕ) (n : ℕ) → IsBytes bytes → IsExtent bytes n → IsDatagram (take n bytes)
extent_datagram bytes n fits h =
    let len : length (take n bytes) ≡ n = omega (arith, length-take n bytes, h.there) in
    let first : get_or (take n bytes) 0 0 ≡ get_or bytes 0 0 = get_or-take n bytes 0 0 (omega (arith, h.least)) in
    let second : get_or (take n bytes) 1 0 ≡ get_or bytes 1 0 = get_or-take n bytes 1 0 (omega (arith, h.least)) in
    datagram_there (take n bytes) (IsBytes-take n bytes fits) (omega (arith, h.least)) (omega (arith, h.most)) (omega (arith, h.is))

pub extent_begins : (bytes : List ℕ) (n : ℕ) → IsBytes bytes → IsExtent bytes n → Begins datagram bytes (datagram_in (take n bytes))
extent_begins bytes n fits h =
    subst (λ (b : List ℕ). Begins datagram b (datagram_in (take n bytes))) (take-append-drop n bytes)
    (spelled_begins datagram (take n bytes) (drop n bytes) (datagram_in (take n bytes)) (extent_datagram bytes n fits h).whole)

pub extent_read : (bytes : List ℕ) (n : ℕ) → IsBytes bytes → IsExtent bytes n
    → Reads packets datagram (λ d. d) (λ d. d) bytes (Ok (datagram_in (take n bytes)))
extent_read bytes n fits h =
    let b = extent_begins bytes n fits h in
    reads_ok packets datagram (λ d. d) (λ d. d) datagram_lawful bytes _ (datagram_in (take n bytes)) b.0 fits
    (begins_read packets datagram datagram_lawful bytes _ b) refl

-- the first word of the bytes
first_two : (bytes : List ℕ) → IsBytes bytes → 2 ≤ length bytes → bytes ≡ to_be_bytes w16 (word_at 0 bytes) ++ drop 2 bytes
first_two bytes fits h =
    let e0 : bytes ≡ get_or bytes 0 0 ∷ drop 1 bytes = drop-cons bytes 0 0 (omega arith) in
    let e1 : drop 1 bytes ≡ get_or bytes 1 0 ∷ drop 2 bytes = drop-cons bytes 1 0 (omega arith) in
    let b0 = high (get_or bytes 0 0) (get_or bytes 1 0) (fits 0) (fits 1) in
    let b1 = low (get_or bytes 0 0) (get_or bytes 1 0) (fits 0) (fits 1) in
    let whole : bytes ≡ get_or bytes 0 0 ∷ get_or bytes 1 0 ∷ drop 2 bytes = cc in
    whole ∙ sym (rw (b0, b1) refl)

word_length : (bytes : List ℕ) → IsBytes bytes → word_at 0 bytes % 1024 ≡ named_length bytes
word_length bytes fits = omega (arith, fits 0, fits 1)

too_short : (w : ℕ) → w % 1024 < 13 → wrong_word w ≡ Some BadLength
too_short w h = let a : ltb (w % 1024) 13 ≡ true = lt-ltb _ _ h in rw a refl

too_long : (w : ℕ) → 599 < w % 1024 → wrong_word w ≡ Some BadLength
too_long w h =
    let a : ltb (w % 1024) 13 ≡ false = le-ltb _ _ (omega arith) in
    let b : ltb 599 (w % 1024) ≡ true = lt-ltb _ _ h in
    rw (a, b) refl

good : (w : ℕ) → 13 ≤ w % 1024 → w % 1024 ≤ 599 → wrong_word w ≡ None
good w h k =
    let a : ltb (w % 1024) 13 ≡ false = le-ltb _ _ h in
    let b : ltb 599 (w % 1024) ≡ false = le-ltb _ _ k in
    rw (a, b) refl

word_fits : (bytes : List ℕ) → IsBytes bytes → word_at 0 bytes < 65536
word_fits bytes fits = omega (arith, fits 0, fits 1)

bad_length : (bytes : List ℕ) → IsBytes bytes → 13 ≤ length bytes → wrong_word (word_at 0 bytes) ≡ Some BadLength
    → FirstFault packets datagram bytes BadLength
unfolding datagram
bad_length bytes fits h wrong =
    inr (h, inl (inr (word_at 0 bytes, drop 2 bytes, BadLength, first_two bytes fits (omega arith), word_fits bytes fits, wrong, refl)))

cut_short : (bytes : List ℕ) → IsBytes bytes → 13 ≤ length bytes → 13 ≤ named_length bytes → named_length bytes ≤ 599
    → length bytes < named_length bytes → FirstFault packets datagram bytes Truncated
unfolding datagram
cut_short bytes fits h least most short =
    let is = word_length bytes fits in
    let missing : length (drop 2 bytes) < word_at 0 bytes % 1024 - 2 = omega (arith, length-drop 2 bytes) in
    inr (
      h,
      inr (
        word_at 0 bytes,
        drop 2 bytes,
        first_two bytes fits (omega arith),
        (word_fits bytes fits, good (word_at 0 bytes) (omega arith) (omega arith)),
        inl (missing, refl),
      ),
    )

no_header : (bytes : List ℕ) → length bytes < 13 → FirstFault packets datagram bytes Truncated
unfolding datagram
no_header bytes h = inl (h, refl)

pub extent_fault : (bytes : List ℕ) (e : Error) → IsBytes bytes → extent bytes ≡ Err e → FirstFault packets datagram bytes e
extent_fault bytes e fits h =
    let is = word_length bytes fits in
    let fault : Error → Type 0 = λ x. FirstFault packets datagram bytes x in
    elim (guard_err (ltb (length bytes) 13) Truncated _ e h) [
      | inl p ↦ subst fault (sym p.1) (no_header bytes (ltb-true _ _ p.0))
      | inr a ↦ elim (guard_err (ltb (named_length bytes) 13) BadLength _ e a.1) [
        | inl p ↦ subst fault (sym p.1) (bad_length bytes fits (ltb-false _ _ a.0)
            (too_short (word_at 0 bytes) (omega (arith, ltb-true _ _ p.0))))
        | inr b ↦ elim (guard_err (ltb 599 (named_length bytes)) BadLength _ e b.1) [
          | inl p ↦ subst fault (sym p.1) (bad_length bytes fits (ltb-false _ _ a.0)
              (too_long (word_at 0 bytes) (omega (arith, ltb-true _ _ p.0))))
          | inr c ↦ elim (guard_err (ltb (length bytes) (named_length bytes)) Truncated (Ok (named_length bytes)) e c.1) [
            | inl p ↦ subst fault (sym p.1) (cut_short bytes fits (ltb-false _ _ a.0) (ltb-false _ _ b.0) (ltb-false _ _ c.0)
                (ltb-true _ _ p.0))
            | inr d ↦ absurd (let impossible : ok {E = Error} (named_length bytes) ≡ Err e = d.1 in cc)
          ]
        ]
      ]
    ]

pub extent_refused : (bytes : List ℕ) (e : Error) → IsBytes bytes → extent bytes ≡ Err e
    → Reads {X = Datagram} packets datagram (λ d. d) (λ d. d) bytes (Err e)
extent_refused bytes e fits h =
    let f = extent_fault bytes e fits h in
    reads_err packets datagram (λ d. d) (λ d. d) datagram_lawful bytes e fits (read_refused packets datagram datagram_lawful bytes e f)
