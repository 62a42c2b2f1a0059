-- The index of the last occurrence of a byte, one more byte at a time.
use Rattle.std.proofs.Common.{◌≡◌, ℕ, ◌+◌, ◌<◌, true, false, cond, ◌==◌, List, [], ◌∷◌, ◌++◌, length, take, get_or}
use Rattle.std.proofs.Common.{Option, Some, None, refl, sym, ap, ◌∙◌, eq-eqb, ◌≢◌, ◌-◌, drop, ltb, arith}
use Rattle.std.specs.Prelude.{IfSome}
use Rattle.std.proofs.lemmas.Bool.Decides.{nat_tests}
use Rattle.std.proofs.lemmas.List.{take_more, take_rest, drop-take, length-take-le}
use Rattle.std.proofs.lemmas.Bool.{lt-ltb}
use Rattle.std.specs.List.{position}
use Rattle.script.specs.Lines.{last_place, parts}

last_of_more : (byte b : ℕ) (bytes : List ℕ) → last_place byte (bytes ++ b ∷ [])
    ≡ cond (b == byte) (Some (length bytes)) (last_place byte bytes)
last_of_more byte b [] = refl
last_of_more byte b (x ∷ bytes) =
    let rest = last_of_more byte b bytes in
    let next : length bytes + 1 ≡ length (x ∷ bytes) = omega arith in
    (elim (b == byte) as (λ t. (b == byte) ≡ t → last_place byte (x ∷ bytes ++ b ∷ [])
    ≡ cond t (Some (length (x ∷ bytes))) (last_place byte (x ∷ bytes))) [
      | true ↦ λ t. rw (rest, t, next) refl
      | false ↦ λ t. rw (rest, t) refl
    ]) refl

-- The next byte is an occurrence.
pub last_is_here : (byte : ℕ) (bytes : List ℕ) (k d : ℕ) → k < length bytes → get_or bytes k d ≡ byte
    → last_place byte (take (k + 1) bytes) ≡ Some k
last_is_here byte bytes k d lt e =
    let len : length (take k bytes) ≡ k = length-take-le k bytes (omega arith) in
    let same : (get_or bytes k d == byte) ≡ true = eq-eqb _ _ e in
    rw (take_more bytes k d lt, last_of_more byte (get_or bytes k d) (take k bytes), len, same) refl

-- The next byte is another byte.
pub last_is_before : (byte : ℕ) (bytes : List ℕ) (k d : ℕ) → k < length bytes → get_or bytes k d ≢ byte
    → last_place byte (take (k + 1) bytes) ≡ last_place byte (take k bytes)
last_is_before byte bytes k d lt ne =
    let other : (get_or bytes k d == byte) ≡ false = grind (arith, nat_tests) in
    rw (take_more bytes k d lt, last_of_more byte (get_or bytes k d) (take k bytes), other) refl

pub still_below : (place : Option ℕ) (n : ℕ) → IfSome place (λ k. k < n) → IfSome place (λ k. k < n + 1)
still_below None n h = tt
still_below (Some k) n h = omega arith

-- The parts, by the indexes of the colon and the at sign.
pub parts_at : (text : List ℕ) (colon at : ℕ) → Some colon ≡ position (λ b. b == 58) text → Some at ≡ last_place 64 text
    → colon < at → at < length text
    → Some (record {
      object = take colon text;
      kind = take (at - (colon + 1)) (drop (colon + 1) text);
      zone = take (length text - (at + 1)) (drop (at + 1) text);
    }) ≡ parts text
parts_at text colon at first last lt inside =
    let between : take (at - (colon + 1)) (drop (colon + 1) text) ≡ drop (colon + 1) (take at text) =
    sym (drop-take (colon + 1) (at - (colon + 1)) text)
    ∙ ap (λ (n : ℕ). drop (colon + 1) (take n text)) (let e : colon + 1 + (at - (colon + 1)) ≡ at = omega arith in e) in
    let test : ltb colon at ≡ true = lt-ltb _ _ lt in
    rw (← first, ← last, test, between, take_rest text (at + 1)) refl
