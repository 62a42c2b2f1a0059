-- Numbers and bytes in digits.
use Rattle.std.proofs.Common.{◌≡◌, ℕ, ◌+◌, ◌*◌, ◌/◌, ◌%◌, ◌^◌, ◌<◌, ◌≤◌, true, List, [], ◌∷◌, ◌++◌, length, take, drop}
use Rattle.std.proofs.Common.{slice_index, slice_set, refl, ap, sym, ◌∙◌, arith}
use Rattle.std.proofs.lemmas.List.{append_assoc, append-nil, drop_all, drop_more, take_all, take_more_set, length-set}
use Rattle.std.proofs.lemmas.Fmt.{decimal_digit, decimal_step}
use Rattle.std.proofs.Math.Seq.{take-append_seam}
use Rattle.std.specs.Fmt.{decimal, digit_glyph}
use Rattle.text.specs.Digits.{hex_text}

-- the last digit, appended after the digits before it
pub decimal_more : (n : ℕ) (old front new : List ℕ) → 10 ≤ n → n < 2 ^ 32 → front ≡ old ++ decimal (n / 10)
    → new ≡ front ++ (48 + n % 10) ∷ [] → new ≡ old ++ decimal n
decimal_more n old front new low high first last =
    last ∙ ap (λ f. f ++ (48 + n % 10) ∷ []) first
    ∙ append_assoc old (decimal (n / 10)) ((48 + n % 10) ∷ [])
    ∙ ap (λ d. old ++ d) (sym (decimal_step n low (omega arith)))

-- a number of two digits
pub two_digits : (n : ℕ) → 10 ≤ n → n < 100 → decimal n ≡ (48 + n / 10 % 10) ∷ (48 + n % 10) ∷ []
two_digits n low high =
    let tens : n / 10 ≡ n / 10 % 10 = omega arith in
    decimal_step n low (omega (arith, high))
    ∙ ap (λ d. d ++ (48 + n % 10) ∷ []) (decimal_digit (n / 10) (omega (arith, high)) ∙ ap (λ t. (48 + t) ∷ []) tens)

-- a number of three digits
pub three_digits : (n : ℕ) → 100 ≤ n → n < 1000 → decimal n ≡ (48 + n / 100 % 10) ∷ (48 + n / 10 % 10) ∷ (48 + n % 10) ∷ []
three_digits n low high =
    let hundreds : n / 10 / 10 % 10 ≡ n / 100 % 10 = omega arith in
    decimal_step n (omega (arith, low)) (omega (arith, high))
    ∙ ap (λ d. d ++ (48 + n % 10) ∷ [])
    (two_digits (n / 10) (omega (arith, low)) (omega (arith, high)) ∙ ap (λ h. (48 + h) ∷ (48 + n / 10 % 10) ∷ []) hundreds)

-- a number of four digits
pub four_digits : (n : ℕ) → 1000 ≤ n → n < 10000
    → decimal n ≡ (48 + n / 1000 % 10) ∷ (48 + n / 100 % 10) ∷ (48 + n / 10 % 10) ∷ (48 + n % 10) ∷ []
four_digits n low high =
    let thousands : n / 10 / 100 % 10 ≡ n / 1000 % 10 = omega arith in
    let hundreds : n / 10 / 10 % 10 ≡ n / 100 % 10 = omega arith in
    decimal_step n (omega (arith, low)) (omega (arith, high))
    ∙ ap (λ d. d ++ (48 + n % 10) ∷ [])
    (three_digits (n / 10) (omega (arith, low)) (omega (arith, high))
    ∙ (ap (λ t. (48 + t) ∷ (48 + n / 10 / 10 % 10) ∷ (48 + n / 10 % 10) ∷ []) thousands
    ∙ ap (λ h. (48 + n / 1000 % 10) ∷ (48 + h) ∷ (48 + n / 10 % 10) ∷ []) hundreds))

-- a number of five digits
pub five_digits : (n : ℕ) → 10000 ≤ n → n < 100000
    → decimal n ≡ (48 + n / 10000) ∷ (48 + n / 1000 % 10) ∷ (48 + n / 100 % 10) ∷ (48 + n / 10 % 10) ∷ (48 + n % 10) ∷ []
five_digits n low high =
    let first : n / 10 / 1000 % 10 ≡ n / 10000 = omega (arith, high) in
    let thousands : n / 10 / 100 % 10 ≡ n / 1000 % 10 = omega arith in
    let hundreds : n / 10 / 10 % 10 ≡ n / 100 % 10 = omega arith in
    decimal_step n (omega (arith, low)) (omega (arith, high))
    ∙ ap (λ d. d ++ (48 + n % 10) ∷ [])
    (four_digits (n / 10) (omega (arith, low)) (omega (arith, high))
    ∙ (ap (λ f. (48 + f) ∷ (48 + n / 10 / 100 % 10) ∷ (48 + n / 10 / 10 % 10) ∷ (48 + n / 10 % 10) ∷ []) first
    ∙ (ap (λ t. (48 + n / 10000) ∷ (48 + t) ∷ (48 + n / 10 / 10 % 10) ∷ (48 + n / 10 % 10) ∷ []) thousands
    ∙ ap (λ h. (48 + n / 10000) ∷ (48 + n / 1000 % 10) ∷ (48 + h) ∷ (48 + n / 10 % 10) ∷ []) hundreds)))

-- what was appended is cut off again
pub cut_back : (old mid new more : List ℕ) (start : ℕ) → start ≡ length old → mid ≡ old ++ more → new ≡ take start mid → new ≡ old
cut_back old mid new more start begins grown cut =
    cut ∙ ap (take start) grown ∙ ap (λ (n : ℕ). take n (old ++ more)) begins ∙ take-append_seam old more

-- after two writes in a row, the front of the list
pub take-two_writes : (xs : List ℕ) (o x y : ℕ) → o + 1 < length xs
    → take (o + 2) (slice_set (slice_set xs o x) (o + 1) y) ≡ take o xs ++ (x ∷ y ∷ [])
take-two_writes xs o x y fits =
    let len : length (slice_set xs o x) ≡ length xs = length-set xs o x in
    let two : o + 2 ≡ o + 1 + 1 = omega arith in
    let second = take_more_set (slice_set xs o x) (o + 1) y (omega (arith, len)) in
    let first = take_more_set xs o x (omega arith) in
    rw (two, second, first) (append_assoc (take o xs) (x ∷ []) (y ∷ []))

-- the digits of the bytes from one byte on
pub hex-drop : (xs : List ℕ) (i : ℕ) → i < length xs
    → hex_text (drop i xs)
    ≡ digit_glyph true (slice_index xs i / 16) ∷ digit_glyph true (slice_index xs i % 16) ∷ hex_text (drop (i + 1) xs)
hex-drop xs i h = rw (drop_more xs i 0 h) refl

-- the digits of one more byte are written
pub hex_step : (bytes out : List ℕ) (i x y : ℕ) → i < length bytes → 2 * i + 1 < length out
    → x ≡ digit_glyph true (slice_index bytes i / 16) → y ≡ digit_glyph true (slice_index bytes i % 16)
    → take (2 * i) out ++ hex_text (drop i bytes) ≡ hex_text bytes
    → take (2 * (i + 1)) (slice_set (slice_set out (2 * i) x) (2 * i + 1) y) ++ hex_text (drop (i + 1) bytes) ≡ hex_text bytes
hex_step bytes out i x y h fits ex ey inv =
    let two : 2 * (i + 1) ≡ 2 * i + 2 = omega arith in
    let front = take-two_writes out (2 * i) x y fits in
    let rest = hex-drop bytes i h in
    rw (two, front, append_assoc, ex, ey) (rw rest at inv)

-- the digits of all bytes are written
pub hex_done : (bytes out : List ℕ) (i : ℕ) → length bytes ≤ i → length out ≡ 2 * length bytes
    → take (2 * i) out ++ hex_text (drop i bytes) ≡ hex_text bytes
    → out ≡ hex_text bytes
hex_done bytes out i h len inv =
    let d = drop_all i bytes h in
    let a = take_all (2 * i) out (omega arith) in
    rw (d, a, append-nil) at inv
