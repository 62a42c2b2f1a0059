-- Bounds of values that exist.
use Rattle.std.proofs.Common.{◌≡◌, ℕ, suc, ◌*◌, ◌≤◌, ◌&&◌, ◌==◌, List, [], ◌∷◌, length, refl, subst, arith}
use Rattle.std.specs.Prelude.{Option, Some, None, ℤ, pos, negsuc, nat_le, option_map}
use Rattle.std.specs.List.{slice_split}
use Rattle.std.proofs.lemmas.Bool.{and_parts, eqb-true, leb-true}
use Rattle.toml.specs.Data.{Data, as_integer, as_str}
use Rattle.at_base.specs.declared.address.Addr.{Addr}
use Rattle.at_base.specs.declared.address.Hw.{Hw}
use Rattle.text.specs.Words.{address, byte, given, is_plain, nibble, number as word_number, pairs, value}
use Rattle.file_entries.specs.Values.{any_address, hardware, number, within}
use Rattle.file_entries.proofs.Given.{cond_is, cond_some, given_is, some_is}

within_is : (low high : ℕ) (z : ℤ) (n : ℕ) → within low high z ≡ Some n → (low ≤ n) × (n ≤ high)
within_is low high (pos m) n e =
    let c = cond_is (nat_le low m && nat_le m high) m n e in
    let p = and_parts (nat_le low m) (nat_le m high) c.0 in
    subst (λ k. (low ≤ k) × (k ≤ high)) c.1 (leb-true low m p.0, leb-true m high p.1)
within_is low high (negsuc m) n e = absurd cc

-- A number is within its bounds.
pub number_is : (low high : ℕ) (d : Data) (n : ℕ) → number low high d ≡ Some n → (low ≤ n) × (n ≤ high)
number_is low high d n e =
    let g = given_is (as_integer d) (within low high) n e in within_is low high g.0 n g.2

word_is : (max : ℕ) (w : List ℕ) (n : ℕ) → word_number max w ≡ Some n → n ≤ max
word_is max w n e =
    let c = cond_is (is_plain w && nat_le (value w) max) (value w) n e in
    let p = and_parts (is_plain w) (nat_le (value w) max) c.0 in
    subst (λ k. k ≤ max) c.1 (leb-true (value w) max p.1)

-- The numbers of an address fit their fields.
abbrev pub Fits : Addr → Type 0
Fits a = (a.net ≤ 65535) × (a.node ≤ 255)

spelled_is : (w : List ℕ) (a : Addr) → address w ≡ Some a → Fits a
spelled_is w a e = by (slice_split (λ b. b == 46) w) refl
  where
    by : (parts : List (List ℕ)) → slice_split (λ b. b == 46) w ≡ parts → Fits a
    by [] is = absurd (let f : None ≡ Some a = (rw is at e) in cc)
    by (net ∷ []) is = absurd (let f : None ≡ Some a = (rw is at e) in cc)
    by (net ∷ node ∷ []) is =
        let f : given (word_number 65535 net) (λ n. given (byte node) (λ k. Some (record { net = n; node = k }))) ≡ Some a = (rw is at e) in
        let n = given_is (word_number 65535 net) _ a f in
        let k = given_is (byte node) _ a n.2 in
        subst Fits (some_is k.2) (word_is 65535 net n.0 n.1, word_is 255 node k.0 k.1)
    by (net ∷ node ∷ more ∷ others) is = absurd (let f : None ≡ Some a = (rw is at e) in cc)

pub address_is : (d : Data) (a : Addr) → any_address d ≡ Some a → Fits a
address_is d a e = let g = given_is (as_str d) address a e in spelled_is g.0 a g.2

-- Pairs of digits are twice as many digits as bytes.
pairs_are : (s bytes : List ℕ) → pairs s ≡ Some bytes → length s ≡ 2 * length bytes
pairs_are [] bytes e = subst (λ l. 0 ≡ 2 * length l) (some_is e) refl
pairs_are (d ∷ []) bytes e = absurd cc
pairs_are (high ∷ low ∷ ds) bytes e =
    let h = given_is (nibble high) _ bytes e in
    let l = given_is (nibble low) _ bytes h.2 in
    let more = given_is (pairs ds) _ bytes l.2 in
    let rest = pairs_are ds more.0 more.1 in
    subst (λ all. suc (suc (length ds)) ≡ 2 * length all) (some_is more.2) (omega (arith, rest))

six_are : (s : List ℕ) (h : Hw) (found : Option (List ℕ)) → pairs s ≡ found
    → option_map (λ bytes. record { 0 = bytes }) found ≡ Some h → length s ≡ 12 → length h.0 ≡ 6
six_are s h None is made twelve = absurd cc
six_are s h (Some bytes) is made twelve =
    let half = pairs_are s bytes is in
    subst (λ (x : Hw). length x.0 ≡ 6) (some_is made) (omega (arith, half, twelve))

-- A hardware address has six bytes.
pub hardware_is : (d : Data) (h : Hw) → hardware d ≡ Some h → length h.0 ≡ 6
hardware_is d h e =
    let g = given_is (as_str d) _ h e in
    let c = cond_some (length g.0 == 12) (option_map (λ bytes. record { 0 = bytes }) (pairs g.0)) h g.2 in
    six_are g.0 h (pairs g.0) refl c.1 (eqb-true (length g.0) 12 c.0)
