-- Heads and numbers that were written are read back.
use Rattle.std.proofs.Common.{◌≡◌, ℕ, ◌+◌, ◌-◌, ◌^◌, ◌<◌, ◌≤◌, true, false, List, [], ◌++◌, length, take, drop, Ok, refl, sym, ap, ◌∙◌, arith, append_assoc, nat_lt}
use Rattle.std.proofs.lemmas.Bool.{eq-eqb, le-ltb}
use Rattle.std.proofs.lemmas.List.{append-nil, drop_at, length-append, take_at}
use Rattle.std.proofs.lemmas.Nat.{from_be_bytes-to_be_bytes_2, from_be_bytes-to_be_bytes_4, from_le_bytes-to_le_bytes_2, from_le_bytes-to_le_bytes_4}
use Rattle.std.specs.Int.{w16, w32}
use Rattle.at_base.proofs.Fields.{bytes_again}
use Rattle.at_base.specs.Reading.{bytes_at}
use Rattle.pcapng.proofs.Fronts.{front_short}
use Rattle.pcapng.specs.Fields.{four_bytes}
use Rattle.pcapng.specs.First.{IsFirst}
use Rattle.pcapng.specs.Heads.{front, head_by, head_of, is_short, max_block}
use Rattle.pcapng.specs.Orders.{number_in, number_of}
use Rattle.pcapng.specs.Sections.{Section, Told, between, block_of, body_of}
use Rattle.pcapng.specs.Spelled.{bytes_in}
use Rattle.pcapng.specs.declared.fault.Fault.TheVariants.{Cut}
use Rattle.pcapng.specs.declared.form.Began.{Began}
use Rattle.pcapng.specs.declared.head.Head.{Head}
use Rattle.pcapng.specs.declared.item.Item.TheVariants.{Block}
use Rattle.pcapng.specs.declared.order.Order.{Order}
use Rattle.pcapng.specs.declared.order.Order.TheVariants.{Big, Little}

pub length_four : (order : Order) (n : ℕ) → length (bytes_in order w32 n) ≡ 4
length_four Big n = refl
length_four Little n = refl

pub length_two : (order : Order) (n : ℕ) → length (bytes_in order w16 n) ≡ 2
length_two Big n = refl
length_two Little n = refl

pub in_four : (order : Order) (n : ℕ) → n < 2 ^ 32 → number_in order w32 (bytes_in order w32 n) ≡ n
in_four Big n fits = from_be_bytes-to_be_bytes_4 n fits
in_four Little n fits = from_le_bytes-to_le_bytes_4 n fits

in_two : (order : Order) (n : ℕ) → n < 2 ^ 16 → number_in order w16 (bytes_in order w16 n) ≡ n
in_two Big n fits = from_be_bytes-to_be_bytes_2 n fits
in_two Little n fits = from_le_bytes-to_le_bytes_2 n fits

pub four_again : (order : Order) (n : ℕ) (rest : List ℕ) → n < 2 ^ 32 → number_of order w32 (bytes_in order w32 n ++ rest) ≡ Ok (n, rest)
four_again order n rest fits =
    rw (bytes_again 4 Cut (bytes_in order w32 n) rest (length_four order n), in_four order n fits) refl

pub two_again : (order : Order) (n : ℕ) (rest : List ℕ) → n < 2 ^ 16 → number_of order w16 (bytes_in order w16 n ++ rest) ≡ Ok (n, rest)
two_again order n rest fits =
    rw (bytes_again 2 Cut (bytes_in order w16 n) rest (length_two order n), in_two order n fits) refl

-- ---- heads

module _ (b : Began) (first second third more : List ℕ) (f : length first ≡ 4) (s : length second ≡ 4) (t : length third ≡ 4) where
  twelve : take 12 (first ++ (second ++ (third ++ more))) ≡ first ++ (second ++ third)
  twelve =
      let whole : first ++ (second ++ (third ++ more)) ≡ (first ++ (second ++ third)) ++ more =
      ap (λ (l : List ℕ). first ++ l) (sym (append_assoc second third more)) ∙ sym (append_assoc first (second ++ third) more) in
      let len : length (first ++ (second ++ third)) ≡ 12 = omega (arith, f, s, t, length-append first (second ++ third), length-append second third) in
      ap (λ (l : List ℕ). take 12 l) whole ∙ take_at (first ++ (second ++ third)) more 12 len

  -- the head is that of the first three words
  pub head_again : head_of b (take 12 (first ++ (second ++ (third ++ more)))) ≡ head_by b first second third
  head_again =
      let last : bytes_at Cut 4 third ≡ Ok (third, []) =
      ap (λ (l : List ℕ). bytes_at Cut 4 l) (sym (append-nil third)) ∙ bytes_again 4 Cut third [] t in
      ap (head_of b) twelve ∙ rw (bytes_again 4 Cut first (second ++ third) f, bytes_again 4 Cut second third s, last) refl

-- ---- a whole block of pcapng

module _ (s : Section) (h : Head) (kind : ℕ) (body rest : List ℕ) (order : h.order ≡ Big) (item : h.item ≡ Block kind) (len : length body + 12 ≡ h.len)
    (short : h.len ≤ max_block) where
  abbrev pub block : List ℕ
  block = four_bytes kind ++ (four_bytes h.len ++ (body ++ four_bytes h.len))

  grouped : block ≡ (four_bytes kind ++ (four_bytes h.len ++ body)) ++ four_bytes h.len
  grouped =
      ap (λ (l : List ℕ). four_bytes kind ++ l) (sym (append_assoc (four_bytes h.len) body (four_bytes h.len)))
      ∙ sym (append_assoc (four_bytes kind) (four_bytes h.len ++ body) (four_bytes h.len))

  eight : four_bytes kind ++ (four_bytes h.len ++ body) ≡ (four_bytes kind ++ four_bytes h.len) ++ body
  eight = sym (append_assoc (four_bytes kind) (four_bytes h.len) body)

  front_len : length (four_bytes kind ++ (four_bytes h.len ++ body)) ≡ h.len - 4
  front_len =
      omega (arith, len, length-append (four_bytes kind) (four_bytes h.len ++ body), length-append (four_bytes h.len) body, length_four Big kind, length_four Big h.len)

  whole_len : length block ≡ h.len
  whole_len =
      let all = ap (λ (l : List ℕ). length l) grouped in
      omega (arith, len, all, front_len, length-append (four_bytes kind ++ (four_bytes h.len ++ body)) (four_bytes h.len), length_four Big h.len)

  is_whole : is_short h ≡ true
  is_whole = let no : nat_lt max_block h.len ≡ false = le-ltb _ _ short in rw no refl

  between_again : between h block ≡ Ok body
  between_again =
      let fits : h.len < 2 ^ 32 = omega (arith, short) in
      let last : drop (h.len - 4) block ≡ four_bytes h.len =
      ap (λ (l : List ℕ). drop (h.len - 4) l) grouped ∙ drop_at (four_bytes kind ++ (four_bytes h.len ++ body)) (four_bytes h.len) (h.len - 4) front_len in
      let front_is : take (h.len - 4) block ≡ (four_bytes kind ++ four_bytes h.len) ++ body =
      ap (λ (l : List ℕ). take (h.len - 4) l) grouped
      ∙ (take_at (four_bytes kind ++ (four_bytes h.len ++ body)) (four_bytes h.len) (h.len - 4) front_len ∙ eight) in
      let inner : drop 8 ((four_bytes kind ++ four_bytes h.len) ++ body) ≡ body =
      drop_at (four_bytes kind ++ four_bytes h.len) body 8 (omega (arith, length-append (four_bytes kind) (four_bytes h.len), length_four Big kind, length_four Big h.len)) in
      rw (is_whole, last, order, in_four Big h.len fits, eq-eqb h.len h.len refl, front_is, inner) refl

  pub block_again : (head : head_of s.began (take 12 (block ++ rest)) ≡ Ok h) (t : Told) (after : Section) → body_of s h kind body ≡ Ok (t, after)
      → IsFirst s (block ++ rest) t after rest
  block_again head t after says =
      let there : bytes_at Cut (front h) (block ++ rest) ≡ Ok (block, rest) =
      ap (λ n. bytes_at Cut n (block ++ rest)) (front_short h short) ∙ bytes_again h.len Cut block rest whole_len in
      let told : block_of s h block ≡ Ok (t, after) = rw (item, between_again) says in
      let none : h.len - front h ≡ 0 = omega (arith, front_short h short) in
      rw (head, there, told, none) refl
