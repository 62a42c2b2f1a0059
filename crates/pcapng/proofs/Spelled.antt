-- Classic captures are read back.
use Rattle.std.proofs.Common.{◌≡◌, ℕ, ◌+◌, ◌-◌, ◌*◌, ◌^◌, ◌<◌, ◌≤◌, true, false, not, List, [], ◌++◌, length, take, Ok, refl, sym, ap, ◌∙◌, arith, append_assoc, nat_lt}
use Rattle.std.proofs.lemmas.Bool.{le-ltb}
use Rattle.std.proofs.lemmas.List.{append-nil, length-append}
use Rattle.std.specs.Int.{w16, w32}
use Rattle.at_base.proofs.Fields.{bytes_again}
use Rattle.at_base.specs.Reading.{bytes_at}
use Rattle.pcapng.proofs.Begun.{four_again, head_again, in_four, length_four, length_two, two_again}
use Rattle.pcapng.proofs.Fronts.{front_short}
use Rattle.pcapng.specs.Classics.{classic_interface, header_in, per_second, record_in}
use Rattle.pcapng.specs.First.{IsFirst}
use Rattle.pcapng.specs.Heads.{classic_head, front, head_by, head_of, header_head, is_section, is_short, max_block, max_len}
use Rattle.pcapng.specs.Orders.{number_of}
use Rattle.pcapng.specs.Packets.{Packed, time_on}
use Rattle.pcapng.specs.Sections.{block_of, classic, opens, packs, unread}
use Rattle.pcapng.specs.Spelled.{bytes_in, header_bytes, magic_of, micros_of, record_bytes}
use Rattle.pcapng.specs.declared.fault.Fault.TheVariants.{Cut}
use Rattle.pcapng.specs.declared.form.Began.TheVariants as began
use Rattle.pcapng.specs.declared.form.Forms.TheVariants.{Either}
use Rattle.pcapng.specs.declared.head.Head.{Head}
use Rattle.pcapng.specs.declared.interface.Interface.{Interface}
use Rattle.pcapng.specs.declared.item.Fraction.{Fraction}
use Rattle.pcapng.specs.declared.item.Fraction.TheVariants.{Micros, Nanos}
use Rattle.pcapng.specs.declared.item.Item.TheVariants.{Record}
use Rattle.pcapng.specs.declared.order.Order.{Order}
use Rattle.pcapng.specs.declared.order.Order.TheVariants.{Big, Little}

-- ---- parts

regroup : (a b c d e rest : List ℕ) → (a ++ (b ++ (c ++ (d ++ e)))) ++ rest ≡ a ++ ((b ++ c) ++ (d ++ (e ++ rest)))
regroup a b c d e rest = simp append_assoc

regroup_three : (a b c e rest : List ℕ) → (a ++ (b ++ (c ++ e))) ++ rest ≡ a ++ (b ++ (c ++ (e ++ rest)))
regroup_three a b c e rest = simp append_assoc

-- the same where nothing follows
four_last : (o : Order) (n : ℕ) → n < 2 ^ 32 → number_of o w32 (bytes_in o w32 n) ≡ Ok (n, [])
four_last o n fits = ap (λ (x : List ℕ). number_of o w32 x) (sym (append-nil (bytes_in o w32 n))) ∙ four_again o n [] fits

all_again : (bytes : List ℕ) → bytes_at Cut (length bytes) bytes ≡ Ok (bytes, [])
all_again bytes = ap (λ (x : List ℕ). bytes_at Cut (length bytes) x) (sym (append-nil bytes)) ∙ bytes_again (length bytes) Cut bytes [] refl

-- the time of a record
time_again : (f : Fraction) (link seconds fraction : ℕ) → seconds < 2 ^ 32 → fraction < 2 ^ 32
    → time_on (classic_interface f link) (seconds * per_second (classic_interface f link) + fraction) ≡ micros_of f seconds fraction
time_again Micros link seconds fraction s f = omega (arith, s, f)
time_again Nanos link seconds fraction s f = omega (arith, s, f)

-- ---- headers

magic_again : (o : Order) (f : Fraction) → classic_head (bytes_in o w32 (magic_of f)) ≡ Ok (header_head o f)
magic_again Big Micros = refl
magic_again Big Nanos = refl
magic_again Little Micros = refl
magic_again Little Nanos = refl

no_section : (o : Order) (f : Fraction) → is_section (bytes_in o w32 (magic_of f)) ≡ false
no_section Big Micros = refl
no_section Big Nanos = refl
no_section Little Micros = refl
no_section Little Nanos = refl

module _ (o : Order) (f : Fraction) (zone accuracy limit link : ℕ) (z : zone < 2 ^ 32) (a : accuracy < 2 ^ 32) (m : limit < 2 ^ 32) (l : link < 2 ^ 32) where
  abbrev versions : List ℕ
  versions = bytes_in o w16 2 ++ bytes_in o w16 4

  abbrev unused : List ℕ
  unused = bytes_in o w32 zone ++ (bytes_in o w32 accuracy ++ bytes_in o w32 limit)

  unused_len : length unused ≡ 12
  unused_len =
      omega (arith, length-append (bytes_in o w32 zone) (bytes_in o w32 accuracy ++ bytes_in o w32 limit), length-append (bytes_in o w32 accuracy) (bytes_in o w32 limit), length_four o zone, length_four o accuracy, length_four o limit)

  after_versions : bytes_in o w32 zone ++ (bytes_in o w32 accuracy ++ (bytes_in o w32 limit ++ bytes_in o w32 link)) ≡ unused ++ bytes_in o w32 link
  after_versions =
      ap (λ (x : List ℕ). bytes_in o w32 zone ++ x) (sym (append_assoc (bytes_in o w32 accuracy) (bytes_in o w32 limit) (bytes_in o w32 link)))
      ∙ sym (append_assoc (bytes_in o w32 zone) (bytes_in o w32 accuracy ++ bytes_in o w32 limit) (bytes_in o w32 link))

  header_len : length (header_bytes o f zone accuracy limit link) ≡ 24
  header_len =
      let rest = unused ++ bytes_in o w32 link in
      let same = ap (λ (x : List ℕ). length x) after_versions in
      omega (
        arith,
        same,
        unused_len,
        length-append unused (bytes_in o w32 link),
        length_four o link,
        length_four o (magic_of f),
        length_two o 2,
        length_two o 4,
        length-append (bytes_in o w32 (magic_of f)) (bytes_in o w16 2 ++ (bytes_in o w16 4 ++ (bytes_in o w32 zone ++ (bytes_in o w32 accuracy ++ (bytes_in o w32 limit ++ bytes_in o w32 link))))),
        length-append (bytes_in o w16 2) (bytes_in o w16 4 ++ (bytes_in o w32 zone ++ (bytes_in o w32 accuracy ++ (bytes_in o w32 limit ++ bytes_in o w32 link)))),
        length-append (bytes_in o w16 4) (bytes_in o w32 zone ++ (bytes_in o w32 accuracy ++ (bytes_in o w32 limit ++ bytes_in o w32 link))),
      )

  header_says : header_in o f (header_bytes o f zone accuracy limit link) ≡ Ok (classic_interface f link)
  header_says =
      let rest1 = bytes_in o w32 zone ++ (bytes_in o w32 accuracy ++ (bytes_in o w32 limit ++ bytes_in o w32 link)) in
      let magic = bytes_again 4 Cut (bytes_in o w32 (magic_of f)) (bytes_in o w16 2 ++ (bytes_in o w16 4 ++ rest1)) (length_four o (magic_of f)) in
      let major = two_again o 2 (bytes_in o w16 4 ++ rest1) (omega arith) in
      let minor = two_again o 4 rest1 (omega arith) in
      let skipped : bytes_at Cut 12 rest1 ≡ Ok (unused, bytes_in o w32 link) =
      ap (λ (x : List ℕ). bytes_at Cut 12 x) after_versions ∙ bytes_again 12 Cut unused (bytes_in o w32 link) unused_len in
      rw (magic, major, minor, skipped, four_last o link l) refl

  pub header_again : (rest : List ℕ) → IsFirst (unread Either) (header_bytes o f zone accuracy limit link ++ rest)
      (opens (classic_interface f link)) (classic o (classic_interface f link)) rest
  header_again rest =
      let h = header_head o f in
      let whole = header_bytes o f zone accuracy limit link in
      let end = bytes_in o w32 accuracy ++ (bytes_in o w32 limit ++ bytes_in o w32 link) in
      let parts : whole ++ rest ≡ bytes_in o w32 (magic_of f) ++ (versions ++ (bytes_in o w32 zone ++ (end ++ rest))) =
      regroup (bytes_in o w32 (magic_of f)) (bytes_in o w16 2) (bytes_in o w16 4) (bytes_in o w32 zone) end rest in
      let four : length versions ≡ 4 = omega (arith, length-append (bytes_in o w16 2) (bytes_in o w16 4), length_two o 2, length_two o 4) in
      let by : head_by (began.Nothing Either) (bytes_in o w32 (magic_of f)) versions (bytes_in o w32 zone) ≡ Ok h = rw (no_section o f, magic_again o f) refl in
      let head : head_of (began.Nothing Either) (take 12 (whole ++ rest)) ≡ Ok h =
      ap (λ (x : List ℕ). head_of (began.Nothing Either) (take 12 x)) parts
      ∙ (head_again (began.Nothing Either) (bytes_in o w32 (magic_of f)) versions (bytes_in o w32 zone) (end ++ rest) (length_four o (magic_of f)) four (length_four o zone) ∙ by) in
      let there = bytes_again 24 Cut whole rest header_len in
      rw (head, there, header_says) refl

-- ---- records

module _ (o : Order) (f : Fraction) (link seconds fraction len : ℕ) (bytes : List ℕ) (s : seconds < 2 ^ 32) (r : fraction < 2 ^ 32) (l : len < 2 ^ 32)
    (few : length bytes ≤ 2032) where
  abbrev i : Interface
  i = classic_interface f link

  abbrev record_of : Head
  record_of = record { order = o; item = Record; len = 16 + length bytes }

  record_len : length (record_bytes o seconds fraction len bytes) ≡ 16 + length bytes
  record_len =
      omega (
        arith,
        length_four o seconds,
        length_four o fraction,
        length_four o (length bytes),
        length_four o len,
        length-append (bytes_in o w32 seconds) (bytes_in o w32 fraction ++ (bytes_in o w32 (length bytes) ++ (bytes_in o w32 len ++ bytes))),
        length-append (bytes_in o w32 fraction) (bytes_in o w32 (length bytes) ++ (bytes_in o w32 len ++ bytes)),
        length-append (bytes_in o w32 (length bytes)) (bytes_in o w32 len ++ bytes),
        length-append (bytes_in o w32 len) bytes,
      )

  abbrev seen : Packed
  seen = record {
    interface = 0;
    time = micros_of f seconds fraction;
    ethernet = i.ethernet;
    whole = not (nat_lt (length bytes) len);
    lost = false;
    bytes = bytes;
  }

  record_says : record_in i o (record_bytes o seconds fraction len bytes) ≡ Ok seen
  record_says =
      let third = bytes_in o w32 len ++ bytes in
      let second = bytes_in o w32 (length bytes) ++ third in
      let a = four_again o seconds (bytes_in o w32 fraction ++ second) s in
      let b = four_again o fraction second r in
      let c = four_again o (length bytes) third (omega (arith, few)) in
      let d = four_again o len bytes l in
      let e = all_again bytes in
      rw (a, b, c, d, e, time_again f link seconds fraction s r) refl

  pub record_again : (rest : List ℕ) → IsFirst (classic o i) (record_bytes o seconds fraction len bytes ++ rest) (packs seen) (classic o i) rest
  record_again rest =
      let h = record_of in
      let whole = record_bytes o seconds fraction len bytes in
      let end = bytes_in o w32 len ++ bytes in
      let parts : whole ++ rest ≡ bytes_in o w32 seconds ++ (bytes_in o w32 fraction ++ (bytes_in o w32 (length bytes) ++ (end ++ rest))) =
      regroup_three (bytes_in o w32 seconds) (bytes_in o w32 fraction) (bytes_in o w32 (length bytes)) end rest in
      let no : nat_lt max_len (16 + length bytes) ≡ false = le-ltb _ _ (omega (arith, few)) in
      let by : head_by (began.Classic o) (bytes_in o w32 seconds) (bytes_in o w32 fraction) (bytes_in o w32 (length bytes)) ≡ Ok h =
      rw (in_four o (length bytes) (omega (arith, few)), no) refl in
      let head : head_of (began.Classic o) (take 12 (whole ++ rest)) ≡ Ok h =
      ap (λ (x : List ℕ). head_of (began.Classic o) (take 12 x)) parts
      ∙ (head_again (began.Classic o) (bytes_in o w32 seconds) (bytes_in o w32 fraction) (bytes_in o w32 (length bytes)) (end ++ rest)
      (length_four o seconds) (length_four o fraction) (length_four o (length bytes)) ∙ by) in
      let short : 16 + length bytes ≤ max_block = omega (arith, few) in
      let there : bytes_at Cut (front h) (whole ++ rest) ≡ Ok (whole, rest) =
      ap (λ n. bytes_at Cut n (whole ++ rest)) (front_short h short) ∙ bytes_again (16 + length bytes) Cut whole rest record_len in
      let is_whole : is_short h ≡ true = let no2 : nat_lt max_block (16 + length bytes) ≡ false = le-ltb _ _ short in rw no2 refl in
      let told : block_of (classic o i) h whole ≡ Ok (packs seen, classic o i) = rw (is_whole, record_says) refl in
      let none : h.len - front h ≡ 0 = omega (arith, front_short h short) in
      rw (head, there, told, none) refl
