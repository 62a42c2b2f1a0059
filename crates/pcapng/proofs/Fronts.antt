-- How much of a block is looked at.
use Rattle.std.proofs.Common.{◌≡◌, ℕ, ◌+◌, ◌<◌, ◌≤◌, true, false, refl, arith, inl, inr, nat_lt}
use Rattle.std.proofs.lemmas.Bool.{cases_lt, le-ltb, lt-ltb}
use Rattle.pcapng.specs.Heads.{FitsItem, front, long_front, max_block}
use Rattle.pcapng.specs.declared.head.Head.{Head}
use Rattle.pcapng.specs.declared.item.Item.{Item}
use Rattle.pcapng.specs.declared.item.Item.TheVariants.{Block, Header, Record}

pub front_short : (h : Head) → h.len ≤ max_block → front h ≡ h.len
front_short h short = let no : nat_lt max_block h.len ≡ false = le-ltb _ _ short in rw no refl

pub front_long : (h : Head) → max_block < h.len → front h ≡ long_front h.item
front_long h long = let yes : nat_lt max_block h.len ≡ true = lt-ltb _ _ long in rw yes refl

pub long_least : (i : Item) → 16 ≤ long_front i
long_least (Block kind) = omega arith
long_least (Header fraction) = omega arith
long_least Record = omega arith

long_few : (i : Item) → long_front i ≤ max_block
long_few (Block kind) = omega arith
long_few (Header fraction) = omega arith
long_few Record = omega arith

pub front_few : (h : Head) → front h ≤ max_block
front_few h =
    elim (cases_lt max_block h.len) [
      | inl long ↦ omega (arith, front_long h long, long_few h.item)
      | inr short ↦ omega (arith, front_short h short, short)
    ]

pub front_least : (h : Head) → 12 ≤ h.len → 12 ≤ front h
front_least h least =
    elim (cases_lt max_block h.len) [
      | inl long ↦ omega (arith, front_long h long, long_least h.item)
      | inr short ↦ omega (arith, front_short h short, least)
    ]

-- at least four bytes are left of a long block
pub front_left : (h : Head) → FitsItem h.item h.len → max_block < h.len → 4 + front h ≤ h.len
front_left h fits long = let left = by h.item h.len fits long in omega (arith, front_long h long, left)
  where
    by : (i : Item) (len : ℕ) → FitsItem i len → max_block < len → 4 + long_front i ≤ len
    by (Block kind) len (least, words) long = omega (arith, words, long)
    by (Header fraction) len is long = omega (arith, is, long)
    by Record len least long = omega (arith, long)

pub fits_least : (i : Item) (len : ℕ) → FitsItem i len → 12 ≤ len
fits_least (Block kind) len (least, words) = least
fits_least (Header fraction) len is = omega (arith, is)
fits_least Record len least = omega (arith, least)
