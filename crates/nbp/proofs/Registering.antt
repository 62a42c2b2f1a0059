-- Registered names: the least free enumerator, and the effects of adding and removing a name.
use Rattle.std.proofs.Common.{◌≡◌, ℕ, zero, suc, ◌+◌, ◌<◌, ◌≤◌, Bool, true, false, not, ◌||◌, ◌==◌, List, [], ◌∷◌, length, filter, insert}
use Rattle.std.proofs.Common.{refl, ap, arith, nat_lt, nat_le}
use Rattle.std.specs.List.{All}
use Rattle.std.proofs.lemmas.Bool.{and_parts, or_parts, ltb-true, ltb-false, lt-ltb, leb-true, eqb-true, ne_eqb, eqb-false}
use Rattle.std.proofs.lemmas.List.Elements.{All-filter}
use Rattle.at_base.specs.Text.{IsEntity, is_entity}
use Rattle.at_base.proofs.Lists.{few_filter}
use Rattle.nbp.specs.declared.names.Named.{Named}
use Rattle.nbp.specs.Registered.{IsNamed, IsNames, IsLeastFree, are_above, is_registrable, has, free_from, with_name, without, before}

-- ---- names above a number

above_lower : (low high : ℕ) (names : List Named) → low ≤ high → are_above high names ≡ true → are_above low names ≡ true
above_lower low high [] le h = refl
above_lower low high (n ∷ names) le h =
    let p = and_parts (nat_lt high n.enumerator) (are_above n.enumerator names) h in
    let first : nat_lt low n.enumerator ≡ true = lt-ltb _ _ (omega (arith, ltb-true _ _ p.0)) in
    rw (first, p.1) refl

-- no name has a number that all names are above
none_has : (m low : ℕ) (names : List Named) → m ≤ low → are_above low names ≡ true → has m names ≡ false
none_has m low [] le h = refl
none_has m low (n ∷ names) le h =
    let p = and_parts (nat_lt low n.enumerator) (are_above n.enumerator names) h in
    let lt = ltb-true _ _ p.0 in
    let other : (n.enumerator == m) ≡ false = ne_eqb n.enumerator m (λ e. omega (arith, e, lt, le)) in
    rw (other, none_has m n.enumerator names (omega (arith, lt, le)) p.1) refl

-- ---- the least free enumerator

-- the facts about the first free number from low on
record IsFirstFree (low n : ℕ) (names : List Named) : Type 0 where
  some : low < n
  free : has n names ≡ false
  least : (m : ℕ) → low < m → m < n → has m names ≡ true

or_right : (a b : Bool) → b ≡ true → (a || b) ≡ true
or_right true b h = refl
or_right false b h = h

first_free : (low : ℕ) (names : List Named) → are_above low names ≡ true → IsFirstFree low (free_from (low + 1) names) names
first_free low [] h = record { some = omega arith; free = refl; least = λ m lt le. absurd (omega arith) }
first_free low (n ∷ names) h =
    let p = and_parts (nat_lt low n.enumerator) (are_above n.enumerator names) h in
    let above = ltb-true _ _ p.0 in
    (elim (n.enumerator == low + 1) as (λ b. (n.enumerator == low + 1) ≡ b →
    IsFirstFree low (free_from (low + 1) (n ∷ names)) (n ∷ names)) [
      | true ↦ λ t.
          let is : n.enumerator ≡ low + 1 = eqb-true _ _ t in
          let rest = first_free (low + 1) names (above_lower (low + 1) n.enumerator names (omega (arith, is)) p.1) in
          let other : (n.enumerator == free_from (low + 1 + 1) names) ≡ false = ne_eqb _ _ (λ e. omega (arith, e, is, rest.some)) in
          rw t (record {
            some = omega (arith, rest.some);
            free = rw (other, rest.free) refl;
            least = λ m lt le. later n names (free_from (low + 1 + 1) names) low m is rest lt le;
          })
      | false ↦ λ t.
          let ne : n.enumerator ≡ low + 1 → ⊥ = eqb-false _ _ t in
          let far : low + 1 ≤ n.enumerator = omega (arith, above) in
          let more : low + 1 < n.enumerator = omega (arith, far, ne) in
          rw t (record {
            some = omega arith;
            free = rw (t, none_has (low + 1) n.enumerator names far p.1) refl;
            least = λ m lt le. absurd (omega (arith, lt, le));
          })
    ]) refl
  where
    later : (n : Named) (names : List Named) (f low m : ℕ) → n.enumerator ≡ low + 1 → IsFirstFree (low + 1) f names → low < m → m < f
        → has m (n ∷ names) ≡ true
    later n names f low m is rest lt le =
        (elim (n.enumerator == m) as (λ b. (n.enumerator == m) ≡ b → has m (n ∷ names) ≡ true) [
          | true ↦ λ t. rw t refl
          | false ↦ λ t.
              let ne : n.enumerator ≡ m → ⊥ = eqb-false _ _ t in
              rw (t, rest.least m (omega (arith, lt, is, ne)) le) refl
        ]) refl

pub least_free : (names : List Named) → are_above 0 names ≡ true → IsLeastFree names (free_from 1 names)
least_free names h =
    let f = first_free 0 names h in
    record {
      some = omega (arith, f.some);
      free = rw f.free refl;
      least = λ m some lt. f.least m (omega (arith, some)) lt;
    }

-- ---- names with one more

-- inserting a name at its place
pub put_at : (name : Named) (names : List Named) → insert names (before name.enumerator names) name ≡ with_name name names
put_at name [] = refl
put_at name (n ∷ names) =
    (elim (nat_lt n.enumerator name.enumerator) as (λ b. nat_lt n.enumerator name.enumerator ≡ b →
    insert (n ∷ names) (before name.enumerator (n ∷ names)) name ≡ with_name name (n ∷ names)) [
      | true ↦ λ t. rw t (ap (λ (l : List Named). n ∷ l) (put_at name names))
      | false ↦ λ t. rw t refl
    ]) refl

length_with : (name : Named) (names : List Named) → length (with_name name names) ≡ suc (length names)
length_with name [] = refl
length_with name (n ∷ names) =
    (elim (nat_lt n.enumerator name.enumerator) as (λ b. nat_lt n.enumerator name.enumerator ≡ b →
    length (with_name name (n ∷ names)) ≡ suc (suc (length names))) [
      | true ↦ λ t. rw t (ap suc (length_with name names))
      | false ↦ λ t. rw t refl
    ]) refl

above_with : (name : Named) (low : ℕ) (names : List Named) → has name.enumerator names ≡ false → low < name.enumerator
    → are_above low names ≡ true → are_above low (with_name name names) ≡ true
above_with name low [] free lt h = rw (lt-ltb low name.enumerator lt) refl
above_with name low (n ∷ names) free lt h =
    let p = and_parts (nat_lt low n.enumerator) (are_above n.enumerator names) h in
    let o = or_parts (n.enumerator == name.enumerator) (has name.enumerator names) free in
    let ne : n.enumerator ≡ name.enumerator → ⊥ = eqb-false _ _ o.0 in
    (elim (nat_lt n.enumerator name.enumerator) as (λ b. nat_lt n.enumerator name.enumerator ≡ b →
    are_above low (with_name name (n ∷ names)) ≡ true) [
      | true ↦ λ t. rw (t, p.0) (above_with name n.enumerator names o.1 (ltb-true _ _ t) p.1)
      | false ↦ λ t.
          let le = ltb-false _ _ t in
          let next : nat_lt name.enumerator n.enumerator ≡ true = lt-ltb _ _ (omega (arith, le, ne)) in
          rw (t, lt-ltb low name.enumerator lt, next, p.1) refl
    ]) refl

all_cons : (n : Named) (names : List Named) → IsNamed n → All IsNamed names → All IsNamed (n ∷ names)
all_cons n names h each zero d lt = h
all_cons n names h each (suc k) d lt = each k d (omega arith)

all_head : (n : Named) (names : List Named) → All IsNamed (n ∷ names) → IsNamed n
all_head n names each = each 0 n (omega arith)

all_tail : (n : Named) (names : List Named) → All IsNamed (n ∷ names) → All IsNamed names
all_tail n names each = λ k d lt. each (suc k) d (omega arith)

each_with : (name : Named) (names : List Named) → IsNamed name → All IsNamed names → All IsNamed (with_name name names)
each_with name [] new each = all_cons name [] new each
each_with name (n ∷ names) new each =
    (elim (nat_lt n.enumerator name.enumerator) as (λ b. nat_lt n.enumerator name.enumerator ≡ b →
    All IsNamed (with_name name (n ∷ names))) [
      | true ↦ λ t. rw t (all_cons n (with_name name names) (all_head n names each) (each_with name names new (all_tail n names each)))
      | false ↦ λ t. rw t (all_cons name (n ∷ names) new each)
    ]) refl

-- names with one more are valid if its enumerator is free
pub names_with : (name : Named) (names : List Named) → IsNamed name → has name.enumerator names ≡ false → length names < 32 → IsNames names
    → IsNames (with_name name names)
names_with name names new free room h = record {
  few = omega (arith, length_with name names);
  rising = above_with name 0 names free (omega (arith, new.enumerator)) h.rising;
  each = each_with name names new h.each;
}

-- a text that may be registered is an object or a type
pub entity_of : (text : List ℕ) → is_registrable text ≡ true → length text ≤ 32 → IsEntity text
entity_of text h few =
    let p = and_parts (nat_le 1 (length text)) (is_entity text) h in
    record { some = leb-true _ _ p.0; few = few; test = p.1 }

not_free : (names : List Named) (n : ℕ) → IsLeastFree names n → has n names ≡ false
not_free names n h = by (has n names) h.free
  where
    by : (b : Bool) → not b ≡ true → b ≡ false
    by true e = absurd cc
    by false e = refl

-- a name registered with the least free enumerator keeps the names valid
pub registered : (name : Named) (names : List Named) → 1 ≤ name.socket → name.socket ≤ 254 → is_registrable name.object ≡ true
    → is_registrable name.kind ≡ true → length name.object ≤ 32 → length name.kind ≤ 32 → name.enumerator ≡ free_from 1 names
    → length names < 32 → IsNames names → IsNames (with_name name names)
registered name names low high object kind few_object few_kind is room h =
    let f = least_free names h.rising in
    let free : has name.enumerator names ≡ false = rw is (not_free names (free_from 1 names) f) in
    names_with name names (record {
      socket_low = low;
      socket_high = high;
      enumerator = omega (arith, is, f.some);
      object = entity_of name.object object few_object;
      kind = entity_of name.kind kind few_kind;
    }) free room h

-- ---- names with one less

above_filter : (p : Named → Bool) (low : ℕ) (names : List Named) → are_above low names ≡ true → are_above low (filter p names) ≡ true
above_filter p low [] h = refl
above_filter p low (n ∷ names) h =
    let q = and_parts (nat_lt low n.enumerator) (are_above n.enumerator names) h in
    let rest = above_filter p n.enumerator names q.1 in
    (elim (p n) as (λ b. p n ≡ b → are_above low (filter p (n ∷ names)) ≡ true) [
      | true ↦ λ t. rw (t, q.0, rest) refl
      | false ↦ λ t. rw t (above_lower low n.enumerator (filter p names) (omega (arith, ltb-true _ _ q.0)) rest)
    ]) refl

pub names_without : (enumerator : ℕ) (names : List Named) → IsNames names → IsNames (without enumerator names)
names_without enumerator names h = record {
  few = omega (arith, few_filter (λ n. not (n.enumerator == enumerator)) names, h.few);
  rising = above_filter (λ n. not (n.enumerator == enumerator)) 0 names h.rising;
  each = All-filter (λ n. not (n.enumerator == enumerator)) IsNamed names h.each;
}
