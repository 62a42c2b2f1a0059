-- The mappings after one is learnt.
use Rattle.std.proofs.Common.{◌≡◌, zero, suc, ◌+◌, ◌<◌, ◌≤◌, Bool, true, false, not, ◌&&◌, if◌then◌else◌, cond, List, [], ◌∷◌, Some}
use Rattle.std.proofs.Common.{refl, sym, ap, ◌∙◌, subst, arith, length}
use Rattle.std.proofs.lemmas.Bool.{and_parts}
use Rattle.std.proofs.lemmas.List.{take_all}
use Rattle.aarp.specs.Mapping.{forgotten, learnt, mapping_of}
use Rattle.at_base.specs.Address.{same_address}
use Rattle.at_base.specs.Limits.{max_mappings}
use Rattle.at_base.specs.declared.address.Addr.{Addr}
use Rattle.at_base.specs.declared.address.Hw.{Hw}
use Rattle.cable_model.specs.Transcript.{count, one}
use Rattle.cable_model.proofs.Counting.{count-filter, count_le, count_none, each_all}
use Rattle.legal_runs.proofs.Legs.{same_address_is, same_address_self}
use Rattle.resolved_runs.proofs.Elements.{In}

-- The mapping is of this address.
abbrev pub maps : Addr → Addr × Hw → Bool
maps a m = same_address a m.0

-- Another address is mapped as before.
mapping_other : (a b : Addr) (known : List (Addr × Hw)) → same_address a b ≡ false → mapping_of a (forgotten b known) ≡ mapping_of a known
mapping_other a b [] far = refl
mapping_other a b (m ∷ known) far = by (same_address b m.0) refl (mapping_other a b known far)
  where
    by : (x : Bool) → same_address b m.0 ≡ x → mapping_of a (forgotten b known) ≡ mapping_of a known
        → mapping_of a (cond (not (same_address b m.0)) (m ∷ forgotten b known) (forgotten b known)) ≡ mapping_of a (m ∷ known)
    by true e rest =
        let other : same_address a m.0 ≡ false = sym (ap (same_address a) (same_address_is b m.0 e)) ∙ far in
        rw e (rw other rest)
    by false e rest = rw e (ap (λ o. if same_address a m.0 then Some m.1 else o) rest)

-- With it there is one mapping of its address.
pub first_once : (b : Addr) (hw : Hw) (known : List (Addr × Hw)) → ((a : Addr) → count (maps a) known ≤ 1) → (a : Addr)
    → count (maps a) ((b, hw) ∷ forgotten b known) ≤ 1
first_once b hw known once a = by (same_address a b) refl
  where
    part : count (maps a) (forgotten b known) ≡ count (λ m. not (same_address b m.0) && maps a m) known
    part = count-filter (maps a) (λ m. not (same_address b m.0)) known

    never : (x : Bool) → (not x && x) ≡ false
    never true = refl
    never false = refl

    by : (x : Bool) → same_address a b ≡ x → one x + count (maps a) (forgotten b known) ≤ 1
    by true e =
        let none = count_none (λ (m : Addr × Hw). not (same_address b m.0) && maps a m) known
        (each_all _ known (λ m. ap (λ y. not (same_address b m.0) && same_address y m.0) (same_address_is a b e) ∙ never (same_address b m.0))) in
        omega (arith, part, none)
    by false e =
        let le = count_le (λ (m : Addr × Hw). not (same_address b m.0) && maps a m) (maps a) known
        (λ m p. (and_parts (not (same_address b m.0)) (maps a m) p).1) in
        let most = once a in
        omega (arith, part, le, most)

module _ (b : Addr) (hw : Hw) (known : List (Addr × Hw)) (few : length (forgotten b known) < max_mappings) where
  pub whole : learnt b hw known ≡ (b, hw) ∷ forgotten b known
  whole = take_all max_mappings ((b, hw) ∷ forgotten b known) (omega (arith, few))

  pub mapping_learnt : (a : Addr) → mapping_of a (learnt b hw known) ≡ (if same_address a b then Some hw else mapping_of a known)
  mapping_learnt a = ap (mapping_of a) whole ∙ by (same_address a b) refl
    where
      by : (x : Bool) → same_address a b ≡ x
          → (if x then Some hw else mapping_of a (forgotten b known)) ≡ (if x then Some hw else mapping_of a known)
      by true e = refl
      by false e = mapping_other a b known e

  pub once_learnt : ((a : Addr) → count (maps a) known ≤ 1) → (a : Addr) → count (maps a) (learnt b hw known) ≤ 1
  once_learnt once a = subst (λ (l : List (Addr × Hw)). count (maps a) l ≤ 1) (sym whole) (first_once b hw known once a)

-- An address with a mapping is mapped.
pub mapped_in : (known : List (Addr × Hw)) (m : Addr × Hw) → In known m → (hw : Hw) × (mapping_of m.0 known ≡ Some hw)
mapped_in [] m (k, e) = cc
mapped_in (x ∷ known) m (zero, e) =
    let same : x ≡ m = cc in
    (x.1, ap (λ b. if b then Some x.1 else mapping_of m.0 known) (ap (λ (y : Addr × Hw). same_address m.0 y.0) same ∙ same_address_self m.0))
mapped_in (x ∷ known) m (suc k, e) = by (same_address m.0 x.0) (mapped_in known m (k, e))
  where
    by : (b : Bool) → (hw : Hw) × (mapping_of m.0 known ≡ Some hw)
        → (hw : Hw) × ((if b then Some x.1 else mapping_of m.0 known) ≡ Some hw)
    by true rest = (x.1, refl)
    by false rest = rest
