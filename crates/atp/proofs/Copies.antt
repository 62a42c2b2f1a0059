-- A copy of open transactions, slot by slot.
use Rattle.std.proofs.Common.{◌≡◌, ◌≢◌, ℕ, zero, suc, ◌+◌, ◌<◌, ◌≤◌, cond, List, [], ◌∷◌, length, Option, Some, None, is_some, get_or}
use Rattle.std.proofs.Common.{count_by, refl, sym, ap, subst, ◌∙◌, inl, inr, arith}
use Rattle.std.proofs.lemmas.Bool.{cases_eq, cases_lt}
use Rattle.std.proofs.lemmas.List.{get_or_past}
use Rattle.std.proofs.lemmas.List.Sums.{sum_by-cons}
use Rattle.slab.specs.Slab.{Slab, get, slab_len}
use Rattle.atp.specs.declared.transaction.Transaction.{Transaction}
use Rattle.atp.specs.Requesting.{known}
use Rattle.atp.specs.Slots.{IsTable, Put}
use Rattle.atp.specs.Copies.{filled, CopiedTo, IsCopy}
use Rattle.atp.proofs.Known.{known_at, not_known}

abbrev Slots : Type 0
Slots = List (Option Transaction)

abbrev tally : Option Transaction → ℕ
tally o = cond (is_some o) 1 0

-- one more slot
filled_suc : (n : ℕ) (slots : Slots) → filled (suc n) slots ≡ filled n slots + tally (get_or slots n None)
filled_suc zero [] = refl
filled_suc zero (o ∷ slots) = omega arith
filled_suc (suc n) [] = refl
filled_suc (suc n) (o ∷ slots) = let r = filled_suc n slots in omega (arith, r)

filled_few : (n : ℕ) (slots : Slots) → filled n slots ≤ count_by is_some slots
filled_few zero slots = omega arith
filled_few (suc n) [] = omega arith
filled_few (suc n) (o ∷ slots) = omega (arith, filled_few n slots, sum_by-cons tally o slots)

filled_all : (n : ℕ) (slots : Slots) → length slots ≤ n → filled n slots ≡ count_by is_some slots
filled_all zero [] le = refl
filled_all zero (o ∷ slots) le = absurd (omega (arith, le))
filled_all (suc n) [] le = refl
filled_all (suc n) (o ∷ slots) le = let r = filled_all n slots (omega (arith, le)) in omega (arith, r, sum_by-cons tally o slots)

-- the copy at its start
pub start : (old copy : Slab Transaction) → copy.slots ≡ [] → 32 ≤ copy.capacity → CopiedTo 0 old copy
start old copy e room =
    let none : (k : ℕ) → get copy k ≡ None = λ k. subst (λ (s : Slots). get_or s k None ≡ None) (sym e) refl in
    let nothing : (id : ℕ) → known id copy.slots ≡ None = λ id. subst (λ (s : Slots). known id s ≡ None) (sym e) refl in
    let len : slab_len copy ≡ 0 = subst (λ (s : Slots). count_by is_some s ≡ 0) (sym e) refl in
    record {
      table = record {
        apart = λ j k t u a b w. absurd (let r : Some t ≡ None = sym a ∙ none j in cc);
        sendable = λ k t a. absurd (let r : Some t ≡ None = sym a ∙ none k in cc);
        few = omega (arith, len);
        room = room;
      };
      before = λ k t lt a. absurd (omega (arith, lt));
      from = λ id t a. absurd (let r : Some t ≡ None = sym a ∙ nothing id in cc);
      count = len;
    }

-- a vacant slot is copied
pub vacant : (n : ℕ) (old copy : Slab Transaction) → CopiedTo n old copy → get old n ≡ None → CopiedTo (suc n) old copy
vacant n old copy h e =
    let none : tally (get old n) ≡ 0 = rw e refl in
    record {
      table = h.table;
      before = λ k t lt a. elim (cases_eq k n) [
        | inl kn ↦ absurd (let r : Some t ≡ None = sym a ∙ ap (λ (i : ℕ). get old i) kn ∙ e in cc)
        | inr differs ↦ h.before k t (omega (arith, lt, differs)) a
      ];
      from = λ id t a. let r = h.from id t a in (r.0, omega (arith, r.1), r.2);
      count = (let c = h.count in omega (arith, c, filled_suc n old.slots, none));
    }

-- the copy has no transaction with the ID of the next slot's
pub fresh : (n : ℕ) (old copy : Slab Transaction) (t : Transaction) → IsTable old → CopiedTo n old copy → get old n ≡ Some t
    → known t.id copy.slots ≡ None
fresh n old copy t ho h e =
    (elim (known t.id copy.slots) as (λ (o : Option Transaction). known t.id copy.slots ≡ o → known t.id copy.slots ≡ None) [
      | None ↦ λ a. a
      | Some u ↦ λ a.
          let r = h.from t.id u a in
          let same : u.id ≡ t.id = (known_at t.id copy.slots u a).2 in
          let place = ho.apart r.0 n u t r.2 e same in
          absurd (omega (arith, place, r.1))
    ]) refl

pub room : (n : ℕ) (old copy : Slab Transaction) (t : Transaction) → IsTable old → CopiedTo n old copy → get old n ≡ Some t
    → slab_len copy < 32
room n old copy t ho h e =
    let one : tally (get old n) ≡ 1 = rw e refl in
    let c = h.count in
    let few = ho.few in
    omega (arith, c, few, one, filled_suc n old.slots, filled_few (suc n) old.slots)

-- a slot with a transaction is copied
pub taken : (n : ℕ) (old copy next : Slab Transaction) (t : Transaction) → IsTable old → CopiedTo n old copy → get old n ≡ Some t
    → Put copy next t.id (Some t) → slab_len next ≡ slab_len copy + 1 → CopiedTo (suc n) old next
taken n old copy next t ho h e put len =
    let one : tally (get old n) ≡ 1 = rw e refl in
    record {
      table = put.table;
      before = λ k u lt a. elim (cases_eq k n) [
        | inl kn ↦
            let ut : t ≡ u = (let r : Some t ≡ Some u = sym e ∙ sym (ap (λ (i : ℕ). get old i) kn) ∙ a in cc) in
            subst (λ (x : Transaction). known x.id next.slots ≡ Some x) ut put.here
        | inr differs ↦
            let other : u.id ≢ t.id = λ (w : u.id ≡ t.id). differs (ho.apart k n u t a e w) in
            put.others u.id other ∙ h.before k u (omega (arith, lt, differs)) a
      ];
      from = λ id u a. elim (cases_eq id t.id) [
        | inl same ↦
            let b : known t.id next.slots ≡ Some u = subst (λ (i : ℕ). known i next.slots ≡ Some u) same a in
            let tu : t ≡ u = (let r : Some t ≡ Some u = sym put.here ∙ b in cc) in
            (n, omega arith, e ∙ ap Some tu)
        | inr differs ↦
            let r = h.from id u (sym (put.others id differs) ∙ a) in
            (r.0, omega (arith, r.1), r.2)
      ];
      count = (let c = h.count in omega (arith, c, len, filled_suc n old.slots, one));
    }

-- all slots are copied
pub whole : (n : ℕ) (old copy : Slab Transaction) → IsTable old → CopiedTo n old copy → length old.slots ≤ n → IsCopy old copy
whole n old copy ho h le = record {
  table = h.table;
  same = λ id. (elim (known id old.slots) as (λ (o : Option Transaction). known id old.slots ≡ o → known id copy.slots ≡ o) [
    | Some t ↦ λ e.
        let r = known_at id old.slots t e in
        subst (λ (i : ℕ). known i copy.slots ≡ Some t) r.2 (h.before r.0 t (below r.0 t r.1) r.1)
    | None ↦ λ e. unknown id e
  ]) refl;
  len = (let c = h.count in c ∙ filled_all n old.slots le);
}
  where
    below : (k : ℕ) (t : Transaction) → get old k ≡ Some t → k < n
    below k t a = elim (cases_lt k n) [
      | inl lt ↦ lt
      | inr past ↦ absurd (let none : get old k ≡ None = get_or_past old.slots k None (omega (arith, le, past)) in
          let r : Some t ≡ None = sym a ∙ none in cc)
    ]

    unknown : (id : ℕ) → known id old.slots ≡ None → known id copy.slots ≡ None
    unknown id e = (elim (known id copy.slots) as (λ (o : Option Transaction). known id copy.slots ≡ o → known id copy.slots ≡ None) [
      | None ↦ λ a. a
      | Some t ↦ λ a.
          let r = h.from id t a in
          let same : t.id ≡ id = (known_at id copy.slots t a).2 in
          absurd (not_known id old.slots r.0 t ho.apart e r.2 same)
    ]) refl
