-- From IDs to slots and back.
use Rattle.std.proofs.Common.{◌≡◌, ◌≢◌, ℕ, zero, suc, true, false, eqb, List, [], ◌∷◌, Option, Some, None, get_or, refl, sym, ap, subst}
use Rattle.std.proofs.Common.{◌∙◌, inl, inr, arith}
use Rattle.std.proofs.lemmas.Bool.{cases_eq, eqb-true}
use Rattle.at_base.proofs.Cases.{by_test}
use Rattle.slab.specs.Slab.{Slab, get, Updates}
use Rattle.atp.specs.declared.transaction.Transaction.{Transaction}
use Rattle.atp.specs.Requesting.{known, AreApart}

abbrev Slots : Type 0
Slots = List (Option Transaction)

same_id : (t : Transaction) (id : ℕ) → eqb t.id id ≡ true → t.id ≡ id
same_id t id e = eqb-true _ _ e

is_same : (t : Transaction) (id : ℕ) → t.id ≡ id → eqb t.id id ≡ true
is_same t id h = grind arith

is_other : (t : Transaction) (id : ℕ) → t.id ≢ id → eqb t.id id ≡ false
is_other t id h = grind arith

-- a known transaction is in a slot
pub known_at : (id : ℕ) (slots : Slots) (t : Transaction) → known id slots ≡ Some t → (k : ℕ) × (get_or slots k None ≡ Some t) × (t.id ≡ id)
known_at id [] t h = absurd cc
known_at id (None ∷ slots) t h = let r = known_at id slots t h in (suc r.0, r.1, r.2)
known_at id (Some u ∷ slots) t h =
    by_test (eqb u.id id)
    (λ e.
    let g : Some u ≡ Some t = (rw e at h) in
    let same : u ≡ t = cc in
    (0, g, ap (λ (x : Transaction). x.id) (sym same) ∙ same_id u id e))
    (λ e.
    let r = known_at id slots t (rw e at h) in
    (suc r.0, r.1, r.2))

-- an ID that no slot has isn't known
pub known_none : (id : ℕ) (slots : Slots) → ((k : ℕ) (t : Transaction) → get_or slots k None ≡ Some t → t.id ≢ id) → known id slots ≡ None
known_none id [] h = refl
known_none id (None ∷ slots) h = known_none id slots (λ k. h (suc k))
known_none id (Some u ∷ slots) h = rw (is_other u id (h 0 u refl)) (known_none id slots (λ k. h (suc k)))

pub apart_rest : (o : Option Transaction) (slots : Slots) → AreApart (o ∷ slots) → AreApart slots
apart_rest o slots h = λ j k t u a b e. (let r = h (suc j) (suc k) t u a b e in omega (arith, r))

-- a transaction in a slot is known
pub known_is : (slots : Slots) (k : ℕ) (t : Transaction) → AreApart slots → get_or slots k None ≡ Some t → known t.id slots ≡ Some t
known_is [] k t h e = absurd cc
known_is (None ∷ slots) zero t h e = absurd cc
known_is (Some u ∷ slots) zero t h e =
    let same : u ≡ t = cc in
    rw (is_same u t.id (ap (λ (x : Transaction). x.id) same)) e
known_is (None ∷ slots) (suc k) t h e = known_is slots k t (apart_rest None slots h) e
known_is (Some u ∷ slots) (suc k) t h e =
    let differs : u.id ≢ t.id = λ (same : u.id ≡ t.id). (let r = h 0 (suc k) u t refl e same in omega (arith, r)) in
    rw (is_other u t.id differs) (known_is slots k t (apart_rest (Some u) slots h) e)

-- an ID that isn't known is in no slot
pub not_known : (id : ℕ) (slots : Slots) (k : ℕ) (t : Transaction) → AreApart slots → known id slots ≡ None → get_or slots k None ≡ Some t
    → t.id ≢ id
not_known id slots k t apart none e same =
    let is = known_is slots k t apart e in
    let bad : known id slots ≡ Some t = subst (λ (n : ℕ). known n slots ≡ Some t) same is in
    absurd (let r : Some t ≡ None = sym bad ∙ none in cc)

-- ---- one slot changes

-- IDs stay apart if the new transaction has an ID of its own
pub apart_after : (old new : Slab Transaction) (key : ℕ) (u : Transaction) → AreApart old.slots → Updates old new key (Some u)
    → ((k : ℕ) (t : Transaction) → k ≢ key → get old k ≡ Some t → t.id ≢ u.id) → AreApart new.slots
apart_after old new key u h up fresh j k t v a b same =
    elim (cases_eq j key) [
      | inl jk ↦ elim (cases_eq k key) [
        | inl kk ↦ jk ∙ sym kk
        | inr kn ↦
            let at : get new key ≡ Some t = subst (λ (i : ℕ). get new i ≡ Some t) jk a in
            let tu : t ≡ u = (let r : Some t ≡ Some u = sym at ∙ up.changed in cc) in
            absurd (fresh k v kn (sym (up.others k kn) ∙ b) (sym same ∙ ap (λ (x : Transaction). x.id) tu))
      ]
      | inr jn ↦ elim (cases_eq k key) [
        | inl kk ↦
            let at : get new key ≡ Some v = subst (λ (i : ℕ). get new i ≡ Some v) kk b in
            let vu : v ≡ u = (let r : Some v ≡ Some u = sym at ∙ up.changed in cc) in
            absurd (fresh j t jn (sym (up.others j jn) ∙ a) (same ∙ ap (λ (x : Transaction). x.id) vu))
        | inr kn ↦ h j k t v (sym (up.others j jn) ∙ a) (sym (up.others k kn) ∙ b) same
      ]
    ]

pub apart_removed : (old new : Slab Transaction) (key : ℕ) → AreApart old.slots → Updates old new key None → AreApart new.slots
apart_removed old new key h up j k t v a b same =
    elim (cases_eq j key) [
      | inl jk ↦
          let at : get new key ≡ Some t = subst (λ (i : ℕ). get new i ≡ Some t) jk a in
          absurd (let r : Some t ≡ None = sym at ∙ up.changed in cc)
      | inr jn ↦ elim (cases_eq k key) [
        | inl kk ↦
            let at : get new key ≡ Some v = subst (λ (i : ℕ). get new i ≡ Some v) kk b in
            absurd (let r : Some v ≡ None = sym at ∙ up.changed in cc)
        | inr kn ↦ h j k t v (sym (up.others j jn) ∙ a) (sym (up.others k kn) ∙ b) same
      ]
    ]

-- an ID that neither the old nor the new slot has is unchanged
pub others_known : (old new : Slab Transaction) (key id : ℕ) (slot : Option Transaction) → AreApart old.slots → AreApart new.slots
    → Updates old new key slot
    → ((t : Transaction) → get old key ≡ Some t → t.id ≢ id) → ((t : Transaction) → slot ≡ Some t → t.id ≢ id)
    → known id new.slots ≡ known id old.slots
others_known old new key id slot ho hn up was is =
    (elim (known id old.slots) as (λ (o : Option Transaction). known id old.slots ≡ o → known id new.slots ≡ o) [
      | None ↦ λ e. known_none id new.slots (λ k t a. elim (cases_eq k key) [
        | inl kk ↦
            let at : get new key ≡ Some t = subst (λ (i : ℕ). get new i ≡ Some t) kk a in
            is t (sym up.changed ∙ at)
        | inr kn ↦ not_known id old.slots k t ho e (sym (up.others k kn) ∙ a)
      ])
      | Some t ↦ λ e.
          let r = known_at id old.slots t e in
          let kn : r.0 ≢ key = λ (kk : r.0 ≡ key). was t (subst (λ (i : ℕ). get old i ≡ Some t) kk r.1) r.2 in
          let at : get new r.0 ≡ Some t = up.others r.0 kn ∙ r.1 in
          subst (λ (n : ℕ). known n new.slots ≡ Some t) r.2 (known_is new.slots r.0 t hn at)
    ]) refl
