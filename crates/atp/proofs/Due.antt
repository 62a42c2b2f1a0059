-- The least ID, from a first one on, of a transaction that passes a test, found in the slots.
use Rattle.std.proofs.Common.{◌≡◌, ℕ, ◌<◌, ◌≤◌, Bool, true, false, List, Option, Some, None, length, get_or, refl, sym, ap, subst, ◌∙◌}
use Rattle.std.proofs.Common.{inl, inr, arith}
use Rattle.std.specs.Option.{IfSome, IfNone}
use Rattle.std.proofs.lemmas.Bool.{cases_lt}
use Rattle.std.proofs.lemmas.List.{get_or_past}
use Rattle.atp.specs.declared.transaction.Transaction.{Transaction}
use Rattle.atp.specs.Requesting.{known, passes, AreApart, IsLeast}
use Rattle.atp.proofs.Known.{known_at, known_is}

-- a slot with a transaction has an index within the slots
pub inside : (slots : List (Option Transaction)) (k : ℕ) (t : Transaction) → get_or slots k None ≡ Some t → k < length slots
inside slots k t e =
    elim (cases_lt k (length slots)) [
      | inl lt ↦ lt
      | inr le ↦ absurd (let r : None ≡ Some t = sym (get_or_past slots k None le) ∙ e in cc)
    ]

not_true : (b : Bool) → (b ≡ true → ⊥) → b ≡ false
not_true true h = absurd (h refl)
not_true false h = refl

module _ (test : Transaction → Bool) (first : ℕ) (slots : List (Option Transaction)) where
  pub least : (key : ℕ) (best : Option ℕ) → AreApart slots → length slots ≤ key
      → IfSome best (λ id. (k : ℕ) × (t : Transaction) × (get_or slots k None ≡ Some t) × (t.id ≡ id) × (first ≤ id) × (test t ≡ true))
      → IfSome best (λ id. (k : ℕ) (t : Transaction) → k < key → get_or slots k None ≡ Some t → first ≤ t.id → test t ≡ true → id ≤ t.id)
      → IfSome best (λ id. IsLeast test first slots id)
  least key None apart all some low = tt
  least key (Some id) apart all (k, t, e, i, from, d) low = record {
    from = from;
    due = ap (passes test) (subst (λ (n : ℕ). known n slots ≡ Some t) i (known_is slots k t apart e)) ∙ d;
    least = λ other above h. of_other other (known other slots) refl above h;
  }
    where
      of_other : (other : ℕ) (o : Option Transaction) → known other slots ≡ o → first ≤ other → passes test o ≡ true → id ≤ other
      of_other other None g above h = absurd cc
      of_other other (Some u) g above h =
          let r = known_at other slots u g in
          let lt = inside slots r.0 u r.1 in
          let same = r.2 in
          let le = low r.0 u (omega (arith, lt)) r.1 (omega (arith, same, above)) h in
          omega (arith, le, same)

  pub none_due : (key : ℕ) (best : Option ℕ) → length slots ≤ key
      → IfNone best ((k : ℕ) (t : Transaction) → k < key → get_or slots k None ≡ Some t → first ≤ t.id → test t ≡ true → ⊥)
      → IfNone best ((id : ℕ) → first ≤ id → passes test (known id slots) ≡ false)
  none_due key (Some id) all h = tt
  none_due key None all h = λ id above. of_id id (known id slots) refl above
    where
      of_id : (id : ℕ) (o : Option Transaction) → known id slots ≡ o → first ≤ id → passes test o ≡ false
      of_id id None g above = refl
      of_id id (Some t) g above =
          let r = known_at id slots t g in
          let lt = inside slots r.0 t r.1 in
          let same = r.2 in
          not_true (test t) (h r.0 t (omega (arith, lt)) r.1 (omega (arith, same, above)))
