-- The IDs of the open transactions, one for each.
use Rattle.std.proofs.Common.{◌≡◌, ◌≢◌, ℕ, suc, false, cond, eqb, List, [], ◌∷◌, Option, Some, None, is_some}
use Rattle.std.proofs.Common.{get_or, length, refl}
use Rattle.std.proofs.Common.{arith}
use Rattle.std.specs.Prelude.{◌==◌}
use Rattle.std.specs.List.{AllByRecursion, IsDistinct, list_any}
use Rattle.std.proofs.lemmas.Bool.{ne_eqb}
use Rattle.std.proofs.lemmas.List.Sums.{sum_by-cons}
use Rattle.at_base.proofs.Cases.{by_test}
use Rattle.atp.specs.declared.transaction.Transaction.{Transaction}
use Rattle.atp.specs.Requesting.{AreApart, AreOpen, known, open_count}
use Rattle.atp.proofs.Known.{apart_rest}

abbrev Slots : Type 0
Slots = List (Option Transaction)

abbrev pub ids_of : Slots → List ℕ
ids_of [] = []
ids_of (None ∷ slots) = ids_of slots
ids_of (Some t ∷ slots) = t.id ∷ ids_of slots

pub counted : (slots : Slots) → length (ids_of slots) ≡ open_count slots
counted [] = refl
counted (None ∷ slots) = omega (arith, counted slots, sum_by-cons (λ (o : Option Transaction). cond (is_some o) 1 0) None slots)
counted (Some t ∷ slots) = omega (arith, counted slots, sum_by-cons (λ (o : Option Transaction). cond (is_some o) 1 0) (Some t) slots)

each_known : (id : ℕ) (slots : Slots) → list_any (λ n. n == id) (ids_of slots) ≡ is_some (known id slots)
each_known id [] = refl
each_known id (None ∷ slots) = each_known id slots
each_known id (Some t ∷ slots) =
    by_test (eqb t.id id)
    (λ e. rw e refl)
    (λ e. rw e (each_known id slots))

unlike : (n : ℕ) (slots : Slots) → ((k : ℕ) (t : Transaction) → get_or slots k None ≡ Some t → n ≢ t.id)
    → AllByRecursion (λ m. (n == m) ≡ false) (ids_of slots)
unlike n [] h = tt
unlike n (None ∷ slots) h = unlike n slots (λ k. h (suc k))
unlike n (Some t ∷ slots) h = (ne_eqb n t.id (h 0 t refl), unlike n slots (λ k. h (suc k)))

each_once : (slots : Slots) → AreApart slots → IsDistinct ◌==◌ (ids_of slots)
unfolding IsDistinct
each_once [] h = tt
each_once (None ∷ slots) h = each_once slots (apart_rest None slots h)
each_once (Some t ∷ slots) h = (
  unlike t.id slots (λ k u at same. (let r = h 0 (suc k) t u refl at same in omega (arith, r))),
  each_once slots
      (apart_rest (Some t) slots h),
)

pub are_open : (slots : Slots) → AreApart slots → AreOpen slots (ids_of slots)
are_open slots h = record { each = λ id. each_known id slots; once = each_once slots h }
