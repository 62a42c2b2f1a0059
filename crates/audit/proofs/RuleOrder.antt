-- The order in which rules are tried.
use Rattle.std.proofs.Common.{◌≡◌, ℕ, zero, suc, ◌+◌, ◌<◌, ◌≤◌, inl, inr, ◌==◌, Bool, false, cond, Some, refl, sym, subst, ◌∙◌, arith}
use Rattle.std.proofs.Common.{below_more}
use Rattle.std.proofs.lemmas.Bool.{cases_lt, ne_eqb, cond-false}
use Rattle.at_base.specs.declared.error.Fault.{Fault}
use Rattle.at_base.specs.declared.error.Place.{Place}
use Rattle.table_image.specs.Internet.{Internet}
use Rattle.audit.specs.Firsts.{FirstPlace}
use Rattle.audit.specs.Rules.{c1, c2, c3, c4, c5, c6, c7, c8, c9, c10, breaks, Keeps, Passes}
use Rattle.audit.specs.Verdicts.{IsFirst}

-- the rules below n are kept
abbrev pub KeptBelow : Internet → ℕ → Type 0
KeptBelow i n = (rule : ℕ) → rule < n → Keeps i rule

-- no rule has the number 0
pub none_yet : (i : Internet) → KeptBelow i 1
none_yet i zero lt p = refl
none_yet i (suc rule) lt p = absurd (omega arith)

pub and_next : (i : Internet) (n : ℕ) → KeptBelow i n → Keeps i n → KeptBelow i (n + 1)
and_next i n kept here = below_more (Keeps i) n kept here

otherwise : (b x y z : Bool) → b ≡ false → y ≡ z → cond b x y ≡ z
otherwise b x y z e f = cond-false b x y e ∙ f

-- no rule has a number from 11 on
pub no_more : (i : Internet) (rule : ℕ) (p : Place) → 11 ≤ rule → breaks i rule p ≡ false
no_more i rule p past =
    otherwise (rule == 1) (c1 i p) _ false (other 1 (omega arith))
    (otherwise (rule == 2) (c2 i p) _ false (other 2 (omega arith))
    (otherwise (rule == 3) (c3 i p) _ false (other 3 (omega arith)) (otherwise (rule == 4) (c4 i p) _ false (other 4 (omega arith))
    (otherwise (rule == 5) (c5 i p) _ false (other 5 (omega arith))
    (otherwise (rule == 6) (c6 i p) _ false (other 6 (omega arith))
    (otherwise (rule == 7) (c7 i p) _ false (other 7 (omega arith))
    (otherwise (rule == 8) (c8 i p) _ false (other 8 (omega arith))
    (otherwise (rule == 9) (c9 i p) _ false (other 9 (omega arith))
    (otherwise (rule == 10) (c10 i p) _ false (other 10 (omega arith)) refl)))))))))
  where
    other : (n : ℕ) → n < 11 → (rule == n) ≡ false
    other n lt = ne_eqb rule n (λ e. omega arith)

pub all_kept : (i : Internet) → KeptBelow i 11 → Passes i
all_kept i kept rule p = elim (cases_lt rule 11) [ inl lt ↦ kept rule lt p | inr ge ↦ no_more i rule p ge ]

-- the first place that breaks a rule is the first fault, if the rules before it are kept
pub first_fault : (i : Internet) (f : Fault) (rule : ℕ) (place : Place) → f ≡ record { rule = rule; place = place } → KeptBelow i rule
    → FirstPlace (breaks i rule) (Some place) → IsFirst i f
first_fault i f rule place is kept first = subst (IsFirst i) (sym is) (record { broken = first.0; before = first.1; earlier = kept })
