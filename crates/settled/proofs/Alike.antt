-- The row of a range among rising rows.
use Rattle.std.proofs.Common.{◌≡◌, ℕ, inl, inr, Bool, true, false, not, ◌&&◌, List, refl, sym, ap, subst, ◌∙◌, true≢false, arith, nat_lt}
use Rattle.std.specs.List.Sorted.{IsNonDecreasingBy, IsPartitionPoint}
use Rattle.std.specs.List.{list_any}
use Rattle.std.proofs.lemmas.Bool.{and_parts, and_from, cases_Bool, cases_lt, ltb-true, ltb-false}
use Rattle.std.proofs.lemmas.Option.{slice_get-get_or, get_or_from_slice_get}
use Rattle.audit.proofs.WalkLists.{At, at_below, at_one, at_within}
use Rattle.rtmp.specs.States.{is_usable}
use Rattle.settled.proofs.Next.{ends_of}
use Rattle.settled.proofs.Tests.{any_alike, any_at, any_has, any_never, any_with}
use Rattle.settled.specs.Offers.{is_nearer, is_on, leaves_by, offers_nearer, same_range}
use Rattle.table_image.specs.Bounds.{AreRising}
use Rattle.table_image.specs.declared.port.Port.{Port}
use Rattle.table_image.specs.declared.row.Row.{Row}
use Rattle.table_image.specs.declared.router.Router.{Router}

-- only the row at this place may start at the network
abbrev pub OnlyAt : List Row → ℕ → ℕ → Type 0
OnlyAt rows start place = (k : ℕ) (row : Row) → At rows k row → row.start ≡ start → k ≡ place

-- no two of rising rows start alike
pub one_start : (rows : List Row) (place : ℕ) (other : Row) → AreRising rows → At rows place other → OnlyAt rows other.start place
one_start rows place other rise at k row e same =
    elim (cases_lt k place) [
      | inl lt ↦ let up = rise k place row other e at lt in absurd (omega (arith, up, same))
      | inr ge ↦
          elim (cases_lt place k) [
            | inl lt ↦ let up = rise place k other row at e lt in absurd (omega (arith, up, same))
            | inr le ↦ omega (arith, ge, le)
          ]
    ]

pub not_falling : (rows : List Row) → AreRising rows → IsNonDecreasingBy (λ row. row.start) rows
not_falling rows rise i j d le lt =
    elim (cases_lt i j) [
      | inl less ↦
          let low = slice_get-get_or rows i d (omega (arith, less, lt)) in
          let high = slice_get-get_or rows j d lt in
          let up = rise i j _ _ low high less in omega (arith, up)
      | inr ge ↦ let same : i ≡ j = omega (arith, le, ge) in rw same (omega arith)
    ]

-- the row after those that start below the network
pub only_at_point : (rows : List Row) (start place : ℕ) → AreRising rows
    → IsPartitionPoint (λ (row : Row). nat_lt row.start start ≡ true) (λ (row : Row). nat_lt row.start start ≡ false) rows place
    → OnlyAt rows start place
only_at_point rows start place rise point k row at same =
    elim (cases_lt k place) [
      | inl lt ↦
          let below = ltb-true _ _ (point.0 k row (omega arith) lt) in
          let is = ap (λ (r : Row). r.start) (get_or_from_slice_get rows k row row at) in
          absurd (omega (arith, below, is, same))
      | inr ge ↦
          elim (cases_lt place k) [
            | inl lt ↦
                let len = at_within rows k row at in
                let first = at_below rows place (omega (arith, lt, len)) in
                let past = ltb-false _ _ (point.1 place first.0 (omega arith) (omega (arith, lt, len))) in
                let is = ap (λ (r : Row). r.start) (get_or_from_slice_get rows place first.0 first.0 first.1) in
                let up = rise place k first.0 row first.1 at lt in
                absurd (omega (arith, past, is, up, same))
            | inr le ↦ omega (arith, ge, le)
          ]
    ]

-- the test of the rows with the range of this one
abbrev pub any_like : List Row → Row → (Row → Bool) → Bool
any_like rows row test = list_any (λ other. same_range other row && test other) rows

module _ (rows : List Row) (row : Row) (place : ℕ) (only : OnlyAt rows row.start place) where
  -- a row with the range that passes is at the place
  there : (test : Row → Bool) → any_like rows row test ≡ true
      → (other : Row) × At rows place other × (same_range other row ≡ true) × (test other ≡ true)
  there test e =
      let w = any_has (λ other. same_range other row && test other) rows e in
      let both = and_parts _ _ w.3 in
      let is = only w.0 w.1 w.2 (ends_of w.1 row both.0).0 in
      (w.1, subst (λ k. At rows k w.1) is w.2, both.0, both.1)

  pub one_like : (other : Row) → At rows place other → same_range other row ≡ true → (test : Row → Bool) → any_like rows row test ≡ test other
  one_like other at same test =
      elim (cases_Bool (test other)) [
        | inl passes ↦ any_at (λ other. same_range other row && test other) rows place other at (and_from _ _ same passes) ∙ sym passes
        | inr fails ↦
            elim (cases_Bool (any_like rows row test)) [
              | inl e ↦
                  let w = there test e in
                  absurd (true≢false (sym w.3 ∙ (ap test (at_one rows place w.0 other w.1 at) ∙ fails)))
              | inr e ↦ e ∙ sym fails
            ]
      ]

  pub none_like : ((other : Row) → At rows place other → same_range other row ≡ false) → (test : Row → Bool) → any_like rows row test ≡ false
  none_like differs test =
      elim (cases_Bool (any_like rows row test)) [
        | inl e ↦ let w = there test e in absurd (true≢false (sym w.2 ∙ differs w.0 w.1))
        | inr e ↦ e
      ]

-- ---- offers

hoisted : (a b c d : Bool) → (a && ((b && c) && d)) ≡ ((d && b) && (a && c))
hoisted false b c false = refl
hoisted false false c true = refl
hoisted false true c true = refl
hoisted true false c false = refl
hoisted true false c true = refl
hoisted true true false false = refl
hoisted true true false true = refl
hoisted true true true false = refl
hoisted true true true true = refl

grouped : (a b c d : Bool) → (((a && b) && c) && d) ≡ (a && ((b && c) && d))
grouped true b c d = refl
grouped false b c d = refl

never : (b : Bool) → (b && false) ≡ false
never true = refl
never false = refl

module _ (router : Router) (row : Row) where
  -- what an offer has beside the range
  abbrev told : ℕ → Row → Bool
  told cable other = (is_usable other.state && not (leaves_by cable router other)) && is_nearer row other

  like : (cable : ℕ) → offers_nearer cable row router ≡ (is_on cable router && any_like router.rows row (told cable))
  like cable =
      ap (λ b. is_on cable router && b) (any_alike _ _ router.rows (λ other.
      grouped (same_range other row) (is_usable other.state) (not (leaves_by cable router other)) (is_nearer row other)))

  -- some of these ports is on a cable where the router offers the range, nearer
  abbrev pub offers : List Port → Bool
  offers ports = list_any (λ (port : Port). offers_nearer port.cable row router) ports

  -- and where it tells of a row
  abbrev pub tells : Row → List Port → Bool
  tells other ports = list_any (λ (port : Port). is_on port.cable router && not (leaves_by port.cable router other)) ports

  -- a router with one row for the range offers it where it tells of that row, if that is usable and nearer
  offered_by_one : (ports : List Port) (other : Row) → ((test : Row → Bool) → any_like router.rows row test ≡ test other)
      → offers ports ≡ ((is_nearer row other && is_usable other.state) && tells other ports)
  offered_by_one ports other one =
      any_alike _ _ ports (λ (port : Port). like port.cable ∙ (ap (λ b. is_on port.cable router && b) (one (told port.cable))
      ∙ hoisted (is_on port.cable router) (is_usable other.state) (not (leaves_by port.cable router other)) (is_nearer row other)))
      ∙ any_with (is_nearer row other && is_usable other.state)
      (λ (port : Port). is_on port.cable router && not (leaves_by port.cable router other)) ports

  pub offered_when : (ports : List Port) (other : Row) → ((test : Row → Bool) → any_like router.rows row test ≡ test other)
      → (has told : Bool) → has ≡ (is_nearer row other && is_usable other.state) → has ≡ true → told ≡ tells other ports → told ≡ offers ports
  offered_when ports other one has told is passes tells_is =
      tells_is ∙ sym (offered_by_one ports other one ∙ ap (λ b. b && tells other ports) (sym is ∙ passes))

  pub offered_unless : (ports : List Port) (other : Row) → ((test : Row → Bool) → any_like router.rows row test ≡ test other)
      → (has : Bool) → has ≡ (is_nearer row other && is_usable other.state) → has ≡ false → has ≡ offers ports
  offered_unless ports other one has is fails =
      fails ∙ sym (offered_by_one ports other one ∙ ap (λ b. b && tells other ports) (sym is ∙ fails))

  -- and a router without one nowhere
  pub offered_by_none : (ports : List Port) → ((test : Row → Bool) → any_like router.rows row test ≡ false)
      → offers ports ≡ false
  offered_by_none ports none =
      any_alike _ _ ports (λ (port : Port). like port.cable ∙ (ap (λ b. is_on port.cable router && b) (none (told port.cable))
      ∙ never (is_on port.cable router)))
      ∙ any_never ports
