-- Verdicts: the right verdict, and its line.
use Rattle.std.specs.Prelude.{◌≡◌, ℕ, ◌<◌, ◌≤◌, ◌⊎◌, Bool, true, false, List, [], ◌∷◌, ◌++◌, length, map, max, sum_by, codes}
use Rattle.std.specs.Fmt.{decimal}
use Rattle.at_base.specs.declared.error.Place.{Place}
use Rattle.at_base.specs.declared.error.Place.TheVariants.{Cable, Port, Node, Row, Missing, List as ZonesOf}
use Rattle.at_base.specs.Texts.{place_text}
use Rattle.at_base.specs.declared.error.Fault.{Fault}
use Rattle.table_image.specs.Internet.{Internet}
use Rattle.audit.specs.Rules.{breaks, Passes}
use Rattle.audit.specs.declared.verdict.Summary.{Summary}
use Rattle.audit.specs.declared.verdict.Verdict.{Verdict}
use Rattle.audit.specs.declared.verdict.Verdict.TheVariants.{Yes, No}

-- one pair of numbers comes before another, by first and then by second number
abbrev pub PairBefore : ℕ → ℕ → ℕ → ℕ → Type 0
PairBefore r k s l = (r < s) ⊎ ((r ≡ s) × (k < l))

-- The order in which the places of one rule are tried: routers in order, with their parts in order, and a router's
-- missing cables after its other parts; then the nodes.
abbrev pub IsBefore : Place → Place → Type 0
IsBefore (Cable j) (Cable k) = j < k
IsBefore (Port r p) (Port s q) = PairBefore r p s q
IsBefore (Port r p) (Node k) = Unit {0}
IsBefore (Node j) (Node k) = j < k
IsBefore (Row r k) (Row s l) = PairBefore r k s l
IsBefore (Row r k) (Missing s l) = r ≤ s
IsBefore (Missing r k) (Row s l) = r < s
IsBefore (Missing r k) (Missing s l) = PairBefore r k s l
IsBefore (ZonesOf r k) (ZonesOf s l) = PairBefore r k s l
IsBefore (ZonesOf r k) (Missing s l) = r ≤ s
IsBefore (Missing r k) (ZonesOf s l) = r < s
IsBefore p q = ⊥

-- the fault's rule is broken at its place and at no place before it, and no rule before it is broken anywhere
pub record IsFirst (i : Internet) (f : Fault) : Type 0 where
  pub broken : breaks i f.rule f.place ≡ true
  pub before : (p : Place) → IsBefore p f.place → breaks i f.rule p ≡ false
  pub earlier : (rule : ℕ) → rule < f.rule → (p : Place) → breaks i rule p ≡ false

-- the verdict is yes
abbrev pub is_yes : Verdict → Bool
is_yes (Yes summary) = true
is_yes (No fault) = false

-- the greatest of the numbers, or 0 if there are none
abbrev pub greatest_of : List ℕ → ℕ
greatest_of [] = 0
greatest_of (n ∷ ns) = max n (greatest_of ns)

-- the number of rows of all routers together
abbrev pub row_count : Internet → ℕ
row_count i = sum_by (λ router. length router.rows) i.routers

-- the greatest distance of a row, usable or not, or 0 without rows
abbrev pub greatest_distance : Internet → ℕ
greatest_distance i = greatest_of (map (λ router. greatest_of (map (λ row. row.distance) router.rows)) i.routers)

-- the summary of an internet
abbrev pub summary_of : Internet → Summary
summary_of i = record {
  cables = length i.cables;
  routers = length i.routers;
  nodes = length i.nodes;
  rows = row_count i;
  greatest =
      greatest_distance i;
}

-- the verdict is right: yes with the summary if the internet passes, else no with the first fault
abbrev pub Judges : Internet → Verdict → Type 0
Judges i (Yes summary) = Passes i × (summary ≡ summary_of i)
Judges i (No fault) = IsFirst i fault

-- the fact holds if the verdict is yes
abbrev pub OnYes : Verdict → Type 0 → Type 0
OnYes (Yes summary) P = P
OnYes (No fault) P = Unit {0}

-- the line of a verdict
abbrev pub verdict_line : Verdict → List ℕ
verdict_line (Yes s) =
    codes "yes: " ++ decimal s.cables ++ codes " cables, " ++ decimal s.routers ++ codes " routers, " ++ decimal s.nodes
    ++ codes " nodes, "
    ++ decimal s.rows ++ codes " rows, greatest distance " ++ decimal s.greatest
verdict_line (No f) = codes "no: C" ++ decimal f.rule ++ codes " " ++ place_text f.place
