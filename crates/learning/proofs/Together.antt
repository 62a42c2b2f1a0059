-- Names of one network that are learned together.
use Rattle.std.proofs.Common.{◌≡◌, ◌==◌, ℕ, Bool, true, false, List, [], ◌∷◌, fold, refl, ap, ◌∙◌, Some, None, if◌then◌else◌}
use Rattle.std.specs.List.{list_all}
use Rattle.std.proofs.lemmas.Bool.{and_parts, eqb-true}
use Rattle.at_base.specs.Range.{Span}
use Rattle.rtmp.specs.declared.row.Row.{Row}
use Rattle.zip_zones.specs.declared.entry.Entry.{Entry}
use Rattle.zip_zones.specs.Answers.{after_name, heard_all, is_taken, range_heard}
use Rattle.zip_zones.specs.Zones.{Known, heard}
use Rattle.zip_zones.proofs.Added.{taken_again}

-- entries that leave a table as it is when each comes first leave it as it is
all_idle : (learn : List Known → Entry → List Known) (net : ℕ) (entries : List Entry) (table : List Known)
    → ((e : Entry) → e.net ≡ net → learn table e ≡ table) → list_all (λ e. e.net == net) entries ≡ true
    → fold learn table entries ≡ table
all_idle learn net [] table idle own = refl
all_idle learn net (e ∷ entries) table idle own =
    let o = and_parts (e.net == net) (list_all (λ e. e.net == net) entries) own in
    ap (λ (t : List Known). fold learn t entries) (idle e (eqb-true _ _ o.0)) ∙ all_idle learn net entries table idle o.1

-- names of a network without a range are left out
pub none_heard : (rows : List Row) (total net : ℕ) (entries : List Entry) (table : List Known) → range_heard rows net ≡ None
    → list_all (λ e. e.net == net) entries ≡ true → fold (after_name rows total) table entries ≡ table
none_heard rows total net entries table none own =
    all_idle (after_name rows total) net entries table (λ e same. rw (same, none) refl) own

one_heard : (rows : List Row) (total net : ℕ) (range : Span) (e : Entry) (table : List Known) (taken : Bool)
    → range_heard rows net ≡ Some range → e.net ≡ net → is_taken range total table ≡ taken
    → after_name rows total table e ≡ (if taken then heard range total e.name table else table)
one_heard rows total net range e table taken some same t = rw (same, some, t) refl

each_heard : (rows : List Row) (total net : ℕ) (range : Span) (entries : List Entry) (table : List Known)
    → range_heard rows net ≡ Some range → list_all (λ e. e.net == net) entries ≡ true → is_taken range total table ≡ true
    → fold (after_name rows total) table entries ≡ heard_all range total entries table
each_heard rows total net range [] table some own t = refl
each_heard rows total net range (e ∷ entries) table some own t =
    let o = and_parts (e.net == net) (list_all (λ e. e.net == net) entries) own in
    ap (λ (l : List Known). fold (after_name rows total) l entries)
    (one_heard rows total net range e table true some (eqb-true _ _ o.0) t)
    ∙ each_heard rows total net range entries (heard range total e.name table) some o.1 (taken_again range total e.name table t)

-- names of a network are names of its range, and all are left out where one is
pub all_heard : (rows : List Row) (total net : ℕ) (range : Span) (entries : List Entry) (table : List Known)
    → range_heard rows net ≡ Some range → list_all (λ e. e.net == net) entries ≡ true
    → fold (after_name rows total) table entries ≡ (if is_taken range total table then heard_all range total entries table else table)
all_heard rows total net range entries table some own = by (is_taken range total table) refl
  where
    by : (taken : Bool) → is_taken range total table ≡ taken
        → fold (after_name rows total) table entries ≡ (if taken then heard_all range total entries table else table)
    by true t = each_heard rows total net range entries table some own t
    by false t =
        all_idle (after_name rows total) net entries table (λ e same. one_heard rows total net range e table false some same t) own
