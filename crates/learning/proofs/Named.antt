-- The networks of entries, as a loop over the entries finds them.
use Rattle.std.proofs.Common.{◌≡◌, ◌∙◌, ℕ, ◌+◌, ◌<◌, ◌≤◌, Bool, true, false, not, ◌||◌, ◌==◌, List, [], ◌∷◌, ◌++◌, length}
use Rattle.std.proofs.Common.{filter, fold, take, drop, get_or, refl, sym, ap, subst, arith}
use Rattle.std.specs.List.{list_all, list_any}
use Rattle.std.proofs.lemmas.List.{drop_more, take_more}
use Rattle.std.proofs.lemmas.List.Elements.{filter_agree}
use Rattle.std.proofs.lemmas.List.Folds.{list_any-append}
use Rattle.std.proofs.lemmas.Bool.{and_parts, eqb-true, eq-eqb, ne_eqb}
use Rattle.zip_zones.specs.declared.entry.Entry.{Entry}
use Rattle.zip_zones.specs.Answers.{networks_named}
use Rattle.zip_zones.specs.Zones.{Known}
use Rattle.learning.proofs.Gone.{filter_twice}

-- none of the entries before is of the network
abbrev is_new : List Entry → ℕ → Bool
is_new seen net = not (list_any (λ e. e.net == net) seen)

-- the networks that first appear after these entries
abbrev pub named_after : List Entry → List Entry → List ℕ
named_after seen rest = filter (is_new seen) (networks_named rest)

same_swapped : (a b : ℕ) → (a == b) ≡ (b == a)
same_swapped a b = by (a == b) refl
  where
    by : (t : Bool) → (a == b) ≡ t → (a == b) ≡ (b == a)
    by true e = e ∙ sym (eq-eqb b a (sym (eqb-true a b e)))
    by false e = e ∙ sym (ne_eqb b a (λ s. let bad : true ≡ false = sym (eq-eqb a b (sym s)) ∙ e in cc))

-- one more entry
new_next : (seen : List Entry) (e : Entry) (net : ℕ)
    → not (net == e.net || list_any (λ x. x.net == net) seen) ≡ is_new (seen ++ e ∷ []) net
new_next seen e net =
    rw (list_any-append (λ x. x.net == net) seen (e ∷ []), same_swapped net e.net)
    (swap (e.net == net) (list_any (λ x. x.net == net) seen))
  where
    swap : (a b : Bool) → not (a || b) ≡ not (b || (a || false))
    swap true true = refl
    swap true false = refl
    swap false true = refl
    swap false false = refl

others : (seen : List Entry) (e : Entry) (nets : List ℕ)
    → filter (is_new seen) (filter (λ net. not (net == e.net)) nets) ≡ filter (is_new (seen ++ e ∷ [])) nets
others seen e nets =
    filter_twice (λ net. net == e.net) (λ net. list_any (λ x. x.net == net) seen) nets
    ∙ filter_agree (λ net. not (net == e.net || list_any (λ x. x.net == net) seen)) (is_new (seen ++ e ∷ []))
    (new_next seen e) nets

-- an entry whose network appeared before
named_again : (seen : List Entry) (e : Entry) (rest : List Entry) → list_any (λ x. x.net == e.net) seen ≡ true
    → named_after seen (e ∷ rest) ≡ named_after (seen ++ e ∷ []) rest
named_again seen e rest t = rw t (others seen e (networks_named rest))

-- an entry whose network is new
named_new : (seen : List Entry) (e : Entry) (rest : List Entry) → list_any (λ x. x.net == e.net) seen ≡ false
    → named_after seen (e ∷ rest) ≡ e.net ∷ named_after (seen ++ e ∷ []) rest
named_new seen e rest t = rw t (ap (λ (l : List ℕ). e.net ∷ l) (others seen e (networks_named rest)))

-- ---- at an index

next : (entries : List Entry) (i : ℕ) (e : Entry) → i < length entries → e ≡ get_or entries i e
    → drop i entries ≡ e ∷ drop (i + 1) entries
next entries i e lt is = drop_more entries i e lt ∙ ap (λ (x : Entry). x ∷ drop (i + 1) entries) (sym is)

more : (entries : List Entry) (i : ℕ) (e : Entry) → i < length entries → e ≡ get_or entries i e
    → take i entries ++ e ∷ [] ≡ take (i + 1) entries
more entries i e lt is = sym (take_more entries i e lt ∙ ap (λ (x : Entry). take i entries ++ x ∷ []) (sym is))

-- after no entries, the networks are all networks of the entries
named_first : (entries : List Entry) → named_after [] entries ≡ networks_named entries
named_first entries = all (networks_named entries)
  where
    all : (nets : List ℕ) → filter (is_new []) nets ≡ nets
    all [] = refl
    all (net ∷ nets) = ap (λ (l : List ℕ). net ∷ l) (all nets)

-- ---- a fold over the networks

-- the fold over the networks that are left, from an index on, gives the whole result
abbrev pub Left : (List Known → ℕ → List Known) → List Entry → ℕ → List Known → List Known → Type 0
Left learn entries i table whole = fold learn table (named_after (take i entries) (drop i entries)) ≡ whole

pub left_first : (learn : List Known → ℕ → List Known) (entries : List Entry) (table : List Known)
    → Left learn entries 0 table (fold learn table (networks_named entries))
left_first learn entries table = ap (fold learn table) (named_first entries)

-- after an entry whose network appeared before, the same networks are left
same_left : (entries : List Entry) (i : ℕ) (e : Entry) → i < length entries → e ≡ get_or entries i e
    → list_any (λ x. x.net == e.net) (take i entries) ≡ true
    → named_after (take (i + 1) entries) (drop (i + 1) entries) ≡ named_after (take i entries) (drop i entries)
same_left entries i e lt is came =
    sym (ap (named_after (take i entries)) (next entries i e lt is)
    ∙ named_again (take i entries) e (drop (i + 1) entries) came
    ∙ ap (λ (seen : List Entry). named_after seen (drop (i + 1) entries)) (more entries i e lt is))

-- after an entry whose network is new, one network less is left
one_less : (entries : List Entry) (i : ℕ) (e : Entry) → i < length entries → e ≡ get_or entries i e
    → list_any (λ x. x.net == e.net) (take i entries) ≡ false
    → e.net ∷ named_after (take (i + 1) entries) (drop (i + 1) entries) ≡ named_after (take i entries) (drop i entries)
one_less entries i e lt is came =
    sym (ap (named_after (take i entries)) (next entries i e lt is)
    ∙ named_new (take i entries) e (drop (i + 1) entries) came
    ∙ ap (λ (seen : List Entry). e.net ∷ named_after seen (drop (i + 1) entries)) (more entries i e lt is))

-- an entry whose network appeared before keeps the fold
pub left_again : (learn : List Known → ℕ → List Known) (entries : List Entry) (i : ℕ) (e : Entry) (table whole : List Known)
    → i < length entries → e ≡ get_or entries i e → list_any (λ x. x.net == e.net) (take i entries) ≡ true
    → Left learn entries i table whole → Left learn entries (i + 1) table whole
left_again learn entries i e table whole lt is came before = ap (fold learn table) (same_left entries i e lt is came) ∙ before

-- an entry whose network is new and was learned keeps the fold
pub left_new : (learn : List Known → ℕ → List Known) (entries : List Entry) (i : ℕ) (e : Entry) (table after whole : List Known)
    → i < length entries → e ≡ get_or entries i e → list_any (λ x. x.net == e.net) (take i entries) ≡ false
    → after ≡ learn table e.net → Left learn entries i table whole → Left learn entries (i + 1) after whole
left_new learn entries i e table after whole lt is came learned before =
    ap (λ (known : List Known). fold learn known (named_after (take (i + 1) entries) (drop (i + 1) entries))) learned
    ∙ ap (fold learn table) (one_less entries i e lt is came) ∙ before

-- ---- entries of one network

-- where all entries are of one network, no other is named
none_named : (n : ℕ) (entries : List Entry) → list_all (λ e. e.net == n) entries ≡ true
    → filter (λ net. not (net == n)) (networks_named entries) ≡ []
none_named n [] all = refl
none_named n (e ∷ entries) all =
    let parts = and_parts (e.net == n) (list_all (λ e. e.net == n) entries) all in
    let rest = none_named n entries parts.1 in
    let same = eqb-true e.net n parts.0 in
    rw parts.0 (subst (λ k. filter (λ net. not (net == n)) (filter (λ net. not (net == k)) (networks_named entries)) ≡ []) (sym same) (rw rest refl))

-- and only theirs is
pub one_named : (n : ℕ) (entries : List Entry) → 1 ≤ length entries → list_all (λ e. e.net == n) entries ≡ true
    → networks_named entries ≡ n ∷ []
one_named n [] some all = absurd (omega (arith, some))
one_named n (e ∷ entries) some all =
    let parts = and_parts (e.net == n) (list_all (λ e. e.net == n) entries) all in
    let same = eqb-true e.net n parts.0 in
    subst (λ k. e.net ∷ filter (λ net. not (net == k)) (networks_named entries) ≡ n ∷ []) (sym same)
    (rw (none_named n entries parts.1) (ap (λ (k : ℕ). k ∷ []) same))
