-- A name without a mark is none of those that are marked.
use Rattle.std.proofs.Common.{◌≡◌, ◌≢◌, ℕ, ◌+◌, ◌*◌, ◌%◌, ◌^◌, false, List, fold, ap, ◌∙◌, sym}
use Rattle.std.specs.List.{list_any}
use Rattle.std.specs.Char.{to_ascii_lowercase}
use Rattle.std.proofs.lemmas.Bool.{false_from_ne_true}
use Rattle.std.proofs.lemmas.List.Folds.{fold-map}
use Rattle.at_base.specs.Text.{same_name, SameName}
use Rattle.at_base.proofs.Texts.{same_name_is}
use Rattle.audit.specs.NameMarks.{AreMarked, mark_at, name_slot, name_sum}
use Rattle.audit.specs.declared.name_marks.NameMarks.{NameMarks}
use Rattle.audit.proofs.Finding.{any_at}

-- names that are equal, ignoring case, have one sum
same_sums : (a b : List ℕ) → SameName a b → name_sum a ≡ name_sum b
same_sums a b e =
    let step : ℕ → ℕ → ℕ = λ sum c. (((sum * 31) % 2 ^ 32) + c) % 2 ^ 32 in
    sym (fold-map step to_ascii_lowercase 0 a) ∙ (ap (fold step 0) e ∙ fold-map step to_ascii_lowercase 0 b)

pub not_marked : (marks : NameMarks) (cable : ℕ) (name : List ℕ) (others : List (List ℕ)) → AreMarked marks cable others
    → mark_at marks (name_slot name) ≢ cable → list_any (same_name name) others ≡ false
not_marked marks cable name others marked unmarked = false_from_ne_true (list_any (same_name name) others) (λ any.
    let one = any_at (same_name name) others any in
    let same = same_sums name one.1 (same_name_is name one.1 one.3) in
    let mark = ap (λ sum. mark_at marks (sum % 16384)) same ∙ marked one.0 one.1 one.2 in
    absurd (unmarked mark))
