-- A line whose first word can't become a command is bad, whatever follows.
use Rattle.std.proofs.Common.{◌≡◌, ◌⊎◌, ℕ, ◌==◌, true, false, List, [], ◌∷◌, ◌++◌, Option, None}
use Rattle.std.proofs.Common.{refl, ap, sym, ◌∙◌, inl, inr, append_assoc, cond, drop, length}
use Rattle.std.specs.Prelude.{codes}
use Rattle.std.specs.List.{join_with_byte, starts_with}
use Rattle.std.proofs.lemmas.Bool.{or_parts}
use Rattle.std.proofs.lemmas.Bool.Decides.{Decides-eqb}
use Rattle.std.proofs.lemmas.List.Splits.{join_with_byte-slice_split}
use Rattle.std.proofs.lemmas.Slice.Eq.{starts_is}
use Rattle.at_base.proofs.Cases.{by_test}
use Rattle.at_base.proofs.Texts.{same_bytes_is}
use Rattle.at_base.specs.Text.{same_bytes}
use Rattle.text.proofs.Cutting.{first_part}
use Rattle.script.specs.Feeds.{agree, may_tell}
use Rattle.script.specs.Lines.{draining, is_skipped, request, said, send, step, taking}
use Rattle.script.specs.Scripts.{is_bad}
use Rattle.script.specs.Stops.{IsHopeless}
use Rattle.script.specs.Words.{words}
use Rattle.script.specs.declared.step.Step.{Step}

-- ---- Texts of which one begins with the other

-- Of two beginnings of a text, one begins with the other.
beginnings : (a r b s : List ℕ) → a ++ r ≡ b ++ s → ((x : List ℕ) × (a ≡ b ++ x)) ⊎ ((x : List ℕ) × (b ≡ a ++ x))
beginnings [] r b s e = inr (b, refl)
beginnings (x ∷ a) r [] s e = inl (x ∷ a, refl)
beginnings (x ∷ a) r (y ∷ b) s e =
    let same : x ≡ y = cc in
    let rest : a ++ r ≡ b ++ s = cc in
    elim (beginnings a r b s rest) [
      | inl h ↦ inl (h.0, ap (λ l. x ∷ l) h.1 ∙ ap (λ z. z ∷ (b ++ h.0)) same)
      | inr h ↦ inr (h.0, ap (λ l. y ∷ l) h.1 ∙ ap (λ z. z ∷ (a ++ h.0)) (sym same))
    ]

begins : (a b rest : List ℕ) → a ≡ b ++ rest → starts_with (λ x y. x == y) a b ≡ true
begins a b rest e = (starts_is Decides-eqb a b (starts_with (λ x y. x == y) a b) refl).1 rest e

begins_by : (a b : List ℕ) → starts_with (λ x y. x == y) a b ≡ true → a ≡ b ++ drop (length b) a
begins_by a b t = (starts_is Decides-eqb a b (starts_with (λ x y. x == y) a b) refl).0 t

agree_start : (start rest : List ℕ) → agree (start ++ rest) start ≡ true
agree_start start rest = let t = begins (start ++ rest) start rest refl in rw t refl

-- Texts that differ do so whatever follows the first.
differ_still : (a r b : List ℕ) → agree a b ≡ false → agree (a ++ r) b ≡ false
differ_still a r b off =
    let no = or_parts (starts_with (λ x y. x == y) a b) (starts_with (λ x y. x == y) b a) off in
    by_test (agree (a ++ r) b)
    (λ t.
    by_test (starts_with (λ x y. x == y) (a ++ r) b)
    (λ long.
    elim (beginnings a r b (drop (length b) (a ++ r)) (begins_by (a ++ r) b long)) [
      | inl h ↦ let odd = begins a b h.0 h.1 in absurd cc
      | inr h ↦ let odd = begins b a h.0 h.1 in absurd cc
    ])
    (λ other.
    by_test (starts_with (λ x y. x == y) b (a ++ r))
    (λ short.
    let rest = drop (length (a ++ r)) b in
    let odd = begins b a (r ++ rest) (begins_by b (a ++ r) short ∙ append_assoc a r rest) in
    absurd cc)
    (λ short. let odd = rw (other, short) at t in absurd cc)))
    (λ f. f)

-- ---- Lines without a step

-- A line with words after the first one.
after_space : (line what next : List ℕ) (more : List (List ℕ)) → words line ≡ what ∷ next ∷ more
    → line ≡ what ++ 32 ∷ join_with_byte 32 (next ∷ more)
after_space line what next more e = sym (join_with_byte-slice_split 32 line) ∙ ap (join_with_byte 32) e

-- A command that the line doesn't begin with.
other_command : (line what name : List ℕ) (more : List (List ℕ)) (read : List (List ℕ) → Option Step) (others : Option Step)
    → words line ≡ what ∷ more → agree line (name ++ 32 ∷ []) ≡ false → read [] ≡ None → others ≡ None
    → cond (same_bytes what name) (read more) others ≡ None
other_command line what name [] read others e off bare none =
    by_test (same_bytes what name) (λ t. rw t bare) (λ t. rw t none)
other_command line what name (next ∷ more) read others e off bare none =
    by_test (same_bytes what name)
    (λ t.
    let same = same_bytes_is what name t in
    let rest = join_with_byte 32 (next ∷ more) in
    let begun : line ≡ (name ++ 32 ∷ []) ++ rest =
    after_space line what next more e ∙ (ap (λ l. l ++ 32 ∷ rest) same ∙ sym (append_assoc name (32 ∷ []) rest)) in
    let odd = rw (← begun) at (agree_start (name ++ 32 ∷ []) rest) in
    absurd cc)
    (λ t. rw t none)

no_step : (line : List ℕ) → may_tell line ≡ false → step line ≡ None
no_step line off =
    let first = first_part (λ b. b == 32) line in
    let all : words line ≡ first.0 ∷ first.1 = first.2 in
    let last = or_parts _ (agree line (codes "drain ")) off in
    let third = or_parts _ (agree line (codes "take ")) last.0 in
    let second = or_parts (agree line (codes "send ")) (agree line (codes "request ")) third.0 in
    let none : said first.0 first.1 ≡ None =
    other_command line first.0 (codes "send") first.1 send _ all second.0 refl
    (other_command line first.0 (codes "request") first.1 request _ all second.1 refl
    (other_command line first.0 (codes "take") first.1 taking _ all third.1 refl
    (other_command line first.0 (codes "drain") first.1 draining _ all last.1 refl refl))) in
    rw all none

still_told : (line rest : List ℕ) → is_skipped line ≡ false → is_skipped (line ++ rest) ≡ false
still_told [] rest e = cc
still_told (b ∷ line) rest e = e

tells_nothing : (line rest : List ℕ) → may_tell line ≡ false → may_tell (line ++ rest) ≡ false
tells_nothing line rest off =
    let last = or_parts _ (agree line (codes "drain ")) off in
    let third = or_parts _ (agree line (codes "take ")) last.0 in
    let second = or_parts (agree line (codes "send ")) (agree line (codes "request ")) third.0 in
    let a = differ_still line rest (codes "send ") second.0 in
    let b = differ_still line rest (codes "request ") second.1 in
    let c = differ_still line rest (codes "take ") third.1 in
    let d = differ_still line rest (codes "drain ") last.1 in
    rw (a, b, c, d) refl

pub hopeless_is_bad : (line rest : List ℕ) → IsHopeless line → is_bad (line ++ rest) ≡ true
hopeless_is_bad line rest h =
    let told = still_told line rest h.told in
    let none = no_step (line ++ rest) (tells_nothing line rest h.none) in
    rw (told, none) refl
