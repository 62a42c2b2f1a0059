-- Patterns: the place of the first wildcard, and that the test of a match is right.
use Rattle.std.proofs.Common.{◌≡◌, ℕ, suc, ◌+◌, ◌-◌, ◌<◌, ◌≤◌, Bool, true, false, cond, ◌||◌, ◌==◌, ltb, List, [], ◌∷◌, ◌++◌, length, map}
use Rattle.std.proofs.Common.{take, drop, Option, Some, None, inl, inr, refl, sym, ap, ◌∙◌, arith, append_assoc, nat_le}
use Rattle.std.specs.Prelude.{IsTrue, ◌↔◌, option_map}
use Rattle.std.specs.List.{position, position_or_len}
use Rattle.std.specs.Char.{to_ascii_lowercase}
use Rattle.std.proofs.lemmas.Bool.{and_parts, ltb-true, ltb-false, leb-true, le-leb}
use Rattle.std.proofs.Math.Seq.{take-length, take-append_seam, drop-append_seam}
use Rattle.std.proofs.lemmas.List.{map-append, take-map, drop-map, length-map, length-drop, length-append, take-append-drop, drop-drop}
use Rattle.at_base.proofs.Cases.{by_test}
use Rattle.at_base.specs.Text.{is_only, same_name, SameName}
use Rattle.at_base.proofs.Texts.{same_name_is, is_same_name}
use Rattle.nbp.specs.Matching.{split_at_wildcard, Matches, IsLike, is_around, is_like, matches}

-- ---- the first wildcard

abbrev is_wildcard : ℕ → Bool
is_wildcard b = b == 0xC5

-- the parts of a pattern around the byte with this index
abbrev pub split_after : ℕ → List ℕ → List ℕ × List ℕ
split_after n bytes = (take n bytes, drop (n + 1) bytes)

split_one_more : (n : ℕ) (b : ℕ) (bytes : List ℕ) → split_after (1 + n) (b ∷ bytes) ≡ (b ∷ take n bytes, drop (n + 1) bytes)
split_one_more n b bytes =
    let one : 1 + n ≡ suc n = omega arith in
    let two : suc n + 1 ≡ suc (n + 1) = omega arith in
    rw (one, two) refl

split_there : (bytes : List ℕ) → position_or_len is_wildcard bytes < length bytes
    → split_at_wildcard bytes ≡ Some (split_after (position_or_len is_wildcard bytes) bytes)
split_there [] lt = absurd (omega arith)
split_there (b ∷ bytes) lt =
    by_test (is_wildcard b)
    (λ t. rw t refl)
    (λ t.
    let less = rw t at lt in
    rw (t, split_there bytes (omega (arith, less)), split_one_more (position_or_len is_wildcard bytes) b bytes) refl)

not_split : (bytes : List ℕ) → length bytes ≤ position_or_len is_wildcard bytes → split_at_wildcard bytes ≡ None
not_split [] le = refl
not_split (b ∷ bytes) le =
    by_test (is_wildcard b)
    (λ t. absurd (let bad = rw t at le in omega (arith, bad)))
    (λ t.
    let less = rw t at le in
    rw (t, not_split bytes (omega (arith, less))) refl)

-- the parts of a pattern around its first wildcard
pub split_at : (bytes : List ℕ) → split_at_wildcard bytes ≡ option_map (λ i. split_after i bytes) (position is_wildcard bytes)
split_at bytes = by_place (ltb (position_or_len is_wildcard bytes) (length bytes)) refl
  where
    by_place : (b : Bool) → ltb (position_or_len is_wildcard bytes) (length bytes) ≡ b
        → split_at_wildcard bytes ≡ option_map (λ i. split_after i bytes) (cond b (Some (position_or_len is_wildcard bytes)) None)
    by_place true t = split_there bytes (ltb-true _ _ t)
    by_place false t = not_split bytes (ltb-false _ _ t)

-- the rest of a list after its first bytes
pub rest_of : (n : ℕ) (bytes : List ℕ) → take (length bytes - n) (drop n bytes) ≡ drop n bytes
rest_of n bytes = ap (λ (k : ℕ). take k (drop n bytes)) (sym (length-drop n bytes)) ∙ take-length (drop n bytes)

-- ---- the test of a match is right

abbrev lower : List ℕ → List ℕ
lower = map to_ascii_lowercase

drop_more : (m n : ℕ) (bytes : List ℕ) → drop n (drop m bytes) ≡ drop (m + n) bytes
drop_more m n bytes = drop-drop n m bytes

-- the bytes of the name that a wildcard between the two parts matches
abbrev run_in : List ℕ → List ℕ → List ℕ → List ℕ
run_in before after name = take (length name - length after - length before) (drop (length before) name)

abbrev front_of : List ℕ → List ℕ → List ℕ
front_of before name = take (length before) name

abbrev end_of : List ℕ → List ℕ → List ℕ
end_of after name = drop (length name - length after) name

parts_of : (before after name : List ℕ) → length before + length after ≤ length name
    → front_of before name ++ run_in before after name ++ end_of after name ≡ name
parts_of before after name le =
    let k = length name - length after - length before in
    let n : length before + k ≡ length name - length after = omega arith in
    let e : drop k (drop (length before) name) ≡ end_of after name = drop_more (length before) k name ∙ ap (λ (k : ℕ). drop k name) n in
    let behind : run_in before after name ++ end_of after name ≡ drop (length before) name =
    ap (λ (l : List ℕ). run_in before after name ++ l) (sym e) ∙ take-append-drop k (drop (length before) name) in
    append_assoc (front_of before name) (run_in before after name) (end_of after name)
    ∙ ap (λ (l : List ℕ). front_of before name ++ l) behind ∙ take-append-drop (length before) name

lower_parts : (a b c : List ℕ) → lower (a ++ b ++ c) ≡ lower a ++ lower b ++ lower c
lower_parts a b c = map-append to_ascii_lowercase (a ++ b) c ∙ ap (λ (l : List ℕ). l ++ lower c) (map-append to_ascii_lowercase a b)

around_is : (before after name : List ℕ) → is_around before after name ≡ true → (run : List ℕ) × SameName (before ++ run ++ after) name
around_is before after name h =
    let p = and_parts (nat_le (length before + length after) (length name)) _ h in
    let q = and_parts (same_name before (front_of before name)) (same_name after (end_of after name)) p.1 in
    let front : lower before ≡ lower (front_of before name) = same_name_is before (front_of before name) q.0 in
    let back : lower after ≡ lower (end_of after name) = same_name_is after (end_of after name) q.1 in
    let run = run_in before after name in
    let whole = parts_of before after name (leb-true _ _ p.0) in (
      run,
      lower_parts before run after ∙ ap (λ (l : List ℕ). l ++ lower run ++ lower after) front
          ∙ ap (λ (l : List ℕ). lower (front_of before name) ++ lower run ++ l) back
          ∙ sym (lower_parts (front_of before name) run (end_of after name)) ∙ ap lower whole,
    )

is_around_if : (before after name run : List ℕ) → SameName (before ++ run ++ after) name → is_around before after name ≡ true
is_around_if before after name run same =
    let e : lower before ++ lower run ++ lower after ≡ lower name = sym (lower_parts before run after) ∙ same in
    let lens : length (before ++ run ++ after) ≡ length name =
    sym (length-map (before ++ run ++ after) to_ascii_lowercase) ∙ ap (λ (l : List ℕ). length l) same
    ∙ length-map name to_ascii_lowercase in
    let len : length before + length run + length after ≡ length name =
    omega (arith, lens, length-append (before ++ run) after, length-append before run) in
    let le : nat_le (length before + length after) (length name) ≡ true = le-leb _ _ (omega (arith, len)) in
    let lb : length (lower before) ≡ length before = length-map before to_ascii_lowercase in
    let grouped : lower before ++ (lower run ++ lower after) ≡ lower name =
    sym (append_assoc (lower before) (lower run) (lower after)) ∙ e in
    let front : lower before ≡ lower (front_of before name) =
    sym (take-append_seam (lower before) (lower run ++ lower after)) ∙ ap (take (length (lower before))) grouped
    ∙ ap (λ (k : ℕ). take k (lower name)) lb ∙ take-map to_ascii_lowercase (length before) name in
    let la : length (lower before ++ lower run) ≡ length name - length after =
    omega (arith, len, length-append (lower before) (lower run), lb, length-map run to_ascii_lowercase) in
    let back : lower after ≡ lower (end_of after name) =
    sym (drop-append_seam (lower before ++ lower run) (lower after)) ∙ ap (drop (length (lower before ++ lower run))) e
    ∙ ap (λ (k : ℕ). drop k (lower name)) la ∙ drop-map to_ascii_lowercase (length name - length after) name in
    rw (le, is_same_name before (front_of before name) front, is_same_name after (end_of after name) back) refl

like_is : (pattern name : List ℕ) (parts : Option (List ℕ × List ℕ)) → is_like pattern name parts ≡ true → IsLike pattern name parts
like_is pattern name None h = same_name_is pattern name h
like_is pattern name (Some x) h = around_is x.0 x.1 name h

is_like_if : (pattern name : List ℕ) (parts : Option (List ℕ × List ℕ)) → IsLike pattern name parts → is_like pattern name parts ≡ true
is_like_if pattern name None h = is_same_name pattern name h
is_like_if pattern name (Some x) h = is_around_if x.0 x.1 name h.0 h.1

or_right : (a b : Bool) → b ≡ true → (a || b) ≡ true
or_right true b h = refl
or_right false b h = h

-- the test holds exactly if the pattern matches the name
pub decides : (pattern name : List ℕ) → IsTrue (matches pattern name) ↔ Matches pattern name
decides pattern name = (there (is_only 61 pattern) refl, back)
  where
    there : (b : Bool) → is_only 61 pattern ≡ b → (b || is_like pattern name (split_at_wildcard pattern)) ≡ true → Matches pattern name
    there true t h = inl t
    there false t h = inr (like_is pattern name (split_at_wildcard pattern) h)

    back : Matches pattern name → matches pattern name ≡ true
    back (inl t) = rw t refl
    back (inr like) = or_right (is_only 61 pattern) _ (is_like_if pattern name (split_at_wildcard pattern) like)
