-- Names that are those of another list.
use Rattle.std.proofs.Common.{◌≡◌, ◌∙◌, ℕ, zero, suc, ◌+◌, ◌-◌, ◌≤◌, List, [], ◌∷◌, ◌++◌, Result, Ok, Err, take, drop}
use Rattle.std.proofs.Common.{refl, sym, ap, append_assoc, arith}
use Rattle.std.proofs.Math.Seq.{take-add}
use Rattle.at_base.specs.Reading.{◌>>=◌, list_at, read}
use Rattle.at_base.proofs.Prefixes.{list_more, read_more}
use Rattle.table_image.specs.Flaws.{faults}
use Rattle.table_image.specs.Spelling.{zone_spelling}
use Rattle.table_image.specs.declared.flaw.Fault.{Fault}

-- reads so many names
abbrev pub names_at : ℕ → List ℕ → Result (List (List ℕ) × List ℕ) Fault
names_at n bytes = list_at (λ low. read faults zone_spelling) (λ name. 0) 0 n bytes

abbrev cons : List ℕ → Result (List (List ℕ) × List ℕ) Fault → Result (List (List ℕ) × List ℕ) Fault
cons y r = r >>= λ x. Ok (y ∷ x.0, x.1)

-- adds the names read before
abbrev pub after : List (List ℕ) → Result (List (List ℕ) × List ℕ) Fault → Result (List (List ℕ) × List ℕ) Fault
after front r = r >>= λ x. Ok (front ++ x.0, x.1)

-- reads so many more names
abbrev and_more : ℕ → Result (List (List ℕ) × List ℕ) Fault → Result (List (List ℕ) × List ℕ) Fault
and_more k r = r >>= λ x. after x.0 (names_at k x.1)

same_again : (r : Result (List (List ℕ) × List ℕ) Fault) → after [] r ≡ r
same_again (Ok x) = refl
same_again (Err f) = refl

more_cons : (k : ℕ) (y : List ℕ) (r : Result (List (List ℕ) × List ℕ) Fault) → cons y (and_more k r) ≡ and_more k (cons y r)
more_cons k y (Err f) = refl
more_cons k y (Ok x) = by (names_at k x.1)
  where
    by : (r : Result (List (List ℕ) × List ℕ) Fault) → cons y (after x.0 r) ≡ after (y ∷ x.0) r
    by (Ok z) = refl
    by (Err f) = refl

-- some names and then others
names_split : (m k n : ℕ) (bytes : List ℕ) → n ≡ m + k → names_at n bytes ≡ and_more k (names_at m bytes)
names_split zero k n bytes e =
    let same : n ≡ k = omega (arith, e) in
    rw same (sym (same_again (names_at k bytes)))
names_split (suc m) k zero bytes e = absurd (omega (arith, e))
names_split (suc m) k (suc n) bytes e =
    by (read faults zone_spelling bytes) (λ rest. names_split m k n rest (omega (arith, e)))
  where
    by : (r : Result (List ℕ × List ℕ) Fault) → ((rest : List ℕ) → names_at n rest ≡ and_more k (names_at m rest))
        → (r >>= λ x. cons x.0 (names_at n x.1)) ≡ and_more k (r >>= λ x. cons x.0 (names_at m x.1))
    by (Err f) others = refl
    by (Ok x) others = ap (cons x.0) (others x.1) ∙ more_cons k x.0 (names_at m x.1)

-- one more name
pub names_next : (n : ℕ) (bytes : List ℕ) (xs : List (List ℕ)) (rest : List ℕ) (y : List ℕ) (end : List ℕ) → names_at n bytes ≡ Ok (xs, rest)
    → read faults zone_spelling rest ≡ Ok (y, end) → names_at (n + 1) bytes ≡ Ok (xs ++ y ∷ [], end)
names_next n bytes xs rest y end e one =
    names_split n 1 (n + 1) bytes refl ∙ rw (e, one) refl

joined : (front same : List (List ℕ)) (r : Result (List (List ℕ) × List ℕ) Fault) → after front (after same r) ≡ after (front ++ same) r
joined front same (Ok x) = ap (λ (l : List (List ℕ)). Ok (l, x.1)) (sym (append_assoc front same x.0))
joined front same (Err f) = refl

-- names of the other list were passed
pub names_passed : (like : List (List ℕ)) (k m n : ℕ) (bytes rest : List ℕ) → m ≤ n
    → names_at m bytes ≡ Ok (take m (drop k like), rest) → (more : List ℕ)
    → after (take k like) (names_at n (bytes ++ more)) ≡ after (take (k + m) like) (names_at (n - m) (rest ++ more))
names_passed like k m n bytes rest le e more =
    let parts : n ≡ m + (n - m) = omega (arith, le) in
    let longer : names_at m (bytes ++ more) ≡ Ok (take m (drop k like), rest ++ more) =
    list_more (λ low. read faults zone_spelling) (λ name. 0) more (λ low b x. read_more faults zone_spelling b more x) 0 m bytes
    (take m (drop k like), rest) e in
    let split : names_at n (bytes ++ more) ≡ after (take m (drop k like)) (names_at (n - m) (rest ++ more)) =
    names_split m (n - m) n (bytes ++ more) parts ∙ ap (and_more (n - m)) longer in
    ap (after (take k like)) split ∙ joined (take k like) (take m (drop k like)) (names_at (n - m) (rest ++ more))
    ∙ ap (λ (l : List (List ℕ)). after l (names_at (n - m) (rest ++ more))) (sym (take-add k m like))
