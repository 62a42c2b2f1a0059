-- What is said of a script, whatever the call does with it.
use Rattle.std.proofs.Common.{◌≡◌, ◌≢◌, ◌⊎◌, ◌∙◌, ◌++◌, ℕ, List, [], Option, Some, None, Result, Ok, Err, IfErr, IfOk, IfSome, OnOk, ap, inl, inr, sym}
use Rattle.std.specs.Prelude.{IsErrAnd}
use Rattle.std.specs.Io.KnownBytes.{Consumes, IsAtEnd}
use Rattle.at_base.specs.Spelling.{Spells}
use Rattle.at_base.specs.declared.error.Error.{Error}
use Rattle.at_base.specs.declared.error.Error.TheVariants.{BadScript, Memory, ReadFault, WriteFault}
use Rattle.commands.proofs.Images.{IsLate, no_flaw}
use Rattle.commands.proofs.Known.{any_some, front_taken, map_some, stop}
use Rattle.commands.specs.Streams.{IsImageRefused, IsScriptRefused, ReadsImage, ReadsScript}
use Rattle.commands.specs.declared.refused.Origin.TheVariants as origin
use Rattle.commands.specs.declared.refused.Refused.{Refused}
use Rattle.script.specs.Feeds.{IsRefused}
use Rattle.script.specs.Scripts.{IsBadAt, IsScript}
use Rattle.script.specs.declared.step.Step.{Step}
use Rattle.table_image.specs.Internet.{Internet}
use Rattle.table_image.specs.Reading.{IsFirstFlaw}
use Rattle.table_image.specs.Spelling.{image_spelling}
use Rattle.table_image.specs.declared.flaw.Flaw.{Flaw}

-- The law that a script has no bad line.
abbrev pub Law : Type 0
Law = (text : List ℕ) (steps : List Step) (n : ℕ) → IsScript text steps → IsBadAt text n → ⊥

-- There is only one first bad line.
pub one_bad : (text : List ℕ) (m n : ℕ) → IsBadAt text m → IsBadAt text n → m ≡ n
one_bad text m n a b =
    let same : a.0 ≡ b.0 = (let both = sym a.1 ∙ b.1 in cc) in cc (same, a.2, b.2)

-- What is said of reading a script: a script with a bad line has the error of its first bad line.
abbrev pub SaysBad : {A : Type 0} → Option (List ℕ) → Result A Refused → Type 0
SaysBad script result = IfSome script (λ text. (n : ℕ) → IsBadAt text n → IsErrAnd result (λ r.
    (r.error ≡ BadScript n) ⊎ (r.error ≡ ReadFault) ⊎ (r.error ≡ Memory)))

-- A script without a bad line has none of its kind.
abbrev pub SaysGood : {A : Type 0} → Option (List ℕ) → Result A Refused → Type 0
SaysGood script result = IfSome script (λ text. (steps : List Step) → IsScript text steps → IfErr result (λ r.
    (r.error ≡ Memory) ⊎ (r.error ≡ ReadFault)))

-- The first input isn't the script.
not_script : (r : Refused) → r.origin ≡ origin.Input → r.origin ≡ origin.Script → ⊥
not_script r input theirs = let odd : origin.Input ≡ origin.Script = sym input ∙ theirs in cc

-- Where the image is refused, the script is untouched.
pub script_unread : (A B Untouched : Type 0) (image image_after script script_after : Option (List ℕ)) (r : Refused) → Untouched
    → r.origin ≡ origin.Input → IsImageRefused r.error → ReadsImage image image_after (stop A r)
    → ReadsScript image image_after script script_after Untouched (stop B r)
script_unread A B Untouched image image_after script script_after r same input named p = record {
  end = tt;
  bad_line =
      map_some _ _ image p.spelled (λ bytes only.
      any_some _ script (λ text i n spelled bad. inr (no_flaw r.error named (only i spelled))));
  good =
      map_some _ _ image p.spelled (λ bytes only.
      any_some _ script (λ text i steps spelled whole. turned r (no_flaw r.error named (only i spelled))));
  in_order = inl same;
  image_first = any_some _ image (λ bytes f flawed. same);
  of_script = λ theirs. absurd (not_script r input theirs);
}
  where
    turned : (r : Refused) → (r.error ≡ ReadFault) ⊎ (r.error ≡ Memory)
        → (r.error ≡ Memory) ⊎ (r.error ≡ ReadFault) ⊎ (r.error ≡ WriteFault)
    turned r (inl read) = inr (inl read)
    turned r (inr memory) = inl memory

-- Where the image was read and the script is refused.
pub script_refused : (A B C Untouched : Type 0) (image image_after script script_after : Option (List ℕ)) (x : A) (i : Internet)
    (r : Refused) → IfSome image (λ bytes. Spells image_spelling bytes i) → ReadsImage {A = A} image image_after (Ok x)
    → SaysBad script (stop B r) → SaysGood script (stop B r)
    → ReadsScript image image_after script script_after Untouched (stop C r)
script_refused A B C Untouched image image_after script script_after x i r spelled p bad good = record {
  end = tt;
  bad_line = any_some _ image (λ bytes. map_some _ _ script bad (λ text at j n spells is. at n is));
  good = any_some _ image (λ bytes. map_some _ _ script good (λ text only j steps spells whole. wider r (only steps whole)));
  in_order = inr (p.end, map_some _ _ image spelled (λ bytes spells. (i, spells)));
  image_first = map_some _ _ image p.flaw (λ bytes none f flawed. absurd (none f flawed));
  of_script = λ same. (p.end, map_some _ _ image spelled (λ bytes spells. (i, spells)));
}
  where
    wider : (r : Refused) → (r.error ≡ Memory) ⊎ (r.error ≡ ReadFault)
        → (r.error ≡ Memory) ⊎ (r.error ≡ ReadFault) ⊎ (r.error ≡ WriteFault)
    wider r (inl memory) = inl memory
    wider r (inr read) = inr (inl read)

-- Where both were read, and the call has no other error after them than these.
pub script_read : (A B C Untouched : Type 0) (image image_after script script_after : Option (List ℕ)) (x : A) (i : Internet) (y : B)
    (r : Result C Refused) → IfSome image (λ bytes. Spells image_spelling bytes i) → ReadsImage {A = A} image image_after (Ok x)
    → IsAtEnd script_after → SaysBad {A = B} script (Ok y) → IfErr r IsLate
    → ReadsScript image image_after script script_after Untouched r
script_read A B C Untouched image image_after script script_after x i y r spelled p end bad late = record {
  end = ended r;
  bad_line = any_some _ image (λ bytes. map_some _ _ script bad (λ text none j n spells is. absurd (none n is)));
  good = any_some _ image (λ bytes. any_some _ script (λ text j steps spells whole. wider r late));
  in_order = inr (p.end, map_some _ _ image spelled (λ bytes spells. (i, spells)));
  image_first = map_some _ _ image p.flaw (λ bytes none f flawed. absurd (none f flawed));
  of_script = at_end r;
}
  where
    ended : (r : Result C Refused) → OnOk r (IsAtEnd script_after)
    ended (Ok z) = end
    ended (Err e) = tt

    wider : (r : Result C Refused) → IfErr r IsLate
        → IfErr r (λ r. (r.error ≡ Memory) ⊎ (r.error ≡ ReadFault) ⊎ (r.error ≡ WriteFault))
    wider (Ok z) late = tt
    wider (Err e) (inl memory) = inl memory
    wider (Err e) (inr write) = inr (inr write)

    at_end : (r : Result C Refused) → IfErr r (λ r. r.origin ≡ origin.Script
        → IsAtEnd image_after × IfSome image (λ bytes. (j : Internet) × Spells image_spelling bytes j))
    at_end (Ok z) = tt
    at_end (Err e) = λ same. (p.end, map_some _ _ image spelled (λ bytes spells. (i, spells)))

-- What is said of a script after one more step that has no other error than these.
pub script_then : (A B Untouched : Type 0) (image image_after script script_after : Option (List ℕ)) (x : A) (r : Result B Refused)
    → ReadsScript {A = A} image image_after script script_after Untouched (Ok x) → IfErr r IsLate
    → IfErr r (λ s. s.origin ≡ origin.Input) → ReadsScript image image_after script script_after Untouched r
script_then A B Untouched image image_after script script_after x (Ok y) p late input = record {
  end = p.end;
  bad_line =
      map_some _ _ image p.bad_line (λ bytes none.
      map_some _ _ script none (λ text none i n spells is. absurd (none i n spells is)));
  good = any_some _ image (λ bytes. any_some _ script (λ text i steps spells whole. tt));
  in_order = p.in_order;
  image_first = p.image_first;
  of_script = tt;
}
script_then A B Untouched image image_after script script_after x (Err r) p late input = record {
  end = tt;
  bad_line =
      map_some _ _ image p.bad_line (λ bytes none.
      map_some _ _ script none (λ text none i n spells is. absurd (none i n spells is)));
  good = any_some _ image (λ bytes. any_some _ script (λ text i steps spells whole. wider r late));
  in_order = p.in_order;
  image_first = p.image_first;
  of_script = λ theirs. absurd (not_script r input theirs);
}
  where
    wider : (r : Refused) → IsLate r → (r.error ≡ Memory) ⊎ (r.error ≡ ReadFault) ⊎ (r.error ≡ WriteFault)
    wider r (inl memory) = inl memory
    wider r (inr write) = inr (inr write)

-- A refusal of a script that begins so is of its first bad line, or Memory.
pub fed_named : (r : Refused) (e : Error) (text : List ℕ) → r.error ≡ e → IsRefused e text → IsScriptRefused r.error
fed_named r e text same (inl (n, is, bad)) = inr (inr (text ++ [], n, same ∙ is, bad []))
fed_named r e text same (inr memory) = inr (inl (same ∙ memory))

-- A reader that begins so has the error of its first bad line.
pub fed_bad : (a c : Option (List ℕ)) (got : List ℕ) (r : Refused) (e : Error) → r.error ≡ e → Consumes a c got → IsRefused e got
    → IfSome a (λ text. (n : ℕ) → IsBadAt text n → (r.error ≡ BadScript n) ⊎ (r.error ≡ ReadFault) ⊎ (r.error ≡ Memory))
fed_bad a c got r e same taken (inl (m, is, from)) =
    front_taken _ a c got taken (λ more n bad. inl (same ∙ is ∙ ap BadScript (one_bad (got ++ more) m n (from more) bad)))
fed_bad a c got r e same taken (inr memory) = front_taken _ a c got taken (λ more n bad. inr (inr (same ∙ memory)))

-- A reader that begins so, and has a script, has only the error Memory.
pub fed_good : Law → (a c : Option (List ℕ)) (got : List ℕ) (r : Refused) (e : Error) → r.error ≡ e → Consumes a c got
    → IsRefused e got
    → IfSome a (λ text. (steps : List Step) → IsScript text steps → (r.error ≡ Memory) ⊎ (r.error ≡ ReadFault))
fed_good law a c got r e same taken (inl (m, is, from)) =
    front_taken _ a c got taken (λ more steps whole. absurd (law (got ++ more) steps m whole (from more)))
fed_good law a c got r e same taken (inr memory) = front_taken _ a c got taken (λ more steps whole. inl (same ∙ memory))
