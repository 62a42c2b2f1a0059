-- What is said of an image that was read, whatever the call does with it.
use Rattle.std.proofs.Common.{◌≡◌, ◌≢◌, ◌⊎◌, ◌∙◌, ◌++◌, ◌≤◌, ℕ, List, Option, Some, None, Result, Ok, Err, IfErr, IsSome, inl, inr, length, subst, sym}
use Rattle.std.specs.Io.KnownBytes.{Consumes}
use Rattle.at_base.specs.Spelling.{Spells}
use Rattle.at_base.specs.declared.error.Error.{Error}
use Rattle.at_base.specs.declared.error.Error.TheVariants.{Memory, ReadFault, WriteFault}
use Rattle.commands.proofs.Known.{any_some, front_taken, map_some, stop}
use Rattle.commands.specs.Streams.{IsImageRefused, IsTold, IsUnflawed, ReadsImage, most_reads}
use Rattle.commands.specs.declared.refused.Origin.TheVariants as origin
use Rattle.commands.specs.declared.refused.Refused.{Refused}
use Rattle.image_feed.proofs.Fed.{all_cut, open_on}
use Rattle.image_feed.specs.Feeds.{Fed, HasRead, IsFlawed}
use Rattle.image_feed.specs.declared.feed.TheConstants.{MAX_PIECE}
use Rattle.table_image.specs.Reading.{RefusesFirst, refusal}
use Rattle.table_image.specs.declared.flaw.Flaw.{Flaw}

-- What a call may be refused for after its inputs were read.
abbrev pub IsLate : Refused → Type 0
IsLate r = (r.error ≡ Memory) ⊎ (r.error ≡ WriteFault)

-- It is no failed read.
pub not_read : (r : Refused) → IsLate r → r.error ≡ ReadFault → ⊥
not_read r (inl memory) same = let odd : Memory ≡ ReadFault = sym memory ∙ same in cc
not_read r (inr write) same = let odd : WriteFault ≡ ReadFault = sym write ∙ same in cc

-- It is no flaw.
pub not_flaw : (r : Refused) → IsLate r → (f : Flaw) → r.error ≢ refusal f
not_flaw r (inl memory) f = λ same. (let odd : Memory ≡ refusal f = sym memory ∙ same in cc)
not_flaw r (inr write) f = λ same. (let odd : WriteFault ≡ refusal f = sym write ∙ same in cc)

-- A refusal without a reason, which is none of a failed read, tells all.
pub late_told : (r : Refused) → IsLate r → r.reason ≡ None → IsTold most_reads r
late_told r late none = record {
  why = λ read. absurd (not_read r late read);
  only = λ some. (let odd = subst IsSome none some in cc);
}

-- What an image may be refused for that has no flaw.
pub no_flaw : (e : Error) → IsImageRefused e → ((f : Flaw) → e ≢ refusal f) → (e ≡ ReadFault) ⊎ (e ≡ Memory)
no_flaw e (inl read) none = inl read
no_flaw e (inr (inl memory)) none = inr memory
no_flaw e (inr (inr (bytes, (f, first, is)))) none = absurd (none f is)

-- What is said of an image that is refused holds whatever the call would have returned.
pub image_stopped : (A B : Type 0) (before after : Option (List ℕ)) (r : Refused) → ReadsImage before after (stop A r)
    → ReadsImage before after (stop B r)
image_stopped A B before after r p = record {
  end = tt;
  flaw = p.flaw;
  spelled = p.spelled;
  told = p.told;
  unflawed = p.unflawed;
  no_more = p.no_more;
}

-- What is said of an image that was read holds of a refusal after it, which is no flaw, and no failed read of the image.
pub image_then : (A B : Type 0) (before after : Option (List ℕ)) (x : A) (r : Refused) → ReadsImage {A = A} before after (Ok x)
    → ((f : Flaw) → r.error ≢ refusal f) → IsTold most_reads r → (r.error ≡ ReadFault → r.origin ≡ origin.Input → ⊥)
    → ReadsImage before after (stop B r)
image_then A B before after x r p none told other = record {
  end = tt;
  flaw = map_some _ _ before p.flaw (λ bytes none f flawed. absurd (none f flawed));
  spelled = any_some _ before (λ bytes i spelled f. none f);
  told = told;
  unflawed = λ read input. absurd (other read input);
  no_more = p.no_more;
}

-- It holds of a call that has no other error after it than these.
pub image_read : (A B : Type 0) (before after : Option (List ℕ)) (x : A) (r : Result B Refused)
    → ReadsImage {A = A} before after (Ok x) → IfErr r IsLate → IfErr r (IsTold most_reads) → ReadsImage before after r
image_read A B before after x (Ok y) p late told = record {
  end = p.end;
  flaw = map_some _ _ before p.flaw (λ bytes none f flawed. absurd (none f flawed));
  spelled = any_some _ before (λ bytes i spelled. tt);
  told = tt;
  unflawed = tt;
  no_more = p.no_more;
}
image_read A B before after x (Err r) p late told =
    image_then A B before after x r p (not_flaw r late) told (λ read input. not_read r late read)

-- The bytes of a feed that was never refused have no flaw yet.
pub unflawed : (feed : Fed) (all : List ℕ) → feed.refused ≡ None → HasRead feed all → IsUnflawed all
unflawed feed all none h = λ f first. all_cut feed all f (open_on feed all none h.stands) first

-- How much was read of an image before the last piece, which is short.
abbrev pub NoMore : (before after : Option (List ℕ)) → Type 0
NoMore before after =
    (got piece : List ℕ) × IsUnflawed got × (length piece ≤ MAX_PIECE) × Consumes before after (got ++ piece)

-- An image that can't be read.
pub image_unread : (A : Type 0) (before after : Option (List ℕ)) (r : Refused) → r.error ≡ ReadFault → IsTold most_reads r
    → ((got : List ℕ) × IsUnflawed got × Consumes before after got) → NoMore before after → ReadsImage before after (stop A r)
image_unread A before after r read told got more = record {
  end = tt;
  flaw = any_some _ before (λ bytes f flawed. inr (inl read));
  spelled = any_some _ before (λ bytes i spelled f same. (let odd = sym read ∙ same in cc));
  told = told;
  unflawed = λ same input. got;
  no_more = more;
}

-- An image that is refused as far as it was read.
pub image_refused : (A : Type 0) (before after : Option (List ℕ)) (got : List ℕ) (r : Refused) (e : Error) → r.error ≡ e → r.reason ≡ None
    → (e ≡ Memory) ⊎ (RefusesFirst got e × ((more : List ℕ) → IsFlawed e (got ++ more))) → Consumes before after got
    → NoMore before after → ReadsImage before after (stop A r)
image_refused A before after got r e same none (inl memory) taken more = record {
  end = tt;
  flaw = any_some _ before (λ bytes f flawed. inr (inr (same ∙ memory)));
  spelled = any_some _ before (λ bytes i spelled f is. (let odd = sym memory ∙ sym same ∙ is in cc));
  told = record {
    why = λ read. (let odd = sym memory ∙ sym same ∙ read in cc);
    only = λ some. (let odd = subst IsSome none some in cc);
  };
  unflawed = λ read input. (let odd = sym memory ∙ sym same ∙ read in cc);
  no_more = more;
}
image_refused A before after got r e same none (inr ((f, first, is), flawed)) taken more = record {
  end = tt;
  flaw = front_taken _ before after got taken (λ rest g at. inl (same ∙ (flawed rest).first g at));
  spelled = front_taken _ before after got taken (λ rest i spelled. absurd ((flawed rest).none i spelled));
  told = record {
    why = λ read. (let odd = sym is ∙ sym same ∙ read in cc);
    only = λ some. (let odd = subst IsSome none some in cc);
  };
  unflawed = λ read input. (let odd = sym is ∙ sym same ∙ read in cc);
  no_more = more;
}

-- What it is refused for.
pub image_named : (got : List ℕ) (r : Refused) (e : Error) → r.error ≡ e
    → (e ≡ Memory) ⊎ (RefusesFirst got e × ((more : List ℕ) → IsFlawed e (got ++ more))) → IsImageRefused r.error
image_named got r e same (inl memory) = inr (inl (same ∙ memory))
image_named got r e same (inr ((f, first, is), flawed)) = inr (inr (got, (f, first, same ∙ is)))
