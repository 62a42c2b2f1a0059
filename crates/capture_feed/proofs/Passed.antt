-- What a feed passes over.
use Rattle.std.proofs.Common.{◌≡◌, ℕ, List, ◌++◌, Option, Some, None, Ok, ap, sym, ◌∙◌}
use Rattle.std.specs.Borrow.{Bor}
use Rattle.capture_feed.specs.Feeds.{HasPassed, IsPassed}
use Rattle.capture_feed.specs.Reads.{left_of}
use Rattle.capture_feed.specs.Stages.{Standing, coming, past, refused}
use Rattle.capture_feed.specs.declared.passing.Passing.{Passing}
use Rattle.pcapng.specs.Sections.{Section}
use Rattle.pcapng.specs.declared.fault.Fault.{Fault}

-- a feed that stands in this section, with this left of a block
abbrev pub standing : Section → Option Passing → ℕ → Standing
standing s passing blocks = record { stage = record { section = s; passing = passing }; blocks = blocks }

module _ (at : Standing) (s : Section) (p : Passing) (blocks : ℕ) (is : at ≡ standing s (Some p) blocks) (bytes all : List ℕ) (same : bytes ≡ all) where
  here : (more : List ℕ) → coming at (bytes ++ more) ≡ past (Some p) s blocks (all ++ more)
  here more = ap (λ (a : Standing). coming a (bytes ++ more)) is ∙ ap (λ (l : List ℕ). past (Some p) s blocks (l ++ more)) same

  pub passed_on : (o : Option (Bor (List ℕ))) (new : Option Passing) (kept : List ℕ) → IsPassed (Some p) all (left_of {E = Fault} (Ok o)) new kept
      → HasPassed at bytes (left_of {E = ℕ × Fault} (Ok o)) (standing s new blocks) kept
  passed_on (Some rest) new kept (none, empty, e) = (
    none,
    λ more. here more
        ∙ (e s blocks more
        ∙ (ap (λ (k : List ℕ). past None s blocks ((k ++ rest.now) ++ more)) (sym empty)
        ∙ ap (λ (q : Option Passing). past q s blocks ((kept ++ rest.now) ++ more)) (sym none))),
  )
  passed_on None new kept (e, keeps, waits) = (λ more. here more ∙ e s blocks more, waits s blocks)

  pub passed_by_none : (f : Fault) → ((t : Section) (n : ℕ) (more : List ℕ) → past (Some p) t n (all ++ more) ≡ refused n f)
      → (more : List ℕ) → coming at (bytes ++ more) ≡ refused blocks f
  passed_by_none f e more = here more ∙ e s blocks more
