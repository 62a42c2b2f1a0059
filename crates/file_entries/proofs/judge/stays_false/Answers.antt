use Rattle.std.proofs.Common.{◌≡◌, ◌∙◌, ℕ, false, List, [], ◌∷◌, ◌++◌, refl, ap}
use Rattle.file_entries.specs.Texts.{after_bytes, is_open, step}
use Rattle.file_entries.specs.declared.judge.Next.{Next}
use Rattle.file_entries.specs.declared.judge.Next.TheVariants.{Any, Nothing, Tail, TailE0, TailED, TailF0, TailF4, TailThree, TailTwo}
use Rattle.file_entries.proofs.judge.stays_false.Goals as goal

-- What may follow a text is what may follow its end after its beginning.
joined : (next : Next) (bytes more : List ℕ) → after_bytes next (bytes ++ more) ≡ after_bytes (after_bytes next bytes) more
joined next [] more = refl
joined next (b ∷ bytes) more = joined (step next b) bytes more

closed : (more : List ℕ) → is_open (after_bytes Nothing more) ≡ false
closed [] = refl
closed (b ∷ more) = closed more

stays : (next : Next) (more : List ℕ) → is_open next ≡ false → is_open (after_bytes next more) ≡ false
stays Nothing more e = closed more
stays Any more e = absurd cc
stays Tail more e = absurd cc
stays TailTwo more e = absurd cc
stays TailThree more e = absurd cc
stays TailE0 more e = absurd cc
stays TailED more e = absurd cc
stays TailF0 more e = absurd cc
stays TailF4 more e = absurd cc

pub returns : goal.returns
returns c bytes more e = ap is_open (joined Any bytes more) ∙ stays (after_bytes Any bytes) more e
