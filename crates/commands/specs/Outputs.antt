-- What a call wrote to its outputs, by the failed writes of each before and after it.
use Rattle.std.specs.Prelude.{◌≡◌, ◌≢◌, ◌⊎◌, ℕ, Result, IfErr, IsErrAnd, OnErr, OnOk}
use Rattle.at_base.specs.declared.error.Error.{Error}
use Rattle.at_base.specs.declared.error.Error.TheVariants.{Memory, WriteFault}
use Rattle.commands.specs.declared.refused.Refused.{Refused}

-- WriteFault comes of a failed write, and after Ok none failed. A failed write is reported.
pub record Wrote {A : Type 0} (before after : ℕ) (result : Result A Refused) : Type 0 where
  pub write_fault : IfErr result (λ r. r.error ≡ WriteFault → after ≢ before)
  pub stays : OnOk result (after ≡ before)
  pub reported : after ≢ before → IsErrAnd result (λ r. r.error ≡ WriteFault)

-- The same of lines and of an image that is written after them: if that can't be written, the lines were. Nothing is written
-- after another error. Where some of the image was written, nothing is left of the lines.
pub record WroteImage {A : Type 0} (SameLines SameImage NothingLeft : Type 0) (before after image_before image_after : ℕ)
    (result : Result A Refused) : Type 0 where
  pub write_fault : IfErr result (λ r. r.error ≡ WriteFault → (after ≢ before) ⊎ (image_after ≢ image_before))
  pub blamed : OnErr result (SameImage ⊎ (after ≡ before))
  pub nothing_written : IfErr result (λ r. r.error ≢ WriteFault → SameLines × SameImage)
  pub left : SameImage ⊎ NothingLeft
  pub stays : OnOk result ((after ≡ before) × (image_after ≡ image_before))
  pub reported : (after ≢ before) ⊎ (image_after ≢ image_before) → IsErrAnd result (λ r. r.error ≡ WriteFault)

-- The same of a play whose capture is written first: where it can't be written, neither lines nor image are. A part of it may
-- be written where memory ran out.
pub record WrotePlay {A : Type 0} (SameLines SameImage SameCapture NothingLeft CaptureLeft : Type 0) (before after : ℕ)
    (image_before image_after capture_before capture_after : ℕ) (result : Result A Refused) : Type 0 where
  pub write_fault : IfErr result (λ r. r.error ≡ WriteFault
      → (after ≢ before) ⊎ (image_after ≢ image_before) ⊎ (capture_after ≢ capture_before))
  pub capture_first : OnErr result ((SameLines × SameImage) ⊎ (capture_after ≡ capture_before))
  pub blamed : OnErr result (SameImage ⊎ (after ≡ before))
  pub nothing_written : IfErr result (λ r. r.error ≢ WriteFault → SameLines × SameImage)
  pub nothing_captured : IfErr result (λ r. r.error ≢ WriteFault → r.error ≢ Memory → SameCapture)
  pub left : SameImage ⊎ NothingLeft
  pub capture_left : (SameLines × SameImage) ⊎ CaptureLeft
  pub stays : OnOk result ((after ≡ before) × (image_after ≡ image_before) × (capture_after ≡ capture_before))
  pub reported : (after ≢ before) ⊎ (image_after ≢ image_before) ⊎ (capture_after ≢ capture_before)
      → IsErrAnd result (λ r. r.error ≡ WriteFault)

-- Of a trace: first the lines are written, and then the capture. Where some of that was written, no write of the lines
-- failed, and nothing is left of them. Nothing is written after another error, unless memory ran out.
pub record WroteTrace {A : Type 0} (SameLines SameCapture NothingLeft : Type 0) (before after capture_before capture_after : ℕ)
    (result : Result A Refused) : Type 0 where
  pub write_fault : IfErr result (λ r. r.error ≡ WriteFault → (after ≢ before) ⊎ (capture_after ≢ capture_before))
  pub nothing_written : IfErr result (λ r. r.error ≢ WriteFault → r.error ≢ Memory → SameLines × SameCapture)
  pub blamed : SameCapture ⊎ ((after ≡ before) × NothingLeft)
  pub stays : OnOk result ((after ≡ before) × (capture_after ≡ capture_before))
  pub reported : (after ≢ before) ⊎ (capture_after ≢ capture_before) → IsErrAnd result (λ r. r.error ≡ WriteFault)

-- The lines, and then the image, were to be written, and nothing else can fail.
pub record Hands {A : Type 0} (SameImage Lines NothingLeft : Type 0) (before after image_before image_after : ℕ)
    (result : Result A Error) : Type 0 where
  pub fault : OnErr result ((after ≢ before) ⊎ (image_after ≢ image_before))
  pub blamed : OnErr result (SameImage ⊎ (after ≡ before))
  pub stays : OnOk result ((after ≡ before) × (image_after ≡ image_before))
  pub order : SameImage ⊎ Lines
  pub left : SameImage ⊎ NothingLeft
