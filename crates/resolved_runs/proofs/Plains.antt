-- The plain transcript, entry by entry.
use Rattle.std.proofs.Common.{◌≡◌, ℕ, List, [], ◌∷◌, ◌++◌, Some, None, refl, sym, ap, ◌∙◌, append_assoc, append-nil, is_some, true}
use Rattle.table_image.specs.Internet.{Internet}
use Rattle.station.specs.declared.heard.Kind.{Kind}
use Rattle.station.specs.declared.heard.Kind.TheVariants.{Aarp, Ddp}
use Rattle.cable_model.specs.Transcript.{Entry, Frame, Put, Took}
use Rattle.resolved_runs.specs.Plain.{hold_of, plain, plain_after, plain_entry, plain_put, plain_took}

pub plain_after-append : (i : Internet) (u es fs : List Entry)
    → plain_after i u (es ++ fs) ≡ plain_after i u es ++ plain_after i (u ++ es) fs
plain_after-append i u [] fs = ap (λ t. plain_after i t fs) (sym (append-nil u))
plain_after-append i u (e ∷ es) fs =
    ap (λ l. plain_entry i u e ++ l)
    (plain_after-append i (u ++ e ∷ []) es fs
    ∙ ap (λ t. plain_after i (u ++ e ∷ []) es ++ plain_after i t fs) (append_assoc u (e ∷ []) es))
    ∙ sym (append_assoc (plain_entry i u e) (plain_after i (u ++ e ∷ []) es) (plain_after i (u ++ e ∷ es) fs))

pub plain_more : (i : Internet) (t es : List Entry) → plain i (t ++ es) ≡ plain i t ++ plain_after i t es
plain_more i t es = plain_after-append i [] t es

pub plain_one : (i : Internet) (t : List Entry) (e : Entry) → plain i (t ++ e ∷ []) ≡ plain i t ++ plain_entry i t e
plain_one i t e = plain_more i t (e ∷ []) ∙ ap (λ l. plain i t ++ l) (append-nil (plain_entry i t e))

-- ---- Frames and takings, by their kind

pub put_aarp : (t : List Entry) (f : Frame) → f.kind ≡ Aarp → plain_put t f f.kind ≡ []
put_aarp t f e = ap (plain_put t f) e

pub put_direct : (t : List Entry) (f : Frame) → f.kind ≡ Ddp → hold_of f.stamp t ≡ None → plain_put t f f.kind ≡ Put f ∷ []
put_direct t f e none = ap (plain_put t f) e ∙ rw none refl

pub put_released : (t : List Entry) (f : Frame) → f.kind ≡ Ddp → is_some (hold_of f.stamp t) ≡ true → plain_put t f f.kind ≡ []
put_released t f e some = ap (plain_put t f) e ∙ rw some refl

pub took_aarp : (stamp station : ℕ) (f : Frame) → f.kind ≡ Aarp → plain_took stamp station (Some f) ≡ []
took_aarp stamp station f e = ap (λ (k : Kind). plain_took stamp station (Some (record f { kind = k }))) e

pub took_datagram : (stamp station : ℕ) (f : Frame) → f.kind ≡ Ddp → plain_took stamp station (Some f) ≡ Took stamp station ∷ []
took_datagram stamp station f e = ap (λ (k : Kind). plain_took stamp station (Some (record f { kind = k }))) e
