-- What a feed was told, step by step.
use Rattle.std.proofs.Common.{◌≡◌, ℕ, List, [], ◌∷◌, ◌++◌, None, ap, refl, subst, sym, ◌∙◌}
use Rattle.capture_feed.specs.Feeds.{HeardAll, IsFed, Leads}
use Rattle.capture_feed.specs.Stages.{Standing, coming, pending, told}
use Rattle.pcapng.specs.Sections.{Told}

-- the bytes told these blocks, which the listener heard, and this is left
abbrev pub Underway : {L : Type 0} → (L → Told → L → Type 0) → Standing → List ℕ → L → Standing → List ℕ → L → Type 0
Underway heard at bytes listener now rest after = (ts : List Told) × Leads at bytes ts now rest × HeardAll heard listener ts after

-- what is left goes on as it did, from elsewhere
pub leads_on : (at : Standing) (bytes : List ℕ) (ts : List Told) (mid new : Standing) (rest kept : List ℕ) → Leads at bytes ts mid rest
    → ((more : List ℕ) → coming mid (rest ++ more) ≡ coming new (kept ++ more)) → Leads at bytes ts new kept
leads_on at bytes [] mid new rest kept l e = λ more. l more ∙ e more
leads_on at bytes (t ∷ ts) mid new rest kept (m, left, told_is, l) e = (m, left, told_is, leads_on m left ts mid new rest kept l e)

-- one block more is told
pub leads_more : (at : Standing) (bytes : List ℕ) (ts : List Told) (mid new : Standing) (rest left : List ℕ) (t : Told)
    → Leads at bytes ts mid rest → ((more : List ℕ) → coming mid (rest ++ more) ≡ told t new (left ++ more))
    → Leads at bytes (ts ++ t ∷ []) new left
leads_more at bytes [] mid new rest left t l e = (new, left, (λ more. l more ∙ e more), λ more. refl)
leads_more at bytes (u ∷ ts) mid new rest left t (m, after, told_is, l) e =
    (m, after, told_is, leads_more m after ts mid new rest left t l e)

pub heard_more : {L : Type 0} (heard : L → Told → L → Type 0) (a : L) (ts : List Told) (b c : L) (t : Told) → HeardAll heard a ts b → heard b t c
    → HeardAll heard a (ts ++ t ∷ []) c
heard_more heard a [] b c t is h = (c, subst (λ x. heard x t c) is h, refl)
heard_more heard a (u ∷ ts) b c t (m, first, rest) h = (m, first, heard_more heard m ts b c t rest h)

module _ {L : Type 0} (heard : L → Told → L → Type 0) (at : Standing) (bytes : List ℕ) (listener : L) where
  pub underway_more : (mid new : Standing) (rest kept after : List ℕ) (l m : L) → Underway heard at bytes listener mid rest l → kept ≡ []
      → (t : Told) × ((more : List ℕ) → coming mid (rest ++ more) ≡ told t new (after ++ more)) × heard l t m
      → Underway heard at bytes listener new (kept ++ after) m
  underway_more mid new rest kept after l m (ts, leads, hears) none (t, e, h) = (
    ts ++ t ∷ [],
    leads_more at bytes ts mid new rest (kept ++ after) t leads (λ more. e more
        ∙ ap (λ (k : List ℕ). told t new ((k ++ after) ++ more)) (sym none)),
    heard_more heard listener ts l m t hears h,
  )

  pub underway_ends : (mid new : Standing) (rest kept : List ℕ) (l m : L) → Underway heard at bytes listener mid rest l
      → ((more : List ℕ) → coming mid (rest ++ more) ≡ coming new (kept ++ more)) × (coming new kept ≡ pending) × (m ≡ l)
      → IsFed heard at bytes listener None new kept m
  underway_ends mid new rest kept l m (ts, leads, hears) (e, waits, same) = (
    (ts, leads_on at bytes ts mid new rest kept leads e, subst (λ x. HeardAll heard listener ts x) (sym same) hears),
    waits,
  )
