-- What follows in a transcript that is legal with resolution: after a Sent, the leg of its datagram; after a Took, what the
-- frame leads to.
use Rattle.std.proofs.Common.{◌≡◌, ℕ, List, [], ◌∷◌, ◌++◌, Contains, append_assoc, append-nil, refl, subst, sym}
use Rattle.std.specs.List.{AllByRecursion as Each}
use Rattle.table_image.specs.Internet.{Internet}
use Rattle.station.specs.declared.heard.Kind.{Kind}
use Rattle.station.specs.declared.heard.Kind.TheVariants.{Aarp, Ddp}
use Rattle.cable_model.specs.Pending.{Pair, pending}
use Rattle.cable_model.specs.Transcript.{Entry, Frame, Sent, Put, Took, Reached, Dropped, Lost, Hold}
use Rattle.legal_runs.specs.Answers.{IsMade}
use Rattle.legal_runs.specs.Legs.{Leg}
use Rattle.legal_runs.specs.Stations.{cable_seats}
use Rattle.resolved_runs.specs.Resolved.{resolved_leg, resolved_said, resolving}
use Rattle.resolved_runs.specs.ResolvedRuns.{Begins, Continues, IsLegalResolved, ResolvedBlock, Resolves, Sends, Takes}
use Rattle.resolved_runs.specs.ResolvedRuns.{resolved_fate, taking}

-- The station made the leg, with this body.
pub record IsSaid (i : Internet) (station : ℕ) (b : List ℕ) (l : Leg) : Type 0 where
  pub made : IsMade i l
  pub by : l.station ≡ station
  pub body : l.body ≡ b

-- The pair was pending, with this stamp and station.
pub record IsPending (i : Internet) (t : List Entry) (stamp station : ℕ) (p : Pair) : Type 0 where
  pub there : Contains (pending (cable_seats i) t) p
  pub stamped : p.frame.stamp ≡ stamp
  pub by : p.seat.station ≡ station

-- The entries that a frame of this kind leads to, but for the datagrams that the station sends in answer.
abbrev pub led_to : Internet → List Entry → Pair → Kind → List Entry
led_to i t p Ddp = resolved_fate i t p
led_to i t p Aarp = resolving i t p

-- After the transcript these entries follow, the first ones being those that are expected.
unfoldable pub Follows : Internet → List Entry → List Entry → List Entry → Type 0
Follows i t [] [] = Unit {0}
Follows i t (x ∷ xs) [] = ⊥
Follows i t (x ∷ xs) (e ∷ es) = (e ≡ x) × Follows i (t ++ e ∷ []) xs es
Follows i t [] (Sent station b ∷ es) =
    (l : Leg) × IsSaid i station b l × Follows i (t ++ Sent station b ∷ []) (resolved_leg i (t ++ Sent station b ∷ []) l) es
Follows i t [] (Took stamp station ∷ es) =
    (p : Pair) × IsPending i t stamp station p
    × Follows i (t ++ Took stamp station ∷ []) (led_to i (t ++ Took stamp station ∷ []) p p.frame.kind) es
Follows i t [] (Put f ∷ es) = ⊥
Follows i t [] (Reached cable station how b ∷ es) = ⊥
Follows i t [] (Dropped router cause b ∷ es) = ⊥
Follows i t [] (Lost stamp ∷ es) = ⊥
Follows i t [] (Hold h ∷ es) = ⊥

module _ (i : Internet) where
  follows_expected : (t xs es : List Entry) → Follows i (t ++ xs) [] es → Follows i t xs (xs ++ es)
  unfolding Follows
  follows_expected t [] es h = subst (λ y. Follows i y [] es) (append-nil t) h
  follows_expected t (x ∷ xs) es h =
      (refl, follows_expected (t ++ x ∷ []) xs es (subst (λ y. Follows i y [] es) (sym (append_assoc t (x ∷ []) xs)) h))

  follows-append : (t xs es fs : List Entry) → Follows i t xs es → Follows i (t ++ es) [] fs → Follows i t xs (es ++ fs)
  unfolding Follows
  follows-append t [] [] fs h g = subst (λ y. Follows i y [] fs) (append-nil t) g
  follows-append t (x ∷ xs) [] fs h g = absurd h
  follows-append t (x ∷ xs) (e ∷ es) fs h g =
      (h.0, follows-append (t ++ e ∷ []) xs es fs h.1 (subst (λ y. Follows i y [] fs) (sym (append_assoc t (e ∷ []) es)) g))
  follows-append t [] (Sent s b ∷ es) fs h g = (
    h.0,
    h.1,
    follows-append (t ++ Sent s b ∷ []) (resolved_leg i (t ++ Sent s b ∷ []) h.0) es fs h.2
        (subst (λ y. Follows i y [] fs) (sym (append_assoc t (Sent s b ∷ []) es)) g),
  )
  follows-append t [] (Took k s ∷ es) fs h g = (
    h.0,
    h.1,
    follows-append (t ++ Took k s ∷ []) (led_to i (t ++ Took k s ∷ []) h.0 h.0.frame.kind) es fs h.2
        (subst (λ y. Follows i y [] fs) (sym (append_assoc t (Took k s ∷ []) es)) g),
  )
  follows-append t [] (Put f ∷ es) fs h g = absurd h
  follows-append t [] (Reached c s how b ∷ es) fs h g = absurd h
  follows-append t [] (Dropped r cause b ∷ es) fs h g = absurd h
  follows-append t [] (Lost k ∷ es) fs h g = absurd h
  follows-append t [] (Hold d ∷ es) fs h g = absurd h

  said_follows : (t : List Entry) (ls : List Leg) → Each (IsMade i) ls → Follows i t [] (resolved_said i t ls)
  unfolding Follows
  said_follows t [] made = tt
  said_follows t (l ∷ ls) made =
      let sent = Sent l.station l.body in
      let es = resolved_leg i (t ++ sent ∷ []) l in (
        l,
        record { made = made.0; by = refl; body = refl },
        follows_expected (t ++ sent ∷ []) es (resolved_said i (t ++ sent ∷ es) ls)
            (subst (λ y. Follows i y [] (resolved_said i (t ++ sent ∷ es) ls)) (sym (append_assoc t (sent ∷ []) es))
            (said_follows (t ++ sent ∷ es) ls made.1)),
      )

  block_follows : (t block : List Entry) → ResolvedBlock i t block → Follows i t [] block
  unfolding Follows
  block_follows t block (Sends l made own) = said_follows t (l ∷ []) (made, tt)
  block_follows t block (Takes p answers there kind made its ans) =
      let s = t ++ taking p ∷ [] in
      let es = resolved_fate i s p in (
        p,
        record { there = there; stamped = refl; by = refl },
        subst (λ k. Follows i s (led_to i s p k) (es ++ resolved_said i (s ++ es) answers)) (sym kind)
            (follows_expected s es (resolved_said i (s ++ es) answers) (said_follows (s ++ es) answers made)),
      )
  block_follows t block (Resolves p there kind) =
      let s = t ++ taking p ∷ [] in
      let es = resolving i s p in (
        p,
        record { there = there; stamped = refl; by = refl },
        subst (λ k. Follows i s (led_to i s p k) es) (sym kind)
            (subst (λ fs. Follows i s es fs) (append-nil es) (follows_expected s es [] tt)),
      )

  pub legal_follows : (t : List Entry) → IsLegalResolved i t → Follows i [] [] t
  unfolding Follows
  legal_follows t Begins = tt
  legal_follows t (Continues front block legal b) = follows-append [] [] front block (legal_follows front legal) (block_follows front block b)

-- These entries follow, the first ones being those that are expected.
pub record Runs (i : Internet) (t xs es : List Entry) : Type 0 where
  pub follows : Follows i t xs es

pub legal_runs : (i : Internet) (t : List Entry) → IsLegalResolved i t → Runs i [] [] t
legal_runs i t legal = record { follows = legal_follows i t legal }

-- What follows is what is expected.
pub top : {i : Internet} {t xs es : List Entry} {x e : Entry} → Runs i t (x ∷ xs) (e ∷ es) → e ≡ x
unfolding Follows
top w = w.follows.0

-- And the others follow.
pub pop : {i : Internet} {t xs es : List Entry} {x e : Entry} → Runs i t (x ∷ xs) (e ∷ es) → Runs i (t ++ e ∷ []) xs es
unfolding Follows
pop w = record { follows = w.follows.1 }

-- The transcript doesn't end where an entry is expected.
pub no_end : {i : Internet} {t xs : List Entry} {x : Entry} → Runs i t (x ∷ xs) [] → ⊥
unfolding Follows
no_end w = w.follows

-- No frame is put where nothing is expected.
pub no_put : {i : Internet} {t es : List Entry} {f : Frame} → Runs i t [] (Put f ∷ es) → ⊥
unfolding Follows
no_put w = w.follows
