-- What a seat keeps, entry by entry.
use Rattle.std.proofs.Common.{◌≡◌, ℕ, ◌≤◌, false, cond, List, [], ◌∷◌, ◌++◌}
use Rattle.std.proofs.Common.{refl, sym, ap, ◌∙◌, subst, filter, map, append-nil}
use Rattle.std.specs.Option.{option_or}
use Rattle.std.proofs.lemmas.List.Elements.{filter-append}
use Rattle.aarp.specs.Mapping.{Mappings, mapping_of}
use Rattle.aarp.specs.declared.held.Held.{Held}
use Rattle.at_base.specs.Address.{same_address}
use Rattle.at_base.specs.declared.address.Addr.{Addr}
use Rattle.at_base.specs.declared.address.Hw.{Hw}
use Rattle.table_image.specs.Internet.{Internet}
use Rattle.cable_model.specs.Holdings.{holds_of, still_held}
use Rattle.cable_model.specs.Transcript.{Entry, Holding, Sent, Put, Took, Reached, Dropped, Lost, Hold, count, next_stamp}
use Rattle.cable_model.proofs.Counting.{each_all}
use Rattle.live_cables.specs.Holding.{datagram}
use Rattle.resolved_runs.specs.Mapped.{given, mapping_in}
use Rattle.resolved_runs.specs.Resolved.{held_at}
use Rattle.resolved_runs.proofs.Elements.{In}
use Rattle.legal_stations.specs.Resolver.{IsCalm}
use Rattle.legal_cables.specs.Keeping.{IsKept}
use Rattle.legal_cables.proofs.Effects.{IsBooked, IsNoTake, MayFollow, learnt_same, still_hold, still_put, still_same}
use Rattle.legal_cables.proofs.Others.{Ends, held_ended, is_mine, others_stay}

-- A datagram as a seat holds it.
abbrev pub as_held : Holding → Held
as_held h = datagram h.next h.stamp

-- ---- Calm entries

pub calm_follows : (t : List Entry) (e : Entry) → IsCalm t e → MayFollow t e
calm_follows t (Put f) calm = tt
calm_follows t (Sent s b) calm = tt
calm_follows t (Reached c s how b) calm = tt
calm_follows t (Dropped r cause b) calm = tt
calm_follows t (Took n s) calm = absurd calm
calm_follows t (Lost n) calm = absurd calm
calm_follows t (Hold d) calm = absurd calm

pub calm_quiet : (t : List Entry) (e : Entry) → IsCalm t e → IsNoTake e
calm_quiet t (Put f) calm = tt
calm_quiet t (Sent s b) calm = tt
calm_quiet t (Reached c s how b) calm = tt
calm_quiet t (Dropped r cause b) calm = tt
calm_quiet t (Took n s) calm = absurd calm
calm_quiet t (Lost n) calm = absurd calm
calm_quiet t (Hold d) calm = absurd calm

pub calm_still : (t : List Entry) (e : Entry) → IsCalm t e → still_held (t ++ e ∷ []) ≡ still_held t
calm_still t (Put f) calm = still_put t f calm
calm_still t (Sent s b) calm = still_same t (Sent s b) refl (each_all _ (still_held t) (λ h. refl))
calm_still t (Reached c s how b) calm = still_same t (Reached c s how b) refl (each_all _ (still_held t) (λ h. refl))
calm_still t (Dropped r cause b) calm = still_same t (Dropped r cause b) refl (each_all _ (still_held t) (λ h. refl))
calm_still t (Took n s) calm = absurd calm
calm_still t (Lost n) calm = absurd calm
calm_still t (Hold d) calm = absurd calm

-- What is held after one more is held.
pub held_hold : (t : List Entry) (d : Holding) (s c : ℕ) → IsBooked t → next_stamp t ≤ d.stamp
    → held_at (t ++ Hold d ∷ []) s c ≡ held_at t s c ++ cond (is_mine s c d) (d ∷ []) []
held_hold t d s c b new =
    ap (filter (is_mine s c)) (still_hold t d (b.free d.stamp new)) ∙ filter-append (is_mine s c) (still_held t) (d ∷ [])

module _ (i : Internet) (s c : ℕ) where
  -- After an entry that tells nothing, where these datagrams are held then.
  pub kept_with : (t : List Entry) (e : Entry) (m n : Mappings) (hs : List Holding) → IsBooked t → IsNoTake e → IsKept i t s c m
      → n.known ≡ m.known → n.held ≡ map as_held hs → held_at (t ++ e ∷ []) s c ≡ hs → IsKept i (t ++ e ∷ []) s c n
  kept_with t e m n hs b quiet kept same held is = record {
    known = λ a not_own.
        ap (mapping_of a) same
        ∙ (kept.known a not_own ∙ ap (option_or (mapping_in a (given i s c))) (sym (learnt_same s c a t e b quiet)));
    once = λ a. subst (λ (l : List (Addr × Hw)). count (λ p. same_address a p.0) l ≤ 1) (sym same) (kept.once a);
    held = held ∙ ap (map as_held) (sym is);
  }

  -- The same mappings after an entry that doesn't change what the station holds.
  pub kept_still : (t : List Entry) (e : Entry) (m : Mappings) → IsBooked t → IsNoTake e → IsKept i t s c m
      → held_at (t ++ e ∷ []) s c ≡ held_at t s c → IsKept i (t ++ e ∷ []) s c m
  kept_still t e m b quiet kept is = kept_with t e m m (held_at t s c) b quiet kept refl kept.held is

  pub kept_calm : (t : List Entry) (e : Entry) (m : Mappings) → IsBooked t → IsCalm t e → IsKept i t s c m
      → IsKept i (t ++ e ∷ []) s c m
  kept_calm t e m b calm kept = kept_still t e m b (calm_quiet t e calm) kept (ap (filter (is_mine s c)) (calm_still t e calm))

  -- After another station held a datagram, or this one on another cable.
  pub kept_hold : (t : List Entry) (d : Holding) (m : Mappings) → IsBooked t → next_stamp t ≤ d.stamp → is_mine s c d ≡ false
      → IsKept i t s c m → IsKept i (t ++ Hold d ∷ []) s c m
  kept_hold t d m b new other kept =
      kept_still t (Hold d) m b tt kept
      (held_hold t d s c b new
      ∙ (ap (λ x. held_at t s c ++ cond x (d ∷ []) []) other ∙ append-nil (held_at t s c)))

  -- After the end of such a holding.
  pub kept_ended : (t : List Entry) (e : Entry) (g : Holding) (m : Mappings) → IsBooked t → holds_of e ≡ [] → Ends g.stamp e
      → IsNoTake e → In (still_held t) g → is_mine s c g ≡ false → IsKept i t s c m → IsKept i (t ++ e ∷ []) s c m
  kept_ended t e g m b none ends quiet there other kept =
      kept_still t e m b quiet kept
      (held_ended t e g.stamp none ends s c ∙ others_stay t g (b.once g.stamp) there s c other)
