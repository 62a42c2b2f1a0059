-- The datagrams that a seat holds, as those of its transcript: one more is held, and which one is let go for it.
use Rattle.std.proofs.Common.{◌≡◌, ℕ, suc, ◌-◌, Bool, true, false, if◌then◌else◌, List, [], ◌∷◌, ◌++◌, Some, None}
use Rattle.std.proofs.Common.{refl, ap, ◌∙◌, arith, length, map, nat_lt, option_and_then, length-append, ◌||◌}
use Rattle.std.specs.List.{list_any}
use Rattle.std.proofs.lemmas.Bool.{ltb-true, ltb-false, lt-ltb, le-ltb}
use Rattle.std.proofs.lemmas.List.{length-map}
use Rattle.aarp.specs.Mapping.{asked_for, counted, holding, is_for, pushed_out}
use Rattle.aarp.specs.declared.held.Held.{Held}
use Rattle.at_base.specs.Address.{same_address}
use Rattle.at_base.specs.Limits.{max_held}
use Rattle.at_base.specs.declared.address.Addr.{Addr}
use Rattle.cable_model.specs.Transcript.{Holding}
use Rattle.live_cables.specs.Holding.{datagram}
use Rattle.resolved_runs.specs.Resolved.{shed_of}
use Rattle.legal_cables.proofs.Finds.{same_turned}
use Rattle.legal_cables.proofs.Kept.{as_held}

-- The address of each was requested once.
asked_one : (a : Addr) (hs : List Holding) → asked_for a (map as_held hs) ≡ 1
asked_one a [] = refl
asked_one a (h ∷ hs) = by (is_for a (as_held h)) refl (asked_one a hs)
  where
    by : (b : Bool) → is_for a (as_held h) ≡ b → asked_for a (map as_held hs) ≡ 1 → asked_for a (map as_held (h ∷ hs)) ≡ 1
    by true e rest = rw e refl
    by false e rest = rw e rest

counted_is : (a : Addr) (stamp : ℕ) (hs : List Holding) → counted (datagram a stamp) (map as_held hs) ≡ datagram a stamp
counted_is a stamp hs = ap (λ n. record (datagram a stamp) { asked = n }) (asked_one a hs)

-- One is held for the address.
pub held_for : (a : Addr) (hs : List Holding) → list_any (is_for a) (map as_held hs) ≡ list_any (λ h. same_address a h.next) hs
held_for a [] = refl
held_for a (h ∷ hs) =
    ap (λ b. b || list_any (is_for a) (map as_held hs)) (same_turned h.next a) ∙ ap (λ b. same_address a h.next || b) (held_for a hs)

-- Fewer than the limit are held, with one more and without the first.
length_more : (h : Held) (hs : List Holding) → length (map as_held hs ++ h ∷ []) ≡ suc (length hs)
length_more h hs =
    let both = length-append (map as_held hs) (h ∷ []) in
    let same = length-map hs as_held in
    omega (arith, both, same)

module _ (a : Addr) (stamp : ℕ) (g : Holding) (hs : List Holding) where
  -- What is held then, where the first one stays or is let go.
  abbrev after : Bool → List Held
  after b = if b then as_held g ∷ (map as_held hs ++ datagram a stamp ∷ []) else (map as_held hs ++ datagram a stamp ∷ [])

  room : nat_lt (length (map as_held hs ++ datagram a stamp ∷ [])) max_held ≡ nat_lt (length hs) (max_held - 1)
  room = by (nat_lt (length hs) (max_held - 1)) refl
    where
      len : length (map as_held hs ++ datagram a stamp ∷ []) ≡ suc (length hs)
      len = length_more (datagram a stamp) hs

      by : (b : Bool) → nat_lt (length hs) (max_held - 1) ≡ b
          → nat_lt (length (map as_held hs ++ datagram a stamp ∷ [])) max_held ≡ b
      by true e = let lt = ltb-true (length hs) (max_held - 1) e in lt-ltb _ _ (omega (arith, lt, len))
      by false e = let le = ltb-false (length hs) (max_held - 1) e in le-ltb _ _ (omega (arith, le, len))

  pub holding_is : holding (datagram a stamp) (map as_held (g ∷ hs)) ≡ after (nat_lt (length hs) (max_held - 1))
  holding_is =
      ap (λ x. if nat_lt (length (map as_held hs ++ x ∷ [])) max_held then as_held g ∷ (map as_held hs ++ x ∷ [])
      else (map as_held hs ++ x ∷ [])) (counted_is a stamp (g ∷ hs))
      ∙ ap after room

pub holding_first : (a : Addr) (stamp : ℕ) → holding (datagram a stamp) [] ≡ datagram a stamp ∷ []
holding_first a stamp = refl

-- The stamp of the one that is let go.
pub shed_is : (a : Addr) (stamp : ℕ) (hs : List Holding)
    → option_and_then (λ (h : Held). h.stamp) (pushed_out (datagram a stamp) (map as_held hs)) ≡ shed_of hs
shed_is a stamp [] = refl
shed_is a stamp (h ∷ hs) =
    ap (λ b. option_and_then (λ (x : Held). x.stamp) (if b then None else Some (as_held h))) (by (nat_lt (length hs) (max_held - 1)) refl)
    ∙ turn (nat_lt (length hs) (max_held - 1))
  where
    len : length (map as_held (h ∷ hs)) ≡ suc (length hs)
    len = let same = length-map hs as_held in omega (arith, same)

    by : (b : Bool) → nat_lt (length hs) (max_held - 1) ≡ b → nat_lt (length (map as_held (h ∷ hs))) max_held ≡ b
    by true e = let lt = ltb-true (length hs) (max_held - 1) e in lt-ltb _ _ (omega (arith, lt, len))
    by false e = let le = ltb-false (length hs) (max_held - 1) e in le-ltb _ _ (omega (arith, le, len))

    turn : (b : Bool) → option_and_then (λ (x : Held). x.stamp) (if b then None else Some (as_held h)) ≡ (if b then None else Some h.stamp)
    turn true = refl
    turn false = refl
