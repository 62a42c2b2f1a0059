-- What seats keep after further entries, where one station holds more or less.
use Rattle.std.proofs.Common.{◌≡◌, ℕ, ◌≤◌, true, false, not, ◌&&◌, ◌==◌, cond, List, [], ◌∷◌, ◌++◌, refl, sym, ap, ◌∙◌, subst}
use Rattle.std.proofs.Common.{filter, map, eq-eqb, eqb-true}
use Rattle.std.proofs.lemmas.Bool.{and_parts, false_from_ne_true}
use Rattle.aarp.specs.Mapping.{Mappings, mapping_of}
use Rattle.at_base.specs.Address.{same_address}
use Rattle.at_base.specs.declared.address.Addr.{Addr}
use Rattle.at_base.specs.declared.address.Hw.{Hw}
use Rattle.table_image.specs.Internet.{Internet}
use Rattle.cable_model.specs.Holdings.{holds_of, still_held}
use Rattle.cable_model.specs.Transcript.{Entry, Holding, Hold, count, next_stamp}
use Rattle.resolved_runs.specs.Resolved.{held_at}
use Rattle.resolved_runs.proofs.Elements.{In}
use Rattle.legal_stations.specs.Resolver.{IsCalm}
use Rattle.legal_cables.specs.Keeping.{IsKept}
use Rattle.legal_cables.proofs.Changes.{OthersKeep}
use Rattle.legal_cables.proofs.Effects.{IsBooked, IsNoTake, MayFollow, booked, numbered}
use Rattle.legal_cables.proofs.Kept.{as_held, calm_follows, calm_still, held_hold, kept_calm, kept_ended, kept_hold, kept_with}
use Rattle.legal_cables.proofs.Others.{Ends, held_ended, is_mine}

-- The station holds these datagrams on the cable then; a seat that knows what it knew and holds them keeps that, and the others
-- keep what they kept.
pub record After (i : Internet) (s c : ℕ) (t u : List Entry) (hs : List Holding) : Type 0 where
  pub own : (m n : Mappings) → IsKept i t s c m → n.known ≡ m.known → n.held ≡ map as_held hs → IsKept i u s c n
  pub others : OthersKeep i s c t u
  pub books : IsBooked u
  pub here : held_at u s c ≡ hs

-- A datagram of the station on the cable isn't held by another, or on another cable.
pub not_theirs : (s c : ℕ) (d : Holding) → is_mine s c d ≡ true → (x y : ℕ) → (x == s && y == c) ≡ false → is_mine x y d ≡ false
not_theirs s c d mine x y other = false_from_ne_true (is_mine x y d) (λ p.
    let q = and_parts (d.station == x) (d.cable == y) p in
    let r = and_parts (d.station == s) (d.cable == c) mine in
    let ex = sym (eqb-true d.station x q.0) ∙ eqb-true d.station s r.0 in
    let ey = sym (eqb-true d.cable y q.1) ∙ eqb-true d.cable c r.1 in
    let both : (x == s && y == c) ≡ true = ap (λ z. z && y == c) (eq-eqb x s ex) ∙ eq-eqb y c ey in
    let no : true ≡ false = sym both ∙ other in cc)

module _ (i : Internet) (s c : ℕ) where
  -- Before any further entry.
  pub after_none : (t : List Entry) → IsBooked t → After i s c t t (held_at t s c)
  after_none t b = record {
    own = λ m n kept same held. record {
      known = λ a not_own. ap (mapping_of a) same ∙ kept.known a not_own;
      once = λ a. subst (λ (l : List (Addr × Hw)). count (λ p. same_address a p.0) l ≤ 1) (sym same) (kept.once a);
      held = held;
    };
    others = λ x y m other kept. kept;
    books = b;
    here = refl;
  }

  module _ (t u : List Entry) (hs : List Holding) (was : After i s c t u hs) where
    -- After a calm entry.
    pub after_calm : (e : Entry) → IsCalm u e → After i s c t (u ++ e ∷ []) hs
    after_calm e calm = record {
      own = λ m n kept same held. kept_calm i s c u e n was.books calm (was.own m n kept same held);
      others = λ x y m other kept. kept_calm i x y u e m was.books calm (was.others x y m other kept);
      books = booked u was.books e (calm_follows u e calm);
      here = ap (filter (is_mine s c)) (calm_still u e calm) ∙ was.here;
    }

    -- After one more is held.
    pub after_hold : (d : Holding) → is_mine s c d ≡ true → next_stamp u ≤ d.stamp → After i s c t (u ++ Hold d ∷ []) (hs ++ d ∷ [])
    after_hold d mine new = record {
      own = λ m n kept same held.
          let mid : Mappings = record m { held = map as_held hs } in
          kept_with i s c u (Hold d) mid n (hs ++ d ∷ []) was.books tt (was.own m mid kept refl refl) same held here;
      others = λ x y m other kept.
          kept_hold i x y u d m was.books new (not_theirs s c d mine x y other) (was.others x y m other kept);
      books = booked u was.books (Hold d) new;
      here = here;
    }
      where
        here : held_at (u ++ Hold d ∷ []) s c ≡ hs ++ d ∷ []
        here =
            held_hold u d s c was.books new
            ∙ (ap (λ l. l ++ cond (is_mine s c d) (d ∷ []) []) was.here ∙ ap (λ x. hs ++ cond x (d ∷ []) []) mine)

    -- After the end of one of them.
    pub after_ended : (e : Entry) (g : Holding) → holds_of e ≡ [] → Ends g.stamp e → IsNoTake e → MayFollow u e
        → In (still_held u) g → is_mine s c g ≡ true → After i s c t (u ++ e ∷ []) (filter (λ h. not (numbered g.stamp h)) hs)
    after_ended e g none ends quiet may there mine = record {
      own = λ m n kept same held.
          let mid : Mappings = record m { held = map as_held hs } in
          kept_with i s c u e mid n (filter (λ h. not (numbered g.stamp h)) hs) was.books quiet (was.own m mid kept refl refl)
          same held here;
      others = λ x y m other kept.
          kept_ended i x y u e g m was.books none ends quiet there (not_theirs s c g mine x y other) (was.others x y m other kept);
      books = booked u was.books e may;
      here = here;
    }
      where
        here : held_at (u ++ e ∷ []) s c ≡ filter (λ h. not (numbered g.stamp h)) hs
        here = held_ended u e g.stamp none ends s c ∙ ap (filter (λ h. not (numbered g.stamp h))) was.here
