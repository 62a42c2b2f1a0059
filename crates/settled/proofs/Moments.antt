-- However routers of a settled internet hear each other and age their rows, the rows move, and nothing else changes.
use Rattle.std.proofs.Common.{◌≡◌, ℕ, zero, suc, ◌+◌, inl, inr, List, [], ◌∷◌, Some, length, map}
use Rattle.std.proofs.Common.{refl, sym, ap, ◌∙◌, subst, arith}
use Rattle.std.proofs.lemmas.Bool.{cases_eq}
use Rattle.std.proofs.lemmas.List.{length-map}
use Rattle.audit.specs.Rules.{Passes}
use Rattle.audit.specs.Rules.{same_row}
use Rattle.audit.proofs.RowOrder.{only_row}
use Rattle.audit.proofs.WalkLists.{At, at_map, at_one}
use Rattle.settled.proofs.Exchange.{data_heard, rows_aged}
use Rattle.settled.proofs.Moved.{still_passes}
use Rattle.settled.proofs.Next.{row_good, step}
use Rattle.settled.proofs.Stays.{still_settled}
use Rattle.settled.specs.Exchange.{AreMoments, AreMovedRows, IsAmong, IsStep, Tables, image_row, routers_with, with_tables}
use Rattle.settled.specs.Moved.{IsMoved, IsMovedTo}
use Rattle.settled.specs.Settling.{IsSettled}
use Rattle.table_image.specs.Bounds.{IsBounded}
use Rattle.table_image.specs.Internet.{Internet}
use Rattle.table_image.specs.RouteRows.{route_row}
use Rattle.table_image.specs.declared.row.Row.{Row}
use Rattle.table_image.specs.declared.router.Router.{Router}

module _ (i : Internet) (ok : Passes i) (settled : IsSettled i) (bounded : IsBounded i) where
  -- a row may become itself
  unmoved : (r k : ℕ) (router : Router) (a : Row) → At i.routers r router → At router.rows k a → IsMoved i r router a a
  unmoved r k router a er ek =
      record {
        start = refl;
        end = refl;
        distance = refl;
        usable = (row_good i ok r k router a er ek).0;
        direct = refl;
        stays = λ e. refl;
        leads = λ d.
            let w = step i ok r k router a er ek d in
            record {
              port = w.port;
              port_at = w.port_at;
              next = w.next;
              owned = w.owned;
              other = w.other;
              nearer = w.offered;
              found =
                  ap (λ o. same_row o a) w.their_at
                  ∙ sym (only_row w.their.rows a w.place w.offered (bounded.each w.next w.their w.their_at).rising w.offered_at w.same);
              one_less = w.nearer;
            };
      }

  -- the rows of every router, at each moment, may be those
  abbrev pub AreMoved : Tables → Type 0
  AreMoved t = (r : ℕ) (router : Router) → At i.routers r router → AreMovedRows i r router (t r)

  moved_first : (now : Tables) → AreMoments i (now ∷ []) → AreMoved now
  moved_first now begins r router er =
      let w = begins r router er in
      record {
        table = w.1;
        count = sym (length-map router.rows route_row) ∙ sym (ap length w.0);
        each = λ k a c ea ec.
            let h = at_map route_row router.rows k c (subst (λ l. At l k c) w.0 ec) in
            let is : h.0 ≡ a = at_one router.rows k h.0 a h.1 ea in
            let row : a ≡ image_row c = sym (ap image_row (h.2 ∙ ap route_row is)) in
            subst (IsMoved i r router a) row (unmoved r k router a er ea);
      }

  moved : (now : Tables) (past : List Tables) → AreMoments i (now ∷ past) → (t : Tables) → IsAmong t (now ∷ past) → AreMoved t
  moved now [] m t (inl is) = subst AreMoved (sym is) (moved_first now m)
  moved now [] m t (inr later) = elim later [ ]
  moved now (before ∷ earlier) m t (inr later) = moved before earlier m.1 t later
  moved now (before ∷ earlier) m t (inl is) = subst AreMoved (sym is) (after (moved before earlier m.1) m.0)
    where
      after : ((t : Tables) → IsAmong t (before ∷ earlier) → AreMoved t) → IsStep i (before ∷ earlier) before now → AreMoved now
      after known w r router er =
          elim (cases_eq r w.router) [
            | inr other ↦ subst (AreMovedRows i r router) (sym (w.others r other)) (known before (inl refl) r router er)
            | inl mine ↦ elim w.does [
              | inl h ↦
                  let g = h.neighbours in
                  let x = g.router in
                  let er2 : At i.routers w.router router = subst (λ z. At i.routers z router) mine er in
                  let whom : x ≡ router = at_one i.routers w.router x router g.router_at er2 in
                  let old = known before (inl refl) w.router x g.router_at in
                  let theirs = known h.tables h.among h.s g.their g.their_at in
                  let new = data_heard i ok settled bounded w.router h.n h.s h.q h.range g (before w.router) (h.tables h.s) old theirs h.m h.packet h.sent in
                  subst (λ z. AreMovedRows i z router (now z)) (sym mine)
                  (subst (λ z. AreMovedRows i w.router z (now w.router)) whom (subst (AreMovedRows i w.router x) (sym h.heard) new))
              | inr g ↦
                  let er2 : At i.routers w.router router = subst (λ z. At i.routers z router) mine er in
                  let old = known before (inl refl) w.router router er2 in
                  subst (λ z. AreMovedRows i z router (now z)) (sym mine)
                  (subst (AreMovedRows i w.router router) (sym g.older) (rows_aged i w.router router (before w.router) old g.good))
            ]
          ]

  -- ---- the internet with these tables

  with_at : (n : ℕ) (t : Tables) (xs : List Router) (k : ℕ) (x y : Router) → At xs k x → At (routers_with n t xs) k y
      → y ≡ record { ports = x.ports; rows = map image_row (t (n + k)); lists = x.lists }
  with_at n t [] k x y ex ey = cc
  with_at n t (z ∷ xs) zero x y ex ey =
      let is : z ≡ x = cc in
      let made : Router → Router = λ w. record { ports = w.ports; rows = map image_row (t n); lists = w.lists } in
      let here : Some (made z) ≡ Some y = ey in
      sym (same_some (made z) y here) ∙ (ap made is ∙ ap (λ m. record { ports = x.ports; rows = map image_row (t m); lists = x.lists }) (omega arith))
    where
      same_some : (a b : Router) → Some a ≡ Some b → a ≡ b
      same_some a b e = cc
  with_at n t (z ∷ xs) (suc k) x y ex ey =
      with_at (suc n) t xs k x y ex ey ∙ ap (λ m. record { ports = x.ports; rows = map image_row (t m); lists = x.lists }) (omega arith)

  with_count : (n : ℕ) (t : Tables) (xs : List Router) → length xs ≡ length (routers_with n t xs)
  with_count n t [] = refl
  with_count n t (x ∷ xs) = ap suc (with_count (suc n) t xs)

  pub moved_to : (t : Tables) → AreMoved t → IsMovedTo i (with_tables i t)
  moved_to t m =
      record {
        version = refl;
        cables = refl;
        nodes = refl;
        count = with_count 0 t i.routers;
        each = λ r a b ea eb.
            let from_zero : 0 + r ≡ r = omega arith in
            let is = with_at 0 t i.routers r a b ea eb ∙ ap (λ m. record { ports = a.ports; rows = map image_row (t m); lists = a.lists }) from_zero in
            let rows : b.rows ≡ map image_row (t r) = ap (λ (z : Router). z.rows) is in
            let w = m r a ea in
            record {
              ports = sym (ap (λ (z : Router). z.ports) is);
              lists = sym (ap (λ (z : Router). z.lists) is);
              count = w.count ∙ (sym (length-map (t r) image_row) ∙ sym (ap length rows));
              rows = λ k x y ex ey.
                  let h = at_map image_row (t r) k y (subst (λ l. At l k y) rows ey) in
                  subst (IsMoved i r a x) (sym h.2) (w.each k x h.0 ex h.1);
            };
      }

  pub exchanged : (now : Tables) (past : List Tables) → AreMoments i (now ∷ past)
      → Passes (with_tables i now) × IsSettled (with_tables i now) × IsMovedTo i (with_tables i now)
  exchanged now past m =
      let to = moved_to now (moved now past m now (inl refl)) in
      (still_passes i (with_tables i now) ok to, still_settled i (with_tables i now) ok settled to, to)
