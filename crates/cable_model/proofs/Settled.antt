-- A datagram that can't go out yet is held after the entries of its output were added.
use Rattle.std.proofs.Common.{◌≡◌, ℕ, suc, ◌+◌, ◌<◌, ◌++◌, List, [], ◌∷◌, map, Option, IfSome, refl, sym, ap, ◌∙◌, subst, arith, append-nil}
use Rattle.std.proofs.lemmas.Option.{IfSome_then}
use Rattle.at_base.specs.declared.address.Addr.{Addr}
use Rattle.cable_model.proofs.Steps.{same_tells, tells_then}
use Rattle.cable_model.specs.Books.{IsBook, IsSameButWaiting, Tells, held, said}
use Rattle.cable_model.specs.Logs.{entry_at}
use Rattle.cable_model.specs.Outcomes.{held_at}
use Rattle.cable_model.specs.Outgoing.{IsHeldBy, asked, asked_bytes, held_entries, held_entry, if_open, losses}
use Rattle.cable_model.specs.Transcript.{Entry, next_stamp}
use Rattle.cable_model.specs.declared.log.Log.{Log}
use Rattle.cable_model.specs.declared.resolve.HeldBy.{HeldBy}
use Rattle.cable_model.specs.declared.seat.Seat.{Seat}
use Rattle.cable_model.specs.declared.waiting.Waiting.{Waiting}

-- a stamp below the next one is below a later one
pub still_earlier : (g : Option ℕ) (n m : ℕ) → m ≡ n + 1 → IfSome g (λ s. s < n) → IfSome g (λ s. s < m)
still_earlier g n m e h = IfSome_then g h (λ s le. omega (arith, e, le))

-- nothing waits
pub none_settled : {X : Type 0} (Holds : X → ℕ → Addr → ℕ → HeldBy → X → Type 0) (station : ℕ) (old new : Log) (x : X)
    → old.waiting.items ≡ [] → IsSameButWaiting old new
    → (es : List Entry) × (ks : List (List ℕ)) × Tells old new es × (new.kept.items ≡ old.kept.items ++ ks)
    × IsHeldBy Holds station (said old) (held old) x es ks x
none_settled Holds station old new x idle same =
    let kept : new.kept.items ≡ old.kept.items = ap (λ k. k.items) same.kept in
    let none : held old ≡ [] = ap (map (held_at old.kept.items)) idle in (
      [],
      [],
      same_tells old new (ap (λ v. v.items) same.lines) kept,
      kept ∙ sym (append-nil old.kept.items),
      subst (λ hs. IsHeldBy Holds station (said old) hs x [] [] x) (sym none) (refl, refl, refl),
    )

-- the datagram that waits is held: it was taken out, its Hold was added, then the loss, and then the request
pub one_settled : {X : Type 0} (Holds : X → ℕ → Addr → ℕ → HeldBy → X → Type 0) (seats : List Seat) (station : ℕ)
    (old taken noted given new : Log) (w : Waiting) (by : HeldBy) (gone : Option ℕ) (x y : X)
    → IsBook seats old → old.waiting.items ≡ w ∷ [] → IsSameButWaiting old taken
    → Holds x w.cable w.next taken.next_stamp by y → gone ≡ if_open (said taken) by.shed
    → Tells taken noted (held_entry taken.next_stamp station (held_at taken.kept.items w) ∷ [])
    → noted.kept ≡ taken.kept → noted.next_stamp ≡ taken.next_stamp + 1
    → Tells noted given (losses gone) → given.kept ≡ noted.kept → given.next_stamp ≡ noted.next_stamp
    → Tells given new (asked (record { stamp = given.next_stamp; cable = w.cable; station = station }) by.ask)
    → new.kept.items ≡ given.kept.items ++ asked_bytes by.ask
    → (es : List Entry) × (ks : List (List ℕ)) × Tells old new es × (new.kept.items ≡ old.kept.items ++ ks)
    × IsHeldBy Holds station (said old) (held old) x es ks y
one_settled Holds seats station old taken noted given new w by gone x y book waits same holds shed t1 k1 n1 t2 k2 n2 t3 stored =
    let kept : taken.kept.items ≡ old.kept.items = ap (λ k. k.items) same.kept in
    let lines : taken.lines.items ≡ old.lines.items = ap (λ v. v.items) same.lines in
    let t : said taken ≡ said old =
    ap (map (entry_at taken.kept.items)) lines ∙ ap (λ k. map (entry_at k) old.lines.items) kept in
    let n : taken.next_stamp ≡ next_stamp (said old) = same.next_stamp ∙ book.next in
    let m : given.next_stamp ≡ suc (next_stamp (said old)) = omega (arith, n, n1, n2) in
    let g : gone ≡ if_open (said old) by.shed = shed ∙ ap (λ t. if_open t by.shed) t in
    let entries : ℕ → List (List ℕ) → Option ℕ → ℕ → List Entry = λ n k g m. held_entry n station (held_at k w)
    ∷ (losses g ++ asked (record { stamp = m; cable = w.cable; station = station }) by.ask) in
    let es = entries taken.next_stamp taken.kept.items gone given.next_stamp in
    let is : es ≡ held_entries (said old) station (held_at old.kept.items w) by =
    ap (λ n. entries n taken.kept.items gone given.next_stamp) n
    ∙ (ap (λ k. entries (next_stamp (said old)) k gone given.next_stamp) kept
    ∙ (ap (λ g. entries (next_stamp (said old)) old.kept.items g given.next_stamp) g
    ∙ ap (λ m. entries (next_stamp (said old)) old.kept.items (if_open (said old) by.shed) m) m)) in
    let one : held old ≡ held_at old.kept.items w ∷ [] = ap (map (held_at old.kept.items)) waits in (
      es,
      asked_bytes by.ask,
      tells_then old taken new [] es (same_tells old taken lines kept)
          (tells_then taken noted new (held_entry taken.next_stamp station (held_at taken.kept.items w) ∷ []) _ t1
          (tells_then noted given new (losses gone) _ t2 t3)),
      stored ∙ ap (λ k. k.items ++ asked_bytes by.ask) (k2 ∙ (k1 ∙ same.kept)),
      subst (λ hs. IsHeldBy Holds station (said old) hs x es (asked_bytes by.ask) y) (sym one)
          (by, subst (λ n. Holds x w.cable w.next n by y) n holds, is, refl),
    )
