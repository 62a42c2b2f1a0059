-- The packets of entries and of ticks, one after the other.
use Rattle.std.proofs.Common.{◌≡◌, ℕ, suc, ◌+◌, ◌<◌, List, [], ◌∷◌, ◌++◌, ap, arith, drop, get_or, length, map, sym, take, refl, ◌∙◌}
use Rattle.std.proofs.lemmas.List.{append_assoc, append-nil, map-append, take_more}
use Rattle.cable_model.specs.Transcript.{Entry}
use Rattle.cable_model.specs.declared.seat.Seat.{Seat}
use Rattle.captures.specs.Packets.{Scene, entries_bytes, entry_bytes, loss, losses, tick_bytes, ticks_bytes, time_after}

-- when the packet after entries is seen
abbrev pub times_after : ℕ → List Entry → ℕ
times_after time [] = time
times_after time (e ∷ es) = times_after (time_after time e) es

-- the packets of entries, followed by that of one more entry
pub entries_one : (s : Scene) (t : ℕ) (xs : List Entry) (e : Entry)
    → entries_bytes s t (xs ++ e ∷ []) ≡ entries_bytes s t xs ++ entry_bytes s (times_after t xs) e
entries_one s t [] e = append-nil (entry_bytes s t e)
entries_one s t (x ∷ xs) e =
    ap (λ (z : List ℕ). entry_bytes s t x ++ z) (entries_one s (time_after t x) xs e)
    ∙ sym (append_assoc (entry_bytes s t x) (entries_bytes s (time_after t x) xs) (entry_bytes s (times_after (time_after t x) xs) e))

pub times_one : (t : ℕ) (xs : List Entry) (e : Entry) → times_after t (xs ++ e ∷ []) ≡ time_after (times_after t xs) e
times_one t [] e = refl
times_one t (x ∷ xs) e = times_one (time_after t x) xs e

-- the losses of entries, followed by that of one more entry
pub losses_one : (xs : List Entry) (e : Entry) → losses (xs ++ e ∷ []) ≡ losses xs ++ loss e
losses_one [] e = append-nil (loss e)
losses_one (x ∷ xs) e = ap (λ (z : List ℕ). loss x ++ z) (losses_one xs e) ∙ sym (append_assoc (loss x) (losses xs) (loss e))

-- the elements up to one, followed by that one
pub one_further : {X Y : Type 0} (f : X → Y) (xs : List X) (k : ℕ) (d : X) → k < length xs
    → map f (take (k + 1) xs) ≡ map f (take k xs) ++ f (get_or xs k d) ∷ []
one_further f xs k d inside = ap (map f) (take_more xs k d inside) ∙ map-append f (take k xs) (get_or xs k d ∷ [])

-- the entries that are left after ticks that added so many each
abbrev pub left_after : List ℕ → List Entry → List Entry
left_after [] es = es
left_after (n ∷ ns) es = left_after ns (drop n es)

-- the packets of ticks, followed by those of one more tick
pub ticks_one : (seats : List Seat) (tick : ℕ) (ns : List ℕ) (n : ℕ) (es : List Entry)
    → ticks_bytes seats tick (ns ++ n ∷ []) es
    ≡ ticks_bytes seats tick ns es ++ tick_bytes seats (tick + length ns) (take n (left_after ns es))
ticks_one seats tick [] n es =
    append-nil (tick_bytes seats tick (take n es)) ∙ ap (λ (t : ℕ). tick_bytes seats t (take n es)) (none tick)
  where
    none : (t : ℕ) → t ≡ t + 0
    none t = omega arith
ticks_one seats tick (m ∷ ns) n es =
    ap (λ (z : List ℕ). tick_bytes seats tick (take m es) ++ z) (ticks_one seats (tick + 1) ns n (drop m es))
    ∙ sym (append_assoc (tick_bytes seats tick (take m es)) (ticks_bytes seats (tick + 1) ns (drop m es))
    (tick_bytes seats (tick + 1 + length ns) (take n (left_after ns (drop m es)))))
    ∙ ap (λ (t : ℕ). (tick_bytes seats tick (take m es) ++ ticks_bytes seats (tick + 1) ns (drop m es))
    ++ tick_bytes seats t (take n (left_after ns (drop m es)))) (later tick (length ns))
  where
    later : (t k : ℕ) → t + 1 + k ≡ t + suc k
    later t k = omega arith

pub left_one : (ns : List ℕ) (n : ℕ) (es : List Entry) → left_after (ns ++ n ∷ []) es ≡ drop n (left_after ns es)
left_one [] n es = refl
left_one (m ∷ ns) n es = left_one ns n (drop m es)
