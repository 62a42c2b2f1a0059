-- The laws of reading, for every format: a value that is read has these bytes; the bytes of a value are read back; a
-- refusal is the first fault, and a first fault is the refusal.
use Rattle.std.proofs.Common.{◌≡◌, ℕ, ◌≤◌, Bool, true, false, ltb, List, [], ◌++◌, length, None, Ok, Err, refl, sym, ap, subst, ◌∙◌}
use Rattle.std.proofs.Common.{append_assoc, inl, inr, arith}
use Rattle.std.proofs.lemmas.Bool.{ltb-true, ltb-false, lt-ltb, le-ltb}
use Rattle.std.proofs.lemmas.List.{length-append, append-nil}
use Rattle.at_base.specs.Grammar.{Grammar, done, field, part, list, room, limit, many, Refusals}
use Rattle.at_base.specs.Spelling.{field_bytes, Passes, list_bytes, bytes_of, ListPasses, IsValue, Follows}
use Rattle.at_base.specs.FirstFault.{FirstFault, low_after}
use Rattle.at_base.specs.Reading.{field_at, checked, list_at, many_at, read}
use Rattle.at_base.specs.Lawful.{Has, IsLawful}
use Rattle.at_base.proofs.Fields.{IsBytes, ok_is, err_is, bind_ok, bind_err, guard_ok, guard_err, checked_ok, checked_err, Took}
use Rattle.at_base.proofs.Fields.{field_takes, field_again, field_fault, field_refused}
use Rattle.at_base.proofs.Items.{Took-then, list_takes, list_again, list_fault, many_takes, many_again, many_fault, list_refused}
use Rattle.at_base.proofs.Items.{many_refused}

has_value : {W : Type 0} {s : Bool} {A V : Type 0} (get : A → V) (v : V) (g : Grammar W s A) → Has get v g → (y : A) → IsValue g y
    → get y ≡ v
has_value get v (done x) h y p = ap get (sym p) ∙ h
has_value get v (field fd other after) h y p = has_value get v (after (other y)) (h (other y) p.0) y p.1
has_value get v (part g other after) h y p = has_value get v (after (other y)) (h (other y) p.0) y p.1
has_value get v (list item next n other after) h y p = has_value get v (after (other y)) (h (other y) p.0) y p.2
has_value get v (room n g) h y p = has_value get v g h y p
has_value get v (limit n over g) h y p = has_value get v g h y p
has_value get v (many item next wrong other make) h y p = ap get (sym p.2) ∙ h (other y)

nothing_fits : IsBytes []
nothing_fits i = omega arith

-- a value that is read has these bytes
pub read_takes : {W E : Type 0} {s : Bool} {A : Type 0} (r : Refusals W E) (g : Grammar W s A) → IsLawful g
    → (bytes : List ℕ) (x : A × List ℕ) → IsBytes bytes → read r g bytes ≡ Ok x → Took bytes (bytes_of g x.0) x.1 × IsValue g x.0
read_takes {E = E} {s = s} {A = A} r (done y) lawful bytes x fits e =
    let same = ok_is {E = E} (y, bytes) x e in (
      record { parts = ap (λ (z : A × List ℕ). z.1) same; rest_fits = subst (λ (z : A × List ℕ). IsBytes z.1) same fits },
      ap
          (λ (z : A × List ℕ). z.0) same,
    )
read_takes {E = E} {s = s} {A = A} r (field {V = V} fd get after) lawful bytes x fits e =
    let a = bind_ok (field_at r fd bytes) (λ y. read r (after y.0) y.1) x e in
    let t = field_takes r fd bytes a.0 fits a.1 in
    let l = lawful a.0.0 t.1 in
    let u = read_takes r (after a.0.0) l.1 a.0.1 x t.0.rest_fits a.2 in
    let same = has_value get a.0.0 (after a.0.0) l.0 x.0 u.1 in
    subst (λ (v : V). Took bytes (field_bytes fd v ++ bytes_of (after v) x.0) x.1 × (Passes fd v × IsValue (after v) x.0)) (sym same)
    (Took-then bytes (field_bytes fd a.0.0) a.0.1 (bytes_of (after a.0.0) x.0) x.1 t.0 u.0, (t.1, u.1))
read_takes {E = E} {s = s} {A = A} r (part {B = B} g get after) lawful bytes x fits e =
    let a = bind_ok (read r g bytes) (λ y. read r (after y.0) y.1) x e in
    let t = read_takes r g lawful.0 bytes a.0 fits a.1 in
    let l = lawful.1 a.0.0 t.1 in
    let u = read_takes r (after a.0.0) l.1 a.0.1 x t.0.rest_fits a.2 in
    let same = has_value get a.0.0 (after a.0.0) l.0 x.0 u.1 in
    subst (λ (v : B). Took bytes (bytes_of g v ++ bytes_of (after v) x.0) x.1 × (IsValue g v × IsValue (after v) x.0)) (sym same)
    (Took-then bytes (bytes_of g a.0.0) a.0.1 (bytes_of (after a.0.0) x.0) x.1 t.0 u.0, (t.1, u.1))
read_takes {E = E} {s = s} {A = A} r (list {B = B} item next n get after) lawful bytes x fits e =
    let a = bind_ok (list_at (λ low. read r (item low)) next 0 n bytes) (λ y. read r (after y.0) y.1) x e in
    let t = list_takes (λ low. read r (item low)) (λ low. bytes_of (item low)) (λ low. IsValue (item low)) next
    (λ low. read_takes r (item low) (lawful.0 low)) 0 n bytes a.0 fits a.1 in
    let l = lawful.1 a.0.0 t.2 in
    let u = read_takes r (after a.0.0) l.1 a.0.1 x t.0.rest_fits a.2 in
    let same = has_value get a.0.0 (after a.0.0) l.0 x.0 u.1 in
    subst (λ (v : List B). Took bytes (list_bytes (λ low. bytes_of (item low)) next 0 v ++ bytes_of (after v) x.0) x.1 ×
    ((length v ≡ n) × ListPasses (λ low. IsValue (item low)) next 0 v × IsValue (after v) x.0)) (sym same)
    (Took-then bytes (list_bytes (λ low. bytes_of (item low)) next 0 a.0.0) a.0.1 (bytes_of (after a.0.0) x.0) x.1 t.0 u.0, (t.2, t.1, u.1))
read_takes r (room n g) lawful bytes x fits e =
    let p = guard_ok (ltb (length bytes) n) r.cut (read r g bytes) x e in
    read_takes r g lawful.1 bytes x fits p.1
read_takes r (limit n over g) lawful bytes x fits e =
    read_takes r g lawful bytes x fits (guard_ok (ltb n (length bytes)) (r.placed (length bytes) over) (read r g bytes) x e).1
read_takes {E = E} {s = s} {A = A} r (many {B = B} item next wrong get make) lawful bytes x fits e =
    let a = bind_ok (many_at (λ low. read r (item low)) next 0 (length bytes) bytes) (λ ys. checked r bytes (wrong ys) (make ys, [])) x e in
    let t = many_takes (λ low. read r (item low)) (λ low. bytes_of (item low)) (λ low. IsValue (item low)) next
    (λ low. read_takes r (item low) (lawful.0 low)) lawful.1 0 (length bytes) bytes a.0 fits (omega arith) a.1 in
    let c = checked_ok r bytes (wrong a.0) (make a.0, []) x a.2 in
    let back : get (make a.0) ≡ a.0 = lawful.2 a.0 in
    subst (λ (z : A × List ℕ). Took bytes (list_bytes (λ low. bytes_of (item low)) next 0 (get z.0)) z.1 ×
    (ListPasses (λ low. IsValue (item low)) next 0 (get z.0) × (wrong (get z.0) ≡ None) × (make (get z.0) ≡ z.0))) c.1
    (rw back (
      record { parts = t.0 ∙ sym (append-nil (list_bytes (λ low. bytes_of (item low)) next 0 a.0)); rest_fits = nothing_fits },
      (t.1, c.0, refl),
    ))

pub follows_all : {W : Type 0} {A : Type 0} (g : Grammar W true A) (y : A) (rest : List ℕ) → Follows g y rest
follows_all (done x) y rest = tt
follows_all (field fd get after) y rest = follows_all (after (get y)) y rest
follows_all (part g get after) y rest = follows_all (after (get y)) y rest
follows_all (list item next n get after) y rest = follows_all (after (get y)) y rest
follows_all (room n g) y rest = follows_all g y rest

-- the bytes after a value that is read may follow it
pub read_follows : {W E : Type 0} {s : Bool} {A : Type 0} (r : Refusals W E) (g : Grammar W s A) → IsLawful g
    → (bytes : List ℕ) (x : A × List ℕ) → IsBytes bytes → read r g bytes ≡ Ok x → Follows g x.0 x.1
read_follows r (done y) lawful bytes x fits e = tt
read_follows r (field {V = V} fd get after) lawful bytes x fits e =
    let a = bind_ok (field_at r fd bytes) (λ y. read r (after y.0) y.1) x e in
    let t = field_takes r fd bytes a.0 fits a.1 in
    let l = lawful a.0.0 t.1 in
    let u = read_takes r (after a.0.0) l.1 a.0.1 x t.0.rest_fits a.2 in
    subst (λ (v : V). Follows (after v) x.0 x.1) (sym (has_value get a.0.0 (after a.0.0) l.0 x.0 u.1))
    (read_follows r (after a.0.0) l.1 a.0.1 x t.0.rest_fits a.2)
read_follows r (part {B = B} g get after) lawful bytes x fits e =
    let a = bind_ok (read r g bytes) (λ y. read r (after y.0) y.1) x e in
    let t = read_takes r g lawful.0 bytes a.0 fits a.1 in
    let l = lawful.1 a.0.0 t.1 in
    let u = read_takes r (after a.0.0) l.1 a.0.1 x t.0.rest_fits a.2 in
    subst (λ (v : B). Follows (after v) x.0 x.1) (sym (has_value get a.0.0 (after a.0.0) l.0 x.0 u.1))
    (read_follows r (after a.0.0) l.1 a.0.1 x t.0.rest_fits a.2)
read_follows r (list {B = B} item next n get after) lawful bytes x fits e =
    let a = bind_ok (list_at (λ low. read r (item low)) next 0 n bytes) (λ y. read r (after y.0) y.1) x e in
    let t = list_takes (λ low. read r (item low)) (λ low. bytes_of (item low)) (λ low. IsValue (item low)) next
    (λ low. read_takes r (item low) (lawful.0 low)) 0 n bytes a.0 fits a.1 in
    let l = lawful.1 a.0.0 t.2 in
    let u = read_takes r (after a.0.0) l.1 a.0.1 x t.0.rest_fits a.2 in
    subst (λ (v : List B). Follows (after v) x.0 x.1) (sym (has_value get a.0.0 (after a.0.0) l.0 x.0 u.1))
    (read_follows r (after a.0.0) l.1 a.0.1 x t.0.rest_fits a.2)
read_follows r (room n g) lawful bytes x fits e =
    read_follows r g lawful.1 bytes x fits (guard_ok (ltb (length bytes) n) r.cut (read r g bytes) x e).1
read_follows r (limit n over g) lawful bytes x fits e =
    let p = guard_ok (ltb n (length bytes)) (r.placed (length bytes) over) (read r g bytes) x e in
    let t = read_takes r g lawful bytes x fits p.1 in
    let few : length bytes ≤ n = ltb-false _ _ p.0 in
    let same : length bytes ≡ length (bytes_of g x.0 ++ x.1) = ap (λ (l : List ℕ). length l) t.0.parts in
    (read_follows r g lawful bytes x fits p.1, omega arith)
read_follows {A = A} r (many item next wrong get make) lawful bytes x fits e =
    let a = bind_ok (many_at (λ low. read r (item low)) next 0 (length bytes) bytes) (λ ys. checked r bytes (wrong ys) (make ys, [])) x e in
    let c = checked_ok r bytes (wrong a.0) (make a.0, []) x a.2 in
    sym (ap (λ (z : A × List ℕ). z.1) c.1)

-- the bytes of a value are read back as the value
pub read_again : {W E : Type 0} {s : Bool} {A : Type 0} (r : Refusals W E) (g : Grammar W s A) → IsLawful g → (y : A) (rest : List ℕ)
    → IsValue g y → Follows g y rest → read r g (bytes_of g y ++ rest) ≡ Ok (y, rest)
read_again {E = E} {s = s} {A = A} r (done x) lawful y rest h f = ap (λ (z : A). Ok (z, rest)) h
read_again r (field fd get after) lawful y rest h f =
    ap (read r (field fd get after)) (append_assoc (field_bytes fd (get y)) (bytes_of (after (get y)) y) rest)
    ∙ rw (field_again r fd (get y) (bytes_of (after (get y)) y ++ rest) h.0)
    (read_again r (after (get y)) (lawful (get y) h.0).1 y rest h.1 f)
read_again r (part g get after) lawful y rest h f =
    ap (read r (part g get after)) (append_assoc (bytes_of g (get y)) (bytes_of (after (get y)) y) rest)
    ∙ rw (read_again r g lawful.0 (get y) (bytes_of (after (get y)) y ++ rest) h.0
    (follows_all g (get y) (bytes_of (after (get y)) y ++ rest))) (read_again r (after (get y)) (lawful.1 (get y) h.0).1 y rest h.1 f)
read_again r (list item next n get after) lawful y rest h f =
    ap (read r (list item next n get after)) (append_assoc (list_bytes (λ low. bytes_of (item low)) next 0 (get y))
    (bytes_of (after (get y)) y) rest)
    ∙ rw (
      ← h.0,
      list_again (λ low. read r (item low)) (λ low. bytes_of (item low)) (λ low. IsValue (item low)) next
          (λ low x b p. read_again r (item low) (lawful.0 low) x b p (follows_all (item low) x b)) 0 (get y)
          (bytes_of (after (get y)) y ++ rest) h.1,
    ) (read_again r (after (get y)) (lawful.1 (get y) h.0).1 y rest h.2 f)
read_again r (room n g) lawful y rest h f =
    let enough = lawful.0 y h in
    let no : ltb (length (bytes_of g y ++ rest)) n ≡ false = le-ltb _ _ (omega (arith, length-append (bytes_of g y) rest)) in
    rw no (read_again r g lawful.1 y rest h f)
read_again r (limit n over g) lawful y rest h f =
    let no : ltb n (length (bytes_of g y ++ rest)) ≡ false = le-ltb _ _ f.1 in
    rw no (read_again r g lawful y rest h f.0)
read_again {E = E} {s = s} {A = A} r (many item next wrong get make) lawful y rest h f =
    let bytes = list_bytes (λ low. bytes_of (item low)) next 0 (get y) in
    let whole : bytes ++ rest ≡ bytes = ap (λ (r : List ℕ). bytes ++ r) f ∙ append-nil bytes in
    let again = many_again (λ low. read r (item low)) (λ low. bytes_of (item low)) (λ low. IsValue (item low)) next
    (λ low x b p. read_again r (item low) (lawful.0 low) x b p (follows_all (item low) x b)) lawful.1 0 (length bytes) (get y) h.0
    (omega arith) in
    ap (read r (many item next wrong get make)) whole ∙ rw (again, h.1, h.2, f) refl

-- a refusal is the first fault
pub read_fault : {W E : Type 0} {s : Bool} {A : Type 0} (r : Refusals W E) (g : Grammar W s A) → IsLawful g → (bytes : List ℕ) (f : E)
    → IsBytes bytes → read r g bytes ≡ Err f → FirstFault r g bytes f
read_fault r (done x) lawful bytes f fits e = absurd cc
read_fault r (field fd get after) lawful bytes f fits e =
    elim (bind_err (field_at r fd bytes) (λ y. read r (after y.0) y.1) f e) [
      | inl p ↦ inl (field_fault r fd bytes f fits p)
      | inr a ↦
          let t = field_takes r fd bytes a.0 fits a.1 in
          inr (a.0.0, a.0.1, t.0.parts, t.1, read_fault r (after a.0.0) (lawful a.0.0 t.1).1 a.0.1 f t.0.rest_fits a.2)
    ]
read_fault r (part g get after) lawful bytes f fits e =
    elim (bind_err (read r g bytes) (λ y. read r (after y.0) y.1) f e) [
      | inl p ↦ inl (read_fault r g lawful.0 bytes f fits p)
      | inr a ↦
          let t = read_takes r g lawful.0 bytes a.0 fits a.1 in
          inr (a.0.0, a.0.1, t.0.parts, t.1, read_fault r (after a.0.0) (lawful.1 a.0.0 t.1).1 a.0.1 f t.0.rest_fits a.2)
    ]
read_fault r (list item next n get after) lawful bytes f fits e =
    elim (bind_err (list_at (λ low. read r (item low)) next 0 n bytes) (λ y. read r (after y.0) y.1) f e) [
      | inl p ↦ inl (list_fault (λ low. read r (item low)) (λ low. FirstFault r (item low)) (λ low. bytes_of (item low))
          (λ low. IsValue (item low)) next (λ low. read_takes r (item low) (lawful.0 low))
          (λ low. read_fault r (item low) (lawful.0 low)) 0 n bytes f fits p)
      | inr a ↦
          let t = list_takes (λ low. read r (item low)) (λ low. bytes_of (item low)) (λ low. IsValue (item low)) next
          (λ low. read_takes r (item low) (lawful.0 low)) 0 n bytes a.0 fits a.1 in
          inr (a.0.0, a.0.1, t.0.parts, t.2, t.1, read_fault r (after a.0.0) (lawful.1 a.0.0 t.2).1 a.0.1 f t.0.rest_fits a.2)
    ]
read_fault r (room n g) lawful bytes f fits e =
    elim (guard_err (ltb (length bytes) n) r.cut (read r g bytes) f e) [
      | inl p ↦ inl (ltb-true _ _ p.0, p.1)
      | inr p ↦ inr (ltb-false _ _ p.0, read_fault r g lawful.1 bytes f fits p.1)
    ]
read_fault r (limit n over g) lawful bytes f fits e =
    elim (guard_err (ltb n (length bytes)) (r.placed (length bytes) over) (read r g bytes) f e) [
      | inl p ↦ inl (ltb-true _ _ p.0, p.1)
      | inr p ↦ inr (ltb-false _ _ p.0, read_fault r g lawful bytes f fits p.1)
    ]
read_fault r (many item next wrong get make) lawful bytes f fits e =
    elim (bind_err (many_at (λ low. read r (item low)) next 0 (length bytes) bytes) (λ ys. checked r bytes (wrong ys) (make ys, [])) f e) [
      | inl p ↦ inl (many_fault (λ low. read r (item low)) (λ low. FirstFault r (item low)) (λ low. bytes_of (item low))
          (λ low. IsValue (item low)) next (λ low. read_takes r (item low) (lawful.0 low))
          (λ low. read_fault r (item low) (lawful.0 low)) 0 (length bytes) bytes f fits p)
      | inr a ↦
          let t = many_takes (λ low. read r (item low)) (λ low. bytes_of (item low)) (λ low. IsValue (item low)) next
          (λ low. read_takes r (item low) (lawful.0 low)) lawful.1 0 (length bytes) bytes a.0 fits (omega arith) a.1 in
          let c = checked_err r bytes (wrong a.0) (make a.0, []) f a.2 in
          inr (a.0, c.0, t.0, t.1, c.1, c.2)
    ]

-- where the bytes have a first fault, reading returns it
pub read_refused : {W E : Type 0} {s : Bool} {A : Type 0} (r : Refusals W E) (g : Grammar W s A) → IsLawful g → (bytes : List ℕ) (f : E)
    → FirstFault r g bytes f → read r g bytes ≡ Err f
read_refused r (done x) lawful bytes f h = absurd h
read_refused r (field fd get after) lawful bytes f (inl h) = rw (field_refused r fd bytes f h) refl
read_refused r (field fd get after) lawful bytes f (inr (v, rest, parts, p, h)) =
    let first : field_at r fd bytes ≡ Ok (v, rest) = rw parts (field_again r fd v rest p) in
    rw first (read_refused r (after v) (lawful v p).1 rest f h)
read_refused r (part g get after) lawful bytes f (inl h) = rw (read_refused r g lawful.0 bytes f h) refl
read_refused r (part g get after) lawful bytes f (inr (v, rest, parts, p, h)) =
    let first : read r g bytes ≡ Ok (v, rest) = rw parts (read_again r g lawful.0 v rest p (follows_all g v rest)) in
    rw first (read_refused r (after v) (lawful.1 v p).1 rest f h)
read_refused r (list item next n get after) lawful bytes f (inl h) =
    rw (list_refused (λ low. read r (item low)) (λ low. FirstFault r (item low)) (λ low. bytes_of (item low))
    (λ low. IsValue (item low)) next (λ low x rest p. read_again r (item low) (lawful.0 low) x rest p
    (follows_all (item low) x rest)) (λ low. read_refused r (item low) (lawful.0 low)) 0 n bytes f h) refl
read_refused r (list {B = B} item next n get after) lawful bytes f (inr (v, rest, parts, len, p, h)) =
    let first : list_at (λ low. read r (item low)) next 0 n bytes ≡ Ok (v, rest) =
    rw (parts, ← len) (list_again (λ low. read r (item low)) (λ low. bytes_of (item low)) (λ low. IsValue (item low)) next
    (λ low x rest p. read_again r (item low) (lawful.0 low) x rest p (follows_all (item low) x rest)) 0 v rest p) in
    rw first (read_refused r (after v) (lawful.1 v len).1 rest f h)
read_refused r (room n g) lawful bytes f (inl h) = let short : ltb (length bytes) n ≡ true = lt-ltb _ _ h.0 in rw (short, h.1) refl
read_refused r (room n g) lawful bytes f (inr h) =
    let long : ltb (length bytes) n ≡ false = le-ltb _ _ h.0 in rw long (read_refused r g lawful.1 bytes f h.1)
read_refused r (limit n over g) lawful bytes f (inl h) = let long : ltb n (length bytes) ≡ true = lt-ltb _ _ h.0 in rw (long, h.1) refl
read_refused r (limit n over g) lawful bytes f (inr h) =
    let few : ltb n (length bytes) ≡ false = le-ltb _ _ h.0 in rw few (read_refused r g lawful bytes f h.1)
read_refused r (many item next wrong get make) lawful bytes f (inl (v, rest, parts, p, some, h)) =
    let stuck : many_at (λ low. read r (item low)) next 0 (length bytes) bytes ≡ Err f =
    rw parts (many_refused (λ low. read r (item low)) (λ low. bytes_of (item low)) (λ low. IsValue (item low)) next
    (λ low x rest p. read_again r (item low) (lawful.0 low) x rest p (follows_all (item low) x rest)) lawful.1 0
    (length (list_bytes (λ low. bytes_of (item low)) next 0 v ++ rest)) v rest f p some (omega arith)
    (read_refused r (item (low_after next 0 v)) (lawful.0 (low_after next 0 v)) rest f h)) in
    rw stuck refl
read_refused r (many item next wrong get make) lawful bytes f (inr (v, w, parts, p, bad, is)) =
    let all : many_at (λ low. read r (item low)) next 0 (length bytes) bytes ≡ Ok v =
    rw parts (many_again (λ low. read r (item low)) (λ low. bytes_of (item low)) (λ low. IsValue (item low)) next
    (λ low x rest p. read_again r (item low) (lawful.0 low) x rest p (follows_all (item low) x rest)) lawful.1 0
    (length (list_bytes (λ low. bytes_of (item low)) next 0 v)) v p (omega arith)) in
    rw (all, bad, is) refl

-- the bytes have at most one first fault
pub one_fault : {W E : Type 0} {s : Bool} {A : Type 0} (r : Refusals W E) (g : Grammar W s A) → IsLawful g → (bytes : List ℕ) (e f : E)
    → FirstFault r g bytes e → FirstFault r g bytes f → f ≡ e
one_fault {A = A} r g lawful bytes e f h k =
    err_is {A = A × List ℕ} f e (sym (read_refused r g lawful bytes f k) ∙ read_refused r g lawful bytes e h)
