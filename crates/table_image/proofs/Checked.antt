-- The results of checks, part by part.
use Rattle.std.proofs.Common.{◌≡◌, ℕ, ◌+◌, ◌*◌, ◌^◌, ◌<◌, ◌≤◌, Bool, true, false, ltb, ◌&&◌, not, nat_le, ◌-◌, List, [], length, Some, None}
use Rattle.std.proofs.Common.{Result, Ok, Err, refl, sym, ap, subst, arith, inl, inr}
use Rattle.std.specs.List.{list_all}
use Rattle.std.proofs.lemmas.Bool.{le-ltb, lt-ltb, and_parts, leb-true}
use Rattle.std.proofs.lemmas.List.{length-append}
use Rattle.at_base.specs.declared.error.Cause.{Cause}
use Rattle.at_base.specs.declared.error.Cause.TheVariants.{Count, Index, Name, Order, Value}
use Rattle.at_base.specs.Address.{address_number}
use Rattle.at_base.specs.declared.address.Addr.{Addr}
use Rattle.rtmp.specs.declared.state.State.{State}
use Rattle.rtmp.specs.declared.state.State.TheVariants.{Good, Suspect, Bad, Last}
use Rattle.at_base.specs.Text.{is_name, IsName, is_printable, is_only, is_entity}
use Rattle.at_base.specs.Grammar.{Grammar, Field, Size, done, field, list, number, part}
use Rattle.at_base.specs.FirstFault.{field_len}
use Rattle.at_base.proofs.Fields.{length-field_bytes}
use Rattle.at_base.specs.Spelling.{field_bytes, list_bytes, bytes_of, IsValue, Passes}
use Rattle.table_image.specs.Counts.{count_len}
use Rattle.table_image.specs.Limits.{max_distance, max_text}
use Rattle.table_image.specs.Flaws.{Wrong, Here, Before}
use Rattle.table_image.specs.Tests.{address_rising, within, below, rising}
use Rattle.table_image.specs.Spelling.{counted, text_spelling, zone_spelling, address_spelling, mapping_spelling, port_spelling}
use Rattle.table_image.specs.Spelling.{row_spelling, state_number}
use Rattle.table_image.specs.Spelling.{state_of}
use Rattle.table_image.specs.Checking.{FlawAt, Checks, ChecksList}
use Rattle.table_image.specs.declared.flaw.Flaw.{Flaw}
use Rattle.table_image.specs.declared.mapping.Mapping.{Mapping}
use Rattle.table_image.specs.declared.port.Port.{Port}
use Rattle.table_image.specs.declared.row.Row.{Row}
use Rattle.table_image.specs.declared.version.Version.{Version}

pub is_within : (least most : ℕ) (c : Cause) (n : ℕ) → least ≤ n → n ≤ most → within least most c n ≡ None
is_within least most c n low high =
    let a : ltb n least ≡ false = le-ltb _ _ low in
    let b : ltb most n ≡ false = le-ltb _ _ high in
    rw (a, b) refl

-- ---- tests of fields

pub rises : (low n : ℕ) → low ≤ n → rising low n ≡ None
rises low n h = let a : ltb n low ≡ false = le-ltb _ _ h in rw a refl

pub falls : (low n : ℕ) → n < low → rising low n ≡ Some (Here Order)
falls low n h = let a : ltb n low ≡ true = lt-ltb _ _ h in rw a refl

pub is_below : (count n : ℕ) → n < count → below count n ≡ None
is_below count n h = let a : ltb n count ≡ true = lt-ltb _ _ h in rw a refl

pub not_below : (count n : ℕ) → count ≤ n → below count n ≡ Some (Here Index)
not_below count n h = let a : ltb n count ≡ false = le-ltb _ _ h in rw a refl

pub too_low : (least most : ℕ) (c : Cause) (n : ℕ) → n < least → within least most c n ≡ Some (Here c)
too_low least most c n h = let a : ltb n least ≡ true = lt-ltb _ _ h in rw a refl

pub too_high : (least most : ℕ) (c : Cause) (n : ℕ) → least ≤ n → most < n → within least most c n ≡ Some (Here c)
too_high least most c n low h =
    let a : ltb n least ≡ false = le-ltb _ _ low in
    let b : ltb most n ≡ true = lt-ltb _ _ h in
    rw (a, b) refl

-- ---- addresses, ports and rows

pub address_value : (a : Addr) → a.net < 2 ^ 16 → a.node < 2 ^ 8 → IsValue address_spelling a
unfolding address_spelling
address_value a net node = ((net, refl), ((node, refl), refl))

-- the numbers of a port fit its fields
pub record FitsPort (p : Port) : Type 0 where
  pub cable : p.cable < 2 ^ 8
  pub net : p.address.net < 2 ^ 16
  pub node : p.address.node < 2 ^ 8
  pub hardware : length p.hardware.0 ≡ 6

pub port_misses : (version : Version) (cables : ℕ) (p : Port) (at : ℕ) → FitsPort p → cables ≤ p.cable
    → Checks (port_spelling version cables) p at (Err (record { place = at; cause = Index }))
unfolding port_spelling
port_misses version cables p at f le = (at, Here Index, inl (f.cable, not_below cables p.cable le, refl), refl)

-- the numbers of a mapping fit its fields
pub record FitsMapping (m : Mapping) : Type 0 where
  pub net : m.address.net < 2 ^ 16
  pub node : m.address.node < 2 ^ 8
  pub hardware : length m.hardware.0 ≡ 6

address_rises : (low : ℕ) (a : Addr) → low ≤ address_number a → address_rising low a.net a.node ≡ None
address_rises low a h = let e : ltb (address_number a) low ≡ false = le-ltb _ _ h in rw e refl

address_falls : (low : ℕ) (a : Addr) → address_number a < low → address_rising low a.net a.node ≡ Some (Before 2 Order)
address_falls low a h = let e : ltb (address_number a) low ≡ true = lt-ltb _ _ h in rw e refl

pub mapping_passes : (low : ℕ) (m : Mapping) (at : ℕ) → FitsMapping m → low ≤ address_number m.address
    → Checks (mapping_spelling low) m at (Ok (at + 9))
unfolding mapping_spelling
mapping_passes low m at f rise =
    let hw = f.hardware in (
      ((f.net, refl), ((f.node, address_rises low m.address rise), ((f.hardware, refl), refl))),
      (let len = length-append m.hardware.0 [] in omega arith),
    )

pub mapping_falls : (low : ℕ) (m : Mapping) (at : ℕ) → FitsMapping m → address_number m.address < low
    → Checks (mapping_spelling low) m at (Err (record { place = at; cause = Order }))
unfolding mapping_spelling
mapping_falls low m at f lt =
    let back : at + 2 - 2 ≡ at = omega arith in (
      at + 2,
      Before 2 Order,
      inr ((f.net, refl), inl (f.node, address_falls low m.address lt, refl)),
      ap (λ (n : ℕ). record { place = n; cause = Order }) (sym back),
    )

state_back : (s : State) → state_of (state_number s) ≡ s
state_back Good = refl
state_back Suspect = refl
state_back Bad = refl
state_back Last = refl

state_small : (s : State) → state_number s ≤ 3
state_small Good = omega arith
state_small Suspect = omega arith
state_small Bad = omega arith
state_small Last = omega arith

-- the numbers of a row fit its fields
pub record FitsRow (row : Row) : Type 0 where
  pub start : row.start < 2 ^ 16
  pub end : row.end < 2 ^ 16
  pub distance : row.distance < 2 ^ 8
  pub port : row.port < 2 ^ 8
  pub net : row.next.net < 2 ^ 16
  pub node : row.next.node < 2 ^ 8

pub row_passes : (ports low : ℕ) (row : Row) (at : ℕ) → FitsRow row → low ≤ row.start → row.distance ≤ max_distance → row.port < ports
    → Checks (row_spelling ports low) row at (Ok (at + 10))
unfolding row_spelling address_spelling
row_passes ports low row at f rise near there =
    let small = state_small row.state in (
      (
        (f.start, rises low row.start rise),
        (
          (f.end, refl),
          (
            (f.distance, is_within 0 max_distance Value row.distance (omega arith) near),
            (
              (f.port, is_below ports row.port there),
              (
                address_value row.next f.net f.node,
                (
                  (omega arith, is_within 0 3 Value (state_number row.state) (omega arith) small),
                  ap (λ (s : State). record {
                    start = row.start;
                    end = row.end;
                    distance = row.distance;
                    port = row.port;
                    next = row.next;
                    state = s;
                  }) (state_back row.state),
                ),
              ),
            ),
          ),
        ),
      ),
      refl,
    )

pub row_falls : (ports low : ℕ) (row : Row) (at : ℕ) → FitsRow row → row.start < low → Checks (row_spelling ports low) row at (Err
    (record { place = at; cause = Order }))
unfolding row_spelling
row_falls ports low row at f lt = (at, Here Order, inl (f.start, falls low row.start lt, refl), refl)

pub row_far : (ports low : ℕ) (row : Row) (at : ℕ) → FitsRow row → low ≤ row.start → max_distance < row.distance → Checks
    (row_spelling ports low) row at (Err (record { place = at + 4; cause = Value }))
unfolding row_spelling
row_far ports low row at f rise far = (
  at + 4,
  Here Value,
  inr (
    (f.start, rises low row.start rise),
    inr (
      (f.end, refl),
      inl (
        f.distance,
        too_high 0 max_distance Value row.distance
            (omega arith) far,
        omega arith,
      ),
    ),
  ),
  refl,
)

pub row_misses : (ports low : ℕ) (row : Row) (at : ℕ) → FitsRow row → low ≤ row.start → row.distance ≤ max_distance → ports ≤ row.port → Checks
    (row_spelling ports low) row at (Err (record { place = at + 5; cause = Index }))
unfolding row_spelling
row_misses ports low row at f rise near le = (
  at + 5,
  Here Index,
  inr (
    (f.start, rises low row.start rise),
    inr (
      (f.end, refl),
      inr (
        (
          f.distance,
          is_within 0 max_distance Value row.distance
              (omega arith) near,
        ),
        inl (f.port, not_below ports row.port le, omega arith),
      ),
    ),
  ),
  refl,
)

-- ---- texts and zones

pub text_value : (good : List ℕ → Bool) (s : List ℕ) → good s ≡ true → 1 ≤ length s → length s ≤ max_text → IsValue (text_spelling good) s
unfolding text_spelling
text_value good s ok some few =
    let fits : length s < 256 = omega arith in
    ((fits, is_within 1 max_text Name (length s) some few), ((refl, rw ok refl), refl))

pub length-text : (good : List ℕ → Bool) (s : List ℕ) → length (bytes_of (text_spelling good) s) ≡ 1 + length s
unfolding text_spelling
length-text good s = let len = length-append s [] in omega arith

-- a zone name has 1 to 32 bytes
pub name_length : (s : List ℕ) → IsName s → (1 ≤ length s) × (length s ≤ max_text)
name_length s h =
    let a = and_parts (nat_le 1 (length s) && nat_le (length s) 32 && list_all is_printable s) (not (is_only 42 s)) h in
    let b = and_parts (nat_le 1 (length s) && nat_le (length s) 32) (list_all is_printable s) a.0 in
    let c = and_parts (nat_le 1 (length s)) (nat_le (length s) 32) b.0 in
    (leb-true _ _ c.0, leb-true _ _ c.1)

pub name_passes : (s : List ℕ) (at end : ℕ) → IsName s → end ≡ at + 1 + length s → Checks zone_spelling s at (Ok end)
name_passes s at end h far =
    let len = name_length s h in
    let spelled = length-text is_name s in
    (text_value is_name s h len.0 len.1, omega arith)

pub entity_passes : (s : List ℕ) (at end : ℕ) → is_entity s ≡ true → 1 ≤ length s → length s ≤ max_text → end ≡ at + 1 + length s
    → Checks (text_spelling is_entity) s at (Ok end)
entity_passes s at end h some few far =
    let spelled = length-text is_entity s in
    (text_value is_entity s h some few, omega arith)

pub entity_empty : (s : List ℕ) (at : ℕ) → length s ≡ 0 → Checks (text_spelling is_entity) s at (Err (record { place = at; cause = Name }))
unfolding text_spelling
entity_empty s at none = (at, Here Name, inl (omega arith, too_low 1 max_text Name (length s) (omega arith), refl), refl)

pub entity_wrong : (s : List ℕ) (at : ℕ) → is_entity s ≡ false → 1 ≤ length s → length s ≤ max_text → Checks (text_spelling is_entity) s at (Err
    (record { place = at; cause = Name }))
unfolding text_spelling
entity_wrong s at bad some few =
    let fits : length s < 256 = omega arith in
    let back : at + 1 - 1 ≡ at = omega arith in (
      at + 1,
      Before 1 Name,
      inr ((fits, is_within 1 max_text Name (length s) some few), inl (refl, rw bad refl, refl)),
      ap
          (λ (n : ℕ). record { place = n; cause = Name }) (sym back),
    )

-- ---- parts with lists

-- a part after one that passes
pub after_part : {A B : Type 0} (g : Grammar Wrong true B) (get : A → B) (after : B
    → Grammar Wrong true A) (y : A) (at middle : ℕ) (r : Result ℕ Flaw) → Checks g (get y) at (Ok middle) → Checks (after
    (get y)) y middle r
    → Checks (part g get after) y at r
after_part g get after y at middle (Ok end) h k =
    let far = h.1 in let further = k.1 in
    let len = length-append (bytes_of g (get y)) (bytes_of (after (get y)) y) in
    ((h.0, k.0), omega arith)
after_part g get after y at middle (Err m) h k = (k.0, k.1, inr (h.0, subst (λ (n : ℕ). FlawAt (after (get y)) y n k.0 k.1) h.1 k.2), k.3)

-- a part that has a flaw
pub in_part : {A B : Type 0} (g : Grammar Wrong true B) (get : A → B) (after : B → Grammar Wrong true A) (y : A) (at : ℕ) (m : Flaw)
    → Checks g (get y) at (Err m) → Checks (part g get after) y at (Err m)
in_part g get after y at m h = (h.0, h.1, inl h.2, h.3)

-- a field that passes, and the fields after it
pub after_field : {A V : Type 0} (fd : Field Wrong V) (get : A → V) (after : V
    → Grammar Wrong true A) (y : A) (at : ℕ) (r : Result ℕ Flaw) → Passes fd (get y) → Checks (after (get y)) y (at + field_len fd) r
    → Checks (field fd get after) y at r
after_field fd get after y at (Ok end) p k =
    let further = k.1 in
    let size = length-field_bytes fd (get y) p.0 in
    let len = length-append (field_bytes fd (get y)) (bytes_of (after (get y)) y) in
    ((p, k.0), omega arith)
after_field fd get after y at (Err m) p k = (k.0, k.1, inr (p, k.2), k.3)

-- ---- counted lists

-- a count up to the limit fits its field, and passes its test
count_passes : (size : Size) (limit n : ℕ) → n ≤ limit → limit < 2 ^ (8 * count_len size)
    → Passes (number size (within 0 limit Count)) n
count_passes size limit n few small =
    (below n limit (2 ^ (8 * count_len size)) few small, is_within 0 limit Count n (omega arith) few)
  where
    below : (a b c : ℕ) → a ≤ b → b < c → a < c
    below a b c le lt = omega (arith, le, lt)

list_says : {B : Type 0} (item : ℕ → Grammar Wrong true B) (next : B → ℕ) (xs : List B) (at : ℕ) (r : Result ℕ Flaw)
    → ChecksList item next xs at r → Checks (list item next (length xs) (λ xs. xs) (λ xs. done xs)) xs at r
list_says item next xs at (Ok end) h =
    let far = h.1 in
    let ends = length-append (list_bytes (λ low. bytes_of (item low)) next 0 xs) [] in
    ((refl, h.0, refl), omega (arith, far, ends))
list_says item next xs at (Err m) h = (h.0, h.1, (refl, inl h.2), h.3)

pub counted_checks : {B : Type 0} (size : Size) (limit : ℕ) (item : ℕ → Grammar Wrong true B) (next : B → ℕ) (xs : List B) (at : ℕ)
    (r : Result ℕ Flaw) → length xs ≤ limit → limit < 2 ^ (8 * count_len size)
    → ChecksList item next xs (at + count_len size) r → Checks (counted size limit item next) xs at r
unfolding counted
counted_checks size limit item next xs at r few small h =
    after_field (number size (within 0 limit Count)) (λ xs. length xs) (λ count. list item next count (λ xs. xs) (λ xs. done xs)) xs at r
    (count_passes size limit (length xs) few small) (list_says item next xs (at + count_len size) r h)

-- the end of a format
pub at_end : {A : Type 0} (x y : A) (at : ℕ) → x ≡ y → Checks (done x) y at (Ok at)
at_end x y at e = (e, omega arith)

-- the last part of a format
pub last_part : {A B : Type 0} (g : Grammar Wrong true B) (get : A → B) (make : B → A) (y : A) (at : ℕ) (r : Result ℕ Flaw)
    → make (get y) ≡ y → Checks g (get y) at r → Checks (part g get (λ v. done (make v))) y at r
last_part g get make y at (Ok end) e h = after_part g get (λ v. done (make v)) y at end (Ok end) h (at_end (make (get y)) y end e)
last_part g get make y at (Err m) e h = in_part g get (λ v. done (make v)) y at m h
