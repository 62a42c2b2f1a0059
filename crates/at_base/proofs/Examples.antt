-- Reading in small formats, worked by hand and computed: each constructor of the grammar, with its refusals.
use Rattle.std.proofs.Common.{◌≡◌, ℕ, Bool, true, false, List, [], ◌∷◌, length, Option, Some, None, Result, Ok, Err, nat_lt}
use Rattle.std.proofs.Common.{if◌then◌else◌, refl}
use Rattle.at_base.specs.Grammar.{number, run, one, two, Grammar, done, field, part, list, room, limit, many}
use Rattle.at_base.specs.Reading.{read}

-- what is wrong with a value, and the refusals: a cut, or a wrong value and the number of input bytes left
data Wrong : Type 0 where
  low : Wrong
  long : Wrong
  few : Wrong

data Refusal : Type 0 where
  cut : Refusal
  left : ℕ → Wrong → Refusal

-- reading the bytes gives this result
abbrev Reads : {s : Bool} {A : Type 0} → Grammar Wrong s A → List ℕ → Result (A × List ℕ) Refusal → Type 0
Reads g bytes answer = read (record { cut = cut; placed = left }) g bytes ≡ answer

abbrev any : {V : Type 0} → V → Option Wrong
any v = None

-- a number of two bytes that is above the one before it
abbrev rising : ℕ → Grammar Wrong true ℕ
rising before = field (number two (λ n. if nat_lt before n then None else Some low)) (λ n. n) (λ n. done n)

-- at most six bytes, of at least two rising numbers
abbrev to_the_end : Grammar Wrong false (List ℕ)
to_the_end = limit 6 long (many rising (λ n. n) (λ ns. if nat_lt (length ns) 2 then Some few else None) (λ ns. ns) (λ ns. ns))

numbers_go_on_to_the_end : Reads to_the_end (0 ∷ 1 ∷ 0 ∷ 2 ∷ 1 ∷ 0 ∷ []) (Ok (1 ∷ 2 ∷ 256 ∷ [], []))
numbers_go_on_to_the_end = refl

number_is_cut : Reads to_the_end (0 ∷ 1 ∷ 0 ∷ 2 ∷ 1 ∷ []) (Err cut)
number_is_cut = refl

number_is_low : Reads to_the_end (0 ∷ 1 ∷ 0 ∷ 1 ∷ 1 ∷ []) (Err (left 3 low))
number_is_low = refl

numbers_are_few : Reads to_the_end (0 ∷ 1 ∷ []) (Err (left 2 few))
numbers_are_few = refl

input_is_long : Reads to_the_end (0 ∷ 0 ∷ 0 ∷ 0 ∷ 0 ∷ 0 ∷ 0 ∷ []) (Err (left 7 long))
input_is_long = refl

-- at least three bytes: a count, that many rising numbers, and a run of that many bytes
record Counted : Type 0 where
  numbers : List ℕ
  bytes : List ℕ

abbrev counted : Grammar Wrong true Counted
counted =
    room 3 (field (number one any) (λ c. length c.numbers) (λ count.
    list rising (λ n. n) count (λ c. c.numbers) (λ numbers.
    field (run count any) (λ c. c.bytes) (λ bytes.
    done (record { numbers = numbers; bytes = bytes })))))

-- a Counted and one number more, whose lower bound is 0 again
abbrev with_another : Grammar Wrong true (Counted × ℕ)
with_another = part counted (λ x. x.0) (λ c. part (rising 0) (λ x. x.1) (λ n. done (c, n)))

list_and_run : Reads counted (2 ∷ 0 ∷ 8 ∷ 1 ∷ 0 ∷ 7 ∷ 7 ∷ 9 ∷ []) (Ok (record { numbers = 8 ∷ 256 ∷ []; bytes = 7 ∷ 7 ∷ [] }, 9 ∷ []))
list_and_run = refl

run_is_cut : Reads counted (2 ∷ 0 ∷ 8 ∷ 1 ∷ 0 ∷ 7 ∷ []) (Err cut)
run_is_cut = refl

second_is_low : Reads counted (2 ∷ 0 ∷ 8 ∷ 0 ∷ 8 ∷ 7 ∷ []) (Err (left 3 low))
second_is_low = refl

no_room : Reads counted (0 ∷ 0 ∷ []) (Err cut)
no_room = refl

room_is_not_taken : Reads counted (0 ∷ 5 ∷ 6 ∷ []) (Ok (record { numbers = []; bytes = [] }, 5 ∷ 6 ∷ []))
room_is_not_taken = refl

parts_in_order : Reads with_another (1 ∷ 0 ∷ 8 ∷ 7 ∷ 0 ∷ 3 ∷ []) (Ok ((record { numbers = 8 ∷ []; bytes = 7 ∷ [] }, 3), []))
parts_in_order = refl
