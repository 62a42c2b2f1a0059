-- The first tuple of a packet is extended.
use Rattle.std.proofs.Common.{◌≡◌, true, nat_le, nat_lt, List, [], ◌∷◌, Option, Some, None, refl}
use Rattle.std.proofs.lemmas.Bool.{le-leb, ltb-false}
use Rattle.at_base.specs.Spelling.{IsValue, ListPasses}
use Rattle.at_base.proofs.Fields.{not_wrong}
use Rattle.rtmp.specs.declared.written.Written.{Written}
use Rattle.rtmp.specs.declared.written.Extension.{Extension}
use Rattle.rtmp.specs.declared.tuple.Tuple.{Tuple}
use Rattle.rtmp.specs.declared.tuple.Nonextended.TheVariants.{Skipped}
use Rattle.rtmp.specs.Data.{RoutingData, any_of, at_least_one, heard_tuple, routing_data, tuples_of, written_tuple}

-- a tuple that passes the first tuple's test is extended
first_extended : (t : Written) → IsValue (written_tuple 0) t → (x : Tuple) × (heard_tuple Skipped (any_of t) ≡ Some x)
unfolding written_tuple
first_extended t h =
    let third = not_wrong (nat_lt t.third 128) _ _ h.1.0.1 in
    let extended : nat_le 128 t.third ≡ true = le-leb _ _ (ltb-false _ _ third.0) in
    let e = rw extended at h.1.1.0 in
    said t.extension _ e.1.1
  where
    said : (o : Option Extension) (e : Extension) → Some e ≡ o → (x : Tuple) × (heard_tuple Skipped (any_of (record t { extension = o })) ≡ Some x)
    said None e p = absurd cc
    said (Some o) e p = (_, refl)

-- the tuples of a packet begin with an extended one
pub extended_first : (p : RoutingData) → IsValue routing_data p → tuples_of p.written ≡ [] → ⊥
unfolding routing_data
extended_first p h none = by p.written h.1.1.1.0 h.1.1.1.1 none
  where
    by : (ts : List Written) → ListPasses (λ n. IsValue (written_tuple n)) (λ t. 1) 0 ts → at_least_one ts ≡ None → tuples_of ts ≡ [] → ⊥
    by [] passes some none = cc
    by (t ∷ ts) passes some none = let f = first_extended t passes.0 in let bad = rw f.1 at none in cc
