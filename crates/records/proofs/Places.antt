-- How many transactions records commit.
use Rattle.std.proofs.Common.{◌≡◌, ◌+◌, ◌≤◌, List, [], ◌∷◌, ◌++◌, arith}
use Rattle.records.specs.declared.record.Record.{Record}
use Rattle.records.specs.Acts.{places}

pub places_append : (rs qs : List Record) → places (rs ++ qs) ≡ places rs + places qs
places_append [] qs = omega arith
places_append (Record.Make kind name ∷ rs) qs = let more = places_append rs qs in omega arith
places_append (Record.Commit n ∷ rs) qs = let more = places_append rs qs in omega arith
places_append (other ∷ rs) qs = places_append rs qs

pub one_place : (r : Record) → places (r ∷ []) ≤ 1
one_place (Record.Make kind name) = omega arith
one_place (Record.Commit n) = omega arith
one_place other = omega arith
