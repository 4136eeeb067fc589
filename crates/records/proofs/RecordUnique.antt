-- The bytes of a list of records are no other list's.
use Rattle.std.proofs.Common.{◌≡◌, List, [], ◌∷◌, ◌++◌, length, Option, refl, sym, ap, subst, ◌∙◌}
use Rattle.std.proofs.Common.{arith, length-append}
use Rattle.calls.specs.declared.kind.Kind.{Kind}
use Rattle.records.specs.declared.record.Record.{Record}
use Rattle.records.specs.Records.{spelled, spelling, named_by, AreRecords}
use Rattle.records.proofs.RecordLengths.{spelled-positive}
use Rattle.records.proofs.RecordLaws.{one_spelling_of}

-- A record has a byte at least, so only the empty list of records is spelled by no bytes.
not_empty : (r : Record) (rs : List Record) → spelling (r ∷ rs) ≡ [] → ⊥
not_empty r rs e =
    let none : length (spelled r ++ spelling rs) ≡ 0 = ap length e in
    absurd (omega (arith, spelled-positive r, length-append (spelled r) (spelling rs), none))

pub same_records : (last : Option Kind) (rs ss : List Record) → AreRecords last rs →
    AreRecords last ss → spelling rs ≡ spelling ss → rs ≡ ss
same_records last [] [] good_r good_s e = refl
same_records last [] (s ∷ ss) good_r good_s e = absurd (not_empty s ss (sym e))
same_records last (r ∷ rs) [] good_r good_s e = absurd (not_empty r rs e)
same_records last (r ∷ rs) (s ∷ ss) good_r good_s e =
    let first = one_spelling_of last r s (spelling rs) (spelling ss) good_r.0 good_s.0 e in
    let known : AreRecords (named_by last r) ss =
    subst (λ (q : Record). AreRecords (named_by last q) ss) (sym first.0) good_s.1 in
    let rest = same_records (named_by last r) rs ss good_r.1 known first.1 in
    ap (λ (q : Record). q ∷ rs) first.0 ∙ ap (λ (qs : List Record). s ∷ qs) rest
