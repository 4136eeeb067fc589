-- Records that have a spelling one behind another: blocks of one spelling are the same.
use Rattle.std.proofs.Common.{◌≡◌, List, [], ◌∷◌, ◌++◌, length, map, Option, refl, sym, ◌∙◌, ap}
use Rattle.std.proofs.Common.{subst, arith, length-append}
use Rattle.calls.specs.declared.kind.Kind.{Kind}
use Rattle.records.specs.declared.record.Record.{Record}
use Rattle.records.specs.Records.{spelled, spelling, AreRecords, named_by}
use Rattle.records.proofs.RecordLengths.{spelled-positive}
use Rattle.records.proofs.RecordLaws.{one_fitting}
use Rattle.replay.specs.Journals.{records_in, AreSpelt}

-- Records that may stand one behind another have a spelling so.
pub records_spelt : (last : Option Kind) (rs : List Record) → AreRecords last rs → AreSpelt last rs
records_spelt last [] good = tt
records_spelt last (r ∷ rs) good =
    ((good.0.fits, good.0.suits), records_spelt (named_by last r) rs good.1)

-- A record has a byte at least, so only the empty list of records is spelled by no bytes.
pub not_empty : (r : Record) (rs : List Record) → spelling (r ∷ rs) ≡ [] → ⊥
not_empty r rs e =
    let none : length (spelled r ++ spelling rs) ≡ 0 = ap length e in
    absurd (omega (arith, spelled-positive r, length-append (spelled r) (spelling rs), none))

-- Records of one spelling are the same, and what stands behind them stands behind one kind.
same_front : (last : Option Kind) (rs ss xs ys : List Record) → AreSpelt last (rs ++ xs) →
    AreSpelt last (ss ++ ys) → spelling rs ≡ spelling ss →
    (rs ≡ ss) × ((next : Option Kind) × AreSpelt next xs × AreSpelt next ys)
same_front last [] [] xs ys spelt_r spelt_s e = (refl, (last, spelt_r, spelt_s))
same_front last [] (s ∷ ss) xs ys spelt_r spelt_s e = absurd (not_empty s ss (sym e))
same_front last (r ∷ rs) [] xs ys spelt_r spelt_s e = absurd (not_empty r rs e)
same_front last (r ∷ rs) (s ∷ ss) xs ys spelt_r spelt_s e =
    let first = one_fitting last r s (spelling rs) (spelling ss) spelt_r.0 spelt_s.0 e in
    let known : AreSpelt (named_by last r) (ss ++ ys) =
    subst (λ (q : Record). AreSpelt (named_by last q) (ss ++ ys)) (sym first.0) spelt_s.1 in
    let rest = same_front (named_by last r) rs ss xs ys spelt_r.1 known first.1 in
    (ap (λ (q : Record). q ∷ rs) first.0 ∙ ap (λ (qs : List Record). s ∷ qs) rest.0, rest.1)

-- Blocks of one spelling, each spelled by itself, are the same.
pub same_blocks : (last : Option Kind) (first second : List (List Record)) →
    AreSpelt last (records_in first) → AreSpelt last (records_in second) →
    map spelling first ≡ map spelling second → first ≡ second
same_blocks last [] [] spelt_r spelt_s e = refl
same_blocks last [] (ss ∷ second) spelt_r spelt_s e = absurd cc
same_blocks last (rs ∷ first) [] spelt_r spelt_s e = absurd cc
same_blocks last (rs ∷ first) (ss ∷ second) spelt_r spelt_s e =
    let heads : spelling rs ≡ spelling ss = cc in
    let tails : map spelling first ≡ map spelling second = cc in
    let front = same_front last rs ss (records_in first) (records_in second) spelt_r spelt_s
    heads in
    let rest = same_blocks front.1.0 first second front.1.1 front.1.2 tails in
    ap (λ (qs : List Record). qs ∷ first) front.0 ∙ ap (λ (q : List (List Record)). ss ∷ q) rest
