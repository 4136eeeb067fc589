-- Lengths, refusals and seals that the steps of a book need.
use Rattle.std.proofs.Common.{◌≡◌, ℕ, suc, ◌+◌, ◌<◌, List, length, sym}
use Rattle.std.proofs.Common.{ap, arith, subst, ◌⊎◌, ◌↔◌, Contains}
use Rattle.calls.specs.declared.refusal.Refusal.{Refusal}
use Rattle.catalog.specs.Making as naming
use Rattle.catalog.specs.Making.{Making}
use Rattle.records.specs.declared.record.Record.{Record}
use Rattle.records.specs.Records.{number}
use Rattle.records.proofs.RecordLengths.{length-number}
use Rattle.txn.specs.Rows.{Standing, MakeRefused}
use Rattle.records.specs.Waits.{Waiting, waiting, freezes}
use Rattle.records.specs.declared.draft.Handed.{Handed}

-- how long the record of a number is
pub mark_length : (n : ℕ) → 9 ≡ suc (length (number 8 n))
mark_length n = ap suc (sym (length-number 8 n))

-- What refuses a making in the collections refuses it in the book.
pub make_refused : {S : Type 0} (names : List (List ℕ)) (b : Standing S) (name : List ℕ)
    (e : Refusal) → b.pending < 16384 → naming.MakeRefused names name e →
    MakeRefused names b name e
make_refused names b name Refusal.Backlog room is = absurd is
make_refused names b name Refusal.NoMemory room is =
    (λ full. absurd (omega (arith, room, full)), is)
make_refused names b name Refusal.NameTaken room is =
    (λ full. absurd (omega (arith, room, full)), is)
make_refused names b name Refusal.TooManyCollections room is =
    (λ full. absurd (omega (arith, room, full)), is)
make_refused names b name Refusal.BadName room is = (λ full. absurd (omega (arith, room, full)), is)
make_refused names b name Refusal.TooLong room is = (λ full. absurd (omega (arith, room, full)), is)
make_refused names b name e room is = (λ full. absurd (omega (arith, room, full)), is)

-- Where room was made first, the same is sealed.
pub seals_reserved : (w v u : Waiting) → waiting v ≡ waiting w → freezes v ≡ freezes w →
    v.handed ≡ w.handed →
    ((f : ℕ) → Contains (freezes u) f ↔ (Contains (freezes v) f ⊎
    ((f ≡ v.handed.end + length (waiting v)) × (0 < length (waiting v))))) →
    (f : ℕ) → Contains (freezes u) f ↔ (Contains (freezes w) f ⊎
    ((f ≡ w.handed.end + length (waiting w)) × (0 < length (waiting w))))
seals_reserved w v u waits marks handed seals f =
    subst (λ (h : Handed). Contains (freezes u) f ↔ (Contains (freezes w) f ⊎
    ((f ≡ h.end + length (waiting w)) × (0 < length (waiting w))))) handed
    (subst (λ l. Contains (freezes u) f ↔ (Contains l f ⊎
    ((f ≡ v.handed.end + length (waiting w)) × (0 < length (waiting w))))) marks
    (subst (λ (l : List Record). Contains (freezes u) f ↔ (Contains (freezes v) f ⊎
    ((f ≡ v.handed.end + length l) × (0 < length l)))) waits (seals f)))
