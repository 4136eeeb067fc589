-- Records of an undoing: how long they are, that they commit nothing, and their blocks of 64.
use Rattle.std.proofs.Common.{◌≡◌, inl, inr, ℕ, zero, suc, ◌+◌, ◌-◌, ◌*◌, ◌<◌, ◌≤◌, List, [], ◌∷◌}
use Rattle.std.proofs.Common.{◌++◌, length, take, drop, map, refl, sym, ◌∙◌, ap, subst, arith}
use Rattle.std.proofs.Common.{length-append, length-drop, take-append-drop, None}
use Rattle.std.proofs.lemmas.List.{length-take-le, take_all}
use Rattle.std.specs.List.{AllByRecursion}
use Rattle.gate_block.specs.Row.{block, row}
use Rattle.gate_block.proofs.Facts.{length-block}
use Rattle.records.specs.declared.record.Record.{Record}
use Rattle.records.specs.Records.{spelled, spelling, IsRecord}
use Rattle.records.specs.Acts.{acts_of}
use Rattle.records.proofs.RecordLengths.{length-number}
use Rattle.replay.specs.Journals.{records_in, IsJournalRecord}
use Rattle.replay.specs.Undoing.{IsUndoRecord, AreBlocksOf, blocks_len}
use Rattle.replay.proofs.Lists.{upto_or}
use Rattle.boosted.proofs.Each.{each_front, each_back}

pub undo_len : (r : Record) → IsUndoRecord r → length (spelled r) ≡ 9
undo_len (Record.Back n) u = omega (arith, length-number 8 n)
undo_len (Record.Ended n) u = omega (arith, length-number 8 n)
undo_len r u = absurd u

pub undo_record : (r : Record) → IsUndoRecord r → IsRecord None r
undo_record (Record.Back n) u = record { fits = omega (arith, u.below); suits = tt; sound = u }
undo_record (Record.Ended n) u = record { fits = omega (arith, u.below); suits = tt; sound = u }
undo_record r u = absurd u

pub undo_records_read : (rs : List Record) → AllByRecursion IsUndoRecord rs →
    AllByRecursion (IsRecord None) rs
undo_records_read [] u = tt
undo_records_read (r ∷ rs) u = (undo_record r u.0, undo_records_read rs u.1)

-- they commit nothing
pub undo_acts : (rs : List Record) → AllByRecursion IsUndoRecord rs → acts_of rs ≡ []
undo_acts [] u = refl
undo_acts (Record.Back n ∷ rs) u = undo_acts rs u.1
undo_acts (Record.Ended n ∷ rs) u = undo_acts rs u.1
undo_acts (r ∷ rs) u = absurd u.0

pub undo_journal : (rs : List Record) → AllByRecursion IsUndoRecord rs →
    AllByRecursion IsJournalRecord rs
undo_journal [] u = tt
undo_journal (Record.Back n ∷ rs) u = (tt, undo_journal rs u.1)
undo_journal (Record.Ended n ∷ rs) u = (tt, undo_journal rs u.1)
undo_journal (r ∷ rs) u = absurd u.0

pub spelling_len : (rs : List Record) → AllByRecursion IsUndoRecord rs →
    length (spelling rs) ≡ 9 * length rs
spelling_len [] u = refl
spelling_len (r ∷ rs) u = omega
    (arith, length-append (spelled r) (spelling rs), undo_len r u.0, spelling_len rs u.1)

pub all_take : {X : Type 0} (P : X → Type 0) (n : ℕ) (xs : List X) → AllByRecursion P xs →
    AllByRecursion P (take n xs)
all_take P n xs all = each_front P (take n xs) (drop n xs)
    (subst (AllByRecursion P) (sym (take-append-drop n xs)) all)

pub all_drop : {X : Type 0} (P : X → Type 0) (n : ℕ) (xs : List X) → AllByRecursion P xs →
    AllByRecursion P (drop n xs)
all_drop P n xs all = each_back P (take n xs) (drop n xs)
    (subst (AllByRecursion P) (sym (take-append-drop n xs)) all)

-- ---- blocks of 64

-- the blocks hold the records, in their order
pub blocks_hold : (rs : List Record) (bs : List (List Record)) → AreBlocksOf rs bs →
    records_in bs ≡ rs
blocks_hold rs [] is = sym is
blocks_hold rs (b ∷ bs) is = ap (λ l. l ++ records_in bs) is.1 ∙
    ap (λ l. take 64 rs ++ l) (blocks_hold (drop 64 rs) bs is.2) ∙ take-append-drop 64 rs

-- there are such blocks
blocks_from : (fuel : ℕ) (rs : List Record) → length rs ≤ fuel →
    (bs : List (List Record)) × AreBlocksOf rs bs
blocks_from fuel [] few = ([], refl)
blocks_from zero (r ∷ rs) few = absurd (omega (arith, few))
blocks_from (suc fuel) (r ∷ rs) few =
    let rest = blocks_from fuel (drop 64 (r ∷ rs)) (omega (arith, few, length-drop 64 (r ∷ rs))) in
    (take 64 (r ∷ rs) ∷ rest.0, (omega arith, refl, rest.1))

pub in_blocks : (rs : List Record) → (bs : List (List Record)) × AreBlocksOf rs bs
in_blocks rs = blocks_from (length rs) rs (omega arith)

full_group : (n : ℕ) → 64 < n → blocks_len n ≡ 5 + 9 * 64 + blocks_len (n - 64)
full_group n more = omega (arith, more)

last_group : (n : ℕ) → 0 < n → n ≤ 64 → blocks_len n ≡ 5 + 9 * n
last_group n some few = omega (arith, some, few)

-- so many bytes have a group of the first 64 records and what is behind
pub group_len : (rs : List Record) → 0 < length rs →
    blocks_len (length rs) ≡ 5 + 9 * length (take 64 rs) + blocks_len (length (drop 64 rs))
group_len rs some =
    elim (upto_or (length rs) 64) [
      | inl few ↦
          let front : length (take 64 rs) ≡ length rs = ap length (take_all 64 rs few) in
          let behind : length (drop 64 rs) ≡ 0 = omega (arith, length-drop 64 rs, few) in
          let none : blocks_len (length (drop 64 rs)) ≡ 0 = ap blocks_len behind in
          omega (arith, last_group (length rs) some few, front, none)
      | inr more ↦
          let front : length (take 64 rs) ≡ 64 = length-take-le 64 rs (omega (arith, more)) in
          let behind : length (drop 64 rs) ≡ length rs - 64 = length-drop 64 rs in
          let rest : blocks_len (length (drop 64 rs)) ≡ blocks_len (length rs - 64) =
          ap blocks_len behind in
          omega (arith, full_group (length rs) more, front, rest)
    ]

-- the blocks of records of an undoing have so many bytes
pub rows_len : (rs : List Record) (bs : List (List Record)) → AllByRecursion IsUndoRecord rs →
    AreBlocksOf rs bs → length (row (map spelling bs)) ≡ blocks_len (length rs)
rows_len rs [] undo is = sym (ap (λ l. blocks_len (length l)) is)
rows_len rs (b ∷ bs) undo is =
    let here : length (spelling b) ≡ 9 * length (take 64 rs) =
    ap (λ l. length (spelling l)) is.1 ∙
    spelling_len (take 64 rs) (all_take IsUndoRecord 64 rs undo) in
    omega (
      arith,
      length-append (block (spelling b)) (row (map spelling bs)),
      length-block (spelling b),
      here,
      rows_len (drop 64 rs) bs (all_drop IsUndoRecord 64 rs undo) is.2,
      group_len rs is.0,
    )
