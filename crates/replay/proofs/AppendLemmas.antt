-- Records of an undoing that are spelled into blocks, and blocks that are appended one by one.
use Rattle.std.proofs.Common.{◌≡◌, ℕ, zero, suc, ◌+◌, ◌*◌, ◌<◌, ◌≤◌, List, [], ◌∷◌, ◌++◌, length}
use Rattle.std.proofs.Common.{take, drop, get_or, sym, ◌∙◌, ap, subst, arith, length-append}
use Rattle.std.proofs.Common.{append_assoc, Result, OnOk, OnErr}
use Rattle.std.proofs.lemmas.List.{length-take-le, take_more, drop_at}
use Rattle.std.specs.List.{AllByRecursion}
use Rattle.records.specs.declared.record.Record.{Record}
use Rattle.records.specs.Records.{spelled, spelling}
use Rattle.replay.specs.Undoing.{IsUndoRecord}
use Rattle.records.specs.Drafts.{IsDraft}
use Rattle.records.proofs.DraftLemmas.{sure, spelling-push}
use Rattle.replay.proofs.UndoRecords.{undo_len, spelling_len, all_take}

-- So many first records are spelled behind what the buffer held, and it has room.
pub record IsSpelling (group : List Record) (old now : List ℕ) (was capacity i : ℕ) : Type 0 where
  pub is : now ≡ old ++ spelling (take i group)
  pub room : was ≤ capacity
  pub inside : i ≤ length group

pub all_at : {X : Type 0} (P : X → Type 0) (xs : List X) (i : ℕ) (d : X) → i < length xs →
    AllByRecursion P xs → P (get_or xs i d)
all_at P [] i d inside all = absurd (omega (arith, inside))
all_at P (x ∷ xs) zero d inside all = all.0
all_at P (x ∷ xs) (suc i) d inside all = all_at P xs i d (omega (arith, inside)) all.1

-- One record more is spelled: its room was there.
pub spells_on : {T E : Type 0} (group : List Record) (old now next : List ℕ)
    (was capacity larger len i : ℕ) (r : Record) (result : Result T E) →
    IsSpelling group old now was capacity i → i < length group → r ≡ get_or group i r →
    AllByRecursion IsUndoRecord group
    → len ≡ length now → length old + 9 * length group ≤ was →
    OnOk result (next ≡ now ++ spelled r) → OnErr result (capacity < len + length (spelled r)) →
    capacity ≤ larger → IsSpelling group old next was larger (i + 1)
spells_on group old now next was capacity larger len i r result so_far inside at undo len_is room ok
    full more =
    let here : take (i + 1) group ≡ take i group ++ r ∷ [] =
    take_more group i r inside ∙ ap (λ x. take i group ++ x ∷ []) (sym at) in
    let nine : length (spelled r) ≡ 9 =
    undo_len r (subst IsUndoRecord (sym at) (all_at IsUndoRecord group i r inside undo)) in
    let before : length (spelling (take i group)) ≡ 9 * i =
    spelling_len (take i group) (all_take IsUndoRecord i group undo) ∙
    ap (λ n. 9 * n) (length-take-le i group (omega (arith, inside))) in
    let size : length now ≡ length old + 9 * i =
    ap length so_far.is ∙ length-append old (spelling (take i group)) ∙
    ap (λ n. length old + n) before in
    let written : next ≡ now ++ spelled r =
    sure result _ _ ok full (λ over. omega
    (arith, over, len_is, size, nine, room, so_far.room, inside)) in
    record {
      is = written ∙ ap (λ l. l ++ spelled r) so_far.is ∙
          append_assoc old (spelling (take i group)) (spelled r) ∙
          ap (λ l. old ++ l) (sym (ap spelling here ∙ spelling-push (take i group) r));
      room = omega (arith, so_far.room, more);
      inside = omega (arith, inside);
    }

-- the body of a block behind the room for its head
pub spelled_draft : (group : List Record) (old now : List ℕ) (capacity : ℕ) →
    length (take 5 old) ≡ 5 → now ≡ take 5 old ++ spelling group → length now < capacity →
    IsDraft now capacity group
spelled_draft group old now capacity five is room = record {
  body = ap (drop 5) is ∙ drop_at (take 5 old) (spelling group) 5 five;
  head = λ some. (
    omega (arith, ap length is, length-append (take 5 old) (spelling group), five),
    room,
  );
}
