-- What one write of a whole block lays in an area.
use Rattle.std.proofs.Common.{◌≡◌, ◌≢◌, ℕ, suc, ◌+◌, ◌<◌, ◌≤◌, List, [], ◌∷◌, ◌++◌, length, take}
use Rattle.std.proofs.Common.{drop, false, Result, Ok, Err, OnOk, refl, sym, ◌∙◌, ap, arith}
use Rattle.std.specs.Result.{is_err}
use Rattle.std.proofs.Math.Nat.{lt_of_not-le}
use Rattle.std.proofs.lemmas.List.{take_at}
use Rattle.std.specs.List.{AllByRecursion}
use Rattle.disk_model.specs.Disk.{Torn, Overwritten, Follows, Elapses, LeavesOnly}
use Rattle.disk_model.proofs.Walk.{started, goes_on}
use Rattle.gate_block.specs.declared.area.Area.{Area}
use Rattle.gate_block.specs.Area.{base_of, size_of, offset_of, LeavesElsewhere}
use Rattle.gate_block.specs.Row.{row, part, IsBody, IsRow, IsBlockOf}
use Rattle.gate_block.proofs.Parts.{in_part, outside, written_there}
use Rattle.gate_block.proofs.Rows.{counts}

-- what stands before the next gate, where these blocks were laid
front : (bodies : List (List ℕ)) (p : ℕ) (bytes : List ℕ) → p ≡ length (row bodies) →
    (bodies ≢ [] → IsRow bodies bytes) → (take p bytes ≡ row bodies) × AllByRecursion IsBody bodies
front [] p bytes here holds = (ap (λ (n : ℕ). take n bytes) here, tt)
front (b ∷ bodies) p bytes here holds =
    let is_row = holds (λ e. absurd (omega (arith, ap length e))) in (
      ap (λ (l : List ℕ). take p l) is_row.is ∙
          take_at (row (b ∷ bodies)) (is_row.gate ∷ is_row.rest) p (sym here),
      is_row.all_fit,
    )

-- A block is written at the next gate p of an area. s is what a read gave before.
pub lays : (base size p : ℕ) (bodies : List (List ℕ)) (body bytes s new : List ℕ) →
    IsBlockOf body bytes → p + length bytes ≤ size → base + size ≤ length s →
    p ≡ length (row bodies) → (bodies ≢ [] → IsRow bodies (part base size s))
    → Overwritten (base + p) bytes s new → Torn (base + p) (length bytes) s new →
    IsRow (bodies ++ body ∷ []) (part base size new)
lays base size p bodies body bytes s new is_block room inside here holds written torn =
    let before = front bodies p (part base size s) here holds in
    let any : List ℕ = drop (p + length bytes) (part base size s) in
    let there = written_there (base + p) bytes s new (omega (arith, room, inside)) written in
    let opened : bytes ≡ 167 ∷ drop 1 bytes =
    is_block.is ∙ ap (λ (l : List ℕ). 167 ∷ drop 1 l) (sym is_block.is) in
    let shape : part base size new ≡ row bodies ++ (bytes ++ any) =
    in_part base size (base + p) p (length bytes) refl room s new torn ∙
    (λ i. before.0 i ++ (there i ++ any)) in
    counts bodies p here body bytes (drop 1 bytes) any before.1 is_block refl (part base size new)
    (shape ∙ ap (λ (l : List ℕ). row bodies ++ (l ++ any)) opened)

-- what one write inside an area leaves is as before outside of it
pub leaves_elsewhere : {D : Type 0} (moment : D → ℕ) (left_since : D → ℕ → List ℕ → Type 0)
    (before after : List ℕ → Type 0) (old new : D) (area : Area) (m : ℕ) →
    offset_of area + m ≤ size_of area
    → ((c : List ℕ) → left_since old (moment old) c → before c) →
    Elapses (moment old) (moment new) (left_since old) (left_since new) after →
    Follows (Torn (base_of area + offset_of area) m) before after
    → LeavesOnly moment left_since old new (LeavesElsewhere before area)
leaves_elsewhere moment left_since before after old new area m room only_now time follows =
    goes_on moment left_since old old new (LeavesElsewhere before area) after
    (started moment left_since old (LeavesElsewhere before area)
    (λ c left. (c, only_now c left, record { before = refl; after = refl; same_size = refl })))
    time
    (λ c left. let was = follows c left in (
      was.0,
      was.1,
      outside (base_of area) (size_of area) (base_of area + offset_of area)
          (offset_of area) m refl room was.0 c was.2,
    ))

pub use_ok : {T E : Type 0} (P : Type 0) (r : Result T E) → is_err r ≡ false → OnOk r P → P
use_ok P (Ok x) e p = p
use_ok P (Err x) e p = cc

-- a block that is not too long has room
pub has_room : (size end : ℕ) → ¬ (size < end) → end ≤ size
has_room size end fits = let below : end < suc size = lt_of_not-le fits in omega (arith, below)
