-- What the store above uses of rows of blocks: the block at the next gate, lengths, and an area
-- that was just read.
use Rattle.std.proofs.Common.{◌≡◌, ◌≢◌, ℕ, suc, ◌+◌, ◌<◌, ◌≤◌, List, [], ◌∷◌, ◌++◌, length, take}
use Rattle.std.proofs.Common.{drop, get_or, refl, sym, ◌∙◌, ap, arith, append_assoc}
use Rattle.std.proofs.Common.{length-append, length-drop, take-append-drop}
use Rattle.std.proofs.lemmas.List.{take_at, drop_at, append-nil, get_or-drop, get_or-take}
use Rattle.std.specs.List.{AllByRecursion}
use Rattle.disk_model.specs.Disk.{LeavesOnly, IsAtRest}
use Rattle.disk_model.proofs.Walk.{leaves_now}
use Rattle.gate_block.specs.declared.area.Area.{Area}
use Rattle.gate_block.specs.Row.{block, row, IsBody, IsRow, StandsAt, IsBroken}
use Rattle.gate_block.specs.Area.{bytes_of, offset_of, IsReady, LeavesBlocks}
use Rattle.gate_block.proofs.Unique.{first_block}

five_more : (n : ℕ) → suc (suc (suc (suc (suc n)))) ≡ 5 + n
five_more n = omega arith

pub length-block : (body : List ℕ) → length (block body) ≡ 5 + length body
length-block body = five_more (length body)

pub row-append : (done rest : List (List ℕ)) → row (done ++ rest) ≡ row done ++ row rest
row-append [] rest = refl
row-append (b ∷ done) rest = ap (λ (l : List ℕ). block b ++ l) (row-append done rest) ∙
    sym (append_assoc (block b) (row done) (row rest))

-- one block more
pub length-row_add : (bodies : List (List ℕ)) (body : List ℕ) →
    length (row (bodies ++ body ∷ [])) ≡ length (row bodies) + 5 + length body
length-row_add bodies body =
    omega (
      arith,
      ap length (row-append bodies (body ∷ [])),
      length-append (row bodies) (row (body ∷ [])),
      ap length (append-nil (block body)),
      length-block body,
    )

all_behind : (done rest : List (List ℕ)) → AllByRecursion IsBody (done ++ rest) →
    AllByRecursion IsBody rest
all_behind [] rest all = all
all_behind (b ∷ done) rest all = all_behind done rest all.1

-- a row leaves room for the gate behind it
pub row_fits : (bodies : List (List ℕ)) (bytes : List ℕ) → IsRow bodies bytes →
    length (row bodies) < length bytes
row_fits bodies bytes is_row = omega
    (arith, ap length is_row.is, length-append (row bodies) (is_row.gate ∷ is_row.rest))

-- p is the place behind the blocks that were read, and these are the blocks behind it
module _ (done rest : List (List ℕ)) (bytes : List ℕ) (p : ℕ) (here : p ≡ length (row done))
    (is_row : IsRow (done ++ rest) bytes) where
  -- what stands from p on
  behind : drop p bytes ≡ row rest ++ is_row.gate ∷ is_row.rest
  behind =
      ap (λ (l : List ℕ). drop p l) (is_row.is ∙
      ap (λ (l : List ℕ). l ++ is_row.gate ∷ is_row.rest) (row-append done rest) ∙
      append_assoc (row done) (row rest) (is_row.gate ∷ is_row.rest))
      ∙ drop_at (row done) (row rest ++ is_row.gate ∷ is_row.rest) p (sym here)

  gate_here : get_or bytes p 0 ≡ get_or (row rest ++ is_row.gate ∷ is_row.rest) 0 0
  gate_here = ap (λ (n : ℕ). get_or bytes n 0) (omega arith) ∙ sym (get_or-drop p bytes 0 0) ∙
      ap (λ (l : List ℕ). get_or l 0 0) behind

-- where a block stands, it is the next one
pub next_is : (done rest : List (List ℕ)) (bytes : List ℕ) (p : ℕ) (body : List ℕ) →
    p ≡ length (row done) → IsRow (done ++ rest) bytes → StandsAt bytes p body →
    (more : List (List ℕ)) × (rest ≡ body ∷ more)
next_is done [] bytes p body here is_row stood =
    let gate : take (5 + length body) (is_row.gate ∷ is_row.rest) ≡ block body =
    ap (λ (l : List ℕ). take (5 + length body) l) (sym (behind done [] bytes p here is_row)) ∙
    stood.is in
    absurd (is_row.closed (sym (get_or-take (5 + length body) (is_row.gate ∷ is_row.rest) 0 0
    (omega arith)) ∙ ap (λ (l : List ℕ). get_or l 0 0) gate))
next_is done (b ∷ more) bytes p body here is_row stood =
    let tail : List ℕ = row more ++ is_row.gate ∷ is_row.rest in
    let k : ℕ = 5 + length body in
    let there : drop p bytes ≡ block b ++ tail =
    behind done (b ∷ more) bytes p here is_row ∙
    append_assoc (block b) (row more) (is_row.gate ∷ is_row.rest) in
    let split : drop p bytes ≡ block body ++ drop k (drop p bytes) =
    sym (take-append-drop k (drop p bytes)) ∙
    ap (λ (l : List ℕ). l ++ drop k (drop p bytes)) stood.is in
    let fits : AllByRecursion IsBody (b ∷ more) = all_behind done (b ∷ more) is_row.all_fit in
    let same = first_block b body tail (drop k (drop p bytes)) fits.0 stood.fits
    (sym there ∙ split) in
    (more, ap (λ (l : List ℕ). l ∷ more) same.0)

-- where the gate is closed, there is none
pub none_is_next : (done rest : List (List ℕ)) (bytes : List ℕ) (p : ℕ) → p ≡ length (row done) →
    IsRow (done ++ rest) bytes → get_or bytes p 0 ≢ 167 → rest ≡ []
none_is_next done [] bytes p here is_row closed = refl
none_is_next done (b ∷ more) bytes p here is_row closed =
    absurd (closed (gate_here done (b ∷ more) bytes p here is_row))

-- at no block of a row the gate is broken, nor behind the last
pub not_broken : (done rest : List (List ℕ)) (bytes : List ℕ) (p : ℕ) → p ≡ length (row done) →
    IsRow (done ++ rest) bytes → IsBroken bytes p → ⊥
not_broken done [] bytes p here is_row broken =
    is_row.closed (sym (gate_here done [] bytes p here is_row) ∙ broken.opened)
not_broken done (b ∷ more) bytes p here is_row broken =
    let tail : List ℕ = row more ++ is_row.gate ∷ is_row.rest in
    let there : drop p bytes ≡ block b ++ tail =
    behind done (b ∷ more) bytes p here is_row ∙
    append_assoc (block b) (row more) (is_row.gate ∷ is_row.rest) in
    let fits : AllByRecursion IsBody (b ∷ more) = all_behind done (b ∷ more) is_row.all_fit in
    broken.no_block b (record {
      fits = fits.0;
      room = omega (
        arith,
        ap length there,
        length-drop p bytes,
        length-append (block b) tail,
        length-block b,
        length-append (row more) (is_row.gate ∷ is_row.rest),
        row_fits (done ++ b ∷ more) bytes is_row,
        here,
        ap length (row-append done (b ∷ more)),
        length-append (row done) (row (b ∷ more)),
      );
      is = ap (λ (l : List ℕ). take (5 + length b) l) there ∙
          take_at (block b) tail (5 + length b) (length-block b);
    })

-- An area of a disk at rest is ready where its offset is behind its blocks.
pub ready : {D : Type 0} (seen : D → List ℕ) (may_leave : D → List ℕ → Type 0) (area : Area)
    (disk : D) (bodies : List (List ℕ))
    → IsRow bodies (bytes_of area (seen disk)) → offset_of area ≡ length (row bodies) →
    IsAtRest seen may_leave disk → IsReady seen may_leave area disk bodies
ready seen may_leave area disk bodies holds offset rest =
    record {
      holds = holds;
      offset = offset;
      at_rest = λ c left. ap (λ (l : List ℕ). bytes_of area l) (rest c left);
    }

-- After an append, whatever it answered, a stop now leaves the blocks with the new one or without.
-- counts_now is the disk's law of that name.
pub leaves_blocks_now : {D : Type 0} (moment : D → ℕ) (left_since : D → ℕ → List ℕ → Type 0)
    (before may_leave : List ℕ → Type 0) (area : Area) (old new : D) (bodies : List (List ℕ))
    (body : List ℕ)
    → LeavesOnly moment left_since old new (LeavesBlocks before area bodies body) →
    ((t : ℕ) (c : List ℕ) → t ≤ moment new → may_leave c → left_since new t c)
    → (c : List ℕ) → may_leave c → LeavesBlocks before area bodies body c
leaves_blocks_now moment left_since before may_leave area old new bodies body run counts_now =
    leaves_now moment left_since old new (LeavesBlocks before area bodies body) may_leave run
    counts_now
