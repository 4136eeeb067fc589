-- Records spelled one behind another behind room for a head, and the whole block that they become.
use Rattle.std.proofs.Common.{◌≡◌, ℕ, ◌+◌, ◌-◌, ◌≤◌, ◌<◌, Result, Ok, Err, OnOk, OnErr, List, []}
use Rattle.std.proofs.Common.{◌∷◌, ◌++◌, length, take, drop, refl, sym, ◌∙◌, ap, subst, arith}
use Rattle.std.proofs.Common.{append_assoc, length-append, length-drop}
use Rattle.std.proofs.lemmas.List.{take_at, append-nil, drop-append-le}
use Rattle.std.specs.List.{flat_map}
use Rattle.std.specs.Int.{w32, to_be_bytes}
use Rattle.gate_block.specs.Row.{IsBlockOf}
use Rattle.records.specs.declared.record.Record.{Record}
use Rattle.records.specs.Acts.{places}
use Rattle.records.specs.Records.{spelled, spelling}
use Rattle.records.proofs.RecordLengths.{spelled-positive}
use Rattle.records.specs.Drafts.{IsDraft}
use Rattle.records.specs.Wholes.{body_of, IsWhole}
use Rattle.records.specs.Offers.{IsOffered}
use Rattle.records.specs.declared.block.Block.{Block}
use Rattle.records.specs.declared.draft.Handed.{Handed}

pub flat_map-append : {X A : Type 0} (f : X → List A) (xs ys : List X) →
    flat_map f (xs ++ ys) ≡ flat_map f xs ++ flat_map f ys
flat_map-append f [] ys = refl
flat_map-append f (x ∷ xs) ys =
    ap (λ l. f x ++ l) (flat_map-append f xs ys) ∙
    sym (append_assoc (f x) (flat_map f xs) (flat_map f ys))

pub spelling-push : (rs : List Record) (r : Record) →
    spelling (rs ++ r ∷ []) ≡ spelling rs ++ spelled r
spelling-push rs r = flat_map-append spelled rs (r ∷ []) ∙
    ap (λ l. spelling rs ++ l) (append-nil (spelled r))

pub places-few : (rs : List Record) → places rs ≤ length rs
places-few [] = omega arith
places-few (Record.Make kind name ∷ rs) = omega (arith, places-few rs)
places-few (Record.Commit n ∷ rs) = omega (arith, places-few rs)
places-few (r ∷ rs) = omega (arith, places-few rs)

-- One record more behind the others.
pub pushed : (bytes next : List ℕ) (capacity larger : ℕ) (rs : List Record) (r : Record) →
    IsDraft bytes capacity rs → 5 ≤ length bytes → next ≡ bytes ++ spelled r →
    length next < larger → IsDraft next larger (rs ++ r ∷ [])
pushed bytes next capacity larger rs r draft head is room = record {
  body = ap (drop 5) is ∙ drop-append-le 5 bytes (spelled r) head ∙
      ap (λ l. l ++ spelled r) draft.body ∙ sym (spelling-push rs r);
  head = λ some. (omega (arith, head, ap length is, length-append bytes (spelled r)), room);
}

-- Records that are some have some bytes.
pub spelling-some : (rs : List Record) → 0 < length rs → 1 ≤ length (spelling rs)
spelling-some [] some = absurd (omega (arith, some))
spelling-some (r ∷ rs) some = omega
    (arith, spelled-positive r, length-append (spelled r) (spelling rs))

-- A head and a closed gate make the draft a whole block.
pub whole : (bytes block : List ℕ) (capacity : ℕ) (rs : List Record) → IsDraft bytes capacity rs →
    0 < length rs → length (spelling rs) ≤ 65535 →
    block ≡ 167 ∷ (to_be_bytes w32 (length bytes - 5) ++ (drop 5 bytes ++ 0 ∷ [])) →
    IsBlockOf (spelling rs) block
whole bytes block capacity rs draft some short written =
    let size : length bytes - 5 ≡ length (spelling rs) =
    sym (length-drop 5 bytes) ∙ ap length draft.body in
    record {
      fits = record { not_empty = spelling-some rs some; short = short };
      is = written ∙ ap (λ l. 167 ∷ (to_be_bytes w32 (length bytes - 5) ++ (l ++ 0 ∷ [])))
          draft.body ∙ ap (λ n. 167 ∷ (to_be_bytes w32 n ++ (spelling rs ++ 0 ∷ []))) size
          ∙ sym (ap (λ l. 167 ∷ l) (append_assoc (to_be_bytes w32 (length (spelling rs)))
          (spelling rs) (0 ∷ [])));
    }

-- What cannot be refused is done.
pub sure : {A E : Type 0} (r : Result A E) (P Q : Type 0) → OnOk r P → OnErr r Q → (Q → ⊥) → P
sure (Ok x) P Q p q none = p
sure (Err e) P Q p q none = absurd (none q)

-- The whole block without its closed gate is a draft of the same records again.
pub restored : (bytes block popped : List ℕ) (capacity larger : ℕ) (rs : List Record) →
    IsDraft bytes capacity rs →
    block ≡ 167 ∷ (to_be_bytes w32 (length bytes - 5) ++ (drop 5 bytes ++ 0 ∷ [])) →
    popped ≡ take (length block - 1) block → length block ≤ larger → IsDraft popped larger rs
restored bytes block popped capacity larger rs draft written is room =
    let gate : List ℕ = to_be_bytes w32 (length bytes - 5) in
    let front : List ℕ = 167 ∷ (gate ++ drop 5 bytes) in
    let split : block ≡ front ++ 0 ∷ [] =
    written ∙ sym (ap (λ l. 167 ∷ l) (append_assoc gate (drop 5 bytes) (0 ∷ []))) in
    let size : length block ≡ length front + 1 = ap length split ∙ length-append front (0 ∷ []) in
    let same : popped ≡ front = is ∙ ap (λ l. take (length block - 1) l) split ∙
    take_at front (0 ∷ []) (length block - 1) (omega (arith, size)) in
    record {
      body = ap (drop 5) same ∙ draft.body;
      head = λ some. (
        omega (arith, ap length same, length-append gate (drop 5 bytes)),
        omega (arith, ap length same, size, room),
      );
    }

-- The body of a block is what it was made of.
pub block_whole : (body bytes : List ℕ) → IsBlockOf body bytes → IsWhole bytes
block_whole body bytes block =
    let size : length bytes ≡ 6 + length body =
    omega (
      arith,
      ap length block.is,
      length-append (to_be_bytes w32 (length body) ++ body) (0 ∷ []),
      length-append (to_be_bytes w32 (length body)) body,
    ) in
    let parts : bytes ≡ (167 ∷ to_be_bytes w32 (length body)) ++ (body ++ 0 ∷ []) =
    block.is ∙ append_assoc (167 ∷ to_be_bytes w32 (length body)) body (0 ∷ []) in
    let front : take (length bytes - 1) bytes ≡ (167 ∷ to_be_bytes w32 (length body)) ++ body =
    ap (λ l. take (length bytes - 1) l) block.is ∙
    take_at ((167 ∷ to_be_bytes w32 (length body)) ++ body) (0 ∷ []) (length bytes - 1)
    (omega (arith, size, length-append (167 ∷ to_be_bytes w32 (length body)) body)) in
    let is : body_of bytes ≡ body = ap (drop 5) front in
    subst (λ b. IsBlockOf b bytes) (sym is) block

-- The block is what it should be.
pub offered : (rs records : List Record) (before after : Handed) (sends : List Block → Type 0)
    (block : Block) → rs ≡ records → sends (block ∷ []) →
    IsBlockOf (spelling rs) block.bytes.items →
    block.end ≡ before.end + length rs → block.place ≡ before.place + places rs →
    after ≡ record { end = block.end; place = block.place } →
    IsOffered records before after sends
offered rs records before after sends block same sent bytes end place counted =
    subst (λ l. IsOffered l before after sends) same
    (record {
      block = block;
      sent = sent;
      bytes = bytes;
      end = end;
      place = place;
      counted = counted;
    })
