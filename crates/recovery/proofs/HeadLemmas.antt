-- The head that is read is the one that the disk has.
use Rattle.std.proofs.Common.{◌≡◌, ℕ, List, length, take, drop, get_or, sym, ◌∙◌, ap, subst, arith}
use Rattle.std.proofs.Common.{length-drop, false, true≢false, Option, None, Some, Result, Ok, Err}
use Rattle.std.proofs.Common.{◌+◌, ◌*◌, ◌<◌, ◌≤◌, ◌⊎◌, inl, inr, zero, suc}
use Rattle.std.proofs.lemmas.List.{take-take, get_or-take, drop-take}
use Rattle.std.specs.Int.{w64, to_be_bytes}
use Rattle.std.specs.Option.{ok_or, IfNone}
use Rattle.std.specs.Result.{IfErr, OnOk, is_err}
use Rattle.byteorder.specs.Endian.{big_number}
use Rattle.calls.specs.declared.format.Format.{Format}
use Rattle.calls.specs.declared.refusal.Refusal.{Refusal}
use Rattle.records.proofs.RecordFields.{IsBytes, IsBytes-drop, number-read}
use Rattle.replay.specs.Journals.{IsHeader}
use Rattle.recovery.specs.Heads.{IsHead, IsHeadRefusal}

-- the size that a head says, as the number that its last bytes are
pub size_said : (head : List ℕ) (n : ℕ) → length head ≡ 17 → IsBytes head →
    n ≡ big_number 8 (drop 9 head) → drop 9 head ≡ to_be_bytes w64 n
size_said head n long fits is =
    sym (number-read 8 (drop 9 head) (omega (arith, long, length-drop 9 head))
    (IsBytes-drop 9 head fits)) ∙ ap (λ m. to_be_bytes w64 m) (sym is)

-- the head of a disk that has one
head_of : (version : Format) (size : ℕ) (head bytes : List ℕ) → head ≡ take 17 bytes →
    IsHeader version size bytes →
    IsHead version size head (length bytes)
head_of version size head bytes is header = record {
  letters = ap (take 8) is ∙ take-take 8 17 bytes (omega arith) ∙ header.letters;
  gate = ap (λ l. get_or l 8 0) is ∙ get_or-take 17 bytes 8 0 (omega arith) ∙ header.gate;
  area = ap (drop 9) is ∙ drop-take 9 8 bytes ∙ header.area;
  not_small = header.not_small;
  not_large = header.not_large;
  whole = header.whole;
}

not_said : {X : Type 0} (said : Option X) (result : Result X Refusal)
    (risen no_head no_header : Type 0) →
    result ≡ ok_or said Refusal.NotAStore → (no_head → no_header) → IfNone said no_head →
    IfErr result (IsHeadRefusal risen no_header)
not_said None result risen no_head no_header is f none = rw (is) (f none)
not_said (Some n) result risen no_head no_header is f none = rw (is) tt

pub no_header : {X : Type 0} (said : Option X) (result : Result X Refusal)
    (risen is_honest : Type 0)
    (head bytes : List ℕ) (whole : ℕ) → result ≡ ok_or said Refusal.NotAStore →
    (is_honest → head ≡ take 17 bytes) → whole ≡ length bytes
    → IfNone said ((version : Format) (size : ℕ) → IsHead version size head whole → ⊥) →
    IfErr result (IsHeadRefusal risen
    (is_honest → (version : Format) (size : ℕ) → IsHeader version size bytes → ⊥))
no_header said result risen is_honest head bytes whole is read whole_is none =
    not_said said result risen _ _ is
    (λ no_head true_read version size header. no_head version size
    (subst (λ n. IsHead version size head n) (sym whole_is)
    (head_of version size head bytes (read true_read) header))) none

-- what holds where nothing was refused
pub on_ok : {T E : Type 0} (r : Result T E) (P : Type 0) → is_err r ≡ false → OnOk r P → P
on_ok (Ok x) P fine p = p
on_ok (Err e) P fine p = absurd (true≢false fine)

-- an area begins behind the head, or behind the area that does
pub one_or_other : (size second : ℕ) → second < 2 → (size * second ≤ size) ×
    ((4096 + size * second ≡ 4096) ⊎ (4096 + size * second ≡ 4096 + size))
one_or_other size zero low = (omega arith, inl (omega arith))
one_or_other size (suc zero) low = (omega arith, inr (omega arith))
one_or_other size (suc (suc n)) low = absurd (omega (arith, low))

-- what no version has
pub no_version : (P : Format → Type 0) → (P Format.One → ⊥) → (P Format.Two → ⊥) → (v : Format) →
    P v → ⊥
no_version P one two Format.One p = one p
no_version P one two Format.Two p = two p
