-- How long the blocks of an image are, and what is left of one behind its next block.
use Rattle.std.proofs.Common.{◌≡◌, ℕ, ◌+◌, ◌-◌, ◌<◌, ◌≤◌, List, [], ◌∷◌, ◌++◌, length, Bool, false}
use Rattle.std.proofs.Common.{true≢false, drop, get_or, Vec, IsTrue}
use Rattle.std.proofs.Common.{◌↔◌, Result, Ok, Err, IfOk, IfErr, OnErr, refl, sym, ◌∙◌, ap, subst}
use Rattle.std.proofs.Common.{arith, append_assoc, length-append}
use Rattle.std.proofs.lemmas.List.Elements.{All-head, All-tail, All-same}
use Rattle.std.specs.declared.alloc.Global.{Global}
use Rattle.std.specs.List.{All}
use Rattle.std.specs.Result.{is_err}
use Rattle.calls.specs.declared.refusal.Refusal.{Refusal}
use Rattle.gate_block.specs.Row.{block, row}
use Rattle.gate_block.specs.Area.{size_of, offset_of, IsLaid}
use Rattle.gate_block.specs.Answers.{IsAppendAnswer}
use Rattle.records.specs.Wholes.{IsWhole, body_of}
use Rattle.checkpoint.specs.declared.laying.Laying.{Laying}
use Rattle.checkpoint.specs.declared.stage.Stage.{Stage}
use Rattle.checkpoint.specs.Imaging.{IsBeingLaid, IsTooLong, bodies_of, left_of}
use Rattle.checkpoint.specs.ImageAnswers.{IsOneFewer, IsAsMany, PieceAnswers}
use Rattle.checkpoint.specs.Keepers.{KeeperState}

-- how many bytes the blocks take, but for the closed gate behind the last
abbrev pub bytes_in : List (Vec ℕ Global) → ℕ
bytes_in blocks = length (row (bodies_of blocks))

-- a whole block has the closed gate too
pub length-whole : (b : Vec ℕ Global) (rest : List (Vec ℕ Global)) → IsWhole b.items →
    bytes_in (b ∷ rest) + 1 ≡ length b.items + bytes_in rest
length-whole b rest whole =
    omega (
      arith,
      length-append (block (body_of b.items)) (row (bodies_of rest)),
      ap length whole.is,
      length-append (block (body_of b.items)) (0 ∷ []),
    )

-- the room that is left behind the first blocks
abbrev pub Leaves : List (Vec ℕ Global) → ℕ → ℕ → ℕ → Type 0
Leaves blocks size room i = room ≡ size + bytes_in (drop i blocks) - bytes_in blocks

-- the next block, where there is one
pub next_is : (xs ys : List (Vec ℕ Global)) (b : Vec ℕ Global) → 1 ≤ length xs → b ≡ get_or xs 0 b →
    ys ≡ drop 1 xs → xs ≡ b ∷ ys
next_is [] ys b some at rest = absurd (omega (arith, some))
next_is (x ∷ xs) ys b some at rest = λ i. sym at i ∷ sym rest i

-- what is left is whole
pub whole_rest : (xs ys : List (Vec ℕ Global)) → ys ≡ drop 1 xs → All (λ x. IsWhole x.items) xs →
    All (λ x. IsWhole x.items) ys
whole_rest [] ys rest whole = All-same (λ x. IsWhole x.items) ys [] rest whole
whole_rest (x ∷ xs) ys rest whole =
    All-same (λ y. IsWhole y.items) ys xs rest (All-tail (λ y. IsWhole y.items) x xs whole)

pub whole_next : (xs ys : List (Vec ℕ Global)) (b : Vec ℕ Global) → xs ≡ b ∷ ys →
    All (λ x. IsWhole x.items) xs → IsWhole b.items
whole_next xs ys b is whole = All-head (λ x. IsWhole x.items) b ys
    (All-same (λ x. IsWhole x.items) (b ∷ ys) xs (sym is) whole)

-- One block more is laid, and one fewer left.
pub laid_next : (w v : Laying) (s new : List ℕ) (b : Vec ℕ Global) (bodies : List (List ℕ)) →
    left_of w ≡ b ∷ left_of v → IsWhole b.items →
    ((laid : List (List ℕ)) → IsLaid w.area s laid →
    IsLaid v.area new (laid ++ body_of b.items ∷ [])) → IsBeingLaid w s bodies →
    IsBeingLaid v new bodies
laid_next w v s new b bodies next whole step was = record {
  laid = was.laid ++ body_of b.items ∷ [];
  stands = step was.laid was.stands;
  all = append_assoc was.laid (body_of b.items ∷ []) (bodies_of (left_of v)) ∙
      ap (λ (l : List (Vec ℕ Global)). was.laid ++ bodies_of l) (sym next) ∙ was.all;
}

-- the next block has room, as all that are left have
pub no_more_room : (w : Laying) (b : Vec ℕ Global) (bytes : List ℕ) → 1 ≤ length (left_of w) →
    b ≡ get_or (left_of w) 0 b → bytes ≡ b.items →
    offset_of w.area + bytes_in (left_of w) < size_of w.area →
    size_of w.area < offset_of w.area + length bytes → ⊥
no_more_room w b bytes some at is room full =
    let next = next_is (left_of w) (drop 1 (left_of w)) b some at refl in
    omega (
      arith,
      room,
      full,
      ap length is,
      ap bytes_in next,
      length-whole b (drop 1 (left_of w))
          (whole_next (left_of w) (drop 1 (left_of w)) b next w.image.whole),
    )

-- and where it has, a lay is refused for a fault alone
pub only_fault : (e : Refusal) (failed fails : Bool) (is_full is_risen : Type 0) → failed ≡ false →
    (is_full → ⊥) → IsAppendAnswer failed fails is_full is_risen (Err e) →
    (e ≡ Refusal.Fault) × is_risen
only_fault Refusal.Full failed fails is_full is_risen fine fits a = absurd (fits a.2)
only_fault Refusal.Failed failed fails is_full is_risen fine fits a =
    absurd (true≢false (sym a.0 ∙ fine))
only_fault Refusal.Fault failed fails is_full is_risen fine fits a = (refl, a.3)
only_fault e failed fails is_full is_risen fine fits a = absurd a

-- what the writing of a piece answers
pub pieced : {D : Type 0} (k : KeeperState D) (disk : D) (w v : Laying) (failed : Bool)
    (is_risen : Type 0) (r : Result Bool Refusal) → k.failed ≡ false → k.stage ≡ Stage.Laid w →
    failed ≡ is_err r → IfOk r (λ more. IsOneFewer w v more) →
    IfErr r (λ e. (e ≡ Refusal.Fault) × is_risen) → OnErr r (IsAsMany w v)
    → PieceAnswers k is_risen (record k { disk = disk; failed = failed; stage = Stage.Laid v }) r
pieced k disk w v failed is_risen (Ok more) fine is told one fault many = (
  fine,
  (
    w,
    v,
    is,
    one,
    λ i. record k
        { disk = disk; failed = (told ∙ sym fine) i; stage = Stage.Laid v },
  ),
)
pieced k disk w v failed is_risen (Err e) fine is told one fault many =
    subst (λ (x : Refusal). PieceAnswers k is_risen
    (record k { disk = disk; failed = failed; stage = Stage.Laid v }) (Err x)) (sym fault.0) (
      fine,
      fault.1,
      (
        w,
        v,
        is,
        many,
        λ i. record k { disk = disk; failed = told i; stage = Stage.Laid v },
      ),
    )

pub not_too_long : (r : Bool) (size asked : ℕ) (blocks : List (Vec ℕ Global)) → asked ≡ size →
    IsTrue r ↔ IsTooLong asked blocks → r ≡ false → IsTooLong size blocks → ⊥
not_too_long r size asked blocks is says told long =
    true≢false (sym (says.1 (subst (λ (n : ℕ). IsTooLong n blocks) (sym is) long)) ∙ told)

-- what is left of an area, where so many bytes behind an image stay free
pub shorter : (left size asked behind : ℕ) → left ≡ asked - behind → asked ≡ size →
    left ≡ size - behind
shorter left size asked behind is same = is ∙ ap (λ n. n - behind) same
