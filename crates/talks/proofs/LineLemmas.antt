-- Lists of bytes that are taken in pieces.
use Rattle.std.proofs.Common.{◌≡◌, ◌≢◌, ℕ, zero, suc, ◌+◌, ◌-◌, ◌<◌, ◌≤◌, min, List, [], ◌∷◌, ◌++◌}
use Rattle.std.proofs.Common.{All}
use Rattle.std.proofs.Common.{length, take, get_or, refl, sym, ap, subst, ◌∙◌, arith, Option, None}
use Rattle.std.proofs.Common.{Some}
use Rattle.std.proofs.Common.{append_assoc, take_all, length-take}
use Rattle.std.proofs.lemmas.List.{append-nil, take_more}
use Rattle.std.proofs.lemmas.List.Elements.{All-append}
use Rattle.std.specs.Io.KnownBytes.{Consumes}
use Rattle.std.proofs.KnownBytes.{Consumes-trans}
use Rattle.talks.specs.declared.lines.Found.{Found}
use Rattle.talks.specs.declared.lines.Piece.{Piece}
use Rattle.talks.specs.Lines.{Finds, Brings, IsWhere, Takes, Ends, IsPiece, IsEmpty, IsLast}
use Rattle.talks.specs.Lines.{HasEnded, feed_of}

-- the first bytes of what stands behind others
take_least : (n m : ℕ) (ys : List ℕ) → m ≡ min (length ys) n → take m ys ≡ take n ys
take_least zero m ys is =
    let none : m ≡ 0 = omega arith in
    ap (λ k. take k ys) none
take_least (suc n) m [] is =
    take_all m [] (omega arith) ∙ sym (take_all (suc n) [] (omega arith))
take_least (suc n) zero (y ∷ ys) is = absurd (omega arith)
take_least (suc n) (suc m) (y ∷ ys) is = ap (λ l. y ∷ l) (take_least n m ys (omega arith))

pub take_behind : (n m : ℕ) (xs ys : List ℕ) → length xs ≤ n → m ≡ min (length ys) (n - length xs) →
    xs ++ take m ys ≡ take n (xs ++ ys)
take_behind n m [] ys fits is = take_least n m ys (omega arith)
take_behind (suc n) m (x ∷ xs) ys fits is =
    ap (λ l. x ∷ l) (take_behind n m xs ys (omega arith) (omega arith))
take_behind zero m (x ∷ xs) ys fits is = absurd (omega arith)

pub take_twice : (n : ℕ) (xs ys : List ℕ) → take n (take n xs ++ ys) ≡ take n (xs ++ ys)
take_twice zero xs ys = refl
take_twice (suc n) [] ys = refl
take_twice (suc n) (x ∷ xs) ys = ap (λ l. x ∷ l) (take_twice n xs ys)

-- what is taken of the bytes at hand
pub shown_parts : (shown : List ℕ) (front taken : ℕ) (piece : Piece) →
    taken ≡ min (length shown) (front + 1) → front ≤ length shown →
    (front < length shown → get_or shown front 0 ≡ 10) → IsPiece front (length shown) piece →
    take taken shown ≡ take front shown ++ feed_of piece
shown_parts shown front taken Piece.Part is within feed piece =
    take_all taken shown (omega arith) ∙ sym (take_all front shown (omega arith))
    ∙ sym (append-nil (take front shown))
shown_parts shown front taken Piece.Whole is within feed piece =
    let all : taken ≡ front + 1 = omega arith in
    ap (λ n. take n shown) all ∙ take_more shown front 0 piece
    ∙ ap (λ b. take front shown ++ b ∷ []) (feed piece)
shown_parts shown front taken Piece.Silence is within feed piece = absurd piece
shown_parts shown front taken Piece.Last is within feed piece =
    take_all taken shown (omega arith) ∙ sym (take_all front shown (omega arith))
    ∙ sym (append-nil (take front shown))

ended_too : (a b c : Option (List ℕ)) (bs : List ℕ) → Consumes a b bs → HasEnded b c → HasEnded a c
ended_too None b c bs took ended = tt
ended_too (Some x) None c bs took ended = absurd took
ended_too (Some x) (Some y) c bs took ended = ended

none_of : (xs : List ℕ) → length xs ≡ 0 → xs ≡ []
none_of [] none = refl
none_of (x ∷ xs) none = absurd (omega arith)

-- what the last piece brings behind others
brings : (most : ℕ) (text bs kept : List ℕ) (piece : Piece) (found : Found) (line : List ℕ) →
    All (λ x. x ≢ 10) text → All (λ x. x ≢ 10) bs → kept ≡ take (most + 1) (text ++ bs) →
    Ends most piece kept found line → Brings most (text ++ (bs ++ feed_of piece)) found line
brings most text bs kept Piece.Whole Found.Line line whole more is ends =
    let n = length-take (most + 1) (text ++ bs) in
    let short : length (text ++ bs) ≤ most + 1 = omega (arith, n, ap length is, ends.1) in
    let all : line ≡ text ++ bs = ends.0 ∙ is ∙ take_all (most + 1) (text ++ bs) short in (
      sym (append_assoc text bs (10 ∷ [])) ∙ ap (λ l. l ++ 10 ∷ []) (sym all),
      subst (All (λ x. x ≢ 10)) (sym all) (All-append (λ x. x ≢ 10) text bs whole more),
      subst (λ l. length l ≤ most) (sym ends.0) ends.1,
    )
brings most text bs kept Piece.Whole Found.TooLong line whole more is ends =
    let n = length-take (most + 1) (text ++ bs) in (
      text ++ bs,
      ends.0 ∙ is,
      sym (append_assoc text bs (10 ∷ [])),
      All-append (λ x. x ≢ 10) text bs whole more,
      omega (arith, n, ap length is, ends.1),
    )
brings most text bs kept Piece.Last Found.End line whole more is ends =
    let n = length-take (most + 1) (text ++ bs) in
    let none : text ++ bs ≡ [] = none_of (text ++ bs)
    (omega (arith, n, ap length is, ap length ends.1)) in
    (ends.0, sym (append_assoc text bs []) ∙ append-nil (text ++ bs) ∙ none)
brings most text bs kept Piece.Last Found.Cut line whole more is ends =
    let n = length-take (most + 1) (text ++ bs) in
    let all : text ++ (bs ++ []) ≡ text ++ bs =
    sym (append_assoc text bs []) ∙ append-nil (text ++ bs) in (
      ends.0,
      subst (All (λ x. x ≢ 10)) (sym all) (All-append (λ x. x ≢ 10) text bs whole more),
      omega (arith, n, ap length is, ends.1, ap length all),
    )
brings most text bs kept Piece.Silence Found.Silence line whole more is ends =
    let all : text ++ (bs ++ []) ≡ text ++ bs =
    sym (append_assoc text bs []) ∙ append-nil (text ++ bs) in (
      subst (All (λ x. x ≢ 10)) (sym all) (All-append (λ x. x ≢ 10) text bs whole more),
      ends ∙ is ∙ ap (take (most + 1)) (sym all),
    )
brings most text bs kept piece found line whole more is ends = absurd ends

-- where the input ended, if it did
where_ended : (most : ℕ) (a b c : Option (List ℕ)) (done bs kept : List ℕ) (piece : Piece)
    (found : Found) (line : List ℕ) → Consumes a b done → Takes b c bs piece →
    Ends most piece kept found line → IsWhere found a c
where_ended most a b c done bs kept piece Found.Line line before takes ends = tt
where_ended most a b c done bs kept piece Found.TooLong line before takes ends = tt
where_ended most a b c done bs kept piece Found.Silence line before takes ends = tt
where_ended most a b c done bs kept Piece.Last Found.Cut line before takes ends =
    ended_too a b c done before takes.1.1
where_ended most a b c done bs kept Piece.Last Found.End line before takes ends =
    ended_too a b c done before takes.1.1
where_ended most a b c done bs kept piece found line before takes ends = absurd ends

-- the last piece behind others, and behind the bytes with which the line began
pub finds : (most : ℕ) (a b c : Option (List ℕ)) (begun done bs kept : List ℕ) (piece : Piece)
    (found : Found) (line : List ℕ) → All (λ x. x ≢ 10) begun → All (λ x. x ≢ 10) done →
    All (λ x. x ≢ 10) bs → kept ≡ take (most + 1) (begun ++ (done ++ bs)) → Consumes a b done →
    Takes b c bs piece → Ends most piece kept found line → Finds most begun a c found line
finds most a b c begun done bs kept piece found line whole part more is before takes ends = (
  done ++ (bs ++ feed_of piece),
  Consumes-trans a b c done (bs ++ feed_of piece) before takes.0,
  subst (λ l. Brings most l found line) (append_assoc begun done (bs ++ feed_of piece))
      (brings most (begun ++ done) bs kept piece found line
      (All-append (λ x. x ≢ 10) begun done whole part) more
      (is ∙ ap (take (most + 1)) (sym (append_assoc begun done bs))) ends),
  where_ended most a b c done bs kept piece found line before takes ends,
)

-- a piece of no bytes takes none
pub takes_nothing : (a b : Option (List ℕ)) (piece : Piece) → IsEmpty piece → Consumes a b [] →
    Takes a b [] piece
takes_nothing a b Piece.Part empty took = (took, tt)
takes_nothing a b Piece.Silence empty took = (took, refl)
takes_nothing a b piece empty took = absurd empty

-- the last piece of all brings nothing
pub last_piece : (a c : Option (List ℕ)) (shown bs : List ℕ) (piece : Piece) →
    IsPiece (length bs) (length shown) piece → length bs ≤ length shown →
    (length shown ≡ 0 → HasEnded a c) → IsLast piece bs a c
last_piece a c shown bs Piece.Part is within end = tt
last_piece a c shown bs Piece.Whole is within end = tt
last_piece a c shown bs Piece.Silence is within end = absurd is
last_piece a c shown bs Piece.Last is within end = (none_of bs (omega arith), end is)
