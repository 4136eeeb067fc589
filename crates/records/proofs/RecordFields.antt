-- A field that is read is the field that was written, and what was written is read again.
use Rattle.std.proofs.Common.{◌≡◌, ℕ, zero, suc, ◌+◌, ◌*◌, ◌^◌, ◌<◌, ◌≤◌, Bool, true, false, cond}
use Rattle.std.proofs.Common.{ltb, List, [], ◌∷◌, ◌++◌, length, get_or, take, drop, Option, Some}
use Rattle.std.proofs.Common.{None, refl, sym, ap, subst, ◌∙◌, append_assoc, arith, inl, inr, ◌⊎◌}
use Rattle.std.proofs.Common.{◌/◌}
use Rattle.std.specs.Int.{bytes_high_first, byte_at}
use Rattle.std.proofs.lemmas.Bool.{cases_lt, ltb-false, le-ltb}
use Rattle.std.proofs.lemmas.Nat.{same_from_place, mod_below}
use Rattle.std.proofs.lemmas.List.{append-nil, drop_at, take-append-drop, length-append}
use Rattle.std.proofs.lemmas.List.{length-take, get_or-drop, get_or-take, get_or_past}
use Rattle.byteorder.specs.Endian.{big_from, big_number}
use Rattle.byteorder.specs.Numbers.{big_from-cons, big_from-take, big_from-lt}
use Rattle.byteorder.specs.Numbers.{big_number-reads_back, length-bytes_high_first}
use Rattle.records.specs.Records.{number}
use Rattle.records.specs.RecordReading.{◌>>=◌, number_in}

abbrev pub IsBytes : List ℕ → Type 0
IsBytes bytes = (i : ℕ) → get_or bytes i 0 < 256

pub IsBytes-drop : (n : ℕ) (bytes : List ℕ) → IsBytes bytes → IsBytes (drop n bytes)
IsBytes-drop n bytes h i = rw get_or-drop (h (n + i))

pub IsBytes-take : (n : ℕ) (bytes : List ℕ) → IsBytes bytes → IsBytes (take n bytes)
IsBytes-take n bytes h i =
    elim (cases_lt i n) [
      | inl lt ↦ rw (get_or-take n bytes i 0 lt) (h i)
      | inr le ↦ rw (get_or_past (take n bytes) i 0 (omega (arith, length-take n bytes)))
          (omega arith)
    ]

pub IsBytes-rest : (b : ℕ) (bytes : List ℕ) → IsBytes (b ∷ bytes) → IsBytes bytes
IsBytes-rest b bytes h i = h (suc i)

-- ---- steps

-- whether a step failed, and which way a test went
pub which : {A : Type 0} (r : Option A) → (r ≡ None) ⊎ ((x : A) × (r ≡ Some x))
which None = inl refl
which (Some x) = inr (x, refl)

-- what is read in two steps was read in each
pub bound : {A B : Type 0} (r : Option A) (f : A → Option B) (y : B) → r >>= f ≡ Some y →
    (x : A) × (r ≡ Some x) × (f x ≡ Some y)
bound None f y e = absurd cc
bound (Some x) f y e = (x, refl, e)

pub went : (b : Bool) → (b ≡ true) ⊎ (b ≡ false)
went true = inl refl
went false = inr refl

-- a test that did not fail
pub guard_some : {A : Type 0} (b : Bool) (x y : A) → cond b None (Some x) ≡ Some y →
    (b ≡ false) × (x ≡ y)
guard_some true x y e = absurd cc
guard_some false x y e = (refl, cc)

abbrev some : {A : Type 0} → A → Option A
some x = Some x

pub some_is : {A : Type 0} (x y : A) → some x ≡ some y → x ≡ y
some_is x y e = cc

-- what a reader took from the front
pub record Takes (bytes text rest : List ℕ) : Type 0 where
  pub parts : bytes ≡ text ++ rest
  pub rest_fits : IsBytes rest

pub Takes-then : (a x b y c : List ℕ) → Takes a x b → Takes b y c → Takes a (x ++ y) c
Takes-then a x b y c p q = record {
  parts = p.parts ∙ ap (λ (t : List ℕ). x ++ t) q.parts ∙
      sym (append_assoc x y c);
  rest_fits = q.rest_fits;
}

-- ---- numbers

byte_at-below : (k x : ℕ) → byte_at k x < 256
byte_at-below zero x = mod_below x 256 (omega arith)
byte_at-below (suc k) x = mod_below (x / 256 ^ suc k) 256 (omega arith)

IsBytes-high_first : (len n : ℕ) → IsBytes (bytes_high_first len n)
IsBytes-high_first zero n i = omega arith
IsBytes-high_first (suc len) n zero = byte_at-below len n
IsBytes-high_first (suc len) n (suc i) = IsBytes-high_first len n i

-- Bytes of one number are one list.
same_bytes : (len : ℕ) (xs ys : List ℕ) → length xs ≡ len → length ys ≡ len → IsBytes xs →
    IsBytes ys → big_from 0 len xs ≡ big_from 0 len ys → xs ≡ ys
same_bytes zero [] [] p q f g e = refl
same_bytes zero (x ∷ xs) ys p q f g e = absurd (omega arith)
same_bytes zero [] (y ∷ ys) p q f g e = absurd (omega arith)
same_bytes (suc len) [] ys p q f g e = absurd (omega arith)
same_bytes (suc len) (x ∷ xs) [] p q f g e = absurd (omega arith)
same_bytes (suc len) (x ∷ xs) (y ∷ ys) p q f g e =
    let a = big_from-cons 0 len x xs in
    let b = big_from-cons 0 len y ys in
    let low = big_from-lt 0 len xs (IsBytes-rest x xs f) in
    let high = big_from-lt 0 len ys (IsBytes-rest y ys g) in
    let whole : x * 256 ^ len + big_from 0 len xs ≡ y * 256 ^ len + big_from 0 len ys = cc in
    let same = same_from_place x (big_from 0 len xs) y (big_from 0 len ys) (256 ^ len) low high
    whole in
    let rest = same_bytes len xs ys (omega arith) (omega arith) (IsBytes-rest x xs f)
    (IsBytes-rest y ys g) same.1 in
    cc

-- The bytes of the number in some bytes are those bytes.
pub number-read : (len : ℕ) (bytes : List ℕ) → length bytes ≡ len → IsBytes bytes →
    bytes_high_first len (big_from 0 len bytes) ≡ bytes
number-read len bytes p f =
    let n = big_from 0 len bytes in
    let below = big_from-lt 0 len bytes f in
    let back : big_from 0 len (bytes_high_first len n) ≡ n =
    ap (big_from 0 len) (sym (append-nil (bytes_high_first len n))) ∙
    big_number-reads_back len n [] below in
    same_bytes len (bytes_high_first len n) bytes (length-bytes_high_first len n) p
    (IsBytes-high_first len n) f back

pub number_takes : (len : ℕ) (bytes : List ℕ) (x : ℕ × List ℕ) → IsBytes bytes →
    number_in len bytes ≡ Some x → Takes bytes (number len x.0) x.1 × (x.0 < 256 ^ len)
unfolding number_in number
number_takes len bytes x f e =
    let g = guard_some (ltb (length bytes) len) (big_number len bytes, drop len bytes) x e in
    let long : len ≤ length bytes = ltb-false _ _ g.0 in
    let front = take len bytes in
    let front_fits = IsBytes-take len bytes f in
    let same : big_from 0 len front ≡ big_from 0 len bytes =
    big_from-take 0 len len bytes (omega arith) in
    let text : bytes_high_first len (big_from 0 len bytes) ≡ front =
    rw (← same) (number-read len front (omega (arith, length-take len bytes)) front_fits) in
    let made : Takes bytes (bytes_high_first len (big_number len bytes)) (drop len bytes) =
    record {
      parts = rw text (sym (take-append-drop len bytes));
      rest_fits = IsBytes-drop len bytes f;
    } in
    subst (λ (y : ℕ × List ℕ). Takes bytes (bytes_high_first len y.0) y.1 × (y.0 < 256 ^ len)) g.1
    (made, big_from-lt 0 len bytes f)

pub number_again : (len n : ℕ) (rest : List ℕ) → n < 256 ^ len →
    number_in len (number len n ++ rest) ≡ Some (n, rest)
unfolding number_in number
number_again len n rest lt =
    let len_is = length-bytes_high_first len n in
    let long : ltb (length (bytes_high_first len n ++ rest)) len ≡ false =
    le-ltb _ _ (omega (arith, length-append (bytes_high_first len n) rest)) in
    rw (long, drop_at (bytes_high_first len n) rest len len_is, big_number-reads_back len n rest lt)
    refl
