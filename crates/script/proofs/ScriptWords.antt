-- Words at the front of a text, and the one text of a number.
use Rattle.std.proofs.Common.{◌≡◌, ℕ, zero, suc, ◌==◌, true, ◌+◌, ◌*◌, ◌%◌, ◌<◌, ◌^◌, List, []}
use Rattle.std.proofs.Common.{◌++◌, length, take, ◌∷◌, ◌≢◌, All, get_or, length-append, ℤ, Result}
use Rattle.std.proofs.Common.{Ok, refl, sym, subst, ◌∙◌, ap, arith, codes}
use Rattle.std.specs.Int.{w64, cast_signed, cast_unsigned}
use Rattle.std.specs.Int.RustNames.{FitsSigned}
use Rattle.std.specs.List.{AllByRecursion}
use Rattle.std.specs.Fmt.{decimal, signed_decimal}
use Rattle.std.specs.Str.{IsUtf8}
use Rattle.std.specs.Str.Parse.{ParsesSigned, ParsesUnsigned}
use Rattle.std.proofs.lemmas.Bool.{eqb-true}
use Rattle.std.proofs.lemmas.List.{take_at}
use Rattle.std.proofs.lemmas.Int.{to_z-of_z}
use Rattle.std.proofs.lemmas.Grind.{common_steps}
use Rattle.std.proofs.lemmas.Str.{IsUtf8-from_ascii}
use Rattle.std.proofs.lemmas.Fmt.{IsAscii-signed, IsAscii-decimal, parse-signed_decimal}
use Rattle.std.proofs.lemmas.Fmt.{parse-decimal, decimal_by_steps, decimal_injective}
use Rattle.hex.specs.Hex.{IsBytes, encode_lower, decode_of, lower_digits}
use Rattle.hex.proofs.HexLemmas.{decode_of-encode_lower, decode_of-same, decode_of-ok}
use Rattle.hex.proofs.HexLemmas.{length-encode_with}
use Rattle.script.specs.ScriptTexts.{IsClient, value_text}

pub front_is : (text front rest : List ℕ) → text ≡ front ++ rest → take (length front) text ≡ front
front_is text front rest e = ap (take (length front)) e ∙ take_at front rest (length front) refl

pub number_is_text : (n : ℤ) (text : List ℕ) → FitsSigned w64 n → text ≡ signed_decimal n →
    IsUtf8 text
number_is_text n text fits e = rw e
    (IsUtf8-from_ascii (signed_decimal n) (IsAscii-signed n fits.sfits))

pub number_parses : {E : Type 0} (n : ℤ) (text : List ℕ) (r : Result ℤ E) →
    ParsesSigned w64 10 text r → FitsSigned w64 n → text ≡ signed_decimal n → r ≡ Ok n
number_parses n text r parsed fits e = parse-signed_decimal w64 n text r fits fits.sfits e parsed

pub number_shown : {E : Type 0} (n m : ℤ) (shown text : List ℕ) (r : Result ℤ E) →
    FitsSigned w64 n → r ≡ Ok m → r ≡ Ok n →
    shown ≡ signed_decimal (cast_signed w64 (cast_unsigned w64 m)) → text ≡ signed_decimal n →
    shown ≡ text
number_shown n m shown text r fits is is_too printed e =
    let same : m ≡ n = cc in
    printed ∙ ap (λ (k : ℤ). signed_decimal (cast_signed w64 (cast_unsigned w64 k))) same ∙
    ap signed_decimal (to_z-of_z w64 n fits) ∙ sym e

pub not_whole : (byte : ℕ) (text front back : List ℕ) → text ≡ front ++ byte ∷ back →
    All (λ b. b ≢ byte) text → ⊥
not_whole byte text front back e whole =
    let at : get_or (front ++ byte ∷ back) (length front) 0 ≡ byte = grind (arith, common_steps) in
    let inside : length front < length text =
    omega (arith, ap length e, length-append front (byte ∷ back)) in
    whole (length front) 0 inside (ap (λ (t : List ℕ). get_or t (length front) 0) e ∙ at)

-- ---- the first space

rest_whole : (byte x : ℕ) (xs : List ℕ) → All (λ b. b ≢ byte) (x ∷ xs) → All (λ b. b ≢ byte) xs
rest_whole byte x xs h = λ k d lt. h (suc k) d (omega arith)

first_other : (byte x : ℕ) (xs : List ℕ) → All (λ b. b ≢ byte) (x ∷ xs) → x ≢ byte
first_other byte x xs h = h 0 0 (omega arith)

pub same_split : (byte : ℕ) (a b front back : List ℕ) → a ++ byte ∷ b ≡ front ++ byte ∷ back →
    All (λ b. b ≢ byte) a → All (λ b. b ≢ byte) front → (a ≡ front) × (b ≡ back)
same_split byte [] b [] back e p q = (refl, cc)
same_split byte [] b (y ∷ front) back e p q = let h : y ≡ byte = cc in
    absurd (first_other byte y front q h)
same_split byte (x ∷ a) b [] back e p q = let h : x ≡ byte = cc in absurd (first_other byte x a p h)
same_split byte (x ∷ a) b (y ∷ front) back e p q =
    let head : x ≡ y = cc in
    let tail : a ++ byte ∷ b ≡ front ++ byte ∷ back = cc in
    let parts = same_split byte a b front back tail (rest_whole byte x a p)
    (rest_whole byte y front q) in
    let whole = parts.0 in
    (cc, parts.1)

-- ---- numbers without a sign

all_by : (P : ℕ → Type 0) (xs : List ℕ) → AllByRecursion P xs → All P xs
all_by P [] all k d lt = absurd (omega arith)
all_by P (x ∷ xs) all zero d lt = all.0
all_by P (x ∷ xs) all (suc k) d lt = all_by P xs all.1 k d (omega arith)

all_more : (P : ℕ → Type 0) (xs ys : List ℕ) → AllByRecursion P xs → AllByRecursion P ys →
    AllByRecursion P (xs ++ ys)
all_more P [] ys all more = more
all_more P (x ∷ xs) ys all more = (all.0, all_more P xs ys all.1 more)

no_other : (n b byte : ℕ) → byte < 48 → b ≡ 48 + n → b ≢ byte
no_other n b byte low is same = absurd (omega arith)

-- nothing below the digits is in a number: no space, and no point
pub decimal_has_no : (byte n : ℕ) → byte < 48 → n < 2 ^ 64 → All (λ b. b ≢ byte) (decimal n)
decimal_has_no byte n low small = all_by (λ b. b ≢ byte) (decimal n)
    (decimal_by_steps (λ m ds. AllByRecursion (λ b. b ≢ byte) ds)
    (λ m lt. (no_other m (48 + m) byte low refl, tt))
    (λ m ds lt all. all_more (λ b. b ≢ byte) ds ((48 + m % 10) ∷ []) all
    (no_other (m % 10) (48 + m % 10) byte low refl, tt)) n small)

pub decimal_whole : (n : ℕ) → n < 2 ^ 64 → All (λ b. b ≢ 32) (decimal n)
decimal_whole n small = decimal_has_no 32 n (omega arith) small

pub natural_is_text : (n : ℕ) (text : List ℕ) → n < 2 ^ 64 → text ≡ decimal n → IsUtf8 text
natural_is_text n text small e = rw e (IsUtf8-from_ascii (decimal n) (IsAscii-decimal n small))

pub natural_parses : {E : Type 0} (n : ℕ) (text : List ℕ) (r : Result ℕ E) →
    ParsesUnsigned 64 10 text r → n < 2 ^ 64 → text ≡ decimal n → r ≡ Ok n
natural_parses n text r parsed small e = parse-decimal 64 n text r small small e parsed

pub natural_shown : {E : Type 0} (n m : ℕ) (shown text : List ℕ) (r : Result ℕ E) → r ≡ Ok m →
    r ≡ Ok n → shown ≡ decimal m → text ≡ decimal n → shown ≡ text
natural_shown n m shown text r is is_too printed e =
    let same : m ≡ n = cc in
    printed ∙ ap decimal same ∙ sym e

-- a client's number is one that is written in one way
pub same_client : (n m : ℕ) (text : List ℕ) → IsClient n → m < 2 ^ 64 → text ≡ decimal n →
    text ≡ decimal m → IsClient m
same_client n m text client small is is_too =
    let last = client.last in
    subst IsClient (decimal_injective n m (omega arith) small (sym is ∙ is_too)) client

-- ---- values

none_of : (xs : List ℕ) → length xs ≡ 0 → xs ≡ []
none_of [] none = refl
none_of (x ∷ xs) none = absurd (omega arith)

get_or-default : (xs : List ℕ) (k d : ℕ) → k < length xs → IsBytes xs → get_or xs k d < 256
get_or-default [] k d lt all = absurd (omega arith)
get_or-default (x ∷ xs) zero d lt all = all 0
get_or-default (x ∷ xs) (suc k) d lt all = get_or-default xs k d (omega arith) (λ i. all (suc i))

-- the digits of some bytes are their text, if there are any
value_of : (bytes digits text : List ℕ) → digits ≡ encode_lower bytes → digits ≡ text →
    (bytes ≡ [] → ⊥) → text ≡ value_text bytes
value_of [] digits text e is some = absurd (some refl)
value_of (b ∷ bytes) digits text e is some = sym is ∙ e

-- What is decoded of a text, and has it as its digits, is the value that it writes.
pub value_is : (bytes digits text : List ℕ) → decode_of text ≡ Ok bytes →
    digits ≡ encode_lower bytes → digits ≡ text → (text ≡ [] → ⊥) →
    All (λ b. b < 256) bytes × (text ≡ value_text bytes)
value_is bytes digits text found e is some =
    let ok = decode_of-ok text bytes found in
    let twice = ok.2 in (
      λ k d lt. get_or-default bytes k d lt ok.3,
      value_of bytes digits text e is
          (λ none. some (none_of text (twice ∙ ap (λ xs. 2 * length xs) none))),
    )

bytes_index : (v : List ℕ) → All (λ b. b < 256) v → IsBytes v
bytes_index [] all i = omega arith
bytes_index (b ∷ v) all zero = all 0 0 (omega arith)
bytes_index (b ∷ v) all (suc i) = bytes_index v (λ k d lt. all (suc k) d (omega arith)) i

-- A text that is no dash and the text of a value is read as these bytes.
pub value_read : (v text : List ℕ) → All (λ b. b < 256) v → text ≡ value_text v →
    (text ≡ codes "-" → ⊥) → (decode_of text ≡ Ok v) × (text ≡ encode_lower v)
value_read [] text all e dash = absurd (dash e)
value_read (b ∷ v) text all e dash =
    (ap decode_of e ∙ decode_of-encode_lower (b ∷ v) (bytes_index (b ∷ v) all), e)

-- What is decoded of the text of a value is the value, and its digits are the text.
pub value_again : (v text bytes digits : List ℕ) → All (λ b. b < 256) v → text ≡ value_text v →
    (text ≡ codes "-" → ⊥) → decode_of text ≡ Ok bytes → digits ≡ encode_lower bytes → digits ≡ text
value_again v text bytes digits all is dash found e =
    let read = value_read v text all is dash in
    let same : bytes ≡ v = decode_of-same text bytes v found read.0 in
    e ∙ ap encode_lower same ∙ sym read.1

pub empty_is : (text : List ℕ) → (length text == 0) ≡ true → text ≡ []
empty_is text is = none_of text (eqb-true (length text) 0 is)

-- No value is written by no text.
pub value_some : (v text : List ℕ) → text ≡ [] → text ≡ value_text v → ⊥
value_some [] text none is = cc
value_some (b ∷ v) text none is =
    let twice = length-encode_with lower_digits (b ∷ v) in
    let same = ap length (sym none ∙ is) in
    absurd (omega arith)
