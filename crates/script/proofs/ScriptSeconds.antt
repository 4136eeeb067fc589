-- The one number of thousandths of a text, and what stands behind the word within.
use Rattle.std.proofs.Common.{◌≡◌, ◌≢◌, ◌⊎◌, inl, inr, ℕ, ◌+◌, ◌*◌, ◌<◌, ◌≤◌, ◌^◌, List, []}
use Rattle.std.proofs.Common.{◌∷◌, ◌++◌, length, get_or}
use Rattle.std.proofs.Common.{All, sym, subst, ◌∙◌, ap, arith, Option, Some, None, Result, Ok}
use Rattle.std.proofs.Common.{Err}
use Rattle.std.proofs.Common.{codes}
use Rattle.std.specs.Prelude.{MatchOption, IfOk}
use Rattle.std.specs.Fmt.{decimal}
use Rattle.std.proofs.lemmas.Fmt.{decimal_injective}
use Rattle.script.specs.declared.action.Request.{Request}
use Rattle.script.specs.declared.wishes.Wish.{Wish}
use Rattle.script.specs.Waits.{IsDigit, ArePlaces, AreWholeSeconds, AreWithPlaces, IsSeconds}
use Rattle.std.proofs.lemmas.List.{append_cancel_left}
use Rattle.script.specs.ScriptTexts.{request_text}
use Rattle.script.specs.Wishes.{AreBehind, AreCallsOf, IsWithinOf, IsWishOf}
use Rattle.script.proofs.ScriptWords.{not_whole, decimal_has_no, same_split}

-- ---- a number of seconds

small_whole : (ms whole more : ℕ) → ms ≤ 86400000 → ms ≡ 1000 * whole + more → whole < 2 ^ 64
small_whole ms whole more small is = omega arith

-- a whole number that is too large, or none
pub whole_gives : (r : Option ℕ) (text : List ℕ) (whole : ℕ) → text ≡ decimal whole →
    MatchOption r (1000 * whole + 0 ≤ 86400000 → ⊥)
    (λ ms. (ms ≡ 1000 * whole + 0) × (ms ≤ 86400000)) → whole < 2 ^ 64 →
    MatchOption r ((ms : ℕ) → ms ≤ 86400000 → AreWholeSeconds ms text → ⊥)
    (λ ms. (ms ≤ 86400000) × AreWholeSeconds ms text)
whole_gives None text whole is none fits = λ ms small are.
    let same = decimal_injective are.0 whole (small_whole ms are.0 0 small (omega (arith, are.2)))
    fits (sym are.1 ∙ is) in
    none (omega (arith, are.2))
whole_gives (Some ms) text whole is found fits = (found.1, (whole, is, omega (arith, found.0)))

-- the thousandths of one text
digit_is : (x y byte : ℕ) → IsDigit x byte → IsDigit y byte → x ≡ y
digit_is x y byte a b = omega (arith, a.1, b.1)

pub same_places : (m n : ℕ) (text : List ℕ) → ArePlaces m text → ArePlaces n text → m ≡ n
same_places m n [] a b = absurd a
same_places m n (x ∷ []) a b =
    let p = digit_is a.0 b.0 x a.3 b.3 in
    let q = digit_is a.1 b.1 48 a.4 b.4 in
    let r = digit_is a.2 b.2 48 a.5 b.5 in
    omega (arith, a.6, b.6)
same_places m n (x ∷ y ∷ []) a b =
    let p = digit_is a.0 b.0 x a.3 b.3 in
    let q = digit_is a.1 b.1 y a.4 b.4 in
    let r = digit_is a.2 b.2 48 a.5 b.5 in
    omega (arith, a.6, b.6)
same_places m n (x ∷ y ∷ z ∷ []) a b =
    let p = digit_is a.0 b.0 x a.3 b.3 in
    let q = digit_is a.1 b.1 y a.4 b.4 in
    let r = digit_is a.2 b.2 z a.5 b.5 in
    omega (arith, a.6, b.6)
same_places m n (x ∷ y ∷ z ∷ w ∷ text) a b = absurd a

pub placed_gives : (r : Option ℕ) (front back : List ℕ) (whole more : ℕ) →
    front ≡ decimal whole → ArePlaces more back →
    MatchOption r (1000 * whole + more ≤ 86400000 → ⊥)
    (λ ms. (ms ≡ 1000 * whole + more) × (ms ≤ 86400000)) → whole < 2 ^ 64 →
    MatchOption r ((ms : ℕ) → ms ≤ 86400000 → AreWithPlaces ms front back → ⊥)
    (λ ms. (ms ≤ 86400000) × AreWithPlaces ms front back)
placed_gives None front back whole more is places none fits = λ ms small are.
    let same = decimal_injective are.0 whole (small_whole ms are.0 are.1 small are.4) fits
    (sym are.2 ∙ is) in
    let rest = same_places are.1 more back are.3 places in
    none (omega (arith, are.4))
placed_gives (Some ms) front back whole more is places found fits =
    (found.1, (whole, more, is, places, found.0))

-- the point parts a number with places in one way, and stands in no whole one
pub pointed_gives : (r : Option ℕ) (text front back : List ℕ) → text ≡ front ++ 46 ∷ back →
    All (λ b. b ≢ 46) front →
    MatchOption r ((ms : ℕ) → ms ≤ 86400000 → AreWithPlaces ms front back → ⊥)
    (λ ms. (ms ≤ 86400000) × AreWithPlaces ms front back) →
    MatchOption r ((ms : ℕ) → IsSeconds ms text → ⊥) (λ ms. IsSeconds ms text)
pointed_gives (Some ms) text front back split first found =
    (found.0, inr (front, back, split, found.1))
pointed_gives None text front back split first none = λ ms is. at ms is.0 is.1
  where
    at : (ms : ℕ) → ms ≤ 86400000 → (AreWholeSeconds ms text
        ⊎ ((a b : List ℕ) × (text ≡ a ++ 46 ∷ b) × AreWithPlaces ms a b)) → ⊥
    at ms small (inl are) = not_whole 46 text front back split
        (subst (All (λ b. b ≢ 46)) (sym are.1) (decimal_has_no 46 are.0 (omega arith)
        (small_whole ms are.0 0 small (omega (arith, are.2)))))
    at ms small (inr (a, b, cut, are)) =
        let whole = subst (All (λ c. c ≢ 46)) (sym are.2) (decimal_has_no 46 are.0 (omega arith)
        (small_whole ms are.0 are.1 small are.4)) in
        let parts = same_split 46 a b front back (sym cut ∙ split) whole first in
        none ms small (subst (λ f. AreWithPlaces ms f back) parts.0
        (subst (AreWithPlaces ms a) parts.1 are))

pub whole_only : (r : Option ℕ) (text : List ℕ) → All (λ b. b ≢ 46) text →
    MatchOption r ((ms : ℕ) → ms ≤ 86400000 → AreWholeSeconds ms text → ⊥)
    (λ ms. (ms ≤ 86400000) × AreWholeSeconds ms text) →
    MatchOption r ((ms : ℕ) → IsSeconds ms text → ⊥) (λ ms. IsSeconds ms text)
whole_only (Some ms) text whole found = (found.0, inl found.1)
whole_only None text whole none = λ ms is. at ms is.0 is.1
  where
    at : (ms : ℕ) → ms ≤ 86400000 → (AreWholeSeconds ms text
        ⊎ ((a b : List ℕ) × (text ≡ a ++ 46 ∷ b) × AreWithPlaces ms a b)) → ⊥
    at ms small (inl are) = none ms small are
    at ms small (inr (a, b, cut, are)) = not_whole 46 text a b cut whole

-- the places that a text of so many bytes has
pub one_place : (r : Option ℕ) (text : List ℕ) → 1 ≤ length text → length text < 2 →
    MatchOption r ((m : ℕ) → ArePlaces m (get_or text 0 0 ∷ 48 ∷ 48 ∷ []) → ⊥)
    (λ m. (m < 1000) × ArePlaces m (get_or text 0 0 ∷ 48 ∷ 48 ∷ [])) →
    MatchOption r ((m : ℕ) → ArePlaces m text → ⊥) (λ m. (m < 1000) × ArePlaces m text)
one_place r [] low high h = absurd (omega arith)
one_place r (a ∷ []) low high h = h
one_place r (a ∷ b ∷ text) low high h = absurd (omega arith)

pub two_places : (r : Option ℕ) (text : List ℕ) → 2 ≤ length text → length text < 3 →
    MatchOption r ((m : ℕ) → ArePlaces m (get_or text 0 0 ∷ get_or text 1 0 ∷ 48 ∷ []) → ⊥)
    (λ m. (m < 1000) × ArePlaces m (get_or text 0 0 ∷ get_or text 1 0 ∷ 48 ∷ [])) →
    MatchOption r ((m : ℕ) → ArePlaces m text → ⊥) (λ m. (m < 1000) × ArePlaces m text)
two_places r [] low high h = absurd (omega arith)
two_places r (a ∷ []) low high h = absurd (omega arith)
two_places r (a ∷ b ∷ []) low high h = h
two_places r (a ∷ b ∷ c ∷ text) low high h = absurd (omega arith)

pub three_places : (r : Option ℕ) (text : List ℕ) → 3 ≤ length text → length text < 4 →
    MatchOption r
    ((m : ℕ) → ArePlaces m (get_or text 0 0 ∷ get_or text 1 0 ∷ get_or text 2 0 ∷ []) → ⊥)
    (λ m. (m < 1000) × ArePlaces m (get_or text 0 0 ∷ get_or text 1 0 ∷ get_or text 2 0 ∷ [])) →
    MatchOption r ((m : ℕ) → ArePlaces m text → ⊥) (λ m. (m < 1000) × ArePlaces m text)
three_places r [] low high h = absurd (omega arith)
three_places r (a ∷ []) low high h = absurd (omega arith)
three_places r (a ∷ b ∷ []) low high h = absurd (omega arith)
three_places r (a ∷ b ∷ c ∷ []) low high h = h
three_places r (a ∷ b ∷ c ∷ d ∷ text) low high h = absurd (omega arith)

-- ---- behind the word within

-- how many, and what stands behind the first space, if they are asked for at all
first_word : (w : Wish) (text front back : List ℕ) → text ≡ front ++ 32 ∷ back →
    All (λ b. b ≢ 32) front → IsWithinOf w text →
    (ms : ℕ) × (rs : List Request) × IsSeconds ms front × (AreBehind (codes "do ") rs back
    ⊎ AreBehind (codes "keep ") rs back)
first_word (Wish.DoWithin limit calls) text front back split first is =
    let parts = same_split 32 is.0 is.1 front back (sym is.2 ∙ split) is.3 first in (
      limit.thousandths,
      calls.items,
      subst (IsSeconds limit.thousandths) parts.0 is.4,
      inl (subst (AreBehind (codes "do ") calls.items) parts.1 is.5),
    )
first_word (Wish.KeepWithin limit calls) text front back split first is =
    let parts = same_split 32 is.0 is.1 front back (sym is.2 ∙ split) is.3 first in (
      limit.thousandths,
      calls.items,
      subst (IsSeconds limit.thousandths) parts.0 is.4,
      inr (subst (AreBehind (codes "keep ") calls.items) parts.1 is.5),
    )
first_word Wish.Nothing text front back split first is = absurd is
first_word (Wish.Ask r) text front back split first is = absurd is
first_word Wish.Wait text front back split first is = absurd is
first_word Wish.Keep text front back split first is = absurd is
first_word (Wish.Do calls) text front back split first is = absurd is
first_word (Wish.DoAndKeep calls) text front back split first is = absurd is
first_word Wish.Status text front back split first is = absurd is
first_word Wish.Bye text front back split first is = absurd is

pub no_word : (w : Wish) (text : List ℕ) → All (λ b. b ≢ 32) text → IsWithinOf w text → ⊥
no_word (Wish.DoWithin limit calls) text whole is = not_whole 32 text is.0 is.1 is.2 whole
no_word (Wish.KeepWithin limit calls) text whole is = not_whole 32 text is.0 is.1 is.2 whole
no_word Wish.Nothing text whole is = absurd is
no_word (Wish.Ask r) text whole is = absurd is
no_word Wish.Wait text whole is = absurd is
no_word Wish.Keep text whole is = absurd is
no_word (Wish.Do calls) text whole is = absurd is
no_word (Wish.DoAndKeep calls) text whole is = absurd is
no_word Wish.Status text whole is = absurd is
no_word Wish.Bye text whole is = absurd is

pub no_seconds : (w : Wish) (text front back : List ℕ) → text ≡ front ++ 32 ∷ back →
    All (λ b. b ≢ 32) front → ((ms : ℕ) → IsSeconds ms front → ⊥) → IsWithinOf w text → ⊥
no_seconds w text front back split first none is =
    let some = first_word w text front back split first is in none some.0 some.2

-- neither of the two words with calls behind it
pub no_calls : (w : Wish) (text front back : List ℕ) → text ≡ front ++ 32 ∷ back →
    All (λ b. b ≢ 32) front → ((rs : List Request) → AreBehind (codes "do ") rs back → ⊥) →
    ((rs : List Request) → AreBehind (codes "keep ") rs back → ⊥) → IsWithinOf w text → ⊥
no_calls w text front back split first no_do no_keep is =
    let some = first_word w text front back split first is in
    elim some.3 [ inl are ↦ no_do some.1 are | inr are ↦ no_keep some.1 are ]

-- what stands behind a word that is found there
pub no_behind : (word rest back : List ℕ) → back ≡ word ++ rest →
    ((rs : List Request) → AreCallsOf rs rest → ⊥) → (rs : List Request) → AreBehind word rs back →
    ⊥
no_behind word rest back e none rs are =
    none rs (subst (AreCallsOf rs) (append_cancel_left word are.0 rest (sym are.1 ∙ e)) are.2)

pub no_such_word : (word back : List ℕ) → ((rest : List ℕ) → back ≡ word ++ rest → ⊥) →
    (rs : List Request) → AreBehind word rs back → ⊥
no_such_word word back none rs are = none are.0 are.1

-- The first two letters as one number: no two requests, and no two wishes, have the same.
abbrev letters : List ℕ → ℕ
letters t = get_or t 0 0 * 256 + get_or t 1 0

-- the two words are two
pub no_keep_there : (rest back : List ℕ) → back ≡ codes "do " ++ rest → (rs : List Request) →
    AreBehind (codes "keep ") rs back → ⊥
no_keep_there rest back e rs (behind, is, are) =
    let other = ap letters (sym e ∙ is) in absurd (omega arith)

-- a line that begins so asks for nothing else
no_request : (r : Request) (rest : List ℕ) → codes "within " ++ rest ≡ request_text r → ⊥
no_request (Request.Make kind name) rest is = let other = ap letters is in absurd (omega arith)
no_request Request.Begin rest is = let other = ap letters is in absurd (omega arith)
no_request (Request.Call name o) rest is = let other = ap letters is in absurd (omega arith)
no_request (Request.Later name c) rest is = let other = ap letters is in absurd (omega arith)
no_request Request.Commit rest is = let other = ap letters is in absurd (omega arith)
no_request Request.Abort rest is = let other = ap letters is in absurd (omega arith)
no_request Request.Kept rest is = let other = ap letters is in absurd (omega arith)

no_other_wish : (w : Wish) (rest : List ℕ) → ((v : Wish) → IsWithinOf v rest → ⊥) →
    IsWishOf w (codes "within " ++ rest) → ⊥
no_other_wish (Wish.DoWithin limit calls) rest none is =
    none (Wish.DoWithin limit calls) (subst (IsWithinOf (Wish.DoWithin limit calls))
    (append_cancel_left (codes "within ") is.0 rest (sym is.1)) is.2)
no_other_wish (Wish.KeepWithin limit calls) rest none is =
    none (Wish.KeepWithin limit calls) (subst (IsWithinOf (Wish.KeepWithin limit calls))
    (append_cancel_left (codes "within ") is.0 rest (sym is.1)) is.2)
no_other_wish Wish.Nothing rest none is = absurd (omega (arith, is))
no_other_wish (Wish.Ask r) rest none is = no_request r rest is.is
no_other_wish Wish.Wait rest none is = let other = ap letters is in absurd (omega arith)
no_other_wish Wish.Keep rest none is = let other = ap letters is in absurd (omega arith)
no_other_wish (Wish.Do calls) rest none (behind, is, are) =
    let other = ap letters is in absurd (omega arith)
no_other_wish (Wish.DoAndKeep calls) rest none (behind, is, are) =
    let other = ap letters is in absurd (omega arith)
no_other_wish Wish.Status rest none is = let other = ap letters is in absurd (omega arith)
no_other_wish Wish.Bye rest none is = let other = ap letters is in absurd (omega arith)

wish_there : (w : Wish) (line rest : List ℕ) → line ≡ codes "within " ++ rest →
    IsWithinOf w rest → IsWishOf w line
wish_there (Wish.DoWithin limit calls) line rest e is = (rest, e, is)
wish_there (Wish.KeepWithin limit calls) line rest e is = (rest, e, is)
wish_there Wish.Nothing line rest e is = absurd is
wish_there (Wish.Ask r) line rest e is = absurd is
wish_there Wish.Wait line rest e is = absurd is
wish_there Wish.Keep line rest e is = absurd is
wish_there (Wish.Do calls) line rest e is = absurd is
wish_there (Wish.DoAndKeep calls) line rest e is = absurd is
wish_there Wish.Status line rest e is = absurd is
wish_there Wish.Bye line rest e is = absurd is

-- what the line says behind its word
pub within_gives : {E : Type 0} (r : Result (Option Wish) E) (line rest : List ℕ) →
    line ≡ codes "within " ++ rest →
    IfOk r (λ found. MatchOption found ((w : Wish) → IsWithinOf w rest → ⊥)
    (λ w. IsWithinOf w rest))
    → IfOk r (λ found. MatchOption found ((w : Wish) → IsWishOf w line → ⊥) (λ w. IsWishOf w line))
within_gives (Ok None) line rest e none =
    λ w is. no_other_wish w rest none (subst (IsWishOf w) e is)
within_gives (Ok (Some w)) line rest e is = wish_there w line rest e is
within_gives (Err why) line rest e found = tt
