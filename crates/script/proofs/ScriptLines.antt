-- A script, line by line.
use Rattle.std.proofs.Common.{◌≡◌, ◌≢◌, ℕ, suc, ◌+◌, List, [], ◌∷◌, ◌++◌, All, eqb, false, refl}
use Rattle.std.proofs.Common.{sym, subst, ◌∙◌, ap, append_assoc, arith, inl, inr}
use Rattle.std.proofs.lemmas.Bool.{ne_eqb}
use Rattle.std.proofs.lemmas.List.{append-nil}
use Rattle.script.specs.declared.line.Line.{Line}
use Rattle.script.specs.declared.line.ScriptError.{ScriptError}
use Rattle.script.specs.Scripts.{lines_of, LineSays, Says, IsNonsense, Stops, IsWhyLine, IsWhyLines}

rest_whole : (byte x : ℕ) (xs : List ℕ) → All (λ b. b ≢ byte) (x ∷ xs) → All (λ b. b ≢ byte) xs
rest_whole byte x xs h = λ k d lt. h (suc k) d (omega arith)

first_other : (x : ℕ) (xs : List ℕ) → All (λ b. b ≢ 10) (x ∷ xs) → eqb x 10 ≡ false
first_other x xs h = ne_eqb x 10 (h 0 0 (omega arith))

lines_of-more : (front back : List ℕ) → All (λ b. b ≢ 10) front →
    lines_of (front ++ 10 ∷ back) ≡ front ∷ lines_of back
lines_of-more [] back h = refl
lines_of-more (x ∷ front) back h =
    rw (first_other x front h, lines_of-more front back (rest_whole 10 x front h)) refl

lines_of-last : (line : List ℕ) → All (λ b. b ≢ 10) line → lines_of line ≡ line ∷ []
lines_of-last [] h = refl
lines_of-last (x ∷ line) h = rw (first_other x line h, lines_of-last line (rest_whole 10 x line h))
    refl

-- what is said so far, and what the lines behind it say, are together what all lines say
abbrev pub SaysOn : ℕ → List ℕ → List Line → List (List ℕ) → Type 0
SaysOn n rest before whole = (ys : List Line) → Says n (lines_of rest) ys →
    Says 1 whole (before ++ ys)

abbrev pub StopsOn : ℕ → List ℕ → List (List ℕ) → Type 0
StopsOn n rest whole = (k : ℕ) → Stops n (lines_of rest) k → Stops 1 whole k

pub says_more : (n : ℕ) (rest front back : List ℕ) (before first : List Line)
    (whole : List (List ℕ)) → rest ≡ front ++ 10 ∷ back → All (λ b. b ≢ 10) front →
    LineSays n front first → SaysOn n rest before whole →
    SaysOn (n + 1) back (before ++ first) whole
says_more n rest front back before first whole e h line so_far ys says =
    let lines_are : lines_of rest ≡ front ∷ lines_of back =
    ap lines_of e ∙ lines_of-more front back h in
    let here : Says n (front ∷ lines_of back) (first ++ ys) = (first, ys, refl, line, says) in
    subst (Says 1 whole) (sym (append_assoc before first ys))
    (so_far (first ++ ys) (subst (λ (lines : List (List ℕ)). Says n lines (first ++ ys))
    (sym lines_are) here))

pub stops_more : (n : ℕ) (rest front back : List ℕ) (first : List Line) (whole : List (List ℕ)) →
    rest ≡ front ++ 10 ∷ back → All (λ b. b ≢ 10) front → LineSays n front first →
    StopsOn n rest whole → StopsOn (n + 1) back whole
stops_more n rest front back first whole e h line so_far k stops =
    let lines_are : lines_of rest ≡ front ∷ lines_of back =
    ap lines_of e ∙ lines_of-more front back h in
    let here : Stops n (front ∷ lines_of back) k = inr (first, line, stops) in
    so_far k (subst (λ (lines : List (List ℕ)). Stops n lines k) (sym lines_are) here)

stops_here : (n k : ℕ) (rest front back : List ℕ) (whole : List (List ℕ)) →
    rest ≡ front ++ 10 ∷ back → All (λ b. b ≢ 10) front → k ≡ n → IsNonsense front →
    StopsOn n rest whole → Stops 1 whole k
stops_here n k rest front back whole e h is nonsense so_far =
    let lines_are : lines_of rest ≡ front ∷ lines_of back =
    ap lines_of e ∙ lines_of-more front back h in
    let here : Stops n (front ∷ lines_of back) k = inl (is, nonsense) in
    so_far k (subst (λ (lines : List (List ℕ)). Stops n lines k) (sym lines_are) here)

pub says_last : (n : ℕ) (rest : List ℕ) (before first : List Line) (whole : List (List ℕ)) →
    All (λ b. b ≢ 10) rest → LineSays n rest first → SaysOn n rest before whole →
    Says 1 whole (before ++ first)
says_last n rest before first whole h line so_far =
    let here : Says n (rest ∷ []) first = (first, [], sym (append-nil first), line, refl) in
    so_far first (subst (λ (lines : List (List ℕ)). Says n lines first) (sym (lines_of-last rest h))
    here)

stops_last : (n k : ℕ) (rest : List ℕ) (whole : List (List ℕ)) → All (λ b. b ≢ 10) rest → k ≡ n →
    IsNonsense rest → StopsOn n rest whole → Stops 1 whole k
stops_last n k rest whole h is nonsense so_far =
    let here : Stops n (rest ∷ []) k = inl (is, nonsense) in
    so_far k (subst (λ (lines : List (List ℕ)). Stops n lines k) (sym (lines_of-last rest h)) here)

pub why_here : (why : ScriptError) (n : ℕ) (rest front back : List ℕ) (whole : List (List ℕ)) →
    rest ≡ front ++ 10 ∷ back → All (λ b. b ≢ 10) front → IsWhyLine n front why →
    StopsOn n rest whole → IsWhyLines whole why
why_here ScriptError.NoMemory n rest front back whole e h why so_far = tt
why_here (ScriptError.NotUnderstood k) n rest front back whole e h why so_far =
    stops_here n k rest front back whole e h why.0 why.1 so_far

pub why_last : (why : ScriptError) (n : ℕ) (rest : List ℕ) (whole : List (List ℕ)) →
    All (λ b. b ≢ 10) rest → IsWhyLine n rest why → StopsOn n rest whole → IsWhyLines whole why
why_last ScriptError.NoMemory n rest whole h why so_far = tt
why_last (ScriptError.NotUnderstood k) n rest whole h why so_far =
    stops_last n k rest whole h why.0 why.1 so_far
