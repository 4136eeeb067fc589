-- A script that is looked at line by line.
use Rattle.std.proofs.Common.{◌≡◌, ◌≢◌, ◌⊎◌, ℕ, suc, ◌+◌, List, [], ◌∷◌, ◌++◌, All, eqb, false, true≢false}
use Rattle.std.proofs.Common.{refl, sym, subst, ◌∙◌, ap, arith, inl, inr, length}
use Rattle.std.proofs.lemmas.Bool.{ne_eqb}
use Rattle.script.specs.declared.action.Action.{Action}
use Rattle.script.specs.declared.line.Line.{Line}
use Rattle.script.specs.declared.line.ScriptError.{ScriptError}
use Rattle.script.specs.ScriptTexts.{IsLineOf, IsPassedOver}
use Rattle.script.specs.Scripts.{lines_of, Says, IsNonsense, Stops, IsScriptOf, IsWhy}
use Rattle.script.specs.Reviews.{IsUnclear, Reviews, ReviewsLine}

rest_whole : (x : ℕ) (xs : List ℕ) → All (λ b. b ≢ 10) (x ∷ xs) → All (λ b. b ≢ 10) xs
rest_whole x xs h = λ k d lt. h (suc k) d (omega arith)

first_other : (x : ℕ) (xs : List ℕ) → All (λ b. b ≢ 10) (x ∷ xs) → eqb x 10 ≡ false
first_other x xs h = ne_eqb x 10 (h 0 0 (omega arith))

lines_of-more : (front back : List ℕ) → All (λ b. b ≢ 10) front →
    lines_of (front ++ 10 ∷ back) ≡ front ∷ lines_of back
lines_of-more [] back h = refl
lines_of-more (x ∷ front) back h =
    rw (first_other x front h, lines_of-more front back (rest_whole x front h)) refl

lines_of-last : (line : List ℕ) → All (λ b. b ≢ 10) line → lines_of line ≡ line ∷ []
lines_of-last [] h = refl
lines_of-last (x ∷ line) h = rw (first_other x line h, lines_of-last line (rest_whole x line h)) refl

-- ---- a line as a script of its own

-- what it says: nothing, or one thing
abbrev pub SaysOne : List ℕ → List Line → Type 0
SaysOne line said = (IsPassedOver line × (length said ≡ 0)) ⊎
    ((a : Action) × IsLineOf a line × (length said ≡ 1))

says_one_line : (line : List ℕ) (said : List Line) → Says 1 (line ∷ []) said → SaysOne line said
says_one_line line said (first, others, whole, inl passed, none) =
    inl (passed.0, rw (whole, passed.1, none) refl)
says_one_line line said (first, others, whole, inr (a, is, one), none) =
    inr (a, is, rw (whole, one, none) refl)

pub says_one : (line : List ℕ) (said : List Line) → All (λ b. b ≢ 10) line →
    IsScriptOf said line → SaysOne line said
says_one line said h is = says_one_line line said
    (subst (λ (lines : List (List ℕ)). Says 1 lines said) (lines_of-last line h) is.lines)

stops_one : (line : List ℕ) (k : ℕ) → Stops 1 (line ∷ []) k → IsNonsense line
stops_one line k (inl here) = here.1
stops_one line k (inr (said, one, further)) = absurd further

pub unclear_line : (line : List ℕ) (k : ℕ) → All (λ b. b ≢ 10) line →
    IsWhy line (ScriptError.NotUnderstood k) → IsUnclear line
unclear_line line k h (inl why) = inl why.0
unclear_line line k h (inr why) = inr (stops_one line k
    (subst (λ (lines : List (List ℕ)). Stops 1 lines k) (lines_of-last line h) why.1))

pub reviews_action : (n : ℕ) (line : List ℕ) (said : List Line) (count : ℕ) (numbers : List ℕ) →
    SaysOne line said → (length said ≡ 0 → ⊥) → ReviewsLine n line count numbers (count + 1) numbers
reviews_action n line said count numbers (inl one) some = absurd (some one.1)
reviews_action n line said count numbers (inr (a, is, one)) some = inr (inr (a, is, refl, refl))

pub not_none : (n : ℕ) → false ≡ eqb n 0 → n ≡ 0 → ⊥
not_none n e none = true≢false (sym (e ∙ ap (λ (k : ℕ). eqb k 0) none))

-- ---- all lines

-- what is found in the lines that are left is found in all
abbrev pub ReviewsOn : ℕ → List ℕ → (count : ℕ) → (numbers : List ℕ) → List (List ℕ) → Type 0
ReviewsOn n rest count numbers whole = (c : ℕ) (ns : List ℕ) →
    Reviews n (lines_of rest) count numbers c ns → Reviews 1 whole 0 [] c ns

pub reviews_more : (n : ℕ) (rest front back : List ℕ) (count c : ℕ) (numbers ns : List ℕ)
    (whole : List (List ℕ)) → rest ≡ front ++ 10 ∷ back → All (λ b. b ≢ 10) front →
    ReviewsLine n front count numbers c ns → ReviewsOn n rest count numbers whole →
    ReviewsOn (n + 1) back c ns whole
reviews_more n rest front back count c numbers ns whole e h line so_far c' ns' further =
    let lines_are : lines_of rest ≡ front ∷ lines_of back =
    ap lines_of e ∙ lines_of-more front back h in
    let here : Reviews n (front ∷ lines_of back) count numbers c' ns' = (c, ns, line, further) in
    so_far c' ns' (subst (λ (lines : List (List ℕ)). Reviews n lines count numbers c' ns')
    (sym lines_are) here)

pub reviews_last : (n : ℕ) (rest : List ℕ) (count c : ℕ) (numbers ns : List ℕ)
    (whole : List (List ℕ)) → All (λ b. b ≢ 10) rest → ReviewsLine n rest count numbers c ns →
    ReviewsOn n rest count numbers whole → Reviews 1 whole 0 [] c ns
reviews_last n rest count c numbers ns whole h line so_far =
    let here : Reviews n (rest ∷ []) count numbers c ns = (c, ns, line, (refl, refl)) in
    so_far c ns (subst (λ (lines : List (List ℕ)). Reviews n lines count numbers c ns)
    (sym (lines_of-last rest h)) here)
