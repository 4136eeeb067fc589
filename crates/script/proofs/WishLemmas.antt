-- Lines of several calls, and what the first letters of a line tell.
use Rattle.std.proofs.Common.{◌≡◌, ◌≢◌, inl, inr, ℕ, List, [], ◌∷◌, ◌++◌}
use Rattle.std.proofs.Common.{All}
use Rattle.std.proofs.Common.{sym, subst, ◌∙◌, ap, codes, append_assoc}
use Rattle.std.proofs.Common.{Option, Some, None, Result, Ok, Err}
use Rattle.std.specs.Prelude.{IfOk, MatchOption}
use Rattle.std.proofs.lemmas.List.{append_cancel_left}
use Rattle.script.specs.declared.action.Request.{Request}
use Rattle.script.specs.ScriptTexts.{IsCallOf, IsLaterOf}
use Rattle.script.specs.Wishes.{IsPart, IsLaterPart, AreCallsOf}
use Rattle.script.proofs.ScriptWords.{not_whole, same_split}

-- ---- calls that are deferred

-- what is found behind the word later is found in the whole text
pub later_gives : {E : Type 0} (r : Result (Option Request) E) (text rest : List ℕ) →
    text ≡ codes "later " ++ rest
    → IfOk r (λ found. MatchOption found ((q : Request) → IsLaterOf q rest → ⊥)
    (λ q. IsLaterOf q rest))
    → IfOk r (λ found. MatchOption found ((q : Request) → IsLaterPart q text → ⊥)
    (λ q. IsLaterPart q text))
later_gives (Ok None) text rest e none = λ q is.
    none q (subst (IsLaterOf q) (append_cancel_left (codes "later ") is.0 rest (sym is.1 ∙ e)) is.2)
later_gives (Ok (Some q)) text rest e is = (rest, e, is)
later_gives (Err why) text rest e h = tt

-- neither deferred nor made at once
pub no_part : {E : Type 0} (r : Result (Option Request) E) (text : List ℕ) →
    ((q : Request) → IsLaterPart q text → ⊥)
    → IfOk r (λ found. MatchOption found ((q : Request) → IsCallOf q text → ⊥)
    (λ q. IsCallOf q text))
    → IfOk r (λ found. MatchOption found ((q : Request) → IsPart q text → ⊥) (λ q. IsPart q text))
no_part (Ok None) text later none =
    λ q is. elim is [ inl put ↦ later q put | inr call ↦ none q call ]
no_part (Ok (Some q)) text later is = inr is
no_part (Err why) text later h = tt

-- ---- lines of several calls

-- The calls so far, with those behind them, are those of the text; and if the text has calls at
-- all, so has what is left.
pub record AreRead (text : List ℕ) (before : List Request) (rest : List ℕ) : Type 0 where
  pub whole : (rs : List Request) → AreCallsOf rs rest → AreCallsOf (before ++ rs) text
  pub left : (rs : List Request) → AreCallsOf rs text → (more : List Request) × AreCallsOf more rest

pub nothing_read : (text : List ℕ) → AreRead text [] text
nothing_read text = record { whole = λ rs are. are; left = λ rs are. (rs, are) }

-- what the calls of a text with a semicolon begin with
first_of : (text front back : List ℕ) (rs : List Request) → text ≡ front ++ 59 ∷ back →
    All (λ b. b ≢ 59) front → AreCallsOf rs text →
    (r : Request) × (more : List Request) × (next : List ℕ) × IsPart r front ×
    (back ≡ 32 ∷ next) × AreCallsOf more next
first_of text front back [] e whole are = absurd are
first_of text front back (r ∷ rs) e whole (inl last) =
    absurd (not_whole 59 text front back e last.1.1)
first_of text front back (r ∷ rs) e whole (inr more) =
    let parts = same_split 59 more.0 (32 ∷ more.1) front back (sym more.2 ∙ e) more.3.1 whole in
    (r, rs, more.1, subst (IsPart r) parts.0 more.3.0, sym parts.1, more.4)

-- a call more
pub reads_on : (text rest front back next : List ℕ) (before : List Request) (r : Request) →
    rest ≡ front ++ 59 ∷ back → All (λ b. b ≢ 59) front → IsPart r front →
    back ≡ codes " " ++ next → AreRead text before rest → AreRead text (before ++ r ∷ []) next
reads_on text rest front back next before r e whole is space read = record {
  whole = λ rs are.
      subst (λ l. AreCallsOf l text) (sym (append_assoc before (r ∷ []) rs))
      (read.whole (r ∷ rs) (inr (
        front,
        next,
        e ∙ ap (λ b. front ++ 59 ∷ b) space,
        (is, whole),
        are,
      )));
  left = λ rs are.
      let some = read.left rs are in
      let first = first_of rest front back some.0 e whole some.1 in
      let same : first.2 ≡ next = ap tail (sym first.4 ∙ space) in
      (first.1, subst (AreCallsOf first.1) same first.5);
}
  where
    tail : List ℕ → List ℕ
    tail [] = []
    tail (x ∷ xs) = xs

-- what is no call, or has no space behind it, is no call of several
pub no_first : (text rest front back : List ℕ) (before rs : List Request) →
    rest ≡ front ++ 59 ∷ back → All (λ b. b ≢ 59) front →
    ((r : Request) → IsPart r front → ⊥) → AreRead text before rest → AreCallsOf rs text → ⊥
no_first text rest front back before rs e whole none read are =
    let some = read.left rs are in
    let first = first_of rest front back some.0 e whole some.1 in
    none first.0 first.3

pub no_space : (text rest front back : List ℕ) (before rs : List Request) →
    rest ≡ front ++ 59 ∷ back → All (λ b. b ≢ 59) front →
    ((next : List ℕ) → back ≡ codes " " ++ next → ⊥) → AreRead text before rest →
    AreCallsOf rs text → ⊥
no_space text rest front back before rs e whole none read are =
    let some = read.left rs are in
    let first = first_of rest front back some.0 e whole some.1 in
    none first.2 first.4

pub no_last : (text rest : List ℕ) (before rs : List Request) → All (λ b. b ≢ 59) rest →
    ((r : Request) → IsPart r rest → ⊥) → AreRead text before rest → AreCallsOf rs text → ⊥
no_last text rest before rs whole none read are =
    let some = read.left rs are in at some.0 some.1
  where
    at : (more : List Request) → AreCallsOf more rest → ⊥
    at [] are = are
    at (r ∷ more) (inl last) = none r last.1.0
    at (r ∷ more) (inr others) = not_whole 59 rest others.0 (32 ∷ others.1) others.2 whole

-- ---- wishes
