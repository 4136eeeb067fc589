-- What the lines of a client look like that talks with an open store.
use Rattle.std.specs.Prelude.{◌≡◌, ◌≢◌, ◌⊎◌, ℕ, List, [], ◌∷◌, ◌++◌, All, codes}
use Rattle.script.specs.declared.action.Request.{Request}
use Rattle.script.specs.declared.wishes.Wish.{Wish}
use Rattle.script.specs.ScriptTexts.{IsRequestOf, IsCallOf, IsLaterOf, IsPassedOver}
use Rattle.script.specs.Waits.{IsSeconds}

-- the text asks for this deferred call
abbrev pub IsLaterPart : Request → List ℕ → Type 0
IsLaterPart r text = (rest : List ℕ) × (text ≡ codes "later " ++ rest) × IsLaterOf r rest

-- the text asks for this call, which may be deferred
abbrev pub IsPart : Request → List ℕ → Type 0
IsPart r text = IsLaterPart r text ⊎ IsCallOf r text

-- so it does, and no semicolon stands in it
abbrev pub IsPartOf : Request → List ℕ → Type 0
IsPartOf r text = IsPart r text × All (λ b. b ≢ 59) text

-- the text asks for these calls, one or more, with a semicolon and a space between two
abbrev pub AreCallsOf : List Request → List ℕ → Type 0
AreCallsOf [] text = ⊥
AreCallsOf (r ∷ rs) text = ((rs ≡ []) × IsPartOf r text)
    ⊎ ((front back : List ℕ) × (text ≡ front ++ 59 ∷ 32 ∷ back) × IsPartOf r front ×
    AreCallsOf rs back)

-- behind this word the line asks for these calls
abbrev pub AreBehind : List ℕ → List Request → List ℕ → Type 0
AreBehind word rs line = (rest : List ℕ) × (line ≡ word ++ rest) × AreCallsOf rs rest

-- so many thousandths of a second, in which no space stands, and behind them this word and these
-- calls
abbrev pub AreWithin : ℕ → List ℕ → List Request → List ℕ → Type 0
AreWithin ms word rs text = (front back : List ℕ) × (text ≡ front ++ 32 ∷ back) ×
    All (λ b. b ≢ 32) front × IsSeconds ms front × AreBehind word rs back

-- the text, behind the word within, says this
abbrev pub IsWithinOf : Wish → List ℕ → Type 0
IsWithinOf (Wish.DoWithin limit calls) text =
    AreWithin limit.thousandths (codes "do ") calls.items text
IsWithinOf (Wish.KeepWithin limit calls) text =
    AreWithin limit.thousandths (codes "keep ") calls.items text
IsWithinOf wish text = ⊥

-- the line says this
abbrev pub IsWishOf : Wish → List ℕ → Type 0
IsWishOf Wish.Nothing line = IsPassedOver line
IsWishOf (Wish.Ask r) line = IsRequestOf r line
IsWishOf Wish.Wait line = line ≡ codes "wait"
IsWishOf Wish.Keep line = line ≡ codes "keep"
IsWishOf (Wish.Do calls) line = AreBehind (codes "do ") calls.items line
IsWishOf (Wish.DoAndKeep calls) line = AreBehind (codes "keep ") calls.items line
IsWishOf (Wish.DoWithin limit calls) line = (rest : List ℕ) × (line ≡ codes "within " ++ rest) ×
    IsWithinOf (Wish.DoWithin limit calls) rest
IsWishOf (Wish.KeepWithin limit calls) line = (rest : List ℕ) × (line ≡ codes "within " ++ rest) ×
    IsWithinOf (Wish.KeepWithin limit calls) rest
IsWishOf Wish.Status line = line ≡ codes "status"
IsWishOf Wish.Bye line = line ≡ codes "bye"
