-- What a store's calls do, and which of them may be made side by side.
use Rattle.std.specs.Prelude.{◌≡◌, ℕ, ◌⊎◌, List, [], ◌∷◌}
use Rattle.std.specs.List.{AllByRecursion}
use Rattle.boosted.specs.Runs.{Ready, Laws, IsOther}

-- x is in the list.
abbrev pub Has : {X : Type 0} → List X → X → Type 0
Has [] x = ⊥
Has (y ∷ ys) x = (y ≡ x) ⊎ Has ys x

abbrev pub Lacks : {X : Type 0} → List X → X → Type 0
Lacks xs x = Has xs x → ⊥

-- No two are the same.
abbrev pub AllDiffer : {X : Type 0} → List X → Type 0
AllDiffer [] = Unit {0}
AllDiffer (x ∷ xs) = Lacks xs x × AllDiffer xs

-- S: contents. E: calls with their replies and owners. M: what is made. N: needs, each with its
-- owner.
pub record Rules (S E M N : Type 0) : Type 1 where
  -- ---- what calls and makings do
  -- the call, answered so, leads from one content to another
  pub does : S → E → S → Type 0
  -- what the call did is taken back, from the first content to the second
  pub undoes : E → S → S → Type 0
  pub makes : S → M → S → Type 0
  -- ---- what a call leaves, and who can ask for it where
  -- the calls that it defers to the commit
  pub leaves : E → List E
  -- a client can ask for it
  pub asked : E → Type 0
  -- a client can defer it to the commit
  pub deferred : E → Type 0
  -- it can run in a commit
  pub late : E → Type 0
  -- it only reads
  pub reads : E → Type 0
  -- ---- whose calls and needs are, and which needs stand side by side
  pub owner : E → ℕ
  pub need : E → N
  pub holder : N → ℕ
  -- two owners can hold both needs
  pub clear : N → N → Type 0

-- The needs of two calls do not conflict.
abbrev pub Apart : {S E M N : Type 0} → Rules S E M N → E → E → Type 0
Apart rules a b = rules.clear (rules.need a) (rules.need b)

-- What must hold of the rules.
pub record RuleLaws {S E M N : Type 0} (rules : Rules S E M N) : Type 0 where
  -- ---- calls and makings
  pub calls : Laws rules.does rules.undoes (Apart rules) rules.asked rules.late
  -- the end state is exact
  pub exact : (e : E) (s t u : S) → rules.does s e t → rules.does s e u → t ≡ u
  -- what only reads changes nothing
  pub reads_same : (e : E) (s t : S) → rules.reads e → rules.does s e t → s ≡ t
  pub made_exact : (k : M) (s t u : S) → rules.makes s k t → rules.makes s k u → t ≡ u
  -- making moves left past each call
  pub made_left : (a : E) (k : M) (s t u : S) → rules.asked a → rules.does s a t →
      rules.makes t k u → (v : S) × rules.makes s k v × rules.does v a u
  -- ---- needs
  pub turn : (n k : N) → rules.clear n k → rules.clear k n
  pub held : (e : E) → rules.holder (rules.need e) ≡ rules.owner e
  -- ---- laters
  -- what a call leaves: late, under the call's need, different, and ready once the call is made
  pub left_late : (a : E) → rules.asked a → AllByRecursion rules.late (rules.leaves a)
  pub left_need : (a : E) → AllByRecursion (λ d. rules.need d ≡ rules.need a) (rules.leaves a)
  pub left_differ : (a : E) → AllDiffer (rules.leaves a)
  pub left_ready : (a : E) (s t : S) → rules.asked a → rules.does s a t →
      AllByRecursion (Ready rules.does t) (rules.leaves a)
  -- a later that is ready stays so past each call, and past another later of its owner
  pub past_call : (a d : E) (s t : S) → rules.asked a → rules.late d → rules.does s a t →
      Ready rules.does s d → Ready rules.does t d
  pub past_later : (b d : E) (s t : S) → rules.owner b ≡ rules.owner d → rules.late b →
      rules.late d → IsOther (Apart rules) b d → rules.does s b t → Ready rules.does s d →
      Ready rules.does t d
  -- ---- calls that a client deferred
  -- one that a client deferred stays so past all that happens
  pub put_late : (d : E) → rules.deferred d → rules.late d
  pub put_other : (b d : E) → rules.late b → rules.deferred d →
      IsOther (Apart rules) b d × IsOther (Apart rules) d b
  pub put_past_later : (b d : E) (s t : S) → rules.late b → rules.deferred d → rules.does s b t →
      Ready rules.does s d → Ready rules.does t d
  pub put_past_undo : (a d : E) (s t : S) → rules.asked a → rules.deferred d → rules.undoes a s t →
      Ready rules.does s d → Ready rules.does t d
  pub put_past_made : (k : M) (d : E) (s t : S) → rules.deferred d → rules.makes s k t →
      Ready rules.does s d → Ready rules.does t d
