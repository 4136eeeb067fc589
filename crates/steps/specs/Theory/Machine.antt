-- The machine that a book of transactions runs forward, and that recovery repeats.
use Rattle.std.specs.Prelude.{◌≡◌, ℕ, ◌==◌, not, List, [], ◌∷◌, ◌++◌}
use Rattle.std.specs.List.{filter, AllByRecursion}
use Rattle.calls.specs.Transactions.{Leads}
use Rattle.boosted.specs.Runs.{own, others, AllApart, Ready}
use Rattle.steps.specs.Theory.Rules.{Rules, Apart, Has, Lacks, AllDiffer}
use Rattle.steps.specs.Theory.Journal.{Entry, Asked, Deferred, event, asker, calls, laters, Record}
use Rattle.steps.specs.Theory.Journal.{Make, Begin, Call, Later, Commit, Back, Ended}

-- the numbers without n
abbrev pub without : ℕ → List ℕ → List ℕ
without n ms = filter (λ m. not (m == n)) ms

pub record State (S E N : Type 0) : Type 0 where
  -- what the collections hold now
  pub now : S
  -- what the live transactions asked for and did not undo, in the order asked
  pub entries : List (Entry E)
  -- the numbers of the live transactions, and of those that are being undone
  pub live : List ℕ
  pub falling : List ℕ
  pub needs : List N

-- what was deferred by a client's wish
abbrev pub puts : {E : Type 0} → List (Entry E) → List E
puts [] = []
puts (Asked a ∷ es) = puts es
puts (Deferred d ∷ es) = d ∷ puts es

-- What one transaction deferred.
abbrev pub laters_of : {S E M N : Type 0} → Rules S E M N → ℕ → List (Entry E) → List E
laters_of rules n es = laters rules.leaves (own (asker rules.owner) n es)

-- what calls leave to the commit
abbrev pub lefts : {E : Type 0} → (E → List E) → List E → List E
lefts leaves [] = []
lefts leaves (a ∷ xs) = leaves a ++ lefts leaves xs

-- What the live calls of one transaction leave to its commit.
abbrev pub left_of : {S E M N : Type 0} → Rules S E M N → ℕ → List (Entry E) → List E
left_of rules n es = lefts rules.leaves (own rules.owner n (calls es))

-- No other transaction holds a need that conflicts with that of x.
abbrev pub IsClear : {S E M N : Type 0} → Rules S E M N → List N → E → Type 0
IsClear rules needs x = AllByRecursion
    (λ k. (rules.holder k ≡ rules.owner x → ⊥) → rules.clear k (rules.need x)) needs

-- No call of the number n is among the entries.
abbrev pub HasNoCall : {E : Type 0} → (E → ℕ) → ℕ → List (Entry E) → Type 0
HasNoCall owner n es = AllByRecursion (λ a. owner a ≡ n → ⊥) (calls es)

-- x is the newest call of the number n, and rest is what is there without it.
pub record IsNewestCall {E : Type 0} (owner : E → ℕ) (n : ℕ) (es : List (Entry E)) (x : E)
    (rest : List (Entry E)) : Type 0 where
  pub before : List (Entry E)
  pub after : List (Entry E)
  pub is : es ≡ before ++ Asked x ∷ after
  pub rest_is : rest ≡ before ++ after
  pub mine : owner x ≡ n
  pub none_newer : HasNoCall owner n after

-- The state without what the number n asked for and holds.
abbrev pub ended_at : {S E M N : Type 0} → Rules S E M N → S → ℕ → State S E N → State S E N
ended_at rules now n s = record {
  now = now;
  entries = others (asker rules.owner) n s.entries;
  live = without n s.live;
  falling = without n s.falling;
  needs = filter (λ k. not (rules.holder k == n)) s.needs;
}

pub record MakeRow {S E M N : Type 0} (rules : Rules S E M N) (s : State S E N) (k : M)
    (t : State S E N) : Type 0 where
  pub next : S
  pub makes : rules.makes s.now k next
  pub is : t ≡ record {
    now = next;
    entries = s.entries;
    live = s.live;
    falling = s.falling;
    needs = s.needs;
  }

pub record BeginRow {S E M N : Type 0} (rules : Rules S E M N) (s : State S E N) (n : ℕ)
    (t : State S E N) : Type 0 where
  pub fresh : Lacks s.live n
  pub is : t ≡ record {
    now = s.now;
    entries = s.entries;
    live = n ∷ s.live;
    falling = s.falling;
    needs = s.needs;
  }

pub record CallRow {S E M N : Type 0} (rules : Rules S E M N) (s : State S E N) (x : E)
    (t : State S E N) : Type 0 where
  pub live : Has s.live (rules.owner x)
  pub running : Lacks s.falling (rules.owner x)
  pub asked : rules.asked x
  pub clear : IsClear rules s.needs x
  -- what it leaves is not already going
  pub once : AllByRecursion (λ d. Lacks (left_of rules (rules.owner x) s.entries) d)
      (rules.leaves x)
  pub next : S
  pub does : rules.does s.now x next
  pub is : t ≡ record {
    now = next;
    entries = s.entries ++ Asked x ∷ [];
    live = s.live;
    falling = s.falling;
    needs = s.needs ++ rules.need x ∷ [];
  }

pub record LaterRow {S E M N : Type 0} (rules : Rules S E M N) (s : State S E N) (d : E)
    (t : State S E N) : Type 0 where
  pub live : Has s.live (rules.owner d)
  pub running : Lacks s.falling (rules.owner d)
  pub deferred : rules.deferred d
  pub ready : Ready rules.does s.now d
  pub clear : IsClear rules s.needs d
  pub is : t ≡ record {
    now = s.now;
    entries = s.entries ++ Deferred d ∷ [];
    live = s.live;
    falling = s.falling;
    needs = s.needs ++ rules.need d ∷ [];
  }

pub record CommitRow {S E M N : Type 0} (rules : Rules S E M N) (s : State S E N) (n : ℕ)
    (t : State S E N) : Type 0 where
  pub live : Has s.live n
  pub running : Lacks s.falling n
  pub next : S
  pub does : Leads rules.does (laters_of rules n s.entries) s.now next
  pub is : t ≡ ended_at rules next n s

pub record BackRow {S E M N : Type 0} (rules : Rules S E M N) (s : State S E N) (n : ℕ)
    (t : State S E N) : Type 0 where
  pub live : Has s.live n
  pub call : E
  pub rest : List (Entry E)
  pub newest : IsNewestCall rules.owner n s.entries call rest
  pub next : S
  pub undoes : rules.undoes call s.now next
  pub is : t ≡ record {
    now = next;
    entries = rest;
    live = s.live;
    falling = n ∷ s.falling;
    needs = s.needs;
  }

pub record EndedRow {S E M N : Type 0} (rules : Rules S E M N) (s : State S E N) (n : ℕ)
    (t : State S E N) : Type 0 where
  pub live : Has s.live n
  pub undone : HasNoCall rules.owner n s.entries
  pub is : t ≡ ended_at rules s.now n s

-- The record leads from the state s to t: what it tests, and what it changes.
abbrev pub Steps : {S E M N : Type 0} → Rules S E M N → State S E N → Record E M → State S E N →
    Type 0
Steps rules s (Make k) t = MakeRow rules s k t
Steps rules s (Begin n) t = BeginRow rules s n t
Steps rules s (Call x) t = CallRow rules s x t
Steps rules s (Later d) t = LaterRow rules s d t
Steps rules s (Commit n) t = CommitRow rules s n t
Steps rules s (Back n) t = BackRow rules s n t
Steps rules s (Ended n) t = EndedRow rules s n t

-- The records lead from s to t, one after another.
abbrev pub Repeats : {S E M N : Type 0} → Rules S E M N → List (Record E M) → State S E N →
    State S E N → Type 0
Repeats rules rs s t = Leads (Steps rules) rs s t

-- The live calls lead from c to what is there now.
abbrev pub IsSettled : {S E M N : Type 0} → Rules S E M N → State S E N → S → Type 0
IsSettled rules s c = Leads rules.does (calls s.entries) c s.now

-- What holds in every state that the machine reaches.
pub record IsSound {S E M N : Type 0} (rules : Rules S E M N) (s : State S E N) : Type 0 where
  pub held : AllByRecursion (λ e. Has s.needs (rules.need (event e))) s.entries
  pub alive : AllByRecursion (λ e. Has s.live (rules.owner (event e))) s.entries
  pub apart : AllApart (λ e f. Apart rules (event e) (event f)) (asker rules.owner) s.entries
  pub asked : AllByRecursion rules.asked (calls s.entries)
  pub put : AllByRecursion (λ d. rules.deferred d × Ready rules.does s.now d) (puts s.entries)
  pub once : (n : ℕ) → AllDiffer (left_of rules n s.entries)
  -- who holds a need, or is being undone, is live
  pub holders : AllByRecursion (λ k. Has s.live (rules.holder k)) s.needs
  pub fallers : AllByRecursion (Has s.live) s.falling

-- The entries are those of the state, of each number that is live and is not being undone.
abbrev pub Tells : {S E N : Type 0} → (E → ℕ) → List (Entry E) → State S E N → Type 0
Tells owner es s = (n : ℕ) → Has s.live n → Lacks s.falling n →
    own (asker owner) n es ≡ own (asker owner) n s.entries
