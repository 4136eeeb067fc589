-- What a journal records, and the transactions that it commits.
use Rattle.std.specs.Prelude.{ℕ, List, [], ◌∷◌, ◌++◌}
use Rattle.calls.specs.Transactions.{Leads, RunsBoth}
use Rattle.boosted.specs.Runs.{own, others}
use Rattle.steps.specs.Theory.Rules.{Rules}

-- What a transaction asked for: a call, now, or one deferred to its commit.
pub data Entry (E : Type 0) : Type 0 where
  Asked : E → Entry E
  Deferred : E → Entry E

abbrev pub event : {E : Type 0} → Entry E → E
event (Asked a) = a
event (Deferred d) = d

-- the owner of an entry
abbrev pub asker : {E : Type 0} → (E → ℕ) → Entry E → ℕ
asker owner e = owner (event e)

-- The calls, in their order.
abbrev pub calls : {E : Type 0} → List (Entry E) → List E
calls [] = []
calls (Asked a ∷ es) = a ∷ calls es
calls (Deferred d ∷ es) = calls es

-- What is deferred to the commit, in the order asked.
abbrev pub laters : {E : Type 0} → (E → List E) → List (Entry E) → List E
laters leaves [] = []
laters leaves (Asked a ∷ es) = leaves a ++ laters leaves es
laters leaves (Deferred d ∷ es) = d ∷ laters leaves es

-- A step that the journal keeps.
pub data Record (E M : Type 0) : Type 0 where
  Make : M → Record E M
  Begin : ℕ → Record E M
  Call : E → Record E M
  Later : E → Record E M
  Commit : ℕ → Record E M
  Back : ℕ → Record E M
  Ended : ℕ → Record E M

-- A transaction: all that it asked for in its order, or something that is made.
pub data Transaction (E M : Type 0) : Type 0 where
  Whole : List (Entry E) → Transaction E M
  Made : M → Transaction E M

-- The transaction leads from s to t: its calls one after another, and then what it deferred.
abbrev pub RunsWhole : {S E M N : Type 0} → Rules S E M N → S → Transaction E M → S → Type 0
RunsWhole rules s (Whole es) t = RunsBoth rules.does (calls es) (laters rules.leaves es) s t
RunsWhole rules s (Made k) t = rules.makes s k t

-- The transactions lead from s to t, each run whole, one after another.
abbrev pub Serial : {S E M N : Type 0} → Rules S E M N → List (Transaction E M) → S → S → Type 0
Serial rules ts s t = Leads (RunsWhole rules) ts s t

-- What is known of each transaction's entries after one record more. A Begin forgets those of an
-- earlier one of its number.
abbrev pub gather : {E M : Type 0} → (E → ℕ) → List (Entry E) → Record E M → List (Entry E)
gather owner es (Begin n) = others (asker owner) n es
gather owner es (Call a) = es ++ Asked a ∷ []
gather owner es (Later d) = es ++ Deferred d ∷ []
gather owner es r = es

-- The transaction that a record commits.
abbrev pub commits : {E M : Type 0} → (E → ℕ) → List (Entry E) → Record E M → List (Transaction E M)
commits owner es (Make k) = Made k ∷ []
commits owner es (Commit n) = Whole (own (asker owner) n es) ∷ []
commits owner es r = []

-- The transactions that the records commit, behind the entries es: each with its entries since its
-- last Begin.
abbrev pub committed : {E M : Type 0} → (E → ℕ) → List (Entry E) → List (Record E M) →
    List (Transaction E M)
committed owner es [] = []
committed owner es (r ∷ rs) = commits owner es r ++ committed owner (gather owner es r) rs

abbrev pub gathered : {E M : Type 0} → (E → ℕ) → List (Entry E) → List (Record E M) → List (Entry E)
gathered owner es [] = es
gathered owner es (r ∷ rs) = gathered owner (gather owner es r) rs
