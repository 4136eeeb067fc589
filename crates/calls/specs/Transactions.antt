-- Transactions: calls with their replies, and what is deferred to the commit; and transactions one
-- after another.
use Rattle.std.specs.Prelude.{◌≡◌, ℕ, ◌==◌, not, List, [], ◌∷◌, ◌++◌, map, Contains}
use Rattle.std.specs.List.{filter}
use Rattle.calls.specs.declared.kind.Kind.{Kind}
use Rattle.calls.specs.declared.call.Call.{Call}
use Rattle.calls.specs.declared.reply.Reply.{Reply}
use Rattle.calls.specs.Rules.{left_by}
use Rattle.calls.specs.Contents.{Collection, does, empty}

-- The steps lead from s to t, one after another.
abbrev pub Leads : {S E : Type 0} → (S → E → S → Type 0) → List E → S → S → Type 0
Leads does [] s t = s ≡ t
Leads {S} does (e ∷ es) s t = (m : S) × does s e m × Leads does es m t

-- A call on the collection at a place, with its reply.
pub record Event : Type 0 where
  pub at : ℕ
  pub call : Call
  pub reply : Reply

-- The call, answered so, leads from one content to another.
abbrev pub Does : List Collection → Event → List Collection → Type 0
Does s e t = does s e.at e.call e.reply t

-- What a transaction asked for: a call, or one that it deferred to its commit.
pub data Entry : Type 0 where
  Asked : Event → Entry
  Deferred : (at : ℕ) → Call → Entry

-- A transaction: all that it asked for, in its order; or the making of one empty collection.
pub data Transaction : Type 0 where
  Whole : List Entry → Transaction
  Made : (name : List ℕ) → Kind → Transaction

-- The calls, in their order.
abbrev pub calls_of : List Entry → List Event
calls_of [] = []
calls_of (Asked e ∷ es) = e ∷ calls_of es
calls_of (Deferred at c ∷ es) = calls_of es

-- What is deferred to the commit, in the order asked, each with the reply Done. A queued release
-- defers the freeing.
abbrev pub laters_of : List Entry → List Event
laters_of [] = []
laters_of (Asked e ∷ es) = map (λ c. record { at = e.at; call = c; reply = Reply.Done })
    (left_by e.call e.reply) ++ laters_of es
laters_of (Deferred at c ∷ es) = record { at = at; call = c; reply = Reply.Done } ∷ laters_of es

-- No collection has the name, and one that is empty comes to the end.
pub record Makes (s : List Collection) (name : List ℕ) (kind : Kind) (t : List Collection) : Type
    0 where
  pub free : Contains (map (λ x. x.name) s) name → ⊥
  pub is : t ≡ s ++ record { name = name; content = empty kind } ∷ []

-- The calls lead from s on, one after another, and then the laters to t.
abbrev pub RunsBoth : {S E : Type 0} → (S → E → S → Type 0) → (asked laters : List E) → S → S →
    Type 0
RunsBoth {S} does asked laters s t = (m : S) × Leads does asked s m × Leads does laters m t

-- The transaction leads from s to t: its calls one after another, and then what it deferred; or a
-- collection is made. What a call does, and what making does, are given.
abbrev pub RunsWholeBy : {S : Type 0} → (does : S → Event → S → Type 0) →
    (makes : S → List ℕ → Kind → S → Type 0) → S → Transaction → S → Type 0
RunsWholeBy does makes s (Whole es) t = RunsBoth does (calls_of es) (laters_of es) s t
RunsWholeBy does makes s (Made name kind) t = makes s name kind t

-- A transaction of named collections.
abbrev pub RunsWhole : List Collection → Transaction → List Collection → Type 0
RunsWhole s x t = RunsWholeBy Does Makes s x t

-- The transactions lead from s to t, each run whole, one after another.
abbrev pub Serial : List Transaction → List Collection → List Collection → Type 0
Serial ts s t = Leads RunsWhole ts s t

-- What a step, or a record of a journal, says of transactions, each by its number.
pub data Act : Type 0 where
  Begins : ℕ → Act
  Asks : ℕ → Entry → Act
  Commits : ℕ → Act
  Creates : (name : List ℕ) → Kind → Act

-- The entries of one number, in their order, and those of all others.
abbrev pub own : ℕ → List (ℕ × Entry) → List Entry
own n es = map (λ e. e.1) (filter (λ e. e.0 == n) es)

abbrev pub others : ℕ → List (ℕ × Entry) → List (ℕ × Entry)
others n es = filter (λ e. not (e.0 == n)) es

-- What is known of each number's entries after one act more. A begin forgets those of an earlier
-- transaction of its number.
abbrev pub gather : List (ℕ × Entry) → Act → List (ℕ × Entry)
gather es (Begins n) = others n es
gather es (Asks n e) = es ++ (n, e) ∷ []
gather es (Commits n) = es
gather es (Creates name kind) = es

-- The transaction that an act commits.
abbrev pub commits : List (ℕ × Entry) → Act → List Transaction
commits es (Commits n) = Whole (own n es) ∷ []
commits es (Creates name kind) = Made name kind ∷ []
commits es (Begins n) = []
commits es (Asks n e) = []

-- The transactions that the acts commit, in the order of their commits, each with its entries since
-- its last begin;
-- es are the entries known before.
abbrev pub committed_after : List (ℕ × Entry) → List Act → List Transaction
committed_after es [] = []
committed_after es (a ∷ acts) = commits es a ++ committed_after (gather es a) acts

abbrev pub committed : List Act → List Transaction
committed acts = committed_after [] acts
