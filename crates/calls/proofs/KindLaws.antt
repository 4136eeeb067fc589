-- What a collection of each kind can look up, that what is answered is of its kind, and what keeps
-- laters ready.
use Rattle.std.proofs.Common.{inl, inr, ◌≡◌, ℤ, ◌⊎◌, ⊎_elim, refl, ℕ, ◌≤◌, sym, ◌∙◌, ap, subst}
use Rattle.std.proofs.Common.{arith, length, ◌≢◌, ◌<◌, ◌==◌, ◌&&◌, not, Bool, true, false, zero}
use Rattle.std.proofs.Common.{suc}
use Rattle.std.proofs.Common.{List, [], ◌∷◌, All, get_or, codes}
use Rattle.std.proofs.lemmas.Bool.{eq-eqb, true≢false}
use Rattle.calls.specs.Contents.{kind_text}
use Rattle.calls.specs.declared.kind.Kind.{Kind}
use Rattle.calls.specs.declared.call.Call.{Call}
use Rattle.calls.specs.declared.reply.Reply.{Reply}
use Rattle.calls.specs.Rules.{kind_of, Askable, inverse_of, Undoes, Deferrable, Disposable, left_by}
use Rattle.calls.specs.Rules.{need_of, Apart, TakesNoMemory}
use Rattle.calls.specs.Bags.{Bag}
use Rattle.calls.specs.Sets as sets
use Rattle.calls.specs.Maps as maps
use Rattle.calls.specs.Queues as queues
use Rattle.calls.specs.Counters as counters
use Rattle.calls.specs.Pools as pools
use Rattle.calls.specs.Stocks as stocks
use Rattle.calls.specs.Quotas as quotas
use Rattle.std.specs.List.{AllByRecursion}
use Rattle.calls.proofs.Points.{in_remove_other}
use Rattle.calls.proofs.PoolLaws.{free_kept, free_kept_past_free}

-- A call that may run in a commit takes no memory.
pub disposable_takes_none : (c : Call) → Disposable c → TakesNoMemory c
disposable_takes_none (Call.Bump n) late = tt
disposable_takes_none (Call.Free x) late = tt
disposable_takes_none (Call.Fill n) late = tt
disposable_takes_none c late = absurd late

pub set_answered : (s : sets.NumberSet) (c : Call) (r : Reply) → sets.Answers s c r →
    kind_of c ≡ Kind.Set
set_answered s (Call.Contains x) r h = refl
set_answered s (Call.SetAdd x) r h = refl
set_answered s (Call.SetRemove x) r h = refl
set_answered s Call.Pick r h = refl
set_answered s c r h = absurd h.1

pub map_answered : (s : maps.Table) (c : Call) (r : Reply) → maps.Answers s c r →
    kind_of c ≡ Kind.Map
map_answered s (Call.Get x) r h = refl
map_answered s (Call.Put x v) r h = refl
map_answered s (Call.MapRemove x) r h = refl
map_answered s (Call.Ceiling x) r h = refl
map_answered s c r h = absurd h.1

pub queue_answered : (s : Bag) (c : Call) (r : Reply) → queues.Answers s c r →
    kind_of c ≡ Kind.Queue
queue_answered s (Call.QueueAdd p g) r h = refl
queue_answered s Call.Take r h = refl
queue_answered s Call.Least r h = refl
queue_answered s (Call.Pluck p g) r h = refl
queue_answered s c r h = absurd h.1

pub counter_answered : (s : ℤ) (c : Call) (r : Reply) → counters.Answers s c r →
    kind_of c ≡ Kind.Counter
counter_answered s (Call.Bump n) r h = refl
counter_answered s Call.Read r h = refl
counter_answered s c r h = absurd h.1

pub pool_answered : (s : sets.NumberSet) (c : Call) (r : Reply) → pools.Answers s c r →
    kind_of c ≡ Kind.Pool
pool_answered s Call.Draw r h = refl
pool_answered s (Call.Release x) r h = refl
pool_answered s (Call.Free x) r h = refl
pool_answered s c r h = absurd h.1

pub stock_answered : (s : ℕ) (c : Call) (r : Reply) → stocks.Answers s c r → kind_of c ≡ Kind.Stock
stock_answered s (Call.Spend n) r h = refl
stock_answered s Call.Level r h = refl
stock_answered s (Call.Fill n) r h = refl
stock_answered s c r h = absurd h.1

pub quota_answered : (s : quotas.Quotas) (c : Call) (r : Reply) → quotas.Answers s c r →
    kind_of c ≡ Kind.Quotas
quota_answered s (Call.QuotaSpend k n) r h = refl
quota_answered s (Call.QuotaLevel k) r h = refl
quota_answered s (Call.QuotaFill k n) r h = refl
quota_answered s (Call.Refund k n) r h = refl
quota_answered s c r h = absurd h.1

pub deferrable_disposable : (d : Call) → Deferrable d → Disposable d
deferrable_disposable (Call.Bump n) h = tt
deferrable_disposable (Call.Fill n) h = tt
deferrable_disposable d h = absurd h

pub leaves_one : (c : Call) (r : Reply) → length (left_by c r) ≤ 1
leaves_one (Call.Release x) Reply.Queued = omega arith
leaves_one c r = omega arith

-- A later that a set, a map, a queue, a counter, a stock or quotas answer, they answer at every
-- content.
pub set_same : (s t : sets.NumberSet) (d : Call) → Disposable d → sets.Answers s d Reply.Done →
    sets.Answers t d Reply.Done
set_same s t (Call.Bump n) l h = absurd h.1
set_same s t (Call.Free x) l h = absurd h.1
set_same s t (Call.Fill n) l h = absurd h.1
set_same s t d l h = absurd l

pub map_same : (s t : maps.Table) (d : Call) → Disposable d → maps.Answers s d Reply.Done →
    maps.Answers t d Reply.Done
map_same s t (Call.Bump n) l h = absurd h.1
map_same s t (Call.Free x) l h = absurd h.1
map_same s t (Call.Fill n) l h = absurd h.1
map_same s t d l h = absurd l

pub queue_same : (s t : Bag) (d : Call) → Disposable d → queues.Answers s d Reply.Done →
    queues.Answers t d Reply.Done
queue_same s t (Call.Bump n) l h = absurd h.1
queue_same s t (Call.Free x) l h = absurd h.1
queue_same s t (Call.Fill n) l h = absurd h.1
queue_same s t d l h = absurd l

pub counter_same : (s t : ℤ) (d : Call) → Disposable d → counters.Answers s d Reply.Done →
    counters.Answers t d Reply.Done
counter_same s t (Call.Bump n) l h = h
counter_same s t (Call.Free x) l h = absurd h.1
counter_same s t (Call.Fill n) l h = absurd h.1
counter_same s t d l h = absurd l

pub stock_same : (s t : ℕ) (d : Call) → Disposable d → stocks.Answers s d Reply.Done →
    stocks.Answers t d Reply.Done
stock_same s t (Call.Fill n) l h = h
stock_same s t (Call.Bump n) l h = absurd h.1
stock_same s t (Call.Free x) l h = absurd h.1
stock_same s t d l h = absurd l

pub quota_same : (s t : quotas.Quotas) (d : Call) → Disposable d → quotas.Answers s d Reply.Done →
    quotas.Answers t d Reply.Done
quota_same s t (Call.Bump n) l h = absurd h.1
quota_same s t (Call.Free x) l h = absurd h.1
quota_same s t (Call.Fill n) l h = absurd h.1
quota_same s t d l h = absurd l

-- Only a bump and a filling can be deferred: a counter has bumps, and a stock has fillings.
pub set_deferred : (s : sets.NumberSet) (d : Call) → kind_of d ≡ Kind.Set → Deferrable d →
    sets.Answers s d Reply.Done
set_deferred s (Call.Bump n) k l = cc
set_deferred s (Call.Fill n) k l = cc
set_deferred s d k l = absurd l

pub map_deferred : (s : maps.Table) (d : Call) → kind_of d ≡ Kind.Map → Deferrable d →
    maps.Answers s d Reply.Done
map_deferred s (Call.Bump n) k l = cc
map_deferred s (Call.Fill n) k l = cc
map_deferred s d k l = absurd l

pub queue_deferred : (s : Bag) (d : Call) → kind_of d ≡ Kind.Queue → Deferrable d →
    queues.Answers s d Reply.Done
queue_deferred s (Call.Bump n) k l = cc
queue_deferred s (Call.Fill n) k l = cc
queue_deferred s d k l = absurd l

pub counter_deferred : (s : ℤ) (d : Call) → kind_of d ≡ Kind.Counter → Deferrable d →
    counters.Answers s d Reply.Done
counter_deferred s (Call.Bump n) k l = ((l, tt), tt)
counter_deferred s (Call.Fill n) k l = cc
counter_deferred s d k l = absurd l

pub pool_deferred : (s : sets.NumberSet) (d : Call) → kind_of d ≡ Kind.Pool → Deferrable d →
    pools.Answers s d Reply.Done
pool_deferred s (Call.Bump n) k l = cc
pool_deferred s (Call.Fill n) k l = cc
pool_deferred s d k l = absurd l

pub stock_deferred : (s : ℕ) (d : Call) → kind_of d ≡ Kind.Stock → Deferrable d →
    stocks.Answers s d Reply.Done
stock_deferred s (Call.Bump n) k l = cc
stock_deferred s (Call.Fill n) k l = ((l, tt), tt)
stock_deferred s d k l = absurd l

pub quota_deferred : (s : quotas.Quotas) (d : Call) → kind_of d ≡ Kind.Quotas → Deferrable d →
    quotas.Answers s d Reply.Done
quota_deferred s (Call.Bump n) k l = cc
quota_deferred s (Call.Fill n) k l = cc
quota_deferred s d k l = absurd l

pub pool_deferred_stays : (s t : sets.NumberSet) (d : Call) → Deferrable d →
    pools.Answers s d Reply.Done → pools.Answers t d Reply.Done
pool_deferred_stays s t (Call.Bump n) l h = absurd h.1
pool_deferred_stays s t (Call.Fill n) l h = absurd h.1
pool_deferred_stays s t d l h = absurd l

-- A later of a pool stays ready past every call that a client can ask,
pub pool_past_call : (s : sets.NumberSet) (c : Call) (r : Reply) (d : Call) → Askable c →
    Disposable d → pools.Answers s c r → pools.Answers s d Reply.Done →
    pools.Answers (pools.after s c r) d Reply.Done
pool_past_call s c r (Call.Free x) k l h t = free_kept s x c r k h t
pool_past_call s c r (Call.Bump n) k l h t = absurd t.1
pool_past_call s c r (Call.Fill n) k l h t = absurd t.1
pool_past_call s c r d k l h t = absurd l

-- past another later, or one whose need does not conflict,
pub pool_past_later : (s : sets.NumberSet) (b d : Call) → Disposable b → Disposable d →
    (b ≡ d → ⊥) ⊎ Apart b Reply.Done d Reply.Done →
    pools.Answers s b Reply.Done → pools.Answers s d Reply.Done →
    pools.Answers (pools.after s b Reply.Done) d Reply.Done
pool_past_later s (Call.Free y) (Call.Free x) m l other h t =
    free_kept_past_free s x y (λ e. ⊎_elim
    (λ (k : Call.Free y ≡ Call.Free x → ⊥). k (ap Call.Free (sym e)))
    (λ (k : Apart (Call.Free y) Reply.Done (Call.Free x) Reply.Done). k
    ((omega arith, omega arith), λ n. n))
    other) t
pool_past_later s (Call.Bump n) d m l other h t = absurd h.1
pool_past_later s (Call.Fill n) d m l other h t = absurd h.1
pool_past_later s (Call.Free y) (Call.Bump n) m l other h t = absurd t.1
pool_past_later s (Call.Free y) (Call.Fill n) m l other h t = absurd t.1
pool_past_later s (Call.Free y) d m l other h t = absurd l
pool_past_later s b d m l other h t = absurd m

-- and past the undoing of a call whose need does not conflict.
free_past_undoing : (s u : sets.NumberSet) (c : Call) (r : Reply) (x : ℕ) →
    Apart c r (Call.Free x) Reply.Done → Undoes pools.does inverse_of s c r u →
    pools.Answers s (Call.Free x) Reply.Done → pools.Answers u (Call.Free x) Reply.Done
free_past_undoing s u Call.Draw (Reply.Id y) x apart back t = (
  t.0,
  rw back.1.1 (in_remove_other s y x (λ e. apart ((omega arith, omega arith), λ n. n)) ∙
      t.1),
)
free_past_undoing s u (Call.SetAdd y) Reply.Yes x apart back t = absurd back.1.0.1
free_past_undoing s u (Call.SetRemove y) Reply.Yes x apart back t = absurd back.1.0.1
free_past_undoing s u Call.Pick (Reply.Id y) x apart back t = absurd back.1.0.1
free_past_undoing s u (Call.Put k v) Reply.Nothing x apart back t = absurd back.1.0.1
free_past_undoing s u (Call.Put k v) (Reply.Value o) x apart back t = absurd back.1.0.1
free_past_undoing s u (Call.MapRemove k) (Reply.Value o) x apart back t = absurd back.1.0.1
free_past_undoing s u (Call.QueueAdd p g) Reply.Done x apart back t = absurd back.1.0.1
free_past_undoing s u Call.Take (Reply.Item p g) x apart back t = absurd back.1.0.1
free_past_undoing s u (Call.Bump n) Reply.Done x apart back t = absurd back.1.0.1
free_past_undoing s u (Call.Spend n) Reply.Yes x apart back t = absurd back.1.0.1
free_past_undoing s u (Call.QuotaSpend k n) Reply.Yes x apart back t = absurd back.1.0.1
free_past_undoing s u (Call.QuotaFill k n) Reply.Done x apart back t = absurd back.1.0.1
free_past_undoing s u c r x apart back t =
    subst (λ v. pools.Answers v (Call.Free x) Reply.Done) (sym back) t

pub pool_past_undoing : (s u : sets.NumberSet) (c : Call) (r : Reply) (d : Call) → Disposable d →
    Apart c r d Reply.Done → Undoes pools.does inverse_of s c r u → pools.Answers s d Reply.Done →
    pools.Answers u d Reply.Done
pool_past_undoing s u c r (Call.Free x) l apart back t = free_past_undoing s u c r x apart back t
pool_past_undoing s u c r (Call.Bump n) l apart back t = absurd t.1
pool_past_undoing s u c r (Call.Fill n) l apart back t = absurd t.1
pool_past_undoing s u c r d l apart back t = absurd l

pub leaves_disposable : (c : Call) (r : Reply) → AllByRecursion Disposable (left_by c r)
leaves_disposable (Call.Release x) Reply.Queued = (tt, tt)
leaves_disposable c r = tt

pub leaves_need : (c : Call) (r : Reply) →
    AllByRecursion (λ d. need_of d Reply.Done ≡ need_of c r) (left_by c r)
leaves_need (Call.Release x) Reply.Queued = (refl, tt)
leaves_need c r = tt

-- What can be deferred is another later than each that may run, or apart from it: a bump is apart
-- from every bump, and a filling from every filling.
pub deferred_is_other : (b d : Call) → Disposable b → Deferrable d →
    (b ≡ d → ⊥) ⊎ Apart b Reply.Done d Reply.Done
deferred_is_other (Call.Bump n) (Call.Bump m) l k = inr (λ h. h.1 tt)
deferred_is_other (Call.Fill n) (Call.Fill m) l k = inr (λ h. h.1 tt)
deferred_is_other (Call.Free x) (Call.Bump m) l k = inl (λ e. cc)
deferred_is_other (Call.Fill n) (Call.Bump m) l k = inl (λ e. cc)
deferred_is_other (Call.Free x) (Call.Fill m) l k = inl (λ e. cc)
deferred_is_other (Call.Bump n) (Call.Fill m) l k = inl (λ e. cc)
deferred_is_other b (Call.Bump m) l k = absurd l
deferred_is_other b (Call.Fill m) l k = absurd l
deferred_is_other b d l k = absurd k

-- What a call leaves is Done right after it. Only a pool answers a release.
pub set_leaves : (s : sets.NumberSet) (c : Call) (r : Reply) → sets.Answers s c r →
    AllByRecursion (λ d. sets.Answers (sets.after s c r) d Reply.Done) (left_by c r)
set_leaves s (Call.Release x) Reply.Queued h = absurd h.1
set_leaves s c r h = tt

pub map_leaves : (s : maps.Table) (c : Call) (r : Reply) → maps.Answers s c r →
    AllByRecursion (λ d. maps.Answers (maps.after s c r) d Reply.Done) (left_by c r)
map_leaves s (Call.Release x) Reply.Queued h = absurd h.1
map_leaves s c r h = tt

pub queue_leaves : (s : Bag) (c : Call) (r : Reply) → queues.Answers s c r →
    AllByRecursion (λ d. queues.Answers (queues.after s c r) d Reply.Done) (left_by c r)
queue_leaves s (Call.Release x) Reply.Queued h = absurd h.1
queue_leaves s c r h = tt

pub counter_leaves : (s : ℤ) (c : Call) (r : Reply) → counters.Answers s c r →
    AllByRecursion (λ d. counters.Answers (counters.after s c r) d Reply.Done) (left_by c r)
counter_leaves s (Call.Release x) Reply.Queued h = absurd h.1
counter_leaves s c r h = tt

pub pool_leaves : (s : sets.NumberSet) (c : Call) (r : Reply) → pools.Answers s c r →
    AllByRecursion (λ d. pools.Answers (pools.after s c r) d Reply.Done) (left_by c r)
pool_leaves s (Call.Release x) Reply.Queued h = (h, tt)
pool_leaves s c r h = tt

pub stock_leaves : (s : ℕ) (c : Call) (r : Reply) → stocks.Answers s c r →
    AllByRecursion (λ d. stocks.Answers (stocks.after s c r) d Reply.Done) (left_by c r)
stock_leaves s (Call.Release x) Reply.Queued h = absurd h.1
stock_leaves s c r h = tt

pub quota_leaves : (s : quotas.Quotas) (c : Call) (r : Reply) → quotas.Answers s c r →
    AllByRecursion (λ d. quotas.Answers (quotas.after s c r) d Reply.Done) (left_by c r)
quota_leaves s (Call.Release x) Reply.Queued h = absurd h.1
quota_leaves s c r h = tt

-- ---- names of kinds

no_space : (xs : List ℕ) → AllByRecursion (λ b. b ≢ 32) xs → (k d : ℕ) → k < length xs →
    get_or xs k d ≢ 32
no_space [] all k d lt = absurd (omega arith)
no_space (x ∷ xs) all zero d lt = all.0
no_space (x ∷ xs) all (suc k) d lt = no_space xs all.1 k d (omega arith)

abbrev pub spaceless : List ℕ → Bool
spaceless [] = true
spaceless (x ∷ xs) = not (x == 32) && spaceless xs

both : (a b : Bool) → (not a && b) ≡ true → (a ≡ false) × (b ≡ true)
both false true is = (refl, refl)
both false false is = cc
both true b is = cc

by_test : (xs : List ℕ) → spaceless xs ≡ true → AllByRecursion (λ b. b ≢ 32) xs
by_test [] is = tt
by_test (x ∷ xs) is =
    let parts = both (x == 32) (spaceless xs) is in
    (λ e. true≢false (sym (eq-eqb x 32 e) ∙ parts.0), by_test xs parts.1)

-- A text that is written out has no space, by a test.
pub whole_by_test : (xs : List ℕ) → spaceless xs ≡ true → All (λ b. b ≢ 32) xs
whole_by_test xs is = no_space xs (by_test xs is)

pub kind_whole : (k : Kind) → All (λ b. b ≢ 32) (kind_text k)
kind_whole Kind.Set = whole_by_test (codes "set") refl
kind_whole Kind.Map = whole_by_test (codes "map") refl
kind_whole Kind.Queue = whole_by_test (codes "queue") refl
kind_whole Kind.Counter = whole_by_test (codes "counter") refl
kind_whole Kind.Pool = whole_by_test (codes "pool") refl
kind_whole Kind.Stock = whole_by_test (codes "stock") refl
kind_whole Kind.Quotas = whole_by_test (codes "quotas") refl
