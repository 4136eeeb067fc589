-- The laws of one content, from those of the seven kinds.
use Rattle.std.proofs.Common.{◌≡◌, Option, Some, None, MatchOption, refl, ◌∙◌, ap, ℕ, ◌+◌, ◌⊎◌, sym}
use Rattle.std.proofs.Common.{subst, arith}
use Rattle.calls.specs.declared.kind.Kind.{Kind}
use Rattle.calls.specs.declared.call.Call.{Call}
use Rattle.calls.specs.declared.reply.Reply.{Reply}
use Rattle.calls.specs.declared.need.Mode.{Mode}
use Rattle.calls.specs.Rules.{inverse_of, Askable, Deferrable, Disposable, left_by, Apart}
use Rattle.calls.specs.Rules.{need_of}
use Rattle.calls.specs.Counters as counters
use Rattle.calls.specs.Maps as maps
use Rattle.calls.specs.Pools as pools
use Rattle.calls.specs.Queues as queues
use Rattle.calls.specs.Sets as sets
use Rattle.calls.specs.Stocks as stocks
use Rattle.calls.specs.Quotas as quotas
use Rattle.calls.specs.Contents.{Content, InSet, InMap, InQueue, InCounter, InPool, InStock}
use Rattle.calls.specs.Contents.{InQuotas, empty, Answers, after, kind_of_content}
use Rattle.calls.proofs.SetLaws.{set_back, set_back_only, set_reads}
use Rattle.calls.proofs.MapLaws.{map_back, map_back_only, map_reads}
use Rattle.calls.proofs.QueueLaws.{queue_back, queue_back_only, queue_reads}
use Rattle.calls.proofs.CounterLaws.{counter_back, counter_back_only, counter_within}
use Rattle.calls.proofs.CounterLaws.{counter_reads}
use Rattle.calls.proofs.PoolLaws.{pool_back, pool_back_only, pool_reads}
use Rattle.calls.proofs.StockLaws.{stock_back, stock_back_only, stock_within, stock_reads}
use Rattle.calls.proofs.QuotaLaws.{quota_back, quota_back_only, quota_within, none_within}
use Rattle.calls.proofs.QuotaLaws.{quota_reads}
use Rattle.std.proofs.lemmas.Int.{ints}
use Rattle.std.specs.List.{AllByRecursion}
use Rattle.calls.proofs.KindLaws.{set_answered, map_answered, queue_answered, counter_answered}
use Rattle.calls.proofs.KindLaws.{pool_answered, deferrable_disposable, set_same, map_same}
use Rattle.calls.proofs.KindLaws.{queue_same, counter_same, set_deferred, map_deferred}
use Rattle.calls.proofs.KindLaws.{queue_deferred, counter_deferred, pool_deferred}
use Rattle.calls.proofs.KindLaws.{pool_deferred_stays, pool_past_call, pool_past_later}
use Rattle.calls.proofs.KindLaws.{pool_past_undoing, set_leaves, map_leaves, queue_leaves}
use Rattle.calls.proofs.KindLaws.{counter_leaves, pool_leaves, stock_answered, stock_same}
use Rattle.calls.proofs.KindLaws.{stock_deferred, stock_leaves, quota_answered, quota_same}
use Rattle.calls.proofs.KindLaws.{quota_deferred, quota_leaves}
use Rattle.boosted.specs.Kinds.{IsOf}
use Rattle.catalog.specs.Places.{Reaches}

-- What is answered is a call of the kind.
pub part_answered : (s : Content) (c : Call) (r : Reply) → Answers s c r →
    IsOf (kind_of_content s) c
part_answered (InSet s) c r h = set_answered s c r h
part_answered (InMap s) c r h = map_answered s c r h
part_answered (InQueue s) c r h = queue_answered s c r h
part_answered (InCounter s) c r h = counter_answered s c r h
part_answered (InPool s) c r h = pool_answered s c r h
part_answered (InStock s) c r h = stock_answered s c r h
part_answered (InQuotas s) c r h = quota_answered s c r h

-- A call that only reads changes nothing.
pub part_reads : (s : Content) (c : Call) (r : Reply) → (need_of c r).mode ≡ Mode.Read →
    Answers s c r → after s c r ≡ s
part_reads (InSet s) c r m h = ap InSet (set_reads s c r m h)
part_reads (InMap s) c r m h = ap InMap (map_reads s c r m h)
part_reads (InQueue s) c r m h = ap InQueue (queue_reads s c r m h)
part_reads (InCounter s) c r m h = ap InCounter (counter_reads s c r m h)
part_reads (InPool s) c r m h = ap InPool (pool_reads s c r m h)
part_reads (InStock s) c r m h = ap InStock (stock_reads s c r m h)
part_reads (InQuotas s) c r m h = ap InQuotas (quota_reads s c r m h)

-- What is within n is within n + 1, and a run leads no further.
pub part_rests : (s : Content) (n : ℕ) → Reaches s n → Reaches s (n + 1)
part_rests (InCounter v) n w = record { low = omega (arith, ints); high = omega (arith, ints) }
part_rests (InStock v) n w = omega arith
part_rests (InQuotas q) n w = λ k. let old = w k in omega arith
part_rests s n w = tt

pub part_wears : (s : Content) (n : ℕ) (c : Call) (r : Reply) → Reaches s n → Answers s c r →
    Reaches (after s c r) (n + 1)
part_wears (InSet s) n c r w h = tt
part_wears (InMap s) n c r w h = tt
part_wears (InQueue s) n c r w h = tt
part_wears (InCounter s) n c r w h = counter_within s n c r w h
part_wears (InPool s) n c r w h = tt
part_wears (InStock s) n c r w h = stock_within s n c r w h
part_wears (InQuotas s) n c r w h = quota_within s n c r w h

-- What can be deferred is Done at once, and after every run.
pub part_deferred : (s : Content) (d : Call) → IsOf (kind_of_content s) d → Deferrable d →
    Answers s d Reply.Done
part_deferred (InSet s) d k l = set_deferred s d k l
part_deferred (InMap s) d k l = map_deferred s d k l
part_deferred (InQueue s) d k l = queue_deferred s d k l
part_deferred (InCounter s) d k l = counter_deferred s d k l
part_deferred (InPool s) d k l = pool_deferred s d k l
part_deferred (InStock s) d k l = stock_deferred s d k l
part_deferred (InQuotas s) d k l = quota_deferred s d k l

pub part_deferred_stays : (s : Content) (c : Call) (r : Reply) (d : Call) → Deferrable d →
    Answers s d Reply.Done → Answers (after s c r) d Reply.Done
part_deferred_stays (InSet s) c r d l h =
    set_same s (sets.after s c r) d (deferrable_disposable d l) h
part_deferred_stays (InMap s) c r d l h =
    map_same s (maps.after s c r) d (deferrable_disposable d l) h
part_deferred_stays (InQueue s) c r d l h =
    queue_same s (queues.after s c r) d (deferrable_disposable d l) h
part_deferred_stays (InCounter s) c r d l h =
    counter_same s (counters.after s c r) d (deferrable_disposable d l) h
part_deferred_stays (InPool s) c r d l h = pool_deferred_stays s (pools.after s c r) d l h
part_deferred_stays (InStock s) c r d l h =
    stock_same s (stocks.after s c r) d (deferrable_disposable d l) h
part_deferred_stays (InQuotas s) c r d l h =
    quota_same s (quotas.after s c r) d (deferrable_disposable d l) h

-- What a call leaves is Done right after it.
pub part_leaves : (s : Content) (c : Call) (r : Reply) → Answers s c r →
    AllByRecursion (λ d. Answers (after s c r) d Reply.Done) (left_by c r)
part_leaves (InSet s) c r h = set_leaves s c r h
part_leaves (InMap s) c r h = map_leaves s c r h
part_leaves (InQueue s) c r h = queue_leaves s c r h
part_leaves (InCounter s) c r h = counter_leaves s c r h
part_leaves (InPool s) c r h = pool_leaves s c r h
part_leaves (InStock s) c r h = stock_leaves s c r h
part_leaves (InQuotas s) c r h = quota_leaves s c r h

-- A later stays Done past every call that a client can ask,
pub part_past_call : (s : Content) (c : Call) (r : Reply) (d : Call) → Askable c → Disposable d →
    Answers s c r → Answers s d Reply.Done → Answers (after s c r) d Reply.Done
part_past_call (InSet s) c r d ask l h t = set_same s (sets.after s c r) d l t
part_past_call (InMap s) c r d ask l h t = map_same s (maps.after s c r) d l t
part_past_call (InQueue s) c r d ask l h t = queue_same s (queues.after s c r) d l t
part_past_call (InCounter s) c r d ask l h t = counter_same s (counters.after s c r) d l t
part_past_call (InPool s) c r d ask l h t = pool_past_call s c r d ask l h t
part_past_call (InStock s) c r d ask l h t = stock_same s (stocks.after s c r) d l t
part_past_call (InQuotas s) c r d ask l h t = quota_same s (quotas.after s c r) d l t

-- past every later that is another one, or apart from it,
pub part_past_later : (s : Content) (b d : Call) → Disposable b → Disposable d →
    (b ≡ d → ⊥) ⊎ Apart b Reply.Done d Reply.Done →
    Answers s b Reply.Done → Answers s d Reply.Done → Answers (after s b Reply.Done) d Reply.Done
part_past_later (InSet s) b d m l other h t = set_same s (sets.after s b Reply.Done) d l t
part_past_later (InMap s) b d m l other h t = map_same s (maps.after s b Reply.Done) d l t
part_past_later (InQueue s) b d m l other h t = queue_same s (queues.after s b Reply.Done) d l t
part_past_later (InCounter s) b d m l other h t =
    counter_same s (counters.after s b Reply.Done) d l t
part_past_later (InPool s) b d m l other h t = pool_past_later s b d m l other h t
part_past_later (InStock s) b d m l other h t = stock_same s (stocks.after s b Reply.Done) d l t
part_past_later (InQuotas s) b d m l other h t =
    quota_same s (quotas.after s b Reply.Done) d l t

-- and past the inverse of every call that is apart from it.
pub part_past_inverse : (s : Content) (c : Call) (r : Reply) (back : Call) (q : Reply) (d : Call) →
    inverse_of c r ≡ Some back → Disposable d → Apart c r d Reply.Done →
    Answers s back q → Answers s d Reply.Done → Answers (after s back q) d Reply.Done
part_past_inverse (InSet s) c r back q d e l apart h t = set_same s (sets.after s back q) d l t
part_past_inverse (InMap s) c r back q d e l apart h t = map_same s (maps.after s back q) d l t
part_past_inverse (InQueue s) c r back q d e l apart h t =
    queue_same s (queues.after s back q) d l t
part_past_inverse (InCounter s) c r back q d e l apart h t =
    counter_same s (counters.after s back q) d l t
part_past_inverse (InStock s) c r back q d e l apart h t =
    stock_same s (stocks.after s back q) d l t
part_past_inverse (InQuotas s) c r back q d e l apart h t =
    quota_same s (quotas.after s back q) d l t
part_past_inverse (InPool s) c r back q d e l apart h t =
    pool_past_undoing s (pools.after s back q) c r d l apart
    (subst (λ (o : Option Call). MatchOption o (pools.after s back q ≡ s)
    (λ b. (p : Reply) × pools.does s b p (pools.after s back q))) (sym e) (q, (h, refl))) t

-- The call, if there is one, leads from t to s; without one they are the same.
abbrev pub By : {C : Type 0} → (C → Call → Reply → Type 0) → (C → Call → Reply → C) → Option Call →
    C → C → Type 0
By answers leaves o t s = MatchOption o (s ≡ t)
    (λ back. (reply : Reply) × (answers t back reply × (s ≡ leaves t back reply)))

-- It leads from t to s and nowhere else.
abbrev pub ByOnly : {C : Type 0} → (C → Call → Reply → Type 0) → (C → Call → Reply → C) →
    Option Call → C → C → Type 0
ByOnly {C} answers leaves o t s =
    By answers leaves o t s × ((u : C) → By answers leaves o t u → u ≡ s)

-- What holds of a part, with its answers and what it leaves, holds of a whole that is made of the
-- part by F.
module _ {C D : Type 0} (F : C → D) (answers : C → Call → Reply → Type 0)
    (leaves : C → Call → Reply → C) where
  -- in a whole F t
  abbrev In : Option Call → C → D → Type 0
  In o t u = MatchOption o (u ≡ F t)
      (λ back. (reply : Reply) × (answers t back reply × (u ≡ F (leaves t back reply))))

  raise : (o : Option Call) (t s : C) → By answers leaves o t s → In o t (F s)
  raise None t s h = ap F h
  raise (Some b) t s h = (h.0, (h.1.0, ap F h.1.1))

  lower : (o : Option Call) (t : C) (u : D) → In o t u →
      (v : C) × (u ≡ F v) × By answers leaves o t v
  lower None t u h = (t, h, refl)
  lower (Some b) t u h = (leaves t b h.0, h.1.1, (h.0, (h.1.0, refl)))

  pub whole_back : (o : Option Call) (t s : C) → ByOnly answers leaves o t s →
      In o t (F s) × ((u : D) → In o t u → u ≡ F s)
  whole_back o t s h = (raise o t s h.0, λ u k. let w = lower o t u k in w.1 ∙ ap F (h.1 w.0 w.2))

-- The inverse of a call leads back, and to no other content.
pub part_back : (s : Content) (c : Call) (r : Reply) → Askable c → Answers s c r →
    ByOnly Answers after (inverse_of c r) (after s c r) s
part_back (InSet s) c r k h = whole_back InSet sets.Answers sets.after (inverse_of c r)
    (sets.after s c r) s (
      set_back s (sets.after s c r) c r (h, refl),
      λ u. set_back_only s (sets.after s c r) u c r (h, refl),
    )
part_back (InMap s) c r k h = whole_back InMap maps.Answers maps.after (inverse_of c r)
    (maps.after s c r) s (
      map_back s (maps.after s c r) c r (h, refl),
      λ u. map_back_only s (maps.after s c r) u c r (h, refl),
    )
part_back (InQueue s) c r k h =
    whole_back InQueue queues.Answers queues.after (inverse_of c r) (queues.after s c r) s (
      queue_back s (queues.after s c r) c r k (h, refl),
      λ u. queue_back_only s (queues.after s c r) u c r k (h, refl),
    )
part_back (InCounter s) c r k h =
    whole_back InCounter counters.Answers counters.after (inverse_of c r) (counters.after s c r) s (
      counter_back s (counters.after s c r) c r (h, refl),
      λ u. counter_back_only s (counters.after s c r) u c r (h, refl),
    )
part_back (InPool s) c r k h = whole_back InPool pools.Answers pools.after (inverse_of c r)
    (pools.after s c r) s (
      pool_back s (pools.after s c r) c r k (h, refl),
      λ u. pool_back_only s (pools.after s c r) u c r k (h, refl),
    )
part_back (InStock s) c r k h =
    whole_back InStock stocks.Answers stocks.after (inverse_of c r) (stocks.after s c r) s (
      stock_back s (stocks.after s c r) c r k (h, refl),
      λ u. stock_back_only s (stocks.after s c r) u c r k (h, refl),
    )
part_back (InQuotas s) c r k h =
    whole_back InQuotas quotas.Answers quotas.after (inverse_of c r) (quotas.after s c r) s (
      quota_back s (quotas.after s c r) c r k (h, refl),
      λ u. quota_back_only s (quotas.after s c r) u c r k (h, refl),
    )

-- An empty collection is within every number.
pub empty_within : (kind : Kind) (n : ℕ) → Reaches (empty kind) n
empty_within Kind.Counter n = record { low = omega (arith, ints); high = omega (arith, ints) }
empty_within Kind.Set n = tt
empty_within Kind.Map n = tt
empty_within Kind.Queue n = tt
empty_within Kind.Pool n = tt
empty_within Kind.Stock n = omega arith
empty_within Kind.Quotas n = none_within n

-- A run leaves the kind.
pub kind_after : (k : Content) (c : Call) (r : Reply) →
    kind_of_content (after k c r) ≡ kind_of_content k
kind_after (InSet s) c r = refl
kind_after (InMap m) c r = refl
kind_after (InQueue q) c r = refl
kind_after (InCounter n) c r = refl
kind_after (InPool s) c r = refl
kind_after (InStock s) c r = refl
kind_after (InQuotas s) c r = refl
