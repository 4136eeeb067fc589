-- The calls of a kind of collection, the refusal of others, what they mean, and their laws.
use Rattle.std.specs.Prelude.{◌≡◌, ℕ, ◌+◌, ◌⊎◌, ℤ, pos}
use Rattle.std.specs.List.{AllByRecursion}
use Rattle.std.specs.FinSet as set
use Rattle.std.specs.FinMap as map
use Rattle.calls.specs.declared.kind.Kind.{Kind}
use Rattle.calls.specs.declared.call.Call.{Call}
use Rattle.calls.specs.declared.reply.Reply.{Reply}
use Rattle.calls.specs.declared.refusal.Refusal.{Refusal}
use Rattle.calls.specs.declared.need.Mode.{Mode}
use Rattle.calls.specs.Rules.{kind_of, left_by, inverse_of, Undoes, Apart, Askable, Deferrable}
use Rattle.calls.specs.Rules.{Disposable, need_of}
use Rattle.calls.specs.Bags.{Bag}
use Rattle.calls.specs.Sets as sets
use Rattle.calls.specs.Maps as maps
use Rattle.calls.specs.Queues as queues
use Rattle.calls.specs.Counters as counters
use Rattle.calls.specs.Pools as pools
use Rattle.calls.specs.Stocks as stocks
use Rattle.calls.specs.Quotas as quotas
use Rattle.boosted.specs.Meaning.{Meaning}
use Rattle.std.proofs.Common.{ℤ, refl}
use Rattle.calls.proofs.SetLaws.{set_back, set_back_only, set_commutes, set_reads}
use Rattle.calls.proofs.MapLaws.{map_back, map_back_only, map_commutes, map_reads}
use Rattle.calls.proofs.QueueLaws.{queue_back, queue_back_only, queue_commutes, queue_reads}
use Rattle.calls.proofs.CounterLaws.{counter_back, counter_back_only, counter_commutes}
use Rattle.calls.proofs.CounterLaws.{counter_within, counter_starts, counter_reads}
use Rattle.calls.proofs.PoolLaws.{pool_back, pool_back_only, pool_commutes, pool_reads}
use Rattle.calls.proofs.StockLaws.{stock_back, stock_back_only, stock_commutes, stock_reads}
use Rattle.calls.proofs.StockLaws.{stock_within, stock_starts}
use Rattle.calls.proofs.QuotaLaws.{quota_back, quota_back_only, quota_commutes, quota_reads}
use Rattle.calls.proofs.QuotaLaws.{quota_within, none_within}
use Rattle.calls.proofs.KindLaws.{set_answered, map_answered, queue_answered, counter_answered}
use Rattle.calls.proofs.KindLaws.{pool_answered, deferrable_disposable, set_same, map_same}
use Rattle.calls.proofs.KindLaws.{queue_same, counter_same, set_deferred, map_deferred}
use Rattle.calls.proofs.KindLaws.{queue_deferred, counter_deferred, pool_deferred, set_leaves}
use Rattle.calls.proofs.KindLaws.{map_leaves, queue_leaves, counter_leaves, pool_leaves}
use Rattle.calls.proofs.KindLaws.{pool_deferred_stays, pool_past_call, pool_past_later}
use Rattle.calls.proofs.KindLaws.{pool_past_undoing, stock_answered, stock_same, stock_deferred}
use Rattle.calls.proofs.KindLaws.{stock_leaves, quota_answered, quota_same, quota_deferred}
use Rattle.calls.proofs.KindLaws.{quota_leaves}
use Rattle.boosted.specs.Laws.{BoostedLaws}

abbrev pub IsOf : Kind → Call → Type 0
IsOf k c = kind_of c ≡ k

abbrev pub IsWrong : Kind → Call → Refusal → Type 0
IsWrong k c r = (IsOf k c → ⊥) × (r ≡ Refusal.WrongKind)

-- One collection of a kind has one place.
abbrev meaning_of : {S : Type 0} → Kind → (S → Call → Reply → Type 0) → (S → Call → Reply → S) →
    S → (S → ℕ → Type 0) → Meaning S (Unit {0})
meaning_of kind answers after empty within = record {
  answers = λ s at c r. answers s c r;
  leaves = λ s at c r. after s c r;
  belongs = λ s at c. IsOf kind c;
  misplaced = λ s at c r. IsWrong kind c r;
  empty = empty;
  within = within;
}

abbrev pub set_meaning : Meaning sets.NumberSet (Unit {0})
set_meaning = meaning_of Kind.Set sets.Answers sets.after set.empty (λ s n. Unit {0})

abbrev pub map_meaning : Meaning maps.Table (Unit {0})
map_meaning = meaning_of Kind.Map maps.Answers maps.after map.empty (λ s n. Unit {0})

abbrev pub queue_meaning : Meaning Bag (Unit {0})
queue_meaning = meaning_of Kind.Queue queues.Answers queues.after map.empty (λ s n. Unit {0})

abbrev pub counter_meaning : Meaning ℤ (Unit {0})
counter_meaning =
    meaning_of Kind.Counter counters.Answers counters.after (pos 0) counters.IsWithin

abbrev pub pool_meaning : Meaning sets.NumberSet (Unit {0})
pool_meaning = meaning_of Kind.Pool pools.Answers pools.after set.empty (λ s n. Unit {0})

abbrev pub stock_meaning : Meaning ℕ (Unit {0})
stock_meaning = meaning_of Kind.Stock stocks.Answers stocks.after 0 stocks.IsWithin

abbrev pub quotas_meaning : Meaning quotas.Quotas (Unit {0})
quotas_meaning = meaning_of Kind.Quotas quotas.Answers quotas.after map.empty quotas.IsWithin

-- The laws of one collection of a kind, from those of its calls.
module _ {S : Type 0} (answers : S → Call → Reply → Type 0) (after : S → Call → Reply → S) where
  abbrev Does : S → Call → Reply → S → Type 0
  Does s c r t = answers s c r × (t ≡ after s c r)

  abbrev Back : S → Call → Reply → S → Type 0
  Back = Undoes Does inverse_of

  module _ {kind : Kind} {empty : S} {within : S → ℕ → Type 0} (starts : within empty 0)
      (wears : (s : S) (n : ℕ) (c : Call) (r : Reply) → within s n → answers s c r →
      within (after s c r) (n + 1))
      (answered : (s : S) (c : Call) (r : Reply) → answers s c r → IsOf kind c)
      (deferred : (s : S) (d : Call) → IsOf kind d → Deferrable d → answers s d Reply.Done)
      (leaves : (s : S) (c : Call) (r : Reply) → answers s c r →
      AllByRecursion (λ d. answers (after s c r) d Reply.Done) (left_by c r))
      (reads : (s : S) (c : Call) (r : Reply) → (need_of c r).mode ≡ Mode.Read →
      answers s c r → after s c r ≡ s)
      (commutes : (s m t : S) (a : Call) (ra : Reply) (b : Call) (rb : Reply) → Askable a →
      Apart a ra b rb → Does s a ra m → Does m b rb t → (u : S) × Does s b rb u × Does u a ra t)
      (back : (s t : S) (c : Call) (r : Reply) → Askable c → Does s c r t → Back t c r s)
      (back_only : (s t u : S) (c : Call) (r : Reply) → Askable c → Does s c r t → Back t c r u →
      u ≡ s) where
    -- A later that is Done stays so past what is deferred, calls, laters and undoings.
    laws_of : ((s t : S) (d : Call) → Deferrable d → answers s d Reply.Done →
        answers t d Reply.Done) →
        ((s : S) (c : Call) (r : Reply) (d : Call) → Askable c → Disposable d → answers s c r →
        answers s d Reply.Done → answers (after s c r) d Reply.Done) →
        ((s : S) (b d : Call) → Disposable b → Disposable d →
        (b ≡ d → ⊥) ⊎ Apart b Reply.Done d Reply.Done → answers s b Reply.Done →
        answers s d Reply.Done → answers (after s b Reply.Done) d Reply.Done) →
        ((s u : S) (c : Call) (r : Reply) (d : Call) → Disposable d → Apart c r d Reply.Done →
        Back s c r u → answers s d Reply.Done → answers u d Reply.Done) →
        BoostedLaws (meaning_of kind answers after empty within)
    laws_of laws_deferred calls laters undoings = record {
      starts_within = starts;
      holds = λ s. record {
        goes_back = λ t at c r ask d. (back s t c r ask d, λ u. back_only s t u c r ask d);
        commutes = λ at bt a ra b rb ask also apart m t. commutes s m t a ra b rb ask (apart refl);
        moves_left = λ at bt a ra b rb ask late apart m t. commutes s m t a ra b rb ask
            (apart refl);
        reads_leave = λ at. reads s;
        answered_belongs = λ at. answered s;
        wears = λ n at. wears s n;
        deferred_is_ready = λ at. deferred s;
        deferred_stays_ready = λ at bt c r d l h. laws_deferred s (after s c r) d l;
        leaves_ready = λ at. leaves s;
        stays_past_calls = λ at bt. calls s;
        stays_past_laters = λ at bt b d m l other. laters s b d m l (other refl);
        stays_past_undoing = λ u at bt c r d ask l apart. undoings s u c r d l (apart refl);
      };
    }

    -- It does where it is Done at every content once it is at one.
    laws_where_same : ((s t : S) (d : Call) → Disposable d → answers s d Reply.Done →
        answers t d Reply.Done) → BoostedLaws (meaning_of kind answers after empty within)
    laws_where_same same =
        laws_of (λ s t d l. same s t d (deferrable_disposable d l))
        (λ s c r d ask l h. same s (after s c r) d l)
        (λ s b d m l other h. same s (after s b Reply.Done) d l)
        (λ s u c r d l apart back. same s u d l)

pub set_laws : BoostedLaws set_meaning
set_laws =
    laws_where_same sets.Answers sets.after tt (λ s n c r w h. tt) set_answered set_deferred
    set_leaves set_reads set_commutes (λ s t c r ask. set_back s t c r)
    (λ s t u c r ask. set_back_only s t u c r) set_same

pub map_laws : BoostedLaws map_meaning
map_laws =
    laws_where_same maps.Answers maps.after tt (λ s n c r w h. tt) map_answered map_deferred
    map_leaves map_reads map_commutes (λ s t c r ask. map_back s t c r)
    (λ s t u c r ask. map_back_only s t u c r) map_same

pub queue_laws : BoostedLaws queue_meaning
queue_laws =
    laws_where_same queues.Answers queues.after tt (λ s n c r w h. tt) queue_answered
    queue_deferred queue_leaves queue_reads queue_commutes queue_back queue_back_only queue_same

pub counter_laws : BoostedLaws counter_meaning
counter_laws =
    laws_where_same counters.Answers counters.after counter_starts counter_within
    counter_answered counter_deferred counter_leaves counter_reads
    (λ s m t a ra b rb ask. counter_commutes s m t a ra b rb)
    (λ s t c r ask. counter_back s t c r)
    (λ s t u c r ask. counter_back_only s t u c r) counter_same

pub pool_laws : BoostedLaws pool_meaning
pool_laws =
    laws_of pools.Answers pools.after tt (λ s n c r w h. tt) pool_answered pool_deferred
    pool_leaves pool_reads pool_commutes pool_back pool_back_only pool_deferred_stays
    pool_past_call pool_past_later pool_past_undoing

pub stock_laws : BoostedLaws stock_meaning
stock_laws =
    laws_where_same stocks.Answers stocks.after stock_starts stock_within stock_answered
    stock_deferred stock_leaves stock_reads stock_commutes stock_back stock_back_only stock_same

pub quotas_laws : BoostedLaws quotas_meaning
quotas_laws =
    laws_where_same quotas.Answers quotas.after (none_within 0) quota_within quota_answered
    quota_deferred quota_leaves quota_reads quota_commutes quota_back quota_back_only quota_same
