-- What is answered, and what is deferred, has a record.
use Rattle.std.proofs.Common.{ℕ, zero, suc, ◌<◌, ℤ, neg_ℤ, Option, List, [], ◌∷◌, refl, arith}
use Rattle.std.specs.Prelude.{IfSome}
use Rattle.std.specs.Int.{w64}
use Rattle.std.specs.Int.RustNames.{FitsSigned}
use Rattle.std.proofs.lemmas.Int.{ints}
use Rattle.calls.specs.declared.kind.Kind.{Kind}
use Rattle.calls.specs.declared.call.Call.{Call}
use Rattle.calls.specs.declared.reply.Reply.{Reply}
use Rattle.calls.specs.Rules.{IsStep, inverse_of, Askable, Deferrable, Pairs}
use Rattle.calls.specs.Sets as sets
use Rattle.calls.specs.Maps as maps
use Rattle.calls.specs.Queues as queues
use Rattle.calls.specs.Counters as counters
use Rattle.calls.specs.Pools as pools
use Rattle.calls.specs.Stocks as stocks
use Rattle.calls.specs.Quotas as quotas
use Rattle.calls.specs.Contents.{Content, InSet, InMap, InQueue, InCounter, InPool, InStock}
use Rattle.calls.specs.Contents.{InQuotas, Collection, Answers, AnswersAt}
use Rattle.records.specs.declared.record.Record.{Record}
use Rattle.records.specs.Records.{record_of_call, FitsCall, FitsReply, IsNumber, IsRecord}

-- ---- a call and its reply

set_pairs : (s : sets.NumberSet) (c : Call) (r : Reply) → sets.Answers s c r → Pairs c r
set_pairs s (Call.Contains x) Reply.Yes a = tt
set_pairs s (Call.Contains x) Reply.No a = tt
set_pairs s (Call.SetAdd x) Reply.Yes a = tt
set_pairs s (Call.SetAdd x) Reply.No a = tt
set_pairs s (Call.SetRemove x) Reply.Yes a = tt
set_pairs s (Call.SetRemove x) Reply.No a = tt
set_pairs s Call.Pick (Reply.Id x) a = tt
set_pairs s Call.Pick Reply.Nothing a = tt
set_pairs s c r a = absurd a.1

map_pairs : (m : maps.Table) (c : Call) (r : Reply) → maps.Answers m c r → Pairs c r
map_pairs m (Call.Get k) (Reply.Value v) a = tt
map_pairs m (Call.Get k) Reply.Nothing a = tt
map_pairs m (Call.Put k v) (Reply.Value o) a = tt
map_pairs m (Call.Put k v) Reply.Nothing a = tt
map_pairs m (Call.MapRemove k) (Reply.Value o) a = tt
map_pairs m (Call.MapRemove k) Reply.Nothing a = tt
map_pairs m (Call.Ceiling k) (Reply.Entry j v) a = tt
map_pairs m (Call.Ceiling k) Reply.Nothing a = tt
map_pairs m c r a = absurd a.1

queue_pairs : (q : _) (c : Call) (r : Reply) → Askable c → queues.Answers q c r → Pairs c r
queue_pairs q (Call.QueueAdd p g) Reply.Done ask a = tt
queue_pairs q Call.Take (Reply.Item p g) ask a = tt
queue_pairs q Call.Take Reply.Nothing ask a = tt
queue_pairs q Call.Least (Reply.Item p g) ask a = tt
queue_pairs q Call.Least Reply.Nothing ask a = tt
queue_pairs q (Call.Pluck p g) r ask a = absurd ask
queue_pairs q c r ask a = absurd a.1

counter_pairs : (n : _) (c : Call) (r : Reply) → counters.Answers n c r → Pairs c r
counter_pairs n (Call.Bump k) Reply.Done a = tt
counter_pairs n Call.Read (Reply.Total v) a = tt
counter_pairs n c r a = absurd a.1

pool_pairs : (s : sets.NumberSet) (c : Call) (r : Reply) → Askable c → pools.Answers s c r →
    Pairs c r
pool_pairs s Call.Draw (Reply.Id x) ask a = tt
pool_pairs s (Call.Release x) Reply.Queued ask a = tt
pool_pairs s (Call.Release x) Reply.Absent ask a = tt
pool_pairs s (Call.Free x) r ask a = absurd ask
pool_pairs s c r ask a = absurd a.1

stock_pairs : (n : ℕ) (c : Call) (r : Reply) → Askable c → stocks.Answers n c r → Pairs c r
stock_pairs n (Call.Spend k) Reply.Yes ask a = tt
stock_pairs n (Call.Spend k) Reply.No ask a = tt
stock_pairs n Call.Level (Reply.Total v) ask a = tt
stock_pairs n (Call.Fill k) r ask a = absurd ask
stock_pairs n c r ask a = absurd a.1

quota_pairs : (q : quotas.Quotas) (c : Call) (r : Reply) → Askable c → quotas.Answers q c r →
    Pairs c r
quota_pairs q (Call.QuotaSpend k n) Reply.Yes ask a = tt
quota_pairs q (Call.QuotaSpend k n) Reply.No ask a = tt
quota_pairs q (Call.QuotaLevel k) (Reply.Total v) ask a = tt
quota_pairs q (Call.QuotaFill k n) Reply.Done ask a = tt
quota_pairs q (Call.Refund k n) r ask a = absurd ask
quota_pairs q c r ask a = absurd a.1

content_pairs : (k : Content) (c : Call) (r : Reply) → Askable c → Answers k c r → Pairs c r
content_pairs (InSet s) c r ask a = set_pairs s c r a
content_pairs (InMap m) c r ask a = map_pairs m c r a
content_pairs (InQueue q) c r ask a = queue_pairs q c r ask a
content_pairs (InCounter n) c r ask a = counter_pairs n c r a
content_pairs (InPool s) c r ask a = pool_pairs s c r ask a
content_pairs (InStock n) c r ask a = stock_pairs n c r ask a
content_pairs (InQuotas q) c r ask a = quota_pairs q c r ask a

-- What is answered is one of the replies that the call has.
pub answered_pairs : (s : List Collection) (at : ℕ) (c : Call) (r : Reply) → Askable c →
    AnswersAt s at c r → Pairs c r
answered_pairs [] at c r ask a = absurd a
answered_pairs (x ∷ xs) zero c r ask a = content_pairs x.content c r ask a
answered_pairs (x ∷ xs) (suc at) c r ask a = answered_pairs xs at c r ask a

-- ---- its inverse

step_fits : (n : ℤ) → IsStep n → FitsSigned w64 n
step_fits n h = let a = h.above in let b = h.below in omega (arith, ints)

back_fits : (n : ℤ) → IsStep n → FitsSigned w64 (neg_ℤ n)
back_fits n h = let a = h.above in let b = h.below in omega (arith, ints)

pub inverse_fits : (c : Call) (r : Reply) → Askable c → FitsCall c → FitsReply r →
    IfSome (inverse_of c r) FitsCall
inverse_fits (Call.SetAdd x) Reply.Yes ask f g = f
inverse_fits (Call.SetRemove x) Reply.Yes ask f g = f
inverse_fits Call.Pick (Reply.Id x) ask f g = g
inverse_fits (Call.Put k v) Reply.Nothing ask f g = f.0
inverse_fits (Call.Put k v) (Reply.Value o) ask f g = (f.0, g)
inverse_fits (Call.MapRemove k) (Reply.Value o) ask f g = (f, g)
inverse_fits (Call.QueueAdd p g) Reply.Done ask f h = f
inverse_fits Call.Take (Reply.Item p g) ask f h = h
inverse_fits (Call.Bump n) Reply.Done ask f g = back_fits n ask
inverse_fits Call.Draw (Reply.Id x) ask f g = g
inverse_fits (Call.Spend n) Reply.Yes ask f g = f
inverse_fits (Call.QuotaSpend k n) Reply.Yes ask f g = f
inverse_fits (Call.QuotaFill k n) Reply.Done ask f g = f
inverse_fits c r ask f g = tt

-- ---- records

-- A call that was asked and answered so has a record.
pub call_is_record : (last : Option Kind) (n at : ℕ) (s : List Collection) (c : Call) (r : Reply) →
    IsNumber n → at < 256 → Askable c → AnswersAt s at c r → FitsCall c → FitsReply r →
    IsRecord last (record_of_call n at c r)
call_is_record last n at s c r i l ask a f g = record {
  fits = record {
    number = let h = i.below in
        omega arith;
    collection = l;
    call = f;
    reply = g;
    inverse = inverse_fits c r ask f g;
  };
  suits = tt;
  sound = record {
    number = i;
    asked = ask;
    answered = answered_pairs s at c r ask a;
    undone = refl;
  };
}

deferrable_fits : (c : Call) → Deferrable c → FitsCall c
deferrable_fits (Call.Bump n) d = step_fits n d
deferrable_fits (Call.Fill n) d = omega (arith, d)
deferrable_fits c d = absurd d

-- A call that was deferred has one.
pub later_is_record : (last : Option Kind) (n at : ℕ) (c : Call) → IsNumber n → at < 256 →
    Deferrable c → IsRecord last (Record.Later (record { number = n; collection = at; call = c }))
later_is_record last n at c i l d = record {
  fits = record {
    number = let h = i.below in
        omega arith;
    collection = l;
    call = deferrable_fits c d;
  };
  suits = tt;
  sound = record { number = i; call = d };
}
