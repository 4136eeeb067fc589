-- A call that only reads: its need, and that it has no inverse and leaves nothing to the commit.
use Rattle.std.proofs.Common.{◌≡◌, true, false, true≢false, sym, refl, None, []}
use Rattle.calls.specs.declared.call.Call.{Call}
use Rattle.calls.specs.declared.reply.Reply.{Reply}
use Rattle.calls.specs.declared.need.Mode.{Mode}
use Rattle.calls.specs.Rules.{need_of, inverse_of, left_by}
use Rattle.calls.specs.Reads.{is_read, reads}

none_here : {A : Type 0} → false ≡ true → A
none_here e = absurd (true≢false (sym e))

by_mode : (m : Mode) → is_read m ≡ true → m ≡ Mode.Read
by_mode Mode.Read is = refl
by_mode m is = none_here is

pub read_mode : (c : Call) (r : Reply) → reads c r ≡ true → (need_of c r).mode ≡ Mode.Read
read_mode c r is = by_mode (need_of c r).mode is

pub read_inverse : (c : Call) (r : Reply) → reads c r ≡ true → inverse_of c r ≡ None
read_inverse (Call.SetAdd x) Reply.Yes is = none_here is
read_inverse (Call.SetRemove x) Reply.Yes is = none_here is
read_inverse Call.Pick (Reply.Id x) is = none_here is
read_inverse (Call.Put k v) Reply.Nothing is = none_here is
read_inverse (Call.Put k v) (Reply.Value o) is = none_here is
read_inverse (Call.MapRemove k) (Reply.Value o) is = none_here is
read_inverse (Call.QueueAdd p g) Reply.Done is = none_here is
read_inverse Call.Take (Reply.Item p g) is = none_here is
read_inverse (Call.Bump n) Reply.Done is = none_here is
read_inverse Call.Draw (Reply.Id x) is = none_here is
read_inverse (Call.Spend n) Reply.Yes is = none_here is
read_inverse (Call.QuotaSpend k n) Reply.Yes is = none_here is
read_inverse (Call.QuotaFill k n) Reply.Done is = none_here is
read_inverse c r is = refl

pub read_leaves : (c : Call) (r : Reply) → reads c r ≡ true → left_by c r ≡ []
read_leaves (Call.Release x) Reply.Queued is = none_here is
read_leaves c r is = refl
