-- Calls that only read: a journal does not tell of them.
use Rattle.std.specs.Prelude.{Bool, true, false, not}
use Rattle.std.specs.List.{filter}
use Rattle.calls.specs.declared.call.Call.{Call}
use Rattle.calls.specs.declared.reply.Reply.{Reply}
use Rattle.calls.specs.declared.need.Mode.{Mode}
use Rattle.calls.specs.Rules.{need_of}
use Rattle.calls.specs.Transactions.{Entry, Asked, Deferred, Transaction, Whole, Made}

abbrev pub is_read : Mode → Bool
is_read Mode.Read = true
is_read m = false

-- The call, answered so, only reads.
abbrev pub reads : Call → Reply → Bool
reads c r = is_read (need_of c r).mode

-- A journal tells of it.
abbrev pub is_journalled : Entry → Bool
is_journalled (Asked e) = not (reads e.call e.reply)
is_journalled (Deferred at c) = true

-- The transaction without its calls that only read.
abbrev pub without_reads : Transaction → Transaction
without_reads (Whole es) = Whole (filter is_journalled es)
without_reads (Made name kind) = Made name kind
