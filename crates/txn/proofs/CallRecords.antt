-- The record of a call that is made.
use Rattle.std.proofs.Common.{ℕ, ◌<◌, None, List}
use Rattle.calls.specs.declared.call.Call.{Call}
use Rattle.calls.specs.declared.reply.Reply.{Reply}
use Rattle.calls.specs.Contents.{Collection, AnswersAt}
use Rattle.calls.specs.Rules.{Askable}
use Rattle.records.specs.Records.{IsNumber, IsRecord, FitsCall, FitsReply}
use Rattle.records.proofs.CallRecords.{call_is_record}
use Rattle.txn.specs.Rows.{record_of}

-- The call has a record.
pub is_record : (n at : ℕ) (s : List Collection) (c : Call) (r : Reply) → IsNumber n → at < 256 →
    Askable c → AnswersAt s at c r → FitsCall c → FitsReply r →
    IsRecord None (record_of n (record { at = at; call = c; reply = r }))
is_record n at s c r number few asked answered call reply =
    call_is_record None n at s c r number few asked answered call reply
