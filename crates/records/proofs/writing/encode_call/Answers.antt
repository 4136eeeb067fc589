use Rattle.std.proofs.lemmas.Grind.{common_steps}
use Rattle.std.proofs.Common.{◌+◌, ◌≤◌, vec_len, vec_capacity, rules, arith}
use Rattle.records.proofs.RecordLengths.{lengths}
use Rattle.records.proofs.writing.encode_call.Goals as goal

pub put_byte-requires : goal.put_byte-requires
put_byte-requires c =
    let some = c.call_len.ensures.positive in
    let room : vec_len c.reserve.new.self + c.call_len.result ≤ vec_capacity c.reserve.new.self =
    search rules in
    omega arith

pub returns-clause-len : goal.returns-clause-len
returns-clause-len c =
    let asked = c.put_asked.ensures.len in
    let back = c.put_back.ensures.len in grind (arith, lengths, common_steps)

pub returns-clause-ok : goal.returns-clause-ok
returns-clause-ok c = grind (arith, common_steps)
