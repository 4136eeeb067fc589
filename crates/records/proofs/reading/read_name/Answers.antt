use Rattle.std.proofs.Common.{rules}
use Rattle.records.proofs.RecordNames.{is_good_name_utf8, not_good, test_from_IsName}
use Rattle.records.proofs.reading.read_name.Goals as goal

pub returns-in_default : goal.returns-in_default
unfolding Rattle.records.specs.RecordReading.name_in
returns-in_default c = search (rules, is_good_name_utf8)

pub returns-then-is_err : goal.returns-then-is_err
unfolding Rattle.records.specs.RecordReading.name_in
returns-then-is_err c = search (rules, not_good)

pub returns : goal.returns
unfolding Rattle.records.specs.RecordReading.name_in
returns c = search (rules, test_from_IsName)
