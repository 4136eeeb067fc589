-- How long a field is.
use Rattle.std.proofs.Common.{◌≡◌, ℕ, ◌+◌, ◌≤◌, List, ◌++◌, length, length-append, arith}
use Rattle.byteorder.specs.Numbers.{length-bytes_high_first}
use Rattle.records.specs.declared.record.Record.{Record}
use Rattle.records.specs.Records.{number, spelled}

pub length-number : (len n : ℕ) → length (number len n) ≡ len
unfolding number
length-number len n = length-bytes_high_first len n

pub length-joined : (a b : List ℕ) → length (a ++ b) ≡ length a + length b
length-joined a b = length-append a b

pub ruleset lengths = (length-number, length-joined)

-- a record has at least one byte
pub spelled-positive : (r : Record) → 1 ≤ length (spelled r)
spelled-positive (Record.Make kind name) = grind (arith, lengths)
spelled-positive (Record.Call c) = grind (arith, lengths)
spelled-positive (Record.Later l) = grind (arith, lengths)
spelled-positive (Record.Commit n) = grind (arith, lengths)
spelled-positive (Record.Back n) = grind (arith, lengths)
spelled-positive (Record.Ended n) = grind (arith, lengths)
spelled-positive (Record.Name kind name) = grind (arith, lengths)
spelled-positive (Record.Item i) = grind (arith, lengths)
spelled-positive (Record.LiveCall c) = grind (arith, lengths)
spelled-positive (Record.LiveLater l) = grind (arith, lengths)
spelled-positive (Record.Marks f next wear) = grind (arith, lengths)
spelled-positive Record.ImageEnd = grind (arith, lengths)
spelled-positive (Record.Begin n) = grind (arith, lengths)
