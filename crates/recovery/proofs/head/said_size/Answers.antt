use Rattle.std.proofs.Common.{◌≡◌, ◌∙◌, ◌-◌, ap, arith, drop, take, length, length-drop}
use Rattle.std.proofs.lemmas.List.{take_all}
use Rattle.byteorder.specs.Endian.{big_number}
use Rattle.recovery.proofs.HeadLemmas.{size_said}
use Rattle.recovery.proofs.head.said_size.Goals as goal

pub returns-then-is_size-clause-some : goal.returns-then-is_size-clause-some
returns-then-is_size-clause-some c =
    let room = c.is_size.ensures.0 c.if-is_size.true in
    let marked = c.is_marked.ensures.0 c.if-is_marked.true in
    let all : take (length c.args.head.now - 9) (drop 9 c.args.head.now) ≡ drop 9 c.args.head.now =
    take_all (length c.args.head.now - 9) (drop 9 c.args.head.now)
    (omega (arith, length-drop 9 c.args.head.now)) in
    let read : c.read_u64-size.result ≡
    big_number 8 (take (length c.args.head.now - 9) (drop 9 c.args.head.now)) =
    c.read_u64-size.ensures in
    let said : c.read_u64-size.result ≡ big_number 8 (drop 9 c.args.head.now) =
    read ∙ ap (big_number 8) all in
    record {
      letters = marked.0;
      gate = marked.1;
      area = size_said c.args.head.now c.read_u64-size.result c.requires
          (λ i. (c.type_inv.head i).fits) said;
      not_small = room.not_small;
      not_large = room.not_large;
      whole = room.whole;
    }
