use Rattle.std.proofs.Common.{◌≡◌, ◌<◌, ◌+◌, ◌++◌, ◌∙◌, ap, length, take, arith, length-append}
use Rattle.std.proofs.Common.{vec_capacity}
use Rattle.std.proofs.lemmas.List.{length-take-le}
use Rattle.records.specs.Records.{spelling}
use Rattle.records.proofs.DraftLemmas.{whole}
use Rattle.replay.proofs.UndoRecords.{spelling_len}
use Rattle.replay.proofs.AppendLemmas.{spelled_draft}
use Rattle.replay.proofs.appending.pack.Goals as goal

pub close_block-requires-clause-short : goal.close_block-requires-clause-short
close_block-requires-clause-short c =
    let five : length (take 5 c.args.bytes.now.items) ≡ 5 =
    length-take-le 5 c.args.bytes.now.items c.requires.head in
    omega (
      arith,
      ap length (c.spell.ensures.items ∙
          ap (λ l. l ++ spelling c.args.group.now) c.truncate.ensures.items),
      length-append (take 5 c.args.bytes.now.items) (spelling c.args.group.now),
      five,
      spelling_len c.args.group.now c.requires.undo,
      c.requires.few,
    )

pub close_block-requires-clause-room : goal.close_block-requires-clause-room
close_block-requires-clause-room c =
    let five : length (take 5 c.args.bytes.now.items) ≡ 5 =
    length-take-le 5 c.args.bytes.now.items c.requires.head in
    omega (
      arith,
      ap length (c.spell.ensures.items ∙
          ap (λ l. l ++ spelling c.args.group.now) c.truncate.ensures.items),
      length-append (take 5 c.args.bytes.now.items) (spelling c.args.group.now),
      five,
      spelling_len c.args.group.now c.requires.undo,
      c.requires.few,
      c.spell.new.bytes.ok.0,
      c.requires.room,
      c.truncate.ensures.capacity,
      c.spell.ensures.capacity,
    )

pub returns-clause-block : goal.returns-clause-block
returns-clause-block c =
    let five : length (take 5 c.args.bytes.now.items) ≡ 5 =
    length-take-le 5 c.args.bytes.now.items c.requires.head in
    let is : c.spell.new.bytes.items ≡ take 5 c.args.bytes.now.items ++ spelling c.args.group.now =
    c.spell.ensures.items ∙ ap (λ l. l ++ spelling c.args.group.now) c.truncate.ensures.items in
    let size : length c.spell.new.bytes.items ≡ 5 + length (spelling c.args.group.now) =
    ap length is ∙ length-append (take 5 c.args.bytes.now.items) (spelling c.args.group.now) ∙
    ap (λ n. n + length (spelling c.args.group.now)) five in
    let nine = spelling_len c.args.group.now c.requires.undo in
    let room : length c.spell.new.bytes.items < vec_capacity c.spell.new.bytes =
    omega (
      arith,
      size,
      nine,
      c.requires.few,
      c.requires.room,
      c.truncate.ensures.capacity,
      c.spell.ensures.capacity,
    ) in
    whole c.spell.new.bytes.items c.close_block.new.bytes.items (vec_capacity c.spell.new.bytes)
    c.args.group.now (spelled_draft c.args.group.now c.args.bytes.now.items
    c.spell.new.bytes.items (vec_capacity c.spell.new.bytes) five is room) c.requires.some
    (omega (arith, nine, c.requires.few)) c.close_block.ensures.block
