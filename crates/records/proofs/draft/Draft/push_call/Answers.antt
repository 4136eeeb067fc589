use Rattle.std.proofs.Common.{◌∷◌, [], ◌++◌, List, arith, ap, length-append}
use Rattle.records.specs.declared.record.Record.{Record}
use Rattle.records.specs.Records.{record_of_call}
use Rattle.records.specs.Drafts.{noted_records}
use Rattle.records.proofs.DraftLemmas.{pushed, sure}
use Rattle.records.proofs.Places.{places_append}
use Rattle.records.proofs.draft.Draft.push_call.Goals as goal

pub invariant_of-self : goal.invariant_of-self
invariant_of-self c =
    let rs : List Record = noted_records c.self.inside.noted in
    let r : Record = record_of_call c.args.number c.args.at c.args.asked.now c.args.answer.now in
    let written = c.encode_call-written in
    let room = c.requires.room in
    let len = ap (λ d. d.len) c.self.view_is in
    let capacity = ap (λ d. d.capacity) c.self.view_is in
    let is = sure written.result _ _ written.ensures.ok written.ensures.full
    (λ full. omega (arith, room.room, len, capacity, full)) in
    let long = sure written.result _ _ written.ensures.len written.ensures.full
    (λ full. omega (arith, room.room, len, capacity, full)) in
    rw (c.of.ensures, c.of-2.ensures, c.of-3.ensures, c.of-4.ensures, c.of-5.ensures) (
      pushed c.self.inside.bytes.items written.new.out.items _ _ rs r c.self.invariant.0
          (omega (arith, room.head, len, c.self.inside.bytes.ok.0)) is
          (omega (
            arith,
            room.room,
            len,
            capacity,
            long,
            written.ensures.capacity,
            written.new.out.ok.0,
          )),
      omega (arith, c.self.invariant.1, length-append rs (r ∷ [])),
      omega (arith, c.self.invariant.2, places_append rs (r ∷ [])),
    )

pub returns : goal.returns
returns c =
    let a = c.args in
    let r : Record = record_of_call a.number a.at a.asked.now a.answer.now in
    rw (c.of.ensures, c.of-2.ensures, c.of-3.ensures, c.of-4.ensures, c.of-5.ensures)
    (ap (λ d. d.records ++ r ∷ []) c.self.view_is)
