use Rattle.std.proofs.Common.{◌∷◌, [], List, length, arith, ap, length-append}
use Rattle.records.specs.declared.record.Record.{Record}
use Rattle.records.specs.Drafts.{noted_records}
use Rattle.records.proofs.DraftLemmas.{pushed, places-few, sure}
use Rattle.records.proofs.Places.{places_append}
use Rattle.records.proofs.draft.Draft.push.Goals as goal

pub overflow_add-self-2 : goal.overflow_add-self-2
overflow_add-self-2 c =
    let same = ap (λ d. length d.records) c.self.view_is in
    omega (
      arith,
      same,
      c.requires.few,
      c.self.invariant.2,
      places-few (noted_records c.self.inside.noted),
      c.places_of.ensures,
      places-few (c.args.entry.now ∷ []),
    )

pub invariant_of-self : goal.invariant_of-self
invariant_of-self c =
    let rs : List Record = noted_records c.self.inside.noted in
    let r = c.args.entry.now in
    let written = c.encode-written in
    let room = c.requires.room in
    let len = ap (λ d. d.len) c.self.view_is in
    let capacity = ap (λ d. d.capacity) c.self.view_is in
    let is = sure written.result _ _ written.ensures.ok written.ensures.full
    (λ full. omega (arith, room.room, len, capacity, full)) in
    let long = sure written.result _ _ written.ensures.len written.ensures.full
    (λ full. omega (arith, room.room, len, capacity, full)) in
    rw (c.of.ensures, c.of-2.ensures) (
      pushed c.self.inside.bytes.items written.new.out.items _ _ rs r c.self.invariant.0
          (omega (arith, room.head, len, c.self.inside.bytes.ok.0)) is
          (omega (
            arith,
            room.room,
            len,
            capacity,
            long,
            written.ensures.capacity,
            written.new.out.ok.0,
          )),
      omega (arith, c.self.invariant.1, length-append rs (r ∷ [])),
      omega (arith, c.self.invariant.2, places_append rs (r ∷ []), c.places_of.ensures),
    )
