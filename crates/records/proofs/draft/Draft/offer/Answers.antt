use Rattle.std.proofs.Common.{◌≡◌, ◌∙◌, length, take, arith, ap, ◌+◌, ◌-◌, refl}
use Rattle.std.specs.Vec.{vec_capacity, vec_len}
use Rattle.records.specs.Records.{spelling}
use Rattle.records.specs.Drafts.{noted_records}
use Rattle.records.proofs.DraftLemmas.{offered, restored, whole, block_whole}
use Rattle.records.proofs.draft.Draft.offer.Goals as goal

pub invariant_of-block : goal.invariant_of-block
invariant_of-block g c =
    let same : noted_records c.self.inside.noted ≡ c.args.self.records =
    ap (λ d. d.records) c.self.view_is in
    let block = whole c.self.inside.bytes.items _ _ (noted_records c.self.inside.noted)
    c.self.invariant.0 (omega (arith, ap length same, c.requires.some))
    (omega (arith, ap (λ rs. length (spelling rs)) same, c.requires.short))
    c.close_block.ensures.block in
    record { whole = block_whole _ _ block }

pub returns-in-Ok-clause-handed : goal.returns-in-Ok-clause-handed
returns-in-Ok-clause-handed g c =
    let same : noted_records c.self.inside.noted ≡ c.args.self.records =
    ap (λ d. d.records) c.self.view_is in
    let block = whole c.self.inside.bytes.items _ _ (noted_records c.self.inside.noted)
    c.self.invariant.0 (omega (arith, ap length same, c.requires.some))
    (omega (arith, ap (λ rs. length (spelling rs)) same, c.requires.short))
    c.close_block.ensures.block in
    offered _ _ _ _ (λ bs. g.O.Outbox.sends c.args.out.now bs c.offer.new.self) _ same
    c.in-Ok.ensures.sent block
    (ap (λ n. c.args.handed.now.end + n) c.self.invariant.1)
    (ap (λ n. c.args.handed.now.place + n) c.self.invariant.2) refl

pub invariant_of-result : goal.invariant_of-result
invariant_of-result g c =
    let back = ap (λ b. b.bytes) c.in-Err.ensures.back in
    let closed = c.close_block.new.bytes in (
      restored c.self.inside.bytes.items _ c.pop.new.self.items _ _
          (noted_records c.self.inside.noted) c.self.invariant.0 c.close_block.ensures.block
          (c.pop.ensures.rest ∙ ap (λ v. take (vec_len v - 1) v.items) back ∙
          ap (λ n. take (n - 1) closed.items) (omega (arith, closed.ok.0)))
          (omega (
            arith,
            closed.ok.0,
            c.pop.ensures.capacity,
            ap (λ v. vec_capacity v) back,
          )),
      c.self.invariant.1,
      c.self.invariant.2,
    )
