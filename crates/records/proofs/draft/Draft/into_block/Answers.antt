use Rattle.std.proofs.Common.{◌≡◌, length, arith, ap, subst}
use Rattle.gate_block.specs.Row.{IsBlockOf}
use Rattle.records.specs.Records.{spelling}
use Rattle.records.specs.Drafts.{noted_records}
use Rattle.records.proofs.DraftLemmas.{whole}
use Rattle.records.proofs.draft.Draft.into_block.Goals as goal

pub returns : goal.returns
returns c =
    let same : noted_records c.self.inside.noted ≡ c.args.self.records =
    ap (λ d. d.records) c.self.view_is in
    subst (λ rs. IsBlockOf (spelling rs) c.close_block.new.bytes.items) same
    (whole c.self.inside.bytes.items _ _ (noted_records c.self.inside.noted) c.self.invariant.0
    (omega (arith, ap length same, c.requires.some))
    (omega (arith, ap (λ rs. length (spelling rs)) same, c.requires.short))
    c.close_block.ensures.block)
