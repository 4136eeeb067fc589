use Rattle.std.proofs.Common.{◌≡◌, ◌<◌, ◌++◌, ◌∷◌, [], List, length, sym, ◌∙◌, subst, arith}
use Rattle.records.specs.declared.record.Record.{Record}
use Rattle.records.specs.Packings.{joined}
use Rattle.records.proofs.Packed.{parts_of, packed_some, begins_made, made_one, made_ready}
use Rattle.records.proofs.Packed.{ends_made}
use Rattle.records.proofs.PendingLemmas.{none_long}
use Rattle.records.proofs.packing.Packer.finish.Goals as goal

pub loop-draft-init : goal.loop-draft-init
loop-draft-init c =
    begins_made c.self.inside.full.items c.self.inside.last c.self.invariant
    (subst (λ (gs : List (List Record)). 0 < length (joined gs)) (sym c.self.view_is)
    c.requires)
    c.push_back.new.self.items c.new-made.result.items c.in_ok-push_back.ensures.items
    c.new-made.ensures.items

pub into_block-requires-clause-some : goal.into_block-requires-clause-some
into_block-requires-clause-some c =
    (made_ready _ _ c.pop_front.new.self.items _ c.in-Some.draft c.loop-draft.invariant
    c.in-Some.ensures.items).0

pub into_block-requires-clause-short : goal.into_block-requires-clause-short
into_block-requires-clause-short c =
    (made_ready _ _ c.pop_front.new.self.items _ c.in-Some.draft c.loop-draft.invariant
    c.in-Some.ensures.items).1

pub loop-draft-preserved : goal.loop-draft-preserved
loop-draft-preserved c =
    made_one _ _ c.pop_front.new.self.items _ c.push_back-in-Some.new.self.items c.in-Some.draft
    c.into_block.result c.loop-draft.invariant c.in-Some.ensures.items
    c.in_ok-push_back-2.ensures.items c.into_block.ensures

pub returns-clause-whole : goal.returns-clause-whole
returns-clause-whole c =
    let full = c.self.inside.full.items in
    let last = c.self.inside.last in
    let any : 0 < length (joined (parts_of full ++ last.records ∷ [])) =
    subst (λ (gs : List (List Record)). 0 < length (joined gs)) (sym c.self.view_is)
    c.requires in
    let left : c.pop_front.new.self.items ≡ [] =
    none_long c.pop_front.new.self.items
    (omega (arith, c.in_default.ensures.cases.1, c.pop_front.new.self.ok.0)) in
    rw (← c.self.view_is) (
      ends_made full last c.self.invariant any c.push_back.new.self.items c.loop-draft.full.items
          c.loop-draft.made.items c.in_ok-push_back.ensures.items c.loop-draft.invariant
          (c.in_default.ensures.items ∙ left),
      c.self.invariant,
      packed_some full last c.self.invariant any,
    )
