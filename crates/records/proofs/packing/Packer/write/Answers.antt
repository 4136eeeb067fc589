use Rattle.std.proofs.Common.{◌≡◌, ◌++◌, ◌∷◌, [], length, ◌∙◌, ap, arith}
use Rattle.records.specs.Packings.{joined}
use Rattle.records.proofs.Packed.{few_records, packs_more, packs_next, writes_more, writes_next}
use Rattle.records.proofs.PendingLemmas.{last_short}
use Rattle.records.proofs.packing.Packer.write.Goals as goal

pub overflow_add-len : goal.overflow_add-len
overflow_add-len c = omega (
  arith,
  c.len.ensures,
  c.encoded_len-len.ensures.bound,
  last_short _ c.self.inside.last.records c.self.invariant,
)

pub push-requires-clause-few : goal.push-requires-clause-few
push-requires-clause-few c =
    omega (
      arith,
      few_records c.self.inside.last.records,
      last_short _ c.self.inside.last.records c.self.invariant,
      ap length (c.reserve.ensures.records),
    )

pub invariant_of-self-then-len-le-MAX_BODY : goal.invariant_of-self-then-len-le-MAX_BODY
invariant_of-self-then-len-le-MAX_BODY c =
    packs_more c.self.inside.full.items c.self.inside.last.records _ c.push.new.self.records
    c.args.entry.now c.self.invariant c.reserve.ensures.records c.push.ensures
    (omega (arith, c.if-len-le-MAX_BODY.true, c.len.ensures, c.encoded_len-len.ensures.len))

pub returns-then-len-le-MAX_BODY-clause-written : goal.returns-then-len-le-MAX_BODY-clause-written
returns-then-len-le-MAX_BODY-clause-written c =
    writes_more c.self.inside.full.items c.self.inside.last.records _ c.push.new.self.records
    c.args.entry.now c.reserve.ensures.records c.push.ensures ∙
    ap (λ gs. joined gs ++ c.args.entry.now ∷ []) c.self.view_is

-- the blocks that no more goes into
closed : (c : goal.After-push_back_reserved) →
    c.push_back_reserved.new.self.items ≡ c.self.inside.full.items ++ c.self.inside.last ∷ []
closed c = c.push_back_reserved.ensures.items ∙
    ap (λ l. l ++ c.replace-filled.result ∷ []) (c.in_ok-reserve-2.ensures.items) ∙
    ap (λ d. c.self.inside.full.items ++ d ∷ []) c.replace-filled.ensures.value

-- the new one
one : (c : goal.After-push_back_reserved) →
    c.replace-filled.new.dest.records ≡ c.args.entry.now ∷ []
one c = ap (λ d. d.records) c.replace-filled.ensures.after ∙ c.push-2.ensures ∙
    ap (λ l. l ++ c.args.entry.now ∷ []) (c.reserve-3.ensures.records ∙ c.new-next.ensures)

pub invariant_of-self-2 : goal.invariant_of-self-2
invariant_of-self-2 c =
    packs_next c.self.inside.full.items _ c.self.inside.last c.replace-filled.new.dest.records
    c.args.entry.now c.self.invariant (closed c) (one c)
    (omega (arith, c.encoded_len-len.ensures.len, c.encoded_len-len.ensures.bound))
    (λ fits. let over = c.if-len-le-MAX_BODY.false in
    omega (arith, fits, over, c.len.ensures, c.encoded_len-len.ensures.len))

pub returns-clause-written : goal.returns-clause-written
returns-clause-written c = writes_next c.self.inside.full.items _ c.self.inside.last
    c.replace-filled.new.dest.records c.args.entry.now (closed c) (one c) ∙
    ap (λ gs. joined gs ++ c.args.entry.now ∷ []) c.self.view_is
