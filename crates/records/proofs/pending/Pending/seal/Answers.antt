use Rattle.std.proofs.Common.{◌≡◌, ◌∷◌, ◌++◌, [], ◌<◌, length, inr, true, refl, arith, ap, ◌∙◌}
use Rattle.std.specs.VecDeque.{deque_capacity}
use Rattle.records.specs.Waits.{Waiting}
use Rattle.records.specs.Records.{spelling}
use Rattle.records.specs.declared.pending.Filled.{Filled}
use Rattle.records.proofs.PendingLemmas.{counted_closed, sealed_there, sealed_before, some_told}
use Rattle.records.proofs.pending.Pending.seal.Goals as goal

pub returns-then-is_empty-clause-sealed : goal.returns-then-is_empty-clause-sealed
returns-then-is_empty-clause-sealed c =
    rw (← c.self.view_is) (sealed_before _ c.self.inside.count c.self.invariant
    (c.is_empty.ensures.0 c.if-is_empty.true))

-- the records before
abbrev was : (c : goal.After-push_back_reserved) → Waiting
was c = let inside = c.self.inside in
    record {
      full = inside.full.items;
      last = inside.last;
      spare = inside.spare;
      most = deque_capacity inside.full;
      handed = inside.handed;
    }

some : (c : goal.After-push_back_reserved) → 0 < length c.self.inside.last.records
some c = some_told c.self.inside.last.records c.is_empty.result c.is_empty.ensures
    c.if-is_empty.false

empty : (c : goal.After-push_back_reserved) → c.replace-draft.new.dest.records ≡ []
empty c = ap (λ d. d.records) c.replace-draft.ensures.after ∙ c.new.ensures

pub returns-clause-sealed : goal.returns-clause-sealed
returns-clause-sealed c =
    let block : Filled = record { draft = c.replace-draft.result; sealed = true } in
    let behind = c.push_back_reserved.ensures.items ∙
    ap (λ l. l ++ block ∷ []) c.in_ok-reserve.ensures.items in
    rw (← c.self.view_is)
    (sealed_there (was c) _ block c.replace-draft.new.dest c.self.inside.spare 0 behind
    (ap (λ d. d.records) c.replace-draft.ensures.value) refl (some c))

pub invariant_of-self-2 : goal.invariant_of-self-2
invariant_of-self-2 c =
    let block : Filled = record { draft = c.replace-draft.result; sealed = true } in
    let behind = c.push_back_reserved.ensures.items ∙
    ap (λ l. l ++ block ∷ []) c.in_ok-reserve.ensures.items in
    let none = empty c in
    counted_closed (was c) _ block c.replace-draft.new.dest c.self.inside.spare _ behind
    (ap (λ d. d.records) c.replace-draft.ensures.value) c.self.inside.count c.self.inside.count
    c.self.invariant (some c) (inr refl)
    (omega (arith, ap (λ l. length (spelling l)) none)) c.self.invariant.unused
    (omega (arith, ap length none))
