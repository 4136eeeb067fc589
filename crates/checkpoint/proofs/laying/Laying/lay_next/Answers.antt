use Rattle.std.proofs.Common.{refl, sym, subst, List, ℕ}
use Rattle.std.proofs.lemmas.Result.{err_from_is_err_and}
use Rattle.gate_block.specs.Row.{IsBlockOf}
use Rattle.gate_block.specs.Area.{has_failed}
use Rattle.records.specs.Wholes.{body_of}
use Rattle.checkpoint.specs.Imaging.{left_of}
use Rattle.checkpoint.proofs.Blocks.{next_is, whole_rest, whole_next, laid_next, no_more_room}
use Rattle.checkpoint.proofs.Blocks.{only_fault}
use Rattle.checkpoint.proofs.laying.Laying.lay_next.Goals as goal

pub returns-in_err-lay-clause-fault : goal.returns-in_err-lay-clause-fault
returns-in_err-lay-clause-fault g c =
    let w = c.args.self.now in
    let p = err_from_is_err_and c.from_residual.result c.from_residual.ensures.1 in
    rw (p.1, p.2)
    (only_fault c.in_err-lay.field-0.0 (has_failed w.area) _ _ _ c.requires.fine
    (λ full. no_more_room w c.index.result.now c.as_slice.result.now c.requires.piece
    c.index.ensures c.as_slice.ensures.value c.requires.room full) c.in_err-lay.ensures.answer)

pub invariant_of-image : goal.invariant_of-image
invariant_of-image g c = record {
  whole = whole_rest (left_of c.args.self.now) _
      c.pop_front-written.ensures.rest c.args.self.now.image.whole;
}

pub returns-clause-written : goal.returns-clause-written
returns-clause-written g c = record {
  block = c.index.result.now;
  next = next_is (left_of c.args.self.now) _ c.index.result.now c.requires.piece c.index.ensures
      c.pop_front-written.ensures.rest;
  tells = c.has_more.ensures;
  same = record {
    base = c.in_ok-lay.ensures.base;
    size = c.in_ok-lay.ensures.size;
    end = refl;
    place = refl;
  };
}

pub returns-clause-laid : goal.returns-clause-laid
returns-clause-laid g c = λ bodies was.
    let next = next_is (left_of c.args.self.now) _ c.index.result.now c.requires.piece
    c.index.ensures c.pop_front-written.ensures.rest in
    let whole = whole_next _ _ c.index.result.now next c.args.self.now.image.whole in
    laid_next c.args.self.now _ _ _ c.index.result.now bodies next whole
    (λ laid stands. c.in_ok-lay.ensures.laid laid (body_of c.index.result.now.items)
    (subst (λ (l : List ℕ). IsBlockOf (body_of c.index.result.now.items) l)
    (sym c.as_slice.ensures.value) whole) stands) was
