use Rattle.std.proofs.Common.{◌∙◌, refl, sym, arith, vec_len}
use Rattle.std.proofs.lemmas.Bool.{eqb-false}
use Rattle.abstract_locks.proofs.Placing.{left_out, only_kept, filled_kept, gone_out, gone_kept}
use Rattle.abstract_locks.proofs.needs.remove_at.Goals as goal
use Rattle.abstract_locks.proofs.needs.remove_at.Goals.{else-len-gt1-via-else-len-gt1}
use Rattle.abstract_locks.proofs.needs.remove_at.Goals.{else-len-gt1-via-then-len-gt1+else-is_empty-2}

pub returns-then-is_empty-2 : goal.returns-then-is_empty-2
returns-then-is_empty-2 c =
    let some = eqb-false (vec_len c.args.segments.now) 0
    (sym c.is_empty.ensures ∙ c.if-is_empty.false) in
    let lt = c.requires.place.within (omega arith) in
    let new = c.remove.new.self in
    let order = c.requires.order in
    let here = c.requires.place in
    let at = c.index_mut.ensures.value in
    let removed = c.remove.ensures.holds in
    let none = sym c.is_empty-then-len-gt1.ensures ∙ c.if-is_empty-2.true in
    let long = c.len.ensures in
    let many = c.if-len-gt1.true in
    let fewer = c.remove-then-is_empty-2.ensures.len in
    rw c.remove-then-is_empty-2.ensures.items (record {
      holds = gone_out new order here lt at removed c.index.ensures none;
      order = gone_kept new order here lt at removed c.index.ensures none (omega arith);
      len = omega arith;
      capacity = c.remove-then-is_empty-2.ensures.capacity;
    })

pub returns-else-len-gt1 : goal.returns-else-len-gt1
returns-else-len-gt1 c =
    let some = eqb-false (vec_len c.args.segments.now) 0
    (sym c.is_empty.ensures ∙ c.if-is_empty.false) in
    let lt = c.requires.place.within (omega arith) in
    let new = c.remove.new.self in
    let order = c.requires.order in
    let here = c.requires.place in
    let at = c.index_mut.ensures.value in
    let removed = c.remove.ensures.holds in
    let own = c.remove.ensures.order in
    let long = c.len.ensures in
    record {
      holds = left_out new order here lt at removed;
      order = elim c.else-len-gt1.branch [
        | else-len-gt1-via-then-len-gt1+else-is_empty-2 w ↦
            filled_kept new order here lt at removed w.index.ensures own
            (sym w.is_empty-then-len-gt1.ensures ∙ w.if-is_empty-2.false)
        | else-len-gt1-via-else-len-gt1 w ↦ let few = w.if-len-gt1.false in
            only_kept new order here lt at removed own (omega arith)
      ];
      len = omega arith;
      capacity = refl;
    }
