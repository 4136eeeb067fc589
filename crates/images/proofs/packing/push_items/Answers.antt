use Rattle.calls.specs.Formats.{widest}
use Rattle.std.proofs.Common.{sym, ◌∙◌, ap, subst, ◌++◌, map, rules}
use Rattle.std.specs.List.{AllByRecursion}
use Rattle.std.proofs.lemmas.List.{append-nil}
use Rattle.std.proofs.lemmas.Iterator.Adapters.{YieldsList-from_vec}
use Rattle.std.proofs.lemmas.Iterator.Consumers.{YieldsList-turn, YieldsList-end}
use Rattle.records.specs.declared.record.Record.{Record}
use Rattle.records.specs.Records.{FitsItem}
use Rattle.records.specs.Short.{IsShortItem}
use Rattle.records.specs.Packings.{joined}
use Rattle.images.proofs.ImageRecords.{each_at, all_yielded, items_more, fits_more}
use Rattle.images.proofs.packing.push_items.Goals as goal

pub loop-item-init : goal.loop-item-init
loop-item-init c = (sym (append-nil (joined c.args.packer.now)), tt)

pub push_item-requires : goal.push_item-requires
push_item-requires c =
    let all = c.args.items.items in
    let turn = YieldsList-turn (YieldsList-from_vec {s = c.into_iter-item-iterator.result} all
    (search rules) (search rules)) c.loop-item.yielded c.loop-item.item-iterator
    c.loop-item.yielded_by c.next.result c.next.new.self c.in-Some.item c.in-Some.is
    c.next.ensures.steps in
    each_at (IsShortItem widest) all _ c.in-Some.item c.requires turn.0 turn.1

pub loop-item-preserved : goal.loop-item-preserved
loop-item-preserved c = (
  items_more (joined c.args.packer.now) (joined c.loop-item.packer) (joined c.push_item.new.packer)
      c.loop-item.yielded c.in-Some.item c.loop-item.invariant.0 c.in_ok-push_item.ensures.told,
  fits_more c.loop-item.yielded c.in-Some.item c.loop-item.invariant.1 c.push_item.ensures.fits,
)

pub returns-clause-told : goal.returns-clause-told
returns-clause-told c =
    let all = c.args.items.items in
    let end = YieldsList-end (YieldsList-from_vec {s = c.into_iter-item-iterator.result} all
    (search rules) (search rules)) c.loop-item.yielded c.loop-item.item-iterator
    c.loop-item.yielded_by c.next.result c.next.new.self c.in-None.is c.next.ensures.steps in
    let whole = all_yielded c.loop-item.yielded all end.0 in (
      c.loop-item.invariant.0 ∙ ap (λ l. joined c.args.packer.now ++ map Record.Item l) whole,
      subst (AllByRecursion FitsItem) whole c.loop-item.invariant.1,
    )
