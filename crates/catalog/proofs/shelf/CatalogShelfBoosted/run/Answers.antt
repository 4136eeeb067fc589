use Rattle.std.proofs.Common.{◌≡◌, Some, subst, sym, slice_get, ◌<◌}
use Rattle.std.proofs.lemmas.Result.{on_ok_weaker}
use Rattle.calls.specs.Contents.{Answers, after}
use Rattle.catalog.specs.Holdings.{content_of}
use Rattle.catalog.proofs.Places.{item_there, item_held, read_at, of_it, within_get, set_seen}
use Rattle.catalog.proofs.shelf.CatalogShelfBoosted.run.Goals as goal

pub index_mut-requires : goal.index_mut-requires
index_mut-requires c = subst (λ n. c.from.result < n) (sym c.self.inside.holdings.ok.0)
    (item_there c.self.inside.index c.self.inside.holdings.items c.args.self.now c.self.view_is
    c.args.at c.from.result c.from.ensures (λ x. Answers x c.args.call.now c.args.reply.now)
    c.requires.can)

there : (c : goal.After-index_mut) →
    slice_get c.self.inside.holdings.items c.from.result ≡ Some c.index_mut.result.now
there c = read_at c.self.inside.holdings.items c.from.result c.index_mut.result.now
    (item_there c.self.inside.index c.self.inside.holdings.items c.args.self.now c.self.view_is
    c.args.at c.from.result c.from.ensures (λ x. Answers x c.args.call.now c.args.reply.now)
    c.requires.can) c.index_mut.ensures.value

pub run-requires-clause-can : goal.run-requires-clause-can
run-requires-clause-can c = of_it c.args.self.now c.args.at (content_of c.index_mut.result.now) (
  c.requires.can.0,
  item_held c.self.inside.index c.self.inside.holdings.items c.args.self.now c.self.view_is
      c.args.at c.from.result c.from.ensures c.index_mut.result.now (there c),
)
    (λ x. Answers x c.args.call.now c.args.reply.now) c.requires.can

pub run-requires-clause-room : goal.run-requires-clause-room
run-requires-clause-room c = (
  c.requires.room.0,
  within_get c.requires.room.0 (content_of c.index_mut.result.now) c.args.self.now.held _
      (item_held c.self.inside.index c.self.inside.holdings.items c.args.self.now c.self.view_is
      c.args.at c.from.result c.from.ensures c.index_mut.result.now (there c))
      c.requires.room.1,
  c.requires.room.2,
)

pub returns-clause-ok : goal.returns-clause-ok
returns-clause-ok c = on_ok_weaker c.run.result
    (set_seen c.self.inside.index c.self.inside.holdings.items c.args.self.now c.self.view_is
    c.args.at c.from.result c.from.ensures (λ x. after x c.args.call.now c.args.reply.now)
    c.index_mut.result.now c.run.new.self
    (read_at c.self.inside.holdings.items c.from.result c.index_mut.result.now
    (item_there c.self.inside.index c.self.inside.holdings.items c.args.self.now c.self.view_is
    c.args.at c.from.result c.from.ensures (λ x. Answers x c.args.call.now c.args.reply.now)
    c.requires.can) c.index_mut.ensures.value))
    c.run.ensures.ok
