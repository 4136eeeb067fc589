use Rattle.std.proofs.Common.{sym, ◌∙◌, ap, subst}
use Rattle.images.specs.Gathers.{GatherState, gathered, caught_up}
use Rattle.images.specs.Images.{TellsTransactions}
use Rattle.images.specs.Gatherings.{GatheringState, GoesAlong}
use Rattle.images.specs.GatheringViews.{gathering_of}
use Rattle.images.proofs.Going.{whole_along}
use Rattle.images.proofs.gathering.Gathering.freeze.Goals as goal

pub returns-clause-holds : goal.returns-clause-holds
returns-clause-holds g c s marked many along =
    let i = c.self.inside in
    let xs = g.B.Parts.collections in
    let p = c.args.image_head.end in
    let n = gathering_of i.begun i.going i.effects.items in
    let froze = c.in_ok-freeze.ensures.ok in
    let before = subst (λ (v : GatheringState). GoesAlong xs v s.now p c.args.gather.now)
    (sym c.self.view_is) along in
    record {
      frozen = record { image_head = c.args.image_head; live = froze.records };
      is_frozen = ap (λ (h : GatherState). h.frozen) froze.is;
      image_head = λ j. record {
        format = marked.format j;
        next = c.args.image_head.next;
        wear = marked.wear j;
        end = p;
        place = c.args.image_head.place;
      };
      tells = subst (λ es. TellsTransactions s.live es froze.records) marked.entries
          (subst (λ l. TellsTransactions l c.args.live.now.entries froze.records) marked.live
          froze.tells);
      copies = ap (λ (h : GatherState). gathered (caught_up h.parts h.effects)) froze.is ∙
          whole_along xs s.now p n c.args.gather.now before many;
    }
