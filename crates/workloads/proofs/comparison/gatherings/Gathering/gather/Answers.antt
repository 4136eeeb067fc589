use Rattle.std.proofs.Common.{◌≡◌, Some, length, slice_get, sym, subst}
use Rattle.std.specs.Option.{option_map}
use Rattle.calls.specs.Contents.{Collection}
use Rattle.images.specs.Gathers.{GatherState, with_gathered}
use Rattle.workloads.specs.Gatherings.{Goes}
use Rattle.workloads.proofs.Going.{goes_gathered, either_way, shown}
use Rattle.workloads.proofs.comparison.gatherings.Gathering.gather.Goals as goal

pub returns : goal.returns
returns c =
    let s = c.args.self.now in
    let left = c.gather.new.effects.items in
    let next = option_map (λ (x : Collection). x) c.args.part in
    let now = with_gathered s.gather 1 next s.lsn s.effects.items in
    either_way c.gather.result _ _ _ _ (Goes s.catalog c.gather.new.self left s.lsn)
    c.gather.ensures.ok c.gather.ensures.taken c.gather.ensures.err c.gather.ensures.kept
    (λ gathered none. subst (λ (g : GatherState). Goes s.catalog g left s.lsn)
    (sym gathered)
    (subst (λ l. Goes s.catalog now l s.lsn) (sym none)
    (goes_gathered s.catalog s.gather s.effects.items s.lsn c.requires.going 1 next
    (shown (λ x. slice_get s.catalog (length s.gather.parts) ≡ Some x) c.args.part
    c.requires.next))))
    (λ same kept. subst (λ (g : GatherState). Goes s.catalog g left s.lsn) (sym same)
    (subst (λ l. Goes s.catalog s.gather l s.lsn) (sym kept) c.requires.going))
