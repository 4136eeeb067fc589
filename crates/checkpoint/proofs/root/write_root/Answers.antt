use Rattle.std.proofs.lemmas.Result.{on_ok_weaker}
use Rattle.checkpoint.proofs.Flipping.{root_picks, root_plain}
use Rattle.checkpoint.proofs.root.write_root.Goals as goal

pub returns-clause-picks : goal.returns-clause-picks
returns-clause-picks g c =
    on_ok_weaker c.write_and_sync.result
    (λ written size place. root_picks c.args.base c.root_byte.result size _ _ c.requires written
    c.root_byte.ensures.first c.root_byte.ensures.second place)
    c.write_and_sync.ensures.written

pub returns-clause-plain : goal.returns-clause-plain
returns-clause-plain g c =
    on_ok_weaker c.write_and_sync.result
    (λ written. root_plain c.args.base c.root_byte.result _ _ c.requires written
    c.root_byte.ensures.first c.root_byte.ensures.second)
    c.write_and_sync.ensures.written
