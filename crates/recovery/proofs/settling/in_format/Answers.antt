use Rattle.recovery.proofs.CopyLemmas.{all_later}
use Rattle.recovery.proofs.settling.in_format.Goals as goal

pub new-requires-clause-short : goal.new-requires-clause-short
new-requires-clause-short c =
    all_later c.args.machine.format c.args.format c.requires.later c.into_parts.result
    c.into_parts.ensures.short
