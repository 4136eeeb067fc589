use Rattle.std.proofs.Common.{◌^◌, ◌-◌, min, refl, ap, ◌∙◌, arith, rules}
use Rattle.replay.specs.Undoing.{blocks_len}
use Rattle.recovery.proofs.finding.Found.survey.Goals as goal

pub returns-clause-survey : goal.returns-clause-survey
returns-clause-survey c = record {
  format = c.format.ensures;
  area_is = c.size-size.ensures;
  first = search rules;
  used = omega (arith, c.size-size.ensures, c.room.ensures);
  image_is = refl;
  journal = omega (arith, c.size-size.ensures, c.room.ensures, c.args.self.now.inside);
  checkpoint = record {
    blocks = c.in_ok-checkpoint.checkpoint.blocks.items;
    packed = c.in_ok-checkpoint.ensures.image;
    len_is = c.image_len.ensures;
  };
  undoing_is = c.blocks_len.ensures ∙ ap (λ n. min (blocks_len n) (2 ^ 64 - 1))
      (c.len.ensures ∙ c.args.self.now.records.ok.0);
  next_is = refl;
  wear = c.wear.ensures;
  report_is = refl;
}
