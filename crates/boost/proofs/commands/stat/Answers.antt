use Rattle.boost.proofs.EffectLemmas.{done_of}
use Rattle.boost.proofs.commands.stat.Goals as goal

pub returns-in-Ok-survey-clause-done : goal.returns-in-Ok-survey-clause-done
returns-in-Ok-survey-clause-done g c =
    done_of c.tell_survey.result
    (record {
      seen = record {
        area = c.in-Ok.found.area;
        room = c.in-Ok.found.room;
        undone = c.in-Ok.found.machine;
        next = c.in-Ok.found.next;
        undoing = c.in-Ok.found.records.items;
        report = c.in-Ok.found.report;
        found = c.in-Ok.ensures.found;
      };
      image = c.in-Ok.found.image;
      holds = c.in-Ok.ensures.image;
      survey = c.in-Ok-survey.survey;
      is_survey = c.in-Ok-survey.ensures.survey;
    })
