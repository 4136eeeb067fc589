-- A catalog keeps the laws of its traits.
use Rattle.std.proofs.Common.{List, refl}
use Rattle.calls.specs.Contents.{Collection}
use Rattle.calls.proofs.ContentLaws.{catalog_commutes}
use Rattle.boosted.specs.Laws.{ContentLaws, BoostedLaws}
use Rattle.catalog.specs.Making.{MakingLaws}
use Rattle.catalog.specs.Meaning.{catalog_meaning, catalog_making}
use Rattle.catalog.specs.Laws.ByPlace.{answered_belongs, reads_leave, leaves_ready, wears}
use Rattle.catalog.specs.Laws.ByPlace.{taken_back}
use Rattle.catalog.specs.Laws.ByPlace.{taken_back_only, deferred_ready, deferred_stays}
use Rattle.catalog.specs.Laws.ByPlace.{stays_past_call, stays_past_later, stays_past_undoing}
use Rattle.catalog.specs.Laws.Makings.{names_kept, makes_one, makes_named, makes_before}
use Rattle.catalog.specs.Laws.Makings.{makes_after, makes_keep_belonging, makes_keep_deferred}
use Rattle.catalog.specs.Laws.Makings.{makes_keep_within}

catalog_content : (s : List Collection) → ContentLaws catalog_meaning s
catalog_content s = record {
  goes_back = λ t at c r ask d. (
    taken_back s t at c r ask d,
    λ u. taken_back_only s t u at c r ask d,
  );
  commutes = λ at bt a ra b rb ask also apart m t. catalog_commutes s m t at bt a ra b rb ask
      apart;
  moves_left = λ at bt a ra b rb ask late apart m t. catalog_commutes s m t at bt a ra b rb ask
      apart;
  reads_leave = λ at c r. reads_leave s at c r;
  answered_belongs = λ at c r. answered_belongs s at c r;
  wears = λ n at c r. wears s n at c r;
  deferred_is_ready = λ at d. deferred_ready s at d;
  deferred_stays_ready = λ at bt c r d. deferred_stays s at bt c r d;
  leaves_ready = λ at c r. leaves_ready s at c r;
  stays_past_calls = λ at bt c r d. stays_past_call s at bt c r d;
  stays_past_laters = λ at bt b d. stays_past_later s at bt b d;
  stays_past_undoing = λ u at bt c r d ask late apart. stays_past_undoing s u at bt c r d late
      apart;
}

pub catalog_laws : BoostedLaws catalog_meaning
catalog_laws = record { starts_within = tt; holds = catalog_content }

pub making_laws : MakingLaws catalog_meaning catalog_making
making_laws = record {
  begins_unnamed = refl;
  runs_keep_names = names_kept;
  makes_one = makes_one;
  makes_named = makes_named;
  makes_before_calls = makes_before;
  makes_after_calls = makes_after;
  makes_keep_belonging = makes_keep_belonging;
  makes_keep_deferred = makes_keep_deferred;
  makes_keep_within = makes_keep_within;
}
