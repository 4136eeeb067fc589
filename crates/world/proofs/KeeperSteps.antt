-- Steps of the keeper: the past of the world goes on, at each moment of them.
use Rattle.std.proofs.Common.{◌≡◌, ℕ, ◌+◌, ◌≤◌, Bool}
use Rattle.std.proofs.Common.{None, Result, Ok, Err, List, [], ◌∷◌, ◌++◌, take, refl}
use Rattle.std.proofs.Common.{sym}
use Rattle.std.proofs.Common.{◌∙◌, ap, subst, arith, append_assoc}
use mathlib.Core.List.{IsPrefix}
use Rattle.calls.specs.Contents.{Collection}
use Rattle.calls.specs.declared.refusal.Refusal.{Refusal}
use Rattle.disk_model.specs.Disk.{LeavesOnly}
use Rattle.disk_model.specs.declared.disk.Disk.{Ghosts}
use Rattle.records.specs.declared.block.Block.{Block}
use Rattle.records.specs.Carried.{Carries}
use Rattle.steps.specs.Machine.{journalled}
use Rattle.replay.specs.Journals.{records_in}
use Rattle.txn.specs.Handing.{HasHanded}
use Rattle.txn.specs.Histories.{records_by}
use Rattle.checkpoint.specs.declared.turn.Turn.{Turn}
use Rattle.checkpoint.specs.Crash.{Yields}
use Rattle.checkpoint.specs.Keepers.{KeeperState}
use Rattle.checkpoint.specs.Keeping.{Uncrossed, TurnKeeps, ImageKeeps}
use Rattle.records.proofs.Carrying.{joined-append, carries_parts}
use Rattle.checkpoint.proofs.GroupLemmas.{uncrossed_front}
use Rattle.world.specs.declared.step.Step.{Step}
use Rattle.world.specs.declared.step.Answer.{Answer}
use Rattle.world.specs.Pasts.{Past, action_of, committed_in, told, outcome}
use Rattle.engine.specs.Marks.{mark_behind}
use Rattle.engine.specs.Marks.{mark_flipped}
use Rattle.world.specs.Worlds.{Parts, HasPast}
use Rattle.world.proofs.PastLemmas.{are_still, greatest_told-push}
use Rattle.world.proofs.StepLemmas.{moments_then}
use Rattle.engine.proofs.KeeperLemmas.{none_crossed}
use Rattle.catalog.specs.Meaning.{catalog_meaning, catalog_making}

-- ---- what is told

turn_told : (m : ℕ) (r : Result Turn Refusal) →
    told Step.Turn (outcome Answer.Turned r) ≤ mark_behind m r
turn_told m (Ok Turn.Idle) = omega arith
turn_told m (Ok (Turn.Kept place)) = omega arith
turn_told m (Ok Turn.Held) = omega arith
turn_told m (Err e) = omega arith

pub flip_told : (m : ℕ) (r : Result ℕ Refusal) →
    told Step.Flip (outcome Answer.Flipped r) ≤ mark_flipped m r
flip_told m (Ok place) = omega arith
flip_told m (Err e) = omega arith

pub piece_told : (r : Result Bool Refusal) → told Step.Piece (outcome Answer.Laid r) ≡ 0
piece_told (Ok more) = refl
piece_told (Err e) = refl

-- ---- and so the past goes on

module _ {D : Type 0} (g : Ghosts D) (start : List Collection) (past : Past) (w : Parts D)
    (had : HasPast g.seen g.may_leave start past w) where
  -- whatever a stop at any moment might have left is what the past yields that goes on so
  abbrev pub Yielded : Step × Answer → KeeperState D → Type 0
  Yielded x l = LeavesOnly g.moment g.left_since w.keeper.disk l.disk
      (Yields start (committed_in (past ++ x ∷ [])) (take w.mark (committed_in past)))

  -- blocks that are still in transit
  pub turned : (l : KeeperState D) (waits bs : List Block) (mark : ℕ) (r : Result Turn Refusal) →
      w.transit ≡ bs ++ waits → TurnKeeps g (λ cs. w.transit ≡ cs ++ waits) w.keeper l →
      mark ≡ l.mark → w.mark ≤ mark → mark_behind w.mark r ≡ mark →
      HasPast g.seen g.may_leave start (past ++ (Step.Turn, outcome Answer.Turned r) ∷ [])
      (record w { keeper = l; transit = waits; mark = mark })
      × Yielded (Step.Turn, outcome Answer.Turned r) l
  turned l waits bs mark r received turns same rises behind =
      let x : Step × Answer = (Step.Turn, outcome Answer.Turned r) in
      let all : had.received ++ w.transit ≡ (had.received ++ bs) ++ waits =
      ap (λ l. had.received ++ l) received ∙ sym (append_assoc had.received bs waits) in
      let parts = carries_parts 0 0 (had.received ++ bs) waits had.groups
      (subst (λ l. Carries 0 0 l had.groups) all had.handed.carried) in
      let first = parts.0 in
      let more = parts.1 in
      let begins : IsPrefix (records_in first) (records_by had.steps) = (
        records_in more ++ w.book.pending,
        sym (append_assoc (records_in first) (records_in more) w.book.pending) ∙
            ap (λ l. l ++ w.book.pending)
            (sym (ap records_in parts.2 ∙ joined-append first more)) ∙ sym had.handed.records,
      ) in
      let on = turns had.format start had.wear (records_by had.steps) (journalled w.book.state)
      had.freezes had.begun had.received bs first received parts.3 begins
      (uncrossed_front had.freezes first more
      (subst (Uncrossed had.freezes) parts.2
      (none_crossed had.groups w.book had.handed.end had.freezes had.handed.between))) had.keeps in
      let told = turn_told w.mark r in (
        record {
          format = had.format;
          wear = had.wear;
          steps = had.steps;
          are = are_still past x had.steps had.are refl;
          received = had.received ++ bs;
          groups = had.groups;
          freezes = had.freezes;
          images = had.images;
          handed = subst (λ l. HasHanded catalog_meaning catalog_making (λ v. v) had.format start
              had.wear
              had.steps w.book l had.groups had.freezes had.images) all had.handed;
          begun = had.begun;
          are_begun = had.are_begun;
          keeps = on.0;
          packs = had.packs;
          marked = same;
          told = greatest_told-push past Step.Turn (outcome Answer.Turned r) mark
              (omega (arith, had.told, rises)) (omega (arith, told, behind));
        },
        moments_then g.seen g.may_leave start past w had g.moment g.left_since l.disk x on.1,
      )

  -- a piece of an image, or a flip
  pub imaged : (x : Step × Answer) (l : KeeperState D) (mark : ℕ) → action_of x.0 x.1 ≡ None →
      ImageKeeps g w.keeper l → mark ≡ l.mark → w.mark ≤ mark → told x.0 x.1 ≤ mark →
      HasPast g.seen g.may_leave start (past ++ x ∷ []) (record w { keeper = l; mark = mark })
      × Yielded x l
  imaged x l mark none images same rises tells =
      let on = images had.format start had.wear (records_by had.steps) (journalled w.book.state)
      had.freezes had.begun had.received had.keeps in (
        record {
          format = had.format;
          wear = had.wear;
          steps = had.steps;
          are = are_still past x had.steps had.are none;
          received = had.received;
          groups = had.groups;
          freezes = had.freezes;
          images = had.images;
          handed = had.handed;
          begun = had.begun;
          are_begun = had.are_begun;
          keeps = on.0;
          packs = had.packs;
          marked = same;
          told = greatest_told-push past x.0 x.1 mark (omega (arith, had.told, rises)) tells;
        },
        moments_then g.seen g.may_leave start past w had g.moment g.left_since l.disk x on.1,
      )
