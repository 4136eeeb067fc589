use Rattle.std.proofs.Common.{◌∙◌, length, arith, ap, subst, sym}
use Rattle.std.proofs.lemmas.Result.{err_from_is_err_and}
use Rattle.gate_block.specs.Area.{size_of, offset_of}
use Rattle.disk_model.specs.Disk.{Rises}
use Rattle.recovery.specs.Openings.{IsLoadRefusal}
use Rattle.replay.specs.Journals.{IsHeader}
use Rattle.recovery.specs.Loading.{IsLoaded, StartsWithImage}
use Rattle.replay.proofs.Walks.{rises_before}
use Rattle.recovery.proofs.LoadLemmas.{Spoils}
use Rattle.recovery.proofs.FindLemmas.{head_find_refusal, load_find_refusal, stored_there}
use Rattle.recovery.proofs.FindLemmas.{not_starved, one_of_two}
use Rattle.disk_model.proofs.Walk.{reads_on}
use Rattle.recovery.proofs.finding.find.Goals as goal

pub returns-in_err-base-clause-refused : goal.returns-in_err-base-clause-refused
returns-in_err-base-clause-refused g c =
    let p = err_from_is_err_and c.from_residual.result c.from_residual.ensures.1 in
    rw (p.1, p.2)
    (head_find_refusal _ _ _ c.in_err-base.field-0.0 c.in_err-base.ensures.refused)

pub returns-in_err-repeated-clause-refused : goal.returns-in_err-repeated-clause-refused
returns-in_err-repeated-clause-refused g c =
    let p = err_from_is_err_and c.from_residual-in_err-repeated.result
    c.from_residual-in_err-repeated.ensures.1 in
    rw (p.1, p.2)
    (load_find_refusal _ _ _ (g.D.Disk.is_honest c.load.new.disk) (g.D.Disk.seen c.args.disk.now)
    c.in_ok-base.version c.in_ok-base.size c.in_ok-base.base c.in_err-repeated.field-0.0
    (rises_before _ _ _ c.area_in_use.ensures.faults c.load.ensures.faults)
    (λ true_read. c.in_ok-base.ensures.header (c.load.ensures.honest true_read))
    (subst (λ b. IsLoadRefusal (Rises (g.D.Disk.fault_count c.area_in_use.new.disk)
    (g.D.Disk.fault_count c.load.new.disk))
    (Spoils (g.D.Disk.is_honest c.load.new.disk) c.in_ok-base.version c.in_ok-base.base
    c.in_ok-base.size b)
    c.in_err-repeated.field-0.0)
    c.area_in_use.ensures.reads.same c.in_err-repeated.ensures.refused))

pub returns-clause-found : goal.returns-clause-found
returns-clause-found g c =
    let found = c.in_ok-repeated.field-0 in
    let area = c.in_ok-repeated.ensures.area in
    let old = g.D.Disk.seen c.args.disk.now in
    let base = c.in_ok-base.base in
    let size = c.in_ok-base.size in
    let version = c.in_ok-base.version in
    record {
      state = found.repeated.machine;
      undo = c.in_ok-records.ensures.undo;
      marks = c.in_ok-records.ensures.records;
      stored = λ true_read.
          let header = c.in_ok-base.ensures.header (c.load.ensures.honest true_read) in
          stored_there old found.area version base size found.repeated.machine found.repeated.next
          found.repeated.count header.0 header.1 area.0 area.1
          (subst (λ b. IsLoaded version base size b found.repeated.machine found.repeated.next
          found.repeated.count (offset_of found.area)) c.area_in_use.ensures.reads.same
          (c.in_ok-repeated.ensures.loaded true_read));
      placed = record {
        fine = area.2;
        one = one_of_two found.area base size (length old) area.0 area.1 c.in_ok-base.ensures.one.0
            c.in_ok-base.ensures.one.1;
        small = omega (arith, area.1, c.in_ok-base.ensures.inside.1);
        behind = omega (arith, area.1, c.in_ok-repeated.ensures.place, found.area.inside);
      };
      collections = c.len.ensures.len ∙ ap length c.parts.ensures;
      unfinished = c.count_live.ensures;
    }

pub returns-clause-image : goal.returns-clause-image
returns-clause-image g c = λ true_read.
    let found = c.in_ok-repeated.field-0 in
    let area = c.in_ok-repeated.ensures.area in
    let old = g.D.Disk.seen c.args.disk.now in
    let version = c.in_ok-base.version in
    let header = c.in_ok-base.ensures.header (c.load.ensures.honest true_read) in record {
      version = version;
      header = subst (λ n. IsHeader version n old) (sym area.1) header.0;
      starts = subst (λ b. StartsWithImage version b (size_of found.area) old found.image)
          (sym area.0) (subst (λ n. StartsWithImage version c.in_ok-base.base n old found.image)
          (sym area.1)
          (subst (λ b. StartsWithImage version c.in_ok-base.base c.in_ok-base.size b found.image)
          c.area_in_use.ensures.reads.same (c.in_ok-repeated.ensures.image true_read)));
    }

pub load-requires : goal.load-requires
load-requires g c =
    let inside = c.in_ok-base.ensures.inside in record {
      room = inside.0;
      fits = inside.2;
      disk = rw c.area_in_use.ensures.reads.same inside.3;
    }

pub overflow_add-result : goal.overflow_add-result
overflow_add-result g c = omega (arith, c.in_ok-base.ensures.inside.2)

pub overflow_sub-result : goal.overflow_sub-result
overflow_sub-result g c =
    let repeated = c.in_ok-repeated.ensures in
    omega (arith, repeated.area.1, repeated.place, c.in_ok-repeated.field-0.area.inside)

pub returns-in_err-records-clause-refused : goal.returns-in_err-records-clause-refused
returns-in_err-records-clause-refused g c =
    let p = err_from_is_err_and c.from_residual-in_err-records.result
    c.from_residual-in_err-records.ensures.1 in
    rw (p.1, p.2, c.in_err-records.ensures.refusal) tt

pub returns-in_err-records-clause-reads : goal.returns-in_err-records-clause-reads
returns-in_err-records-clause-reads g c =
    reads_on g.D.Disk.seen g.D.Disk.may_leave g.D.Disk.moment g.D.Disk.left_since _ _ _
    c.area_in_use.ensures.reads c.load.ensures.reads

pub returns-clause-reads : goal.returns-clause-reads
returns-clause-reads g c =
    reads_on g.D.Disk.seen g.D.Disk.may_leave g.D.Disk.moment g.D.Disk.left_since _ _ _
    c.area_in_use.ensures.reads c.load.ensures.reads

pub returns-in_err-base-clause-starved : goal.returns-in_err-base-clause-starved
returns-in_err-base-clause-starved g c =
    let p = err_from_is_err_and c.from_residual.result c.from_residual.ensures.1 in
    rw (p.1, p.2) (λ starved true_read. absurd
    (not_starved _ _ c.in_err-base.field-0.0 c.in_err-base.ensures.refused starved))

pub returns-in_err-repeated-clause-starved : goal.returns-in_err-repeated-clause-starved
returns-in_err-repeated-clause-starved g c =
    let p = err_from_is_err_and c.from_residual-in_err-repeated.result
    c.from_residual-in_err-repeated.ensures.1 in
    rw p.1 (λ starved true_read. (
      c.in_ok-base.version,
      c.in_ok-base.size,
      (c.in_ok-base.ensures.header (c.load.ensures.honest true_read)).0,
    ))

pub returns-in_err-records-clause-starved : goal.returns-in_err-records-clause-starved
returns-in_err-records-clause-starved g c =
    let p = err_from_is_err_and c.from_residual-in_err-records.result
    c.from_residual-in_err-records.ensures.1 in
    rw p.1 (λ starved true_read. (
      c.in_ok-base.version,
      c.in_ok-base.size,
      (c.in_ok-base.ensures.header (c.load.ensures.honest true_read)).0,
    ))
