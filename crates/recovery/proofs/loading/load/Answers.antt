use Rattle.std.proofs.Common.{◌≡◌, length, arith, sym, subst, ap, MatchOption, Option, Vec, ℕ, List}
use Rattle.std.proofs.Common.{◌+◌, ◌-◌, Some, ◌∙◌, refl}
use Rattle.std.proofs.lemmas.Option.{none-some}
use Rattle.std.proofs.lemmas.Result.{err_from_is_err_and}
use Rattle.std.specs.declared.alloc.Global.{Global}
use Rattle.disk_model.proofs.Walk.{reads_on}
use Rattle.gate_block.specs.Row.{Finds, StandsAt}
use Rattle.gate_block.specs.Area.{body_in, offset_of}
use Rattle.recovery.proofs.LoadLemmas.{loading_starts, gate_refused, body_refused, loads_on}
use Rattle.recovery.proofs.LoadLemmas.{end_refused, loads, ends_image, same_place}
use Rattle.recovery.proofs.loading.load.Goals as goal

stands_there : (found : Option (Vec ℕ Global)) (v : Vec ℕ Global) (body bytes : List ℕ) (p : ℕ) →
    found ≡ Some v → body ≡ v.items → Finds bytes p (body_in found) → StandsAt bytes p body
stands_there found v body bytes p is value finds =
    subst (λ b. StandsAt bytes p b) (sym value) (subst (λ o. Finds bytes p (body_in o)) is finds)

offset_there : (found : Option (Vec ℕ Global)) (v : Vec ℕ Global) (body : List ℕ) (was now : ℕ) →
    found ≡ Some v → body ≡ v.items →
    MatchOption found (now ≡ was) (λ body. now ≡ was + 5 + length body.items) →
    now ≡ was + 5 + length body
offset_there found v body was now is value moved =
    subst (λ o. MatchOption o (now ≡ was) (λ body. now ≡ was + 5 + length body.items)) is moved ∙
    ap (λ b. was + 5 + length b) (sym value)

pub returns-in-Err-clause-refused : goal.returns-in-Err-clause-refused
returns-in-Err-clause-refused g c =
    (gate_refused c.loop-body.invariant c.next_block.new.disk c.next_block.ensures.reads
    c.next_block.ensures.honest c.next_block.ensures.faults (Option (Vec ℕ Global)) _
    c.in-Err.refusal c.in-Err.ensures.answer)

pub returns-in_err-repetition-in-Ok-Some-clause-refused :
    goal.returns-in_err-repetition-in-Ok-Some-clause-refused
returns-in_err-repetition-in-Ok-Some-clause-refused g c =
    let p = err_from_is_err_and c.from_residual.result c.from_residual.ensures.1 in
    rw (p.1, p.2)
    (body_refused c.loop-body.invariant c.next_block.new.disk c.next_block.ensures.reads
    c.next_block.ensures.honest c.next_block.ensures.faults c.as_slice.result.now
    c.in_err-repetition-in-Ok-Some.field-0.0
    (λ true_read. stands_there c.in-Ok-Some.field-0 c.in-Ok-Some.body c.as_slice.result.now _ _
    c.in-Ok-Some.field-0-is c.as_slice.ensures.value (c.in-Ok-Some.ensures.found true_read))
    c.in_err-repetition-in-Ok-Some.ensures.err)

pub loop-body-init : goal.loop-body-init
loop-body-init g c =
    loading_starts g.D.Disk.seen g.D.Disk.may_leave g.D.Disk.moment g.D.Disk.left_since
    g.D.Disk.is_honest g.D.Disk.fault_count c.args.disk.now c.args.version c.args.base c.args.size
    c.start-area.result _ _ _
    (g.met.D.Disk.only_now c.args.disk.now) c.start-area.ensures.base c.start-area.ensures.size
    c.start-area.ensures.offset c.start-area.ensures.failed c.new-repetition.ensures.kind
    c.new-repetition.ensures.stage

pub loop-body-preserved : goal.loop-body-preserved
loop-body-preserved g c =
    loads_on c.loop-body.invariant c.next_block.new.disk c.next_block.ensures.reads
    c.next_block.ensures.honest c.next_block.ensures.faults c.next_block.new.self
    c.as_slice.result.now _ _ _ _ _
    (λ true_read. stands_there c.in-Ok-Some.field-0 c.in-Ok-Some.body c.as_slice.result.now _ _
    c.in-Ok-Some.field-0-is c.as_slice.ensures.value (c.in-Ok-Some.ensures.found true_read))
    c.next_block.ensures.base c.next_block.ensures.size c.in-Ok-Some.ensures.answer.1
    (offset_there c.in-Ok-Some.field-0 c.in-Ok-Some.body c.as_slice.result.now _ _
    c.in-Ok-Some.field-0-is c.as_slice.ensures.value c.in-Ok-Some.ensures.offset)
    (omega (arith, c.len.ensures, ap length c.as_slice.ensures.value))
    (let moved = offset_there c.in-Ok-Some.field-0 c.in-Ok-Some.body c.as_slice.result.now _ _
    c.in-Ok-Some.field-0-is c.as_slice.ensures.value c.in-Ok-Some.ensures.offset in
    let behind : c.loop-body.place + (5 + c.len.result) - c.args.base ≡
    offset_of c.next_block.new.self =
    omega (
      arith,
      moved,
      c.len.ensures,
      ap length c.as_slice.ensures.value,
      c.loop-body.invariant.place_is,
    ) in
    rw (c.image_behind-image.ensures, c.is_imaging-imaging.ensures, behind) refl)
    c.in_ok-repetition-in-Ok-Some.ensures.ok c.in_ok-repetition-in-Ok-Some.ensures.fit
    c.in_ok-repetition-in-Ok-Some.ensures.few

pub returns-in_err-repeated-clause-refused : goal.returns-in_err-repeated-clause-refused
returns-in_err-repeated-clause-refused g c =
    let p = err_from_is_err_and c.from_residual-in_err-repeated.result
    c.from_residual-in_err-repeated.ensures.1 in
    rw (p.1, p.2)
    (end_refused c.loop-body.invariant c.next_block.new.disk c.next_block.ensures.reads
    c.next_block.ensures.honest c.next_block.ensures.faults c.in-Ok-None.field-0
    c.in_err-repeated.field-0.0
    (λ v is. none-some v (sym c.in-Ok-None.field-0-is ∙ is)) c.in-Ok-None.ensures.found
    c.in_err-repeated.ensures.err)

pub returns-clause-loaded : goal.returns-clause-loaded
returns-clause-loaded g c =
    loads c.loop-body.invariant c.next_block.new.disk c.next_block.ensures.reads
    c.next_block.ensures.honest c.next_block.ensures.faults c.next_block.new.self
    c.in-Ok-None.field-0
    (λ v is. none-some v (sym c.in-Ok-None.field-0-is ∙ is)) c.in-Ok-None.ensures.found
    c.requires.disk (omega (
      arith,
      c.next_block.new.self.inside,
      c.next_block.ensures.size,
      c.loop-body.invariant.size_is,
    )) c.in-Ok-None.ensures.offset _ _ _
    c.in_ok-repeated.ensures.ok

pub returns-clause-image : goal.returns-clause-image
returns-clause-image g c =
    ends_image c.loop-body.invariant c.next_block.new.disk c.next_block.ensures.reads
    c.next_block.ensures.honest c.next_block.ensures.faults c.next_block.new.self
    c.in-Ok-None.field-0
    (λ v is. none-some v (sym c.in-Ok-None.field-0-is ∙ is)) c.in-Ok-None.ensures.found
    c.requires.disk (omega (
      arith,
      c.next_block.new.self.inside,
      c.next_block.ensures.size,
      c.loop-body.invariant.size_is,
    )) c.in-Ok-None.ensures.offset _ _ _
    c.in_ok-repeated.ensures.ok

pub returns-clause-inside : goal.returns-clause-inside
returns-clause-inside g c =
    omega (
      arith,
      c.loop-body.invariant.inside,
      same_place c.in-Ok-None.field-0 _ _
          (λ v is. none-some v (sym c.in-Ok-None.field-0-is ∙ is)) c.in-Ok-None.ensures.offset,
    )

pub next_block-requires : goal.next_block-requires
next_block-requires g c =
    let was = c.loop-body.invariant in rw (was.base_is, was.size_is, was.reads.same) c.requires.disk

pub overflow_add-place-in-Ok-Some : goal.overflow_add-place-in-Ok-Some
overflow_add-place-in-Ok-Some g c =
    let was = c.loop-body.invariant in
    let moved = offset_there c.in-Ok-Some.field-0 c.in-Ok-Some.body c.as_slice.result.now _ _
    c.in-Ok-Some.field-0-is c.as_slice.ensures.value c.in-Ok-Some.ensures.offset in
    omega (
      arith,
      moved,
      c.len.ensures,
      ap length c.as_slice.ensures.value,
      c.next_block.new.self.inside,
      c.next_block.ensures.size,
      was.size_is,
      was.place_is,
      c.requires.fits,
    )

pub loop-body-smaller : goal.loop-body-smaller
loop-body-smaller g c =
    let moved = offset_there c.in-Ok-Some.field-0 c.in-Ok-Some.body c.as_slice.result.now _ _
    c.in-Ok-Some.field-0-is c.as_slice.ensures.value c.in-Ok-Some.ensures.offset in
    omega (
      arith,
      moved,
      c.next_block.new.self.inside,
      c.next_block.ensures.size,
      c.loop-body.invariant.size_is,
    )

pub returns-in-Err-clause-reads : goal.returns-in-Err-clause-reads
returns-in-Err-clause-reads g c =
    reads_on g.D.Disk.seen g.D.Disk.may_leave g.D.Disk.moment g.D.Disk.left_since c.args.disk.now
    _ _ c.loop-body.invariant.reads c.next_block.ensures.reads

pub returns-in_err-repetition-in-Ok-Some-clause-reads :
    goal.returns-in_err-repetition-in-Ok-Some-clause-reads
returns-in_err-repetition-in-Ok-Some-clause-reads g c =
    reads_on g.D.Disk.seen g.D.Disk.may_leave g.D.Disk.moment g.D.Disk.left_since c.args.disk.now
    _ _ c.loop-body.invariant.reads c.next_block.ensures.reads

pub returns-in_err-repeated-clause-reads : goal.returns-in_err-repeated-clause-reads
returns-in_err-repeated-clause-reads g c =
    reads_on g.D.Disk.seen g.D.Disk.may_leave g.D.Disk.moment g.D.Disk.left_since c.args.disk.now
    _ _ c.loop-body.invariant.reads c.next_block.ensures.reads

pub returns-clause-reads : goal.returns-clause-reads
returns-clause-reads g c =
    reads_on g.D.Disk.seen g.D.Disk.may_leave g.D.Disk.moment g.D.Disk.left_since c.args.disk.now
    _ _ c.loop-body.invariant.reads c.next_block.ensures.reads
