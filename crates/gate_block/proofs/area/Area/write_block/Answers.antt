use Rattle.std.proofs.Common.{◌+◌, ◌-◌, [], length, take, subst, inl, drop, List, ℕ, Result, Ok}
use Rattle.std.proofs.Common.{Err, OnOk}
use Rattle.std.proofs.lemmas.List.{take_rest}
use Rattle.std.proofs.lemmas.Result.{on_ok_weaker}
use Rattle.disk_model.specs.Disk.{Torn}
use Rattle.disk_model.proofs.Walk.{weaker, and_then}
use Rattle.gate_block.specs.Area.{LeavesBlocks, LeavesElsewhere}
use Rattle.gate_block.proofs.Parts.{outside_twice}
use Rattle.gate_block.proofs.Append.{first_outside, second_outside, first_leaves, second_leaves}
use Rattle.gate_block.proofs.Append.{second_holds}
use Rattle.gate_block.proofs.area.Area.write_block.Goals as goal

abbrev behind_gate : List ℕ → List ℕ
behind_gate block = take (length block - 1) (drop 1 block)

pub returns-in_err-write_and_sync-clause-elsewhere :
    goal.returns-in_err-write_and_sync-clause-elsewhere
returns-in_err-write_and_sync-clause-elsewhere g c =
    let a = c.args.self.now in
    let block = c.args.block.now in
    let s = g.D.Disk.seen c.args.disk.now in
    first_outside a.base a.size a.offset [] c.requires.block.0 block (behind_gate block) s
    c.requires.block.1 (take_rest block 1) c.requires.room c.requires.disk s _
    c.write_and_sync.ensures.seen

pub returns-in_err-write_and_sync-clause-any_moment :
    goal.returns-in_err-write_and_sync-clause-any_moment
returns-in_err-write_and_sync-clause-any_moment g c = λ bodies body is ready.
    let a = c.args.self.now in
    let block = c.args.block.now in
    let disk = c.args.disk.now in
    let s = g.D.Disk.seen disk in
    weaker g.D.Disk.moment g.D.Disk.left_since disk c.write_and_sync.new.disk _
    (LeavesBlocks (g.D.Disk.may_leave disk) a bodies body) c.write_and_sync.ensures.any_moment
    (λ d torn. record {
      blocks = inl (first_leaves a.base a.size a.offset bodies body block (behind_gate block) s is
          (take_rest block 1) c.requires.room c.requires.disk ready.holds ready.offset torn.0 d
          (ready.at_rest torn.0 torn.1) torn.2);
      elsewhere = (
        torn.0,
        torn.1,
        first_outside a.base a.size a.offset bodies body block
            (behind_gate block) s is (take_rest block 1) c.requires.room c.requires.disk torn.0 d
            torn.2,
      );
    })

pub returns-in_err-write_and_sync-clause-any_moment_elsewhere :
    goal.returns-in_err-write_and_sync-clause-any_moment_elsewhere
returns-in_err-write_and_sync-clause-any_moment_elsewhere g c =
    let a = c.args.self.now in
    let block = c.args.block.now in
    let disk = c.args.disk.now in
    let s = g.D.Disk.seen disk in
    weaker g.D.Disk.moment g.D.Disk.left_since disk c.write_and_sync.new.disk _
    (LeavesElsewhere (g.D.Disk.may_leave disk) a) c.write_and_sync.ensures.any_moment
    (λ d torn. (
      torn.0,
      torn.1,
      first_outside a.base a.size a.offset [] c.requires.block.0 block
          (behind_gate block) s c.requires.block.1 (take_rest block 1) c.requires.room
          c.requires.disk
          torn.0 d torn.2,
    ))

pub returns-clause-any_moment_elsewhere : goal.returns-clause-any_moment_elsewhere
returns-clause-any_moment_elsewhere g c =
    let a = c.args.self.now in
    let block = c.args.block.now in
    let disk = c.args.disk.now in
    let mid = c.write_and_sync.new.disk in
    let s = g.D.Disk.seen disk in
    let body = c.requires.block.0 in
    let is = c.requires.block.1 in
    let P = LeavesElsewhere (g.D.Disk.may_leave disk) a in
    let first = weaker g.D.Disk.moment g.D.Disk.left_since disk mid _ P
    c.write_and_sync.ensures.any_moment
    (λ d torn. (
      torn.0,
      torn.1,
      first_outside a.base a.size a.offset [] body block
          (behind_gate block) s is (take_rest block 1) c.requires.room c.requires.disk torn.0 d
          torn.2,
    )) in
    and_then g.D.Disk.moment g.D.Disk.left_since disk mid c.write_and_sync-2.new.disk P _ first
    c.write_and_sync-2.ensures.any_moment
    (λ d torn.
    let from_mid : Torn (a.base + a.offset) 1 (g.D.Disk.seen mid) d =
    subst (λ (l : List ℕ). Torn (a.base + a.offset) 1 l d)
    (c.in_ok-write_and_sync.ensures.durable torn.0 torn.1) torn.2 in (
      s,
      g.met.D.Disk.seen_may_stay disk,
      outside_twice a.base a.size s (g.D.Disk.seen mid) d
          (first_outside a.base a.size a.offset [] body block (behind_gate block) s is
          (take_rest block 1) c.requires.room c.requires.disk s _ c.write_and_sync.ensures.seen)
          (second_outside a.base a.size a.offset [] body block (behind_gate block) s is
          (take_rest block 1) c.requires.room c.requires.disk (g.D.Disk.seen mid) d from_mid),
    ))

pub returns-clause-elsewhere : goal.returns-clause-elsewhere
returns-clause-elsewhere g c =
    let a = c.args.self.now in
    let block = c.args.block.now in
    let s = g.D.Disk.seen c.args.disk.now in
    let mid = g.D.Disk.seen c.write_and_sync.new.disk in
    let body = c.requires.block.0 in
    outside_twice a.base a.size s mid _
    (first_outside a.base a.size a.offset [] body block (behind_gate block) s
    c.requires.block.1 (take_rest block 1) c.requires.room c.requires.disk s _
    c.write_and_sync.ensures.seen)
    (second_outside a.base a.size a.offset [] body block (behind_gate block) s c.requires.block.1
    (take_rest block 1) c.requires.room c.requires.disk mid _ c.write_and_sync-2.ensures.seen)

pub returns-clause-any_moment : goal.returns-clause-any_moment
returns-clause-any_moment g c = λ bodies body is ready.
    let a = c.args.self.now in
    let block = c.args.block.now in
    let disk = c.args.disk.now in
    let mid = c.write_and_sync.new.disk in
    let s = g.D.Disk.seen disk in
    let P = LeavesBlocks (g.D.Disk.may_leave disk) a bodies body in
    let first = weaker g.D.Disk.moment g.D.Disk.left_since disk mid _ P
    c.write_and_sync.ensures.any_moment
    (λ d torn. record {
      blocks = inl (first_leaves a.base a.size a.offset bodies body block (behind_gate block) s is
          (take_rest block 1) c.requires.room c.requires.disk ready.holds ready.offset torn.0 d
          (ready.at_rest torn.0 torn.1) torn.2);
      elsewhere = (
        torn.0,
        torn.1,
        first_outside a.base a.size a.offset bodies body block
            (behind_gate block) s is (take_rest block 1) c.requires.room c.requires.disk torn.0 d
            torn.2,
      );
    }) in
    and_then g.D.Disk.moment g.D.Disk.left_since disk mid c.write_and_sync-2.new.disk P _ first
    c.write_and_sync-2.ensures.any_moment
    (λ d torn.
    let from_mid : Torn (a.base + a.offset) 1 (g.D.Disk.seen mid) d =
    subst (λ (l : List ℕ). Torn (a.base + a.offset) 1 l d)
    (c.in_ok-write_and_sync.ensures.durable torn.0 torn.1) torn.2 in
    record {
      blocks = second_leaves a.base a.size a.offset bodies body block (behind_gate block) s is
          (take_rest block 1) c.requires.room c.requires.disk ready.holds ready.offset
          (g.D.Disk.seen mid) c.in_ok-write_and_sync.ensures.written c.write_and_sync.ensures.seen d
          from_mid;
      elsewhere = (
        s,
        g.met.D.Disk.seen_may_stay disk,
        outside_twice a.base a.size s (g.D.Disk.seen mid) d
            (first_outside a.base a.size a.offset bodies body block (behind_gate block) s is
            (take_rest block 1) c.requires.room c.requires.disk s _
            c.write_and_sync.ensures.seen)
            (second_outside a.base a.size a.offset bodies body block (behind_gate block) s is
            (take_rest block 1) c.requires.room c.requires.disk (g.D.Disk.seen mid) d from_mid),
      );
    })

both_ok : {T E : Type 0} (P Q : Type 0) (r : Result T E) → OnOk r P → OnOk r Q → OnOk r (P × Q)
both_ok P Q (Ok x) p q = (p, q)
both_ok P Q (Err e) p q = tt

pub returns-clause-kept : goal.returns-clause-kept
returns-clause-kept g c = λ bodies body is ready.
    let a = c.args.self.now in
    let block = c.args.block.now in
    let s = g.D.Disk.seen c.args.disk.now in
    let mid = g.D.Disk.seen c.write_and_sync.new.disk in
    on_ok_weaker c.write_and_sync-2.result
    (λ done. record {
      holds = second_holds a.base a.size a.offset bodies body block (behind_gate block) s is
          (take_rest block 1) c.requires.room c.requires.disk ready.holds ready.offset mid
          c.in_ok-write_and_sync.ensures.written c.write_and_sync.ensures.seen _
          c.write_and_sync-2.ensures.seen done.0;
      at_rest = done.1;
    })
    (both_ok _ _ c.write_and_sync-2.result c.write_and_sync-2.ensures.written
    c.write_and_sync-2.ensures.durable)

pub returns-clause-counts : goal.returns-clause-counts
returns-clause-counts g c = λ bodies body is holds here.
    let a = c.args.self.now in
    let block = c.args.block.now in
    let s = g.D.Disk.seen c.args.disk.now in
    let mid = g.D.Disk.seen c.write_and_sync.new.disk in
    on_ok_weaker c.write_and_sync-2.result
    (second_holds a.base a.size a.offset bodies body block (behind_gate block) s is
    (take_rest block 1) c.requires.room c.requires.disk holds here mid
    c.in_ok-write_and_sync.ensures.written c.write_and_sync.ensures.seen _
    c.write_and_sync-2.ensures.seen)
    c.write_and_sync-2.ensures.written
