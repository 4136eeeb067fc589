use Rattle.std.proofs.Common.{Some, sym, ◌∙◌, subst, refl, true≢false}
use Rattle.std.proofs.lemmas.Result.{err_from_is_err_and}
use Rattle.catalog.specs.Making.{names_of, IsNew}
use Rattle.records.specs.declared.record.Record.{Record}
use Rattle.replay.specs.declared.stage.Stage.{Stage}
use Rattle.replay.specs.Reading.{InCollections}
use Rattle.replay.specs.Repetitions.{Takes, progress_of}
use Rattle.replay.proofs.RepeatLemmas.{damage_weaker}
use Rattle.replay.proofs.ReadLemmas.{name_takes, name_stuck, unclosed_name}
use Rattle.replay.proofs.stage.Collections.name.Goals as goal

pub returns-in_err-loader-clause-err : goal.returns-in_err-loader-clause-err
returns-in_err-loader-clause-err c =
    let p = err_from_is_err_and c.from_residual.result c.from_residual.ensures.1 in
    rw (p.1, p.2)
    (damage_weaker c.args.place c.in_err-loader.field-0.0 _ _
    (λ open_still n. unclosed_name n c.args.self.loader _ open_still c.args.kind c.args.name)
    c.in_err-loader.ensures.err)

pub returns-then-not-is_new-clause-err : goal.returns-then-not-is_new-clause-err
returns-then-not-is_new-clause-err c = (
  refl,
  λ n. name_stuck n c.args.self.loader _ c.args.kind c.args.name c.in_ok-loader.loader
      c.in_ok-loader.ensures.ok
      (λ new. true≢false (sym (c.is_new.ensures.1
      (subst (λ l. IsNew (names_of l) c.as_str.result.now) (sym c.parts.ensures)
      (subst (IsNew (names_of c.in_ok-loader.loader.now)) (sym c.as_str.ensures) new))) ∙
      c.if-not-is_new.true)),
)

pub returns-clause-ok : goal.returns-clause-ok
returns-clause-ok c = λ n.
    let loader = c.in_ok-loader.loader in
    let new : IsNew (names_of loader.now) c.args.name =
    subst (IsNew (names_of loader.now)) c.as_str.ensures
    (subst (λ l. IsNew (names_of l) c.as_str.result.now) c.parts.ensures
    (c.is_new.ensures.0 c.if-not-is_new.false)) in
    subst
    (λ l. Takes (progress_of (Stage.Collections c.args.self) n)
    (Record.Name c.args.kind c.args.name)
    (InCollections n loader (Some (record {
      name =
          c.args.name;
      kind = c.args.kind;
      items = l;
    }))))
    (sym c.new.ensures.items) (name_takes n c.args.self.loader _ c.args.kind c.args.name loader
    c.in_ok-loader.ensures.ok new)
