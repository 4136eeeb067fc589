use Rattle.std.proofs.Common.{sym, refl, subst, ◌∙◌, ap, Some, ℕ, List}
use Rattle.std.proofs.Common.{◌≡◌}
use Rattle.std.proofs.lemmas.Option.{slice_get_read}
use Rattle.std.specs.Prelude.{slice_get}
use Rattle.clients.specs.Known.{Known, newcomer}
use Rattle.talks.specs.Sessions.{IsRun}
use Rattle.boost_main.specs.Serving.{ScriptState}
use Rattle.boost_main.proofs.script_work.ScriptWork.work.Goals as goal

pub returns : goal.returns
returns g c =
    let run = c.in_ok-run_lines.ensures.run in
    let told = c.in_ok-run_lines.field-0 in
    let origin = g.J.Naming.origin in
    let number = c.in-Some.number.now in
    let behind = c.run_lines.new.client in
    let found = c.in-Some.ensures.lookup in
    let clients = c.deref.ensures.value ∙ ap (λ (s : ScriptState). s.clients) c.self.view_is in
    let whole : IsRun origin told.client (newcomer c.args.client.now.number)
    c.args.self.now.lines behind told =
    subst (λ k. IsRun origin k (newcomer c.args.client.now.number) c.args.self.now.lines behind
    told) (sym run.client)
    (subst (λ (old : Known). IsRun origin number old c.args.self.now.lines behind told) c.requires
    (subst (λ (s : ScriptState). IsRun origin number c.args.client.now s.lines behind told)
    c.self.view_is run)) in (
      tt,
      (
        subst (λ (xs : List ℕ). slice_get xs c.args.thread ≡ Some told.client) clients
            (slice_get_read c.deref.result.now _ c.args.thread number refl
            found.3.0 found.1 ∙ ap Some (sym run.client)),
        record { number = c.args.client.now.number; run = whole },
      ),
    )
