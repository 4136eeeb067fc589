use Rattle.std.proofs.Common.{◌∙◌, sym, subst, Result, Ok, Err, OnOk, IfOk, MatchResult, List}
use Rattle.script.specs.declared.line.Line.{Line}
use Rattle.script.specs.Scripts.{IsScriptOf}
use Rattle.boost_main.specs.Serving.{HaveLines}
use Rattle.boost_main.proofs.serving.serve_lines.Goals as goal

-- what is asked of an outcome that was accepted
on_ok : {T E : Type 0} (r : Result T E) (P Q : Type 0) → OnOk r P → (P → Q) → OnOk r Q
on_ok (Ok x) P Q p then = then p
on_ok (Err e) P Q p then = tt

-- what was answered, where no refusal was
answered : {V E : Type 0} (r : Result V E) (P A B : V → Type 0) (Q : Type 0) →
    MatchResult r P (λ e. ⊥) → IfOk r A → IfOk r B → ((x : V) → P x → A x → B x → Q) → Q
answered (Ok x) P A B Q p a b then = then x p a b
answered (Err e) P A B Q p a b then = absurd p

pub returns-in-Ok-clause-served : goal.returns-in-Ok-clause-served
returns-in-Ok-clause-served g c =
    on_ok c.print.result _ _ c.print.ensures.all (λ all script is.
    answered c.run-ended.result.0 _ _ _ _ all c.run-ended.ensures.answers
    c.run-ended.ensures.opened (λ answers each len opened. record {
      served = c.in-Ok.script;
      is_script = subst (λ (l : List Line). IsScriptOf l script) (sym c.in-Ok.ensures.lines) is;
      clients = subst (HaveLines c.in-Ok.script.clients) (sym c.in-Ok.ensures.lines)
          c.in-Ok.ensures.clients;
      answers = answers.items;
      one_each = sym answers.ok.0 ∙ len ∙ c.threads.ensures;
      all = each;
      opened = opened;
    }))
