-- Transactions of a content are transactions of its named collections.
use Rattle.std.proofs.Common.{◌≡◌, ℕ, List, [], ◌∷◌, ◌∙◌, ap}
use Rattle.calls.specs.declared.kind.Kind.{Kind}
use Rattle.calls.specs.declared.call.Call.{Call}
use Rattle.calls.specs.declared.reply.Reply.{Reply}
use Rattle.calls.specs.Contents.{Collection, AnswersAt, after_at}
use Rattle.calls.specs.Transactions as transactions
use Rattle.calls.specs.Transactions.{Event, Leads, Transaction, Whole, Made, Makes, Serial}
use Rattle.calls.specs.Transactions.{calls_of, laters_of}
use Rattle.steps.specs.Machine.{Does}
use Rattle.steps.specs.Transactions.{RunsWhole}
use Rattle.boosted.specs.Meaning.{Meaning}
use Rattle.catalog.specs.Making.{Making}

module _ {S T E : Type 0} (f : S → T) (does : S → E → S → Type 0) (told : T → E → T → Type 0)
    (step : (s : S) (e : E) (t : S) → does s e t → told (f s) e (f t)) where
  leads_told : (es : List E) (s t : S) → Leads does es s t → Leads told es (f s) (f t)
  leads_told [] s t w = ap f w
  leads_told (e ∷ es) s t w = (f w.0, step s e w.0 w.1, leads_told es w.0 t w.2)

module _ {S : Type 0} (meaning : Meaning S ℕ) (making : Making S)
    (collections : S → List Collection)
    (answers_as_told : (s : S) (at : ℕ) (c : Call) (r : Reply) → meaning.answers s at c r →
    AnswersAt (collections s) at c r)
    (leaves_as_told : (s : S) (at : ℕ) (c : Call) (r : Reply) → meaning.answers s at c r →
    collections (meaning.leaves s at c r) ≡ after_at (collections s) at c r)
    (makes_as_told : (s t : S) (name : List ℕ) (kind : Kind) → making.makes s name kind t →
    Makes (collections s) name kind (collections t)) where
  call_told : (s : S) (e : Event) (t : S) → Does meaning s e t →
      transactions.Does (collections s) e (collections t)
  call_told s e t step = (
    answers_as_told s e.at e.call e.reply step.0,
    ap collections step.1 ∙ leaves_as_told s e.at e.call e.reply step.0,
  )

  whole_told : (s : S) (k : Transaction) (t : S) → RunsWhole meaning making s k t →
      transactions.RunsWhole (collections s) k (collections t)
  whole_told s (Whole es) t run = (
    collections run.0,
    leads_told collections (Does meaning) transactions.Does call_told (calls_of es) s run.0 run.1,
    leads_told collections (Does meaning) transactions.Does call_told (laters_of es) run.0 t run.2,
  )
  whole_told s (Made name kind) t run = makes_as_told s t name kind run

  pub serial_told : (ks : List Transaction) (s t : S) → Leads (RunsWhole meaning making) ks s t →
      Serial ks (collections s) (collections t)
  serial_told ks s t runs = leads_told collections (RunsWhole meaning making) transactions.RunsWhole
      whole_told ks s t runs
