-- What was run on a shelf was run on the whole.
use Rattle.std.proofs.Common.{◌≡◌, ℕ, List, [], ◌∷◌, map, sym, ◌∙◌, ap, subst}
use Rattle.std.specs.List.{AllByRecursion}
use Rattle.calls.specs.Contents.{Content, Collection}
use Rattle.calls.specs.Transactions.{Leads}
use Rattle.boosted.specs.Meaning.{Meaning}
use Rattle.catalog.specs.declared.four.Four.{Four}
use Rattle.catalog.specs.Fours.{Which, which_of, pick, put}
use Rattle.catalog.specs.Making.{Making}
use Rattle.catalog.specs.Shelving.{ShelfLaws}
use Rattle.catalog.specs.Woven.{Label}
use Rattle.catalog.specs.Laws.Numbers.{pick_put, put_pick, put_put}
use Rattle.steps.specs.Machine.{Does}
use Rattle.images.specs.declared.effect.Effect.{Effect}
use Rattle.images.specs.Gatherings.{AreRun, event_in}

module _ {S T N : Type 0} (labels : N → List Label) (whole : N → Four T → S)
    (fits : N → Four T → Type 0) (meaning : Meaning S ℕ) (making : Making S)
    (collections : S → List Collection) (shelf : Meaning T ℕ) (index : T → Which)
    (holds : T → ℕ → Content → Type 0)
    (laws : ShelfLaws labels whole fits meaning making collections shelf index holds) (n : N)
    (at : ℕ) where
  leads_join : (es : List Effect) (f : Four T) (t : T) → fits n f →
      AllByRecursion (λ e. e.collection ≡ at) es →
      Leads (Does shelf) (map event_in es) (pick f (which_of at)) t →
      Leads (Does meaning) (map event_in es) (whole n f) (whole n (put f (which_of at) t))
  leads_join [] f t fit there is = ap (whole n) (sym (put_pick f (which_of at)) ∙
      ap (put f (which_of at)) is)
  leads_join (e ∷ es) f t fit there leads =
      let w = which_of at in
      let m = leads.0 in
      let here : shelf.answers (pick f w) at e.call e.reply = subst (λ p. shelf.answers (pick f w) p
      e.call e.reply) there.0 leads.1.0 in
      let is : m ≡ shelf.leaves (pick f w) at e.call e.reply = leads.1.1 ∙
      ap (λ p. shelf.leaves (pick f w) p e.call e.reply) there.0 in
      let next = put f w m in
      let fit' : fits n next = subst (λ x. fits n (put f w x)) (sym is)
      (laws.stays n f at e.call e.reply fit here) in (
        whole n next,
        (
          subst (λ p. meaning.answers (whole n f) p e.call e.reply) (sym there.0)
              ((laws.answers n f at e.call e.reply fit).1 here),
          ap (λ x. whole n (put f w x)) is ∙
              sym (laws.leaves n f at e.call e.reply fit here) ∙
              ap (λ p. meaning.leaves (whole n f) p e.call e.reply) (sym there.0),
        ),
        subst (λ g. Leads (Does meaning) (map event_in es) (whole n next) (whole n g))
            (put_put f w m t)
            (leads_join es next t fit' there.1
            (subst (λ s. Leads (Does shelf) (map event_in es) s t) (sym (pick_put f w m)) leads.2)),
      )

  pub run_joins : (lsn : ℕ) (es : List Effect) (f : Four T) (t : T) → fits n f →
      AllByRecursion (λ e. e.collection ≡ at) es →
      AreRun shelf lsn es (pick f (which_of at)) t →
      AreRun meaning lsn es (whole n f) (whole n (put f (which_of at) t))
  run_joins lsn es f t fit there run = record {
    leads = leads_join es f t fit there run.leads;
    short = run.short;
    there = run.there;
  }
