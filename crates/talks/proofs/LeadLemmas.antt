-- What a client was told goes on with each talk.
use Rattle.std.proofs.Common.{◌≡◌, suc, Bool, List, ℕ, Option, None, Some, refl, sym, subst}
use Rattle.desks.specs.Origins.{Origin}
use Rattle.clients.specs.Calls as calls
use Rattle.clients.specs.Known.{Known}
use Rattle.talks.specs.declared.texts.Response.{Response}
use Rattle.talks.specs.declared.told.Told.{Told}
use Rattle.talks.specs.declared.why.Why.{Why}
use Rattle.talks.specs.Dialogues.{session_speaker, HoldsAll, LeadsOn}
use Rattle.talks.specs.Sessions.{SessionState, session}
use Rattle.talks.specs.Talks.{TalksOn, IsTakenBack}
use Rattle.talks.proofs.TalkLemmas.{talk_alone}

module _ (o : Origin) where
  -- a talk more
  pub talk_leads : (r t : Option (List ℕ)) (old : Known) (before after : List (Told Response))
      (why : Why) (ended left : SessionState) (is_back : Bool) →
      TalksOn (session_speaker o) r t (Some before) (Some after) (session old None) why ended →
      IsTakenBack (session_speaker o) ended is_back left → LeadsOn o old before left.known after
  talk_leads r t old before after why ended left is_back talked taken closed first held =
      let one = talk_alone (session_speaker o) r t before after (session old None) ended why
      talked in (
        suc held.0,
        (
          before,
          one.told,
          old,
          held.1,
          closed,
          record {
            before = r;
            after = t;
            why = why;
            ended = ended;
            is_taken_back = is_back;
            left = left;
            talked = one.talked;
            taken_back = taken;
            behind_is = refl;
          },
          one.whole,
        ),
      )

  -- the same of what a session begins and ends with
  pub leads_as : (old start new left : Known) (before after : List (Told Response)) →
      start ≡ old → left ≡ new → LeadsOn o start before new after → LeadsOn o old before left after
  leads_as old start new left before after from to leads =
      subst (λ k. LeadsOn o old before k after) (sym to)
      (subst (λ k. LeadsOn o k before new after) from leads)

  -- how far it went on, and that nothing is open
  abbrev pub IsSoFar : (old : Known) → (before : List (Told Response)) → (now : Known) →
      (told : List (Told Response)) → Type 0
  IsSoFar old before now told = (calls.IsOpen old.phase → ⊥) →
      ((first : Known) → HoldsAll o first before old → HoldsAll o first told now) ×
      (calls.IsOpen now.phase → ⊥)

  pub so_far_none : (old : Known) (before : List (Told Response)) → IsSoFar old before old before
  so_far_none old before closed = (λ first held. held, closed)

  -- the last talk
  pub last_lead : (old now new : Known) (before told after : List (Told Response)) →
      IsSoFar old before now told → LeadsOn o now told new after → LeadsOn o old before new after
  last_lead old now new before told after so_far leads closed first held =
      leads (so_far closed).1 first ((so_far closed).0 first held)

  -- one that others follow
  pub one_lead : (old now new : Known) (before told after : List (Told Response)) →
      IsSoFar old before now told → LeadsOn o now told new after →
      (calls.IsOpen new.phase → ⊥) → IsSoFar old before new after
  one_lead old now new before told after so_far leads ends closed = (
    λ first held. last_lead old now new before told after so_far leads closed first held,
    ends,
  )
