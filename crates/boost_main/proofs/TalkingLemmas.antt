-- What a server's clients were told is borne out.
use Rattle.std.proofs.Common.{◌≡◌, ℕ, List, [], sym, subst}
use Rattle.disk_model.specs.declared.disk.Disk.{Ghosts}
use Rattle.clients.specs.Known.{Known, newcomer}
use Rattle.desks.specs.Origins.{Origin}
use Rattle.fizgaloms.specs.Works.{WasOpened, AreTold}
use Rattle.clients.specs.Calls.{IsOpen}
use Rattle.talks.specs.Dialogues.{HoldsAll, LeadsOn}
use Rattle.talks.specs.declared.texts.Response.{Response}
use Rattle.talks.specs.declared.told.Told.{Told}
use Rattle.talks.proofs.DialogueLemmas.{talks_borne_out}
use Rattle.talks.proofs.LeadLemmas.{IsSoFar, last_lead}
use Rattle.boost_main.specs.Talking.{TellsTalks, IsBorneOut}
use Rattle.boost_main.specs.declared.served.Served.{Served}

-- so is what one thread's client was told
pub served_borne_out : (origin : Origin) (thread : ℕ) (served : Served) (known : Known) →
    TellsTalks origin thread served known → IsBorneOut origin thread served known
served_borne_out origin thread served known (number, held) =
    (number, talks_borne_out origin (newcomer number) known served.told.told held)

-- how far talks went on, with one more, behind which nothing is open where nothing was
pub next_lead : (o : Origin) (old now new : Known) (before told after : List (Told Response)) →
    IsSoFar o old before now told → LeadsOn o now told new after →
    ((IsOpen now.phase → ⊥) → IsOpen new.phase → ⊥) → IsSoFar o old before new after
next_lead o old now new before told after so_far leads ends closed = (
  λ first held. last_lead o old now new before told after so_far leads closed first held,
  ends (so_far closed).1,
)

-- what a client was told that is new, and was told nothing before
pub told_since_new : (o : Origin) (old new : Known) (before after : List (Told Response)) →
    old ≡ newcomer old.number → before ≡ [] → LeadsOn o old before new after →
    (number : ℕ) × HoldsAll o (newcomer number) after new
told_since_new o old new before after is none leads = (
  old.number,
  leads (subst (λ (k : Known). IsOpen k.phase → ⊥) (sym is) (λ there. there))
      (newcomer old.number) (0, (none, is)),
)

-- What follows from what each thread says follows of them all, on a store that was opened.
module _ {D A : Type 0} (g : Ghosts D) (P Q : Origin → ℕ → A → Known → Type 0)
    (then : (o : Origin) (thread : ℕ) (answer : A) (known : Known) → P o thread answer known →
    Q o thread answer known) where
  pub opened_then : (old new : D) (kept : ℕ) (answers : List A) →
      WasOpened g (λ o. AreTold (P o) answers kept) old new kept →
      WasOpened g (λ o. AreTold (Q o) answers kept) old new kept
  opened_then old new kept answers was = record {
    opened = was.opened;
    only_opened = was.only_opened;
    keeps = was.keeps;
    worked = λ honest content rest stands.
        let worked = was.worked honest content rest stands in record {
          origin = worked.origin;
          start = worked.start;
          steps = worked.steps;
          behind = worked.behind;
          history = worked.history;
          told_of = let told = worked.told_of in record {
            clients = told.clients;
            count = told.count;
            apart = told.apart;
            only = told.only;
            each = λ thread answer at. let one = told.each thread answer at in record {
              known = one.known;
              number = one.number;
              said = then worked.origin thread answer one.known one.said;
              begins = one.begins;
              reached = one.reached;
              since = one.since;
            };
          };
          any_moment = worked.any_moment;
          stop = worked.stop;
          stands = worked.stands;
        };
  }

-- the same of an answer that may be a refusal
pub served_then : {D : Type 0} (g : Ghosts D) (old new : D) (kept : ℕ) (answers : List Served) →
    WasOpened g (λ o. AreTold (TellsTalks o) answers kept) old new kept →
    WasOpened g (λ o. AreTold (IsBorneOut o) answers kept) old new kept
served_then g old new kept answers was =
    opened_then g TellsTalks IsBorneOut served_borne_out old new kept answers was
