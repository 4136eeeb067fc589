-- What a client was told in its talks is borne out by what it knows behind them.
use Rattle.std.proofs.Common.{◌≡◌, ◌⊎◌, inl, inr, ℕ, zero, suc, Bool, true, false, List, [], ◌∷◌}
use Rattle.std.proofs.Common.{◌++◌, Option, None, Some, Result, Ok, Err, refl, sym, ap, ◌∙◌, subst}
use Rattle.std.specs.List.{AllByRecursion}
use Rattle.calls.specs.declared.refusal.Refusal.{Refusal}
use Rattle.boosted.proofs.Each.{each_append}
use Rattle.desks.specs.Origins.{Origin}
use Rattle.clients.specs.declared.ticket.Ticket.{Ticket}
use Rattle.clients.specs.Calls as calls
use Rattle.clients.specs.Known.{Known}
use Rattle.script.specs.declared.action.Request.{Request}
use Rattle.script.specs.declared.wishes.Wish.{Wish}
use Rattle.talks.specs.declared.lines.Found.{Found}
use Rattle.talks.specs.declared.patience.Tried.{Tried}
use Rattle.talks.specs.declared.speaking.End.{End}
use Rattle.talks.specs.declared.speaking.Speaker.{Ghosts}
use Rattle.talks.specs.declared.texts.Response.{Response}
use Rattle.talks.specs.declared.told.Told.{Told}
use Rattle.talks.specs.declared.transacting.Outcome.{Outcome}
use Rattle.talks.specs.declared.why.Why.{Why}
use Rattle.talks.specs.Dialogues.{session_speaker, Holds, HoldsSoMany, HoldsAll, KnowsStill}
use Rattle.talks.specs.Dialogues.{HasPlaced, HasLoaded, HasKept, IsAnswerBorneOut, IsBorneOut}
use Rattle.talks.specs.Dialogues.{AreBorneOut}
use Rattle.talks.specs.Hearing.{Hears, tolds_of}
use Rattle.talks.specs.Requests.{telling, saying, response_kept}
use Rattle.talks.specs.Sessions as sessions
use Rattle.talks.specs.Sessions.{SessionState, session, ticket_after, response_placed}
use Rattle.talks.specs.Sessions.{response_place}
use Rattle.talks.specs.Sessions.{IsRefusal}
use Rattle.talks.specs.Talks as talks
use Rattle.talks.proofs.KnownLemmas.{still_same, still_is, still_through, still_heard, placed_still}
use Rattle.talks.proofs.KnownLemmas.{loaded_still, kept_still, loads_reached, waits_reached}
use Rattle.talks.proofs.KnownLemmas.{still_made, still_begins, still_asks, still_in_open}
use Rattle.talks.proofs.KnownLemmas.{still_does}
use Rattle.talks.proofs.KnownLemmas.{still_in_room, still_aborts, IsPlacedBy, commit_placed}
use Rattle.talks.proofs.KnownLemmas.{make_placed, open_placed}

-- ---- what was told is borne out still

answer_still : (old new : Known) → KnowsStill old new → (response : Response) →
    IsAnswerBorneOut old response → IsAnswerBorneOut new response
answer_still old new still (Response.Placed place) is = placed_still old new place still is
answer_still old new still Response.Kept is = kept_still old new still is
answer_still old new still response is = tt

answers_still : (old new : Known) → KnowsStill old new → (responses : List Response) →
    AllByRecursion (IsAnswerBorneOut old) responses →
    AllByRecursion (IsAnswerBorneOut new) responses
answers_still old new still [] are = tt
answers_still old new still (response ∷ responses) are =
    (answer_still old new still response are.0, answers_still old new still responses are.1)

told_still : (old new : Known) → KnowsStill old new → (told : Told Response) →
    IsBorneOut old told → IsBorneOut new told
told_still old new still (Told.Response response) is = answer_still old new still response is
told_still old new still (Told.Waited End.Kept) is = kept_still old new still is
told_still old new still (Told.Kept place) is =
    (placed_still old new place still is.0, loaded_still old new place still is.1)
told_still old new still (Told.Done responses place) is =
    (answers_still old new still responses.items is.0, placed_still old new place still is.1)
told_still old new still (Told.DoneAndKept responses place) is = (
  answers_still old new still responses.items is.0,
  placed_still old new place still is.1,
  loaded_still old new place still is.2,
)
told_still old new still told is = tt

tolds_still : (old new : Known) → KnowsStill old new → (tolds : List (Told Response)) →
    AllByRecursion (IsBorneOut old) tolds → AllByRecursion (IsBorneOut new) tolds
tolds_still old new still [] are = tt
tolds_still old new still (told ∷ tolds) are =
    (told_still old new still told are.0, tolds_still old new still tolds are.1)

-- ---- a session

-- a ticket is that of a commit or making of the client's own
abbrev IsOwn : Known → Option Ticket → Type 0
IsOwn known None = Unit {0}
IsOwn known (Some t) = HasPlaced known t.place

own_still : (old new : Known) (ticket : Option Ticket) → KnowsStill old new → IsOwn old ticket →
    IsOwn new ticket
own_still old new None still own = tt
own_still old new (Some t) still own = placed_still old new t.place still own

abbrev HasOwn : SessionState → Type 0
HasOwn s = IsOwn s.known s.ticket

-- what was known is known still, and the ticket stays the client's own
record Goes (old new : SessionState) : Type 0 where
  pub still : KnowsStill old.known new.known
  pub own : HasOwn old → HasOwn new

goes_is : (old new : SessionState) → new ≡ old → Goes old new
goes_is old new is = subst (Goes old) (sym is) (record {
  still = still_same old.known;
  own = λ own. own;
})

goes_on : (old mid new : SessionState) → Goes old mid → Goes mid new → Goes old new
goes_on old mid new one two = record {
  still = still_through old.known mid.known new.known one.still two.still;
  own = λ own. two.own (one.own own);
}

goes_still : (old new : SessionState) → KnowsStill old.known new.known →
    new.ticket ≡ old.ticket → Goes old new
goes_still old new still same = record {
  still = still;
  own = λ own. subst (IsOwn new.known) (sym same)
      (own_still old.known new.known old.ticket still own);
}

module _ (o : Origin) where
  goes_placed : (old new : SessionState) (r : Result Ticket Refusal) →
      KnowsStill old.known new.known → new.ticket ≡ ticket_after old.ticket r →
      IsPlacedBy o new.known r → Goes old new
  goes_placed old new (Ok t) still same placed = record {
    still = still;
    own = λ own. subst (IsOwn new.known) (sym same) placed;
  }
  goes_placed old new (Err e) still same placed = goes_still old new still same

  -- ---- what a request is answered

  quiet : {T : Type 0} (known : Known) (tell : T → Response) (r : Result T Refusal) →
      ((x : T) → IsAnswerBorneOut known (tell x)) → IsAnswerBorneOut known (saying (telling tell r))
  quiet known tell (Ok x) is = is x
  quiet known tell (Err e) is = tt

  placed_said : (known : Known) (r : Result Ticket Refusal) → IsPlacedBy o known r →
      IsAnswerBorneOut known (saying (telling response_placed r))
  placed_said known (Ok t) placed = placed
  placed_said known (Err e) placed = tt

  kept_said : (old new : Known) (ticket : Option Ticket) (kept : Option Bool) →
      sessions.Looks old ticket kept new → IsOwn new ticket →
      IsAnswerBorneOut new (response_kept kept)
  kept_said old new ticket None looks own = tt
  kept_said old new ticket (Some false) looks own = tt
  kept_said old new ticket (Some true) (given, count, is, loads, reaches) own = record {
    place = given.place;
    placed = subst (IsOwn new) is own;
    kept = loads_reached old new given.place count loads reaches;
  }

  looks_still : (old new : Known) (ticket : Option Ticket) (kept : Option Bool) →
      sessions.Looks old ticket kept new → KnowsStill old new
  looks_still old new ticket None looks = still_is old new looks.1
  looks_still old new ticket (Some kept) (given, count, is, loads, reaches) =
      still_heard old new _ [] loads.hears

  obeyed : (old new : SessionState) (request : Request) (r : Result Response Refusal) →
      sessions.Obeys o old request r new →
      Goes old new × (HasOwn old → IsAnswerBorneOut new.known (saying r))
  obeyed old new (Request.Make kind name) r (made, is, ticket, (makes, phase)) =
      let placed = make_placed o old.known new.known name kind made makes in (
        goes_placed old new made (still_made o old.known new.known name kind made makes) ticket
            placed,
        λ own. subst (λ x. IsAnswerBorneOut new.known (saying x)) (sym is)
            (placed_said new.known made placed),
      )
  obeyed old new Request.Begin r (begun, is, ticket, begins) = (
    goes_still old new (still_begins o old.known new.known begun begins) ticket,
    λ own. subst (λ x. IsAnswerBorneOut new.known (saying x)) (sym is)
        (quiet new.known (λ n. Response.Begun n) begun (λ n. tt)),
  )
  obeyed old new (Request.Call name operation) r (called, is, ticket, does) = (
    goes_still old new (still_in_open old.known new.known called _ does
        (λ asks. still_asks o old.known new.known name operation called asks)) ticket,
    λ own. subst (λ x. IsAnswerBorneOut new.known (saying x)) (sym is)
        (quiet new.known (λ reply. Response.Replied reply) called (λ reply. tt)),
  )
  obeyed old new (Request.Later name call) r (deferred, is, ticket, does) = (
    goes_still old new (still_in_open old.known new.known deferred _ does
        (λ asks. still_in_room o old.known.phase old.known new.known _ deferred asks)) ticket,
    λ own. subst (λ x. IsAnswerBorneOut new.known (saying x)) (sym is)
        (quiet new.known (λ reply. Response.Replied reply) deferred (λ reply. tt)),
  )
  obeyed old new Request.Commit r (placed, is, ticket, does) =
      let given = open_placed o old.known new.known placed _ does
      (λ commits. commit_placed o old.known.phase old.known new.known placed commits) in (
        goes_placed old new placed (still_in_open old.known new.known placed _ does
            (λ commits. still_does o old.known.phase old.known new.known _ _ _ commits)) ticket
            given,
        λ own. subst (λ x. IsAnswerBorneOut new.known (saying x)) (sym is)
            (placed_said new.known placed given),
      )
  obeyed old new Request.Abort r (aborted, is, ticket, does) = (
    goes_still old new (still_in_open old.known new.known aborted _ does
        (λ aborts. still_aborts o old.known.phase old.known new.known aborted aborts)) ticket,
    λ own. subst (λ x. IsAnswerBorneOut new.known (saying x)) (sym is)
        (quiet new.known (λ done. Response.Aborted) aborted (λ done. tt)),
  )
  obeyed old new Request.Kept r (kept, is, ticket, looks) =
      let still = looks_still old.known new.known old.ticket kept looks in (
        goes_still old new still ticket,
        λ own. subst (λ x. IsAnswerBorneOut new.known (saying x)) (sym is)
            (kept_said old.known new.known old.ticket kept looks
            (own_still old.known new.known old.ticket still own)),
      )

  said : (old new : SessionState) (request : Request) (response : Response) →
      sessions.Says o old request response new →
      Goes old new × (HasOwn old → IsAnswerBorneOut new.known response)
  said old new request response (r, is, obeys) =
      let done = obeyed old new request r obeys in (
        done.0,
        λ own. subst (IsAnswerBorneOut new.known) (sym is) (done.1 own),
      )

  -- ---- commits

  -- the ticket is that of the client's own commit of this place
  record IsTicketOf (state : SessionState) (place : ℕ) : Type 0 where
    pub given : Ticket
    pub held : state.ticket ≡ Some given
    pub same : given.place ≡ place
    pub placed : HasPlaced state.known place

  abbrev place_in : Option ℕ → ℕ
  place_in None = 0
  place_in (Some place) = place

  no_place : (place : ℕ) → ◌≡◌ {A = Option ℕ} None (Some place) → ⊥
  no_place place same = cc

  ticket_given : (old new : SessionState) (response : Response) (place : ℕ)
      (r : Result Ticket Refusal) → response ≡ saying (telling response_placed r) →
      new.ticket ≡ ticket_after old.ticket r → IsPlacedBy o new.known r →
      response_place response ≡ Some place → IsTicketOf new place
  ticket_given old new response place (Err e) is ticket placed tells =
      absurd (no_place place (sym (ap response_place is) ∙ tells))
  ticket_given old new response place (Ok t) is ticket placed tells =
      let same : t.place ≡ place = ap place_in (sym (ap response_place is) ∙ tells) in
      record {
        given = t;
        held = ticket;
        same = same;
        placed = subst (HasPlaced new.known) same placed;
      }

  commit_ticket : (old new : SessionState) (response : Response) (place : ℕ) →
      sessions.Says o old Request.Commit response new → response_place response ≡ Some place →
      IsTicketOf new place
  commit_ticket old new response place (r, is, (placed, r_is, ticket, does)) tells =
      ticket_given old new response place placed (is ∙ ap saying r_is) ticket
      (open_placed o old.known new.known placed _ does
      (λ commits. commit_placed o old.known.phase old.known new.known placed commits)) tells

  -- ---- waits

  some_ticket : (s t : Ticket) → ◌≡◌ {A = Option Ticket} (Some s) (Some t) → s ≡ t
  some_ticket s t same = cc

  -- a wait ends so
  abbrev Waits : SessionState → End → SessionState → Type 0
  Waits old end new =
      sessions.Ends old.known old.ticket end new.known × (new.ticket ≡ old.ticket)

  ends_still : (old new : Known) (ticket : Option Ticket) (end : End) →
      sessions.Ends old ticket end new → KnowsStill old new
  ends_still old new ticket End.NoTicket ends = still_is old new ends.1
  ends_still old new ticket End.Kept (given, is, waits) =
      still_heard old new waits.counts waits.flags waits.hears
  ends_still old new ticket End.Lost (given, is, waits) =
      still_heard old new waits.counts waits.flags waits.hears

  ends_goes : (old new : SessionState) (end : End) → Waits old end new → Goes old new
  ends_goes old new end waits =
      goes_still old new (ends_still old.known new.known old.ticket end waits.0) waits.1

  end_told : (old new : SessionState) (end : End) → Waits old end new → HasOwn old →
      IsBorneOut new.known (talks.told_end end)
  end_told old new End.NoTicket waits own = tt
  end_told old new End.Lost waits own = tt
  end_told old new End.Kept waits own =
      let given = waits.0.0 in record {
        place = given.place;
        placed = own_still old.known new.known (Some given) (ends_goes old new End.Kept waits).still
            (subst (IsOwn old.known) waits.0.1 own);
        kept = waits_reached old.known new.known given.place waits.0.2;
      }

  ticket_kept : (old new : SessionState) (place : ℕ) → Waits old End.Kept new →
      IsTicketOf old place → HasPlaced new.known place × HasLoaded new.known place
  ticket_kept old new place waits of =
      let given = waits.0.0 in
      let is : given.place ≡ place =
      ap (λ (x : Ticket). x.place) (some_ticket given of.given (sym waits.0.1 ∙ of.held)) ∙
      of.same in (
        placed_still old.known new.known place (ends_goes old new End.Kept waits).still of.placed,
        subst (HasLoaded new.known) is (waits_reached old.known new.known given.place waits.0.2),
      )

  -- ---- lines

  -- what is told, if something is, is borne out
  abbrev IsToldBorneOut : Known → Option (Told Response) → Type 0
  IsToldBorneOut known None = Unit {0}
  IsToldBorneOut known (Some told) = IsBorneOut known told

  abbrev s : Ghosts SessionState Response
  s = session_speaker o

  tried : (old new : SessionState) (responses : List Response) →
      talks.AreTried s old responses new → Goes old new
  tried old new [] is = goes_is old new is
  tried old new (response ∷ responses) (mid, says, more) =
      goes_on old mid new (said old mid Request.Abort response says).0
      (tried mid new responses more)

  back : (old new : SessionState) (is_back : Bool) → talks.IsTakenBack s old is_back new →
      Goes old new
  back old new is_back (responses, were, settled) = tried old new responses were

  undone : (old new : SessionState) (is_undone : Bool) → talks.IsUndone s old is_undone new →
      Goes old new
  undone old new is_undone (inl (closed, is, same)) = goes_is old new same
  undone old new is_undone (inr (opened, taken)) = back old new is_undone taken

  ran : (old new : SessionState) (rs : List Request) (responses : List Response) →
      talks.RunsCalls s old rs responses new →
      Goes old new × (HasOwn old → AllByRecursion (IsAnswerBorneOut new.known) responses)
  ran old new [] responses (none, same) = (
    goes_is old new same,
    λ own. subst (AllByRecursion (IsAnswerBorneOut new.known)) (sym none) tt,
  )
  ran old new (r ∷ rs) responses (response, rest, mid, is, says, accepted, runs) =
      let first = said old mid r response says in
      let then = ran mid new rs rest runs in (
        goes_on old mid new first.0 then.0,
        λ own. subst (AllByRecursion (IsAnswerBorneOut new.known)) (sym is) (
          answer_still mid.known new.known then.0.still response (first.1 own),
          then.1 (first.0.own own),
        ),
      )

  refusal_told : (known : Known) (response : Response) → IsRefusal response →
      IsAnswerBorneOut known response
  refusal_told known (Response.Refused e) is = tt
  refusal_told known response is = absurd is

  stop_told : (known : Known) (response : Response) (told : Told Response) →
      talks.IsStop s response told → IsBorneOut known told
  stop_told known response (Told.Response given) (same, refused) =
      refusal_told known given (subst IsRefusal (sym same) refused)
  stop_told known response (Told.Refused e) is = tt
  stop_told known response told is = absurd is

  stopped : (old new : SessionState) (rs : List Request) (told : Told Response) →
      talks.Stops s old rs told new → Goes old new × IsBorneOut new.known told
  stopped old new rs told (front, r, behind, responses, mid, response, is, runs, says, stop) = (
    goes_on old mid new (ran old mid front responses runs).0 (said mid new r response says).0,
    stop_told new.known response told stop,
  )

  -- ---- transactions

  -- what is answered of a transaction is borne out
  abbrev IsOutcome : SessionState → Outcome Response → Type 0
  IsOutcome state (Outcome.Committed responses place) =
      AllByRecursion (IsAnswerBorneOut state.known) responses.items × IsTicketOf state place
  IsOutcome state (Outcome.Refused told is_back) = IsBorneOut state.known told

  -- where the ticket was the client's own
  abbrev Ends : SessionState → Outcome Response → SessionState → Type 0
  Ends old outcome new = Goes old new × (HasOwn old → IsOutcome new outcome)

  ends_on : (old mid new : SessionState) (outcome : Outcome Response) → Goes old mid →
      Ends mid outcome new → Ends old outcome new
  ends_on old mid new outcome goes ends =
      (goes_on old mid new goes ends.0, λ own. ends.1 (goes.own own))

  ends_is : (old new : SessionState) (outcome : Outcome Response) (told : Told Response)
      (is_back : Bool) → outcome ≡ Outcome.Refused told is_back → Goes old new →
      IsBorneOut new.known told → Ends old outcome new
  ends_is old new outcome told is_back is goes borne =
      (goes, λ own. subst (IsOutcome new) (sym is) borne)

  commits : (old new : SessionState) (responses : List Response) (outcome : Outcome Response) →
      talks.Commits s old responses outcome new →
      Goes old new × (HasOwn old → AllByRecursion (IsAnswerBorneOut old.known) responses →
      IsOutcome new outcome)
  commits old new responses (Outcome.Committed told place) (response, says, tells, same) =
      let goes = (said old new Request.Commit response says).0 in (
        goes,
        λ own are. (
          subst (AllByRecursion (IsAnswerBorneOut new.known)) (sym same)
              (answers_still old.known new.known goes.still responses are),
          commit_ticket old new response place says tells,
        ),
      )
  commits old new responses (Outcome.Refused (Told.Response response) is_back)
      (mid, says, none, taken) =
      let first = said old mid Request.Commit response says in
      let then = back mid new is_back taken in (
        goes_on old mid new first.0 then,
        λ own are. answer_still mid.known new.known then.still response (first.1 own),
      )
  commits old new responses outcome is = absurd is

  finishes : (old new : SessionState) (rs : List Request) (outcome : Outcome Response) →
      talks.Finishes s old rs outcome new → Ends old outcome new
  finishes old new rs outcome (inl (responses, mid, runs, done)) =
      let first = ran old mid rs responses runs in
      let then = commits mid new responses outcome done in (
        goes_on old mid new first.0 then.0,
        λ own. then.1 (first.0.own own) (first.1 own),
      )
  finishes old new rs outcome (inr (told, is_back, mid, is, stops, taken)) =
      let first = stopped old mid rs told stops in
      let then = back mid new is_back taken in
      ends_is old new outcome told is_back is (goes_on old mid new first.0 then)
      (told_still mid.known new.known then.still told first.1)

  transacts : (old new : SessionState) (rs : List Request) (outcome : Outcome Response) →
      talks.Transacts s old rs outcome new → Ends old outcome new
  transacts old new rs outcome (inl (response, says, refused, is)) =
      ends_is old new outcome (Told.Response response) true is
      (said old new Request.Begin response says).0 (refusal_told new.known response refused)
  transacts old new rs outcome (inr (begun, opened, says, accepted, done)) =
      ends_on old opened new outcome (said old opened Request.Begin begun says).0
      (finishes opened new rs outcome done)

  does : (old new : SessionState) (rs : List Request) (outcome : Outcome Response) →
      talks.Does s old rs outcome new → Ends old outcome new
  does old new rs outcome (inl (opened, done)) = finishes old new rs outcome done
  does old new rs outcome (inr (closed, done)) = transacts old new rs outcome done

  tries : (old new : SessionState) (rs : List Request) (is_back : Bool) →
      talks.Tries s old rs is_back new → Goes old new
  tries old new rs is_back (begun, opened, mid, says, accepted, done, taken) =
      let first = (said old opened Request.Begin begun says).0 in
      let last = back mid new is_back taken in
      let between : Goes opened mid = elim done [
        | inl runs ↦ (ran opened mid rs runs.0 runs.1).0
        | inr stops ↦ (stopped opened mid rs stops.0 stops.1).0
      ] in
      goes_on old mid new (goes_on old opened mid first between) last

  in_vain : (n : ℕ) (old new : SessionState) (rs : List Request) →
      talks.TriesInVain s n old rs new → Goes old new
  in_vain zero old new rs same = goes_is old new same
  in_vain (suc n) old new rs (mid, before, last) =
      goes_on old mid new (in_vain n old mid rs before) (tries mid new rs true last)

  ends_tries : (old new : SessionState) (rs : List Request) (outcome : Outcome Response) →
      talks.EndsTries s old rs outcome new → Ends old outcome new
  ends_tries old new rs outcome (inl done) = transacts old new rs outcome done
  ends_tries old new rs outcome (inr (inl (is, same))) =
      ends_is old new outcome Told.Idle true is (goes_is old new same) tt
  ends_tries old new rs outcome (inr (inr (is, last))) =
      ends_is old new outcome Told.Idle false is (tries old new rs false last) tt

  within : (old new : SessionState) (rs : List Request) (outcome : Outcome Response) →
      talks.TransactsWithin s old rs outcome new → Ends old outcome new
  within old new rs outcome (n, mid, before, last) =
      ends_on old mid new outcome (in_vain n old mid rs before) (ends_tries mid new rs outcome last)

  -- ---- what a line does

  -- what was told of it, if something was
  abbrev Tells : SessionState → Option (Told Response) → SessionState → Type 0
  Tells old told new = Goes old new × (HasOwn old → IsToldBorneOut new.known told)

  tells_is : (old new : SessionState) (told : Option (Told Response)) (given : Told Response) →
      told ≡ Some given → Goes old new → (HasOwn old → IsBorneOut new.known given) →
      Tells old told new
  tells_is old new told given is goes borne =
      (goes, λ own. subst (IsToldBorneOut new.known) (sym is) (borne own))

  tells_none : (old new : SessionState) (told : Option (Told Response)) → told ≡ None →
      Goes old new → Tells old told new
  tells_none old new told is goes = (goes, λ own. subst (IsToldBorneOut new.known) (sym is) tt)

  outcome_told : (state : SessionState) (outcome : Outcome Response) → IsOutcome state outcome →
      IsToldBorneOut state.known (talks.told_outcome outcome).0
  outcome_told state (Outcome.Committed responses place) is = (is.0, is.1.placed)
  outcome_told state (Outcome.Refused told true) is = is
  outcome_told state (Outcome.Refused told false) is = is

  ends_told : (old new : SessionState) (outcome : Outcome Response) (told : Option (Told Response))
      (next : Option Why) → Ends old outcome new → (told, next) ≡ talks.told_outcome outcome →
      Tells old told new
  ends_told old new outcome told next ends is = (
    ends.0,
    λ own. subst (IsToldBorneOut new.known)
        (sym (ap (λ (x : Option (Told Response) × Option Why). x.0) is))
        (outcome_told new outcome (ends.1 own)),
  )

  telling_is : (told : Option (Told Response)) (next : Option Why) (given : Told Response) →
      (told, next) ≡ talks.telling given → told ≡ Some given
  telling_is told next given is = ap (λ (x : Option (Told Response) × Option Why). x.0) is

  told_kept_is : (old new : SessionState) (told : Told Response) (end : End) → Waits old end new →
      (Waits old End.Kept new → IsBorneOut new.known told) →
      IsBorneOut new.known (talks.told_kept told end)
  told_kept_is old new told End.Kept waits then = then waits
  told_kept_is old new told End.Lost waits then = tt
  told_kept_is old new told End.NoTicket waits then = tt

  keeps_open : (old new : SessionState) (told : Told Response) → talks.KeepsOpen s old told new →
      Goes old new × (HasOwn old → IsBorneOut new.known told)
  keeps_open old new told (response, mid, says, inl (none, is, same)) =
      let first = said old mid Request.Commit response says in (
        goes_on old mid new first.0 (goes_is mid new same),
        λ own. subst (IsBorneOut new.known) (sym is)
            (answer_still mid.known new.known (goes_is mid new same).still response (first.1 own)),
      )
  keeps_open old new told (response, mid, says, inr (place, end, tells, ends, is)) =
      let first = said old mid Request.Commit response says in
      let then = ends_goes mid new end ends in (
        goes_on old mid new first.0 then,
        λ own. subst (IsBorneOut new.known) (sym is)
            (told_kept_is mid new (Told.Kept place) end ends
            (λ waits. ticket_kept mid new place waits
            (commit_ticket old mid response place says tells))),
      )

  done_kept : (old new : SessionState) (outcome : Outcome Response)
      (told : Option (Told Response)) (next : Option Why) →
      talks.KeepsOutcome s old outcome told next new → IsOutcome old outcome →
      Goes old new × IsToldBorneOut new.known told
  done_kept old new (Outcome.Refused refused is_back) told next (is, same) borne = (
    goes_is old new same,
    subst (IsToldBorneOut new.known)
        (sym (ap (λ (x : Option (Told Response) × Option Why). x.0) is))
        (outcome_told new (Outcome.Refused refused is_back)
        (told_still old.known new.known (goes_is old new same).still refused borne)),
  )
  done_kept old new (Outcome.Committed responses place) told next (end, ends, is) borne =
      let goes = ends_goes old new end ends in (
        goes,
        subst (IsToldBorneOut new.known)
            (sym (telling_is told next (talks.told_kept (Told.DoneAndKept responses place) end) is))
            (told_kept_is old new (Told.DoneAndKept responses place) end ends
            (λ waits. (
              answers_still old.known new.known goes.still responses.items borne.0,
              (ticket_kept old new place waits borne.1).0,
              (ticket_kept old new place waits borne.1).1,
            ))),
      )

  end_tells : (old new : SessionState) (end : End) (told : Option (Told Response))
      (next : Option Why) → Waits old end new →
      (told, next) ≡ talks.telling (talks.told_end end) → Tells old told new
  end_tells old new end told next ends is =
      tells_is old new told (talks.told_end end) (telling_is told next (talks.told_end end) is)
      (ends_goes old new end ends) (λ own. end_told old new end ends own)

  hears_goes : (old new : SessionState) (failed : Bool) → s.hears old failed new → Goes old new
  hears_goes old new failed hears =
      goes_still old new (still_heard old.known new.known [] (failed ∷ []) hears.0) hears.1

  status_told : (known : Known) (failed : Bool) (status : Told Response) →
      talks.IsStatus failed status → IsBorneOut known status
  status_told known failed (Told.Status text told) is = tt
  status_told known failed (Told.Refused e) is = tt
  status_told known failed status is = absurd is

  then_kept : (old mid new : SessionState) (outcome : Outcome Response)
      (told : Option (Told Response)) (next : Option Why) → Ends old outcome mid →
      talks.KeepsOutcome s mid outcome told next new → Goes mid new → Tells old told new
  then_kept old mid new outcome told next ends kept goes = (
    goes_on old mid new ends.0 goes,
    λ own. (done_kept mid new outcome told next kept (ends.1 own)).1,
  )

  keeps_goes : (old new : SessionState) (outcome : Outcome Response)
      (told : Option (Told Response)) (next : Option Why) →
      talks.KeepsOutcome s old outcome told next new → Goes old new
  keeps_goes old new (Outcome.Refused refused is_back) told next (is, same) =
      goes_is old new same
  keeps_goes old new (Outcome.Committed responses place) told next (end, ends, is) =
      ends_goes old new end ends

  carried : (old new : SessionState) (wish : Wish) (told : Option (Told Response))
      (next : Option Why) → talks.CarriesOut s old wish told next new → Tells old told new
  carried old new Wish.Nothing told next (is, ends, same) =
      tells_none old new told is (goes_is old new same)
  carried old new (Wish.Ask r) told next (response, says, is, ends) =
      let done = said old new r response says in
      tells_is old new told (Told.Response response) is done.0 done.1
  carried old new Wish.Wait told next (end, ends, is) = end_tells old new end told next ends is
  carried old new Wish.Keep told next (kept, keeps, is) =
      let done = keeps_open old new kept keeps in
      tells_is old new told kept (telling_is told next kept is) done.0 done.1
  carried old new (Wish.Do calls) told next (outcome, done, is) =
      ends_told old new outcome told next (does old new calls.items outcome done) is
  carried old new (Wish.DoAndKeep calls) told next (outcome, mid, done, kept) =
      then_kept old mid new outcome told next (does old mid calls.items outcome done) kept
      (keeps_goes mid new outcome told next kept)
  carried old new (Wish.DoWithin limit calls) told next (outcome, done, is) =
      ends_told old new outcome told next (within old new calls.items outcome done) is
  carried old new (Wish.KeepWithin limit calls) told next (outcome, mid, done, kept) =
      then_kept old mid new outcome told next (within old mid calls.items outcome done) kept
      (keeps_goes mid new outcome told next kept)
  carried old new Wish.Status told next (failed, status, hears, is_status, is, ends) =
      tells_is old new told status is (hears_goes old new failed hears)
      (λ own. status_told new.known failed status is_status)
  carried old new Wish.Bye told next (is, same) =
      tells_is old new told Told.Bye (telling_is told next Told.Bye is) (goes_is old new same)
      (λ own. tt)

  lost : (old new : SessionState) (told : Option (Told Response)) (next : Option Why) →
      talks.IsLost s old told next new → Tells old told new
  lost old new told next (hears, is) =
      tells_is old new told (Told.Refused Refusal.Lost)
      (telling_is told next (Told.Refused Refusal.Lost) is) (hears_goes old new true hears)
      (λ own. tt)

  -- the same behind something else
  tells_on : (old mid new : SessionState) (told : Option (Told Response)) → Goes old mid →
      Tells mid told new → Tells old told new
  tells_on old mid new told goes tells =
      (goes_on old mid new goes tells.0, λ own. tells.1 (goes.own own))

  option_still : (old new : Known) → KnowsStill old new → (told : Option (Told Response)) →
      IsToldBorneOut old told → IsToldBorneOut new told
  option_still old new still None is = tt
  option_still old new still (Some told) is = told_still old new still told is

  tells_still : (old mid new : SessionState) (done told : Option (Told Response)) →
      Tells old done mid → Goes mid new → told ≡ done → Tells old told new
  tells_still old mid new done told tells goes is = (
    goes_on old mid new tells.0 goes,
    λ own. subst (IsToldBorneOut new.known) (sym is)
        (option_still mid.known new.known goes.still done (tells.1 own)),
  )

  unless : (old mid new : SessionState) (done : Option (Told Response)) (ends : Option Why)
      (told : Option (Told Response)) (next : Option Why) → Tells old done mid →
      talks.IsUnlessFailed s mid done ends told next new → Tells old told new
  unless old mid new done ends told next tells (inl (places, is, goes_on_so, same)) =
      tells_still old mid new done told tells (goes_is mid new same) is
  unless old mid new done ends told next tells (inr (inl (places, hears, is, goes_on_so))) =
      tells_still old mid new done told tells (hears_goes mid new false hears) is
  unless old mid new done ends told next tells (inr (inr (places, is_lost))) =
      tells_on old mid new told tells.0 (lost mid new told next is_lost)

  begun_goes : (old new : SessionState) (wish : Wish) → talks.IsBegun s old wish new → Goes old new
  begun_goes old new wish (inl (wants, same)) = goes_is old new same
  begun_goes old new wish (inr (wants, hears)) = hears_goes old new false hears

  exchanged : (old new : SessionState) (wish : Wish) (told : Option (Told Response))
      (next : Option Why) → talks.Exchanges s old wish told next new → Tells old told new
  exchanged old new wish told next (inl (wants, is_lost)) = lost old new told next is_lost
  exchanged old new wish told next (inr (begun, mid, done, ends, begins, carries, is_unless)) =
      tells_on old begun new told (begun_goes old begun wish begins)
      (unless begun mid new done ends told next (carried begun mid wish done ends carries)
      is_unless)

  unwished_told : (known : Known) (line : List ℕ) (told : Told Response) →
      talks.IsUnwished line told → IsBorneOut known told
  unwished_told known line (Told.NotUnderstood why) is = tt
  unwished_told known line (Told.Refused e) is = tt
  unwished_told known line told is = absurd is

  line_told : (old new : SessionState) (line : List ℕ) (told : Option (Told Response))
      (next : Option Why) → talks.IsLineAnswered s old line told next new → Tells old told new
  line_told old new line told next (inl (wish, wished, exchanges)) =
      exchanged old new wish told next exchanges
  line_told old new line told next (inr (unwished, is_unwished, is, ends, same)) =
      tells_is old new told unwished is (goes_is old new same)
      (λ own. unwished_told new.known line unwished is_unwished)

  turned_told : (known : Known) (found : Found) (line : List ℕ) (told : Option (Told Response))
      (after : Bool) → talks.IsTurnedAway found line told after → IsToldBorneOut known told
  turned_told known Found.Line line told after (inl (wished, is, undone)) =
      subst (IsToldBorneOut known) (sym is) tt
  turned_told known Found.Line line told after (inr (wished, is, undone)) =
      subst (IsToldBorneOut known) (sym is) tt
  turned_told known Found.TooLong line told after (is, undone) =
      subst (IsToldBorneOut known) (sym is) tt
  turned_told known Found.Cut line told after (is, undone) =
      subst (IsToldBorneOut known) (sym is) tt
  turned_told known Found.End line told after (is, undone) =
      subst (IsToldBorneOut known) (sym is) tt
  turned_told known Found.Silence line told after (is, undone) =
      subst (IsToldBorneOut known) (sym is) tt

  answered : (found : Found) (old new : SessionState) (undone after : Bool) (line : List ℕ)
      (told : Option (Told Response)) (next : Option Why) →
      talks.IsAnswered s found old undone line told next new after → Tells old told new
  answered Found.Line old new false after line told next (is, ends) =
      line_told old new line told next is
  answered Found.TooLong old new false after line told next (is, ends, same, then) =
      tells_is old new told Told.TooLong is (goes_is old new same) (λ own. tt)
  answered Found.Line old new true after line told next (turned, ends, same) =
      (goes_is old new same, λ own. turned_told new.known Found.Line line told after turned)
  answered Found.TooLong old new true after line told next (turned, ends, same) =
      (goes_is old new same, λ own. turned_told new.known Found.TooLong line told after turned)
  answered Found.Cut old new undone after line told next (is, ends, same, then) =
      tells_none old new told is (goes_is old new same)
  answered Found.End old new undone after line told next (is, ends, same, then) =
      tells_none old new told is (goes_is old new same)
  answered Found.Silence old new was after line told next (is, ends, (more, taken, then)) =
      tells_none old new told is (undone old new more taken)

  -- ---- talks

  round_told : (old new : SessionState) (was after : Bool) (bs : List ℕ)
      (told : Option (Told Response)) (next : Option Why) →
      talks.IsRound s old was bs told next new after → Tells old told new
  round_told old new was after bs told next (found, line, brings, is) =
      answered found old new was after line told next is

  list_borne : (known : Known) (told : Option (Told Response)) → IsToldBorneOut known told →
      AllByRecursion (IsBorneOut known) (tolds_of told)
  list_borne known None is = tt
  list_borne known (Some told) is = (is, tt)

  -- all that was told
  abbrev TellsAll : SessionState → List (Told Response) → SessionState → Type 0
  TellsAll old told new =
      Goes old new × (HasOwn old → AllByRecursion (IsBorneOut new.known) told)

  all_on : (old mid new : SessionState) (first last : List (Told Response)) →
      TellsAll old first mid → TellsAll mid last new → TellsAll old (first ++ last) new
  all_on old mid new first last one two = (
    goes_on old mid new one.0 two.0,
    λ own. each_append (IsBorneOut new.known) first last
        (tolds_still mid.known new.known two.0.still first (one.1 own)) (two.1 (one.0.own own)),
  )

  all_of : (old new : SessionState) (told : Option (Told Response)) → Tells old told new →
      TellsAll old (tolds_of told) new
  all_of old new told tells = (tells.0, λ own. list_borne new.known told (tells.1 own))

  rounds_told : (old new : SessionState) (was after : Bool)
      (rounds : List (List ℕ × Option (Told Response))) →
      talks.AreRounds s old was rounds new after → TellsAll old (talks.told_of s rounds) new
  rounds_told old new was after [] (same, is) = (goes_is old new same, λ own. tt)
  rounds_told old new was after ((bs, told) ∷ rounds) (mid, between, round, more) =
      all_on old mid new (tolds_of told) (talks.told_of s rounds)
      (all_of old mid told (round_told old mid was between bs told None round))
      (rounds_told mid new between after rounds more)

  -- what is heard from here on
  record HeardFrom (first all : List (Told Response)) (old new : SessionState) : Type 0 where
    pub last : List (Told Response)
    pub whole : all ≡ first ++ last
    pub tells : TellsAll old last new

  heard_so : (first all : List (Told Response)) (old new : SessionState)
      (told : Option (Told Response)) → all ≡ first ++ tolds_of told → Tells old told new →
      HeardFrom first all old new
  heard_so first all old new told heard tells =
      record { last = tolds_of told; whole = heard; tells = all_of old new told tells }

  broken_told : (first all : List (Told Response)) (old new : SessionState) (was : Bool) →
      talks.BreaksOff s (Some first) (Some all) old was new → HeardFrom first all old new
  broken_told first all old new was (inl (same, heard)) =
      record { last = []; whole = heard; tells = (goes_is old new same, λ own. tt) }
  broken_told first all old new was (inr (bs, told, next, after, round, heard)) =
      heard_so first all old new told heard (round_told old new was after bs told next round)

  last_told : (r t : Option (List ℕ)) (first all : List (Told Response)) (begun : List ℕ)
      (old new : SessionState) (was : Bool) (why : Why) →
      talks.IsLast s r t (Some first) (Some all) begun old was why new → HeardFrom first all old new
  last_told r t first all begun old new was Why.Broken last =
      broken_told first all old new was last
  last_told r t first all begun old new was Why.NoMemory last =
      broken_told first all old new was last
  last_told r t first all begun old new was Why.Bye (bs, told, after, round, took, heard) =
      heard_so first all old new told heard
      (round_told old new was after (begun ++ bs) told (Some Why.Bye) round)
  last_told r t first all begun old new was Why.Gone (bs, told, after, round, took, heard) =
      heard_so first all old new told heard
      (round_told old new was after (begun ++ bs) told (Some Why.Gone) round)
  last_told r t first all begun old new was Why.Lost (bs, told, after, round, took, heard) =
      heard_so first all old new told heard
      (round_told old new was after (begun ++ bs) told (Some Why.Lost) round)

  talk_told : (r t : Option (List ℕ)) (told : List (Told Response)) (old new : SessionState)
      (why : Why) → talks.TalksOn s r t (Some []) (Some told) old why new → TellsAll old told new
  talk_told r t told old new why (rounds, begun, q, None, mid, was, are, took, heard, last) =
      absurd heard
  talk_told r t told old new why (rounds, begun, q, Some i, mid, was, are, took, heard, last) =
      let end = last_told q t i told begun mid new was why last in
      subst (λ l. TellsAll old l new) (sym (end.whole ∙ ap (λ l. l ++ end.last) heard))
      (all_on old mid new (talks.told_of s rounds) end.last
      (rounds_told old mid false was rounds are) end.tells)

  -- what was told in a talk is borne out behind it
  pub talk_borne_out : (old new : Known) (told : List (Told Response)) → Holds o old told new →
      AreBorneOut old told new
  talk_borne_out old new told holds =
      let start = session old None in
      let first = talk_told holds.before holds.after told start holds.ended holds.why
      holds.talked in
      let then = back holds.ended holds.left holds.is_taken_back holds.taken_back in
      subst (AreBorneOut old told) holds.behind_is (record {
        still = (goes_on start holds.ended holds.left first.0 then).still;
        each = tolds_still holds.ended.known holds.left.known then.still told (first.1 tt);
      })

  talks_told : (n : ℕ) (old new : Known) (told : List (Told Response)) →
      HoldsSoMany o n old told new → AreBorneOut old told new
  talks_told zero old new told (none, same) =
      subst (λ l. AreBorneOut old l new) (sym none)
      (record { still = still_is old new same; each = tt })
  talks_told (suc n) old new told (first, last, mid, before, closed, holds, is) =
      let one = talks_told n old mid first before in
      let two = talk_borne_out mid new last holds in
      subst (λ l. AreBorneOut old l new) (sym is) (record {
        still = still_through old mid new one.still two.still;
        each = each_append (IsBorneOut new) first last
            (tolds_still mid new two.still first one.each) two.each;
      })

  -- so is what was told in several talks behind the last of them
  pub talks_borne_out : (old new : Known) (told : List (Told Response)) →
      HoldsAll o old told new → AreBorneOut old told new
  talks_borne_out old new told (n, held) = talks_told n old new told held
