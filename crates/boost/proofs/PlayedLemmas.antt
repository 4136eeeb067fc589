-- What the lines of a play were told to be kept is kept.
use Rattle.std.proofs.Common.{◌≡◌, ℕ, ◌≤◌, ◌%◌, Bool, true, false, Option, Some, None}
use Rattle.std.proofs.Common.{Result, Ok, Err, List, [], ◌∷◌, ◌++◌, length, replicate, take, get_or}
use Rattle.std.proofs.Common.{refl, sym, ◌∙◌, ap, subst, arith, append_assoc, length-append}
use Rattle.std.proofs.Common.{true≢false}
use Rattle.std.specs.Option.{unwrap_or}
use Rattle.std.proofs.lemmas.Option.{same_Some, none-some}
use mathlib.Core.List.{IsPrefix}
use Rattle.calls.specs.Contents.{Collection}
use Rattle.calls.specs.Transactions.{Transaction}
use Rattle.calls.specs.declared.refusal.Refusal.{Refusal}
use Rattle.checkpoint.specs.Crash.{Yields}
use Rattle.checkpoint.specs.declared.turn.Turn.{Turn}
use Rattle.checkpoint.proofs.YieldLemmas.{take_longer, prefix_take, yields_fewer}
use Rattle.disk_model.specs.Disk.{LeavesOnly}
use Rattle.disk_model.specs.declared.disk.Disk.{Ghosts}
use Rattle.disk_model.proofs.Walk.{weaker, and_then}
use Rattle.engine.specs.Rooms as rooms
use Rattle.world.specs.declared.step.Step.{Step}
use Rattle.world.specs.declared.step.Answer.{Answer}
use Rattle.world.specs.Moves.{Whole}
use Rattle.world.specs.OneStep.{parts}
use Rattle.world.specs.Pasts.{Past, committed_in, greatest_told, acknowledged, outcome}
use Rattle.world.specs.Worlds.{HasPast}
use Rattle.world.proofs.PastLemmas.{committed_in-append, yields_on}
use Rattle.world.proofs.PlayLemmas.{past_goes_on, moments_of, answered_of}
use Rattle.world.proofs.StepLemmas.{few_marked, rests}
use Rattle.script.specs.declared.action.Action.{Action}
use Rattle.script.specs.declared.action.Request.{Request}
use Rattle.script.specs.declared.line.Line.{Line}
use Rattle.talks.specs.Plays.{Plays, IsPlayed}
use Rattle.talks.specs.Checkpoints.{left_in, FinishesAs, FlipsAs}
use Rattle.talks.specs.Clients.{Looks}
use Rattle.talks.specs.Requests.{telling, response_kept, nobody, saying, Acts, Answers, CarriesOut}
use Rattle.talks.specs.declared.client.Client.{Client}
use Rattle.talks.specs.declared.texts.Response.{Response}
use Rattle.talks.proofs.RequestLemmas.{acts_plays}
use Rattle.talks.proofs.Stepping.{plays_append}
use Rattle.boost.specs.Effects.{TellsKept, IsLineOf, WasPlayed}

-- ---- what steps tell

told_behind : (a b : Past) → greatest_told b ≤ greatest_told (a ++ b)
told_behind [] b = omega arith
told_behind (x ∷ a) b = let rest = told_behind a b in omega (arith, rest)

no_error : {T : Type 0} (x : T) (e : Refusal) → ◌≡◌ {A = Result T Refusal} (Ok x) (Err e) → ⊥
no_error x e same = cc

-- what an answer that tells of a place tells
abbrev turn_of : Result Response Refusal → Turn
turn_of (Ok (Response.Turned t)) = t
turn_of r = Turn.Idle

abbrev place_of : Result Response Refusal → ℕ
place_of (Ok (Response.Flipped n)) = n
place_of r = 0

is_turned : (n : ℕ) (t : Result Turn Refusal) →
    Ok (Response.Turned (Turn.Kept n)) ≡ telling Response.Turned t → t ≡ Ok (Turn.Kept n)
is_turned n (Ok t) same = ap (λ x. Ok x) (sym (ap turn_of same))
is_turned n (Err e) same = absurd (no_error (Response.Turned (Turn.Kept n)) e same)

is_flipped : (n : ℕ) (t : Result ℕ Refusal) →
    Ok (Response.Flipped n) ≡ telling Response.Flipped t → t ≡ Ok n
is_flipped n (Ok m) same = ap (λ x. Ok x) (sym (ap place_of same))
is_flipped n (Err e) same = absurd (no_error (Response.Flipped n) e same)

not_held : (n : ℕ) → ◌≡◌ {A = Result Turn Refusal} (Ok (Turn.Kept n)) (Ok Turn.Held) → ⊥
not_held n same = cc

-- a turn that was barred tells of no place
was_turned : (n : ℕ) (barred : Option Refusal) (t : Result Turn Refusal) →
    Ok (Turn.Kept n) ≡ rooms.told barred t → t ≡ Ok (Turn.Kept n)
was_turned n (Some Refusal.Imaging) (Ok Turn.Idle) same = absurd (not_held n same)
was_turned n (Some Refusal.Full) (Ok Turn.Idle) same =
    absurd (no_error (Turn.Kept n) Refusal.Full same)
was_turned n barred t same = sym same

turn_told : (n : ℕ) (cut : Answer) (turned : Result Turn Refusal) (first last steps : Past) →
    turned ≡ Ok (Turn.Kept n) → first ≡ (Step.Cut, cut) ∷ [] →
    last ≡ (Step.Turn, outcome Answer.Turned turned) ∷ [] → steps ≡ first ++ last →
    n ≤ greatest_told steps
turn_told n cut turned first last steps kept one two both =
    let told : n ≤ greatest_told last =
    subst (λ p. n ≤ greatest_told p) (sym two)
    (subst (λ t. n ≤ greatest_told ((Step.Turn, outcome Answer.Turned t) ∷ [])) (sym kept)
    (omega arith)) in
    let more = told_behind first last in
    subst (λ p. n ≤ greatest_told p) (sym both) (omega (arith, told, more))

flip_told : (n : ℕ) (laid : Result (Unit {0}) Refusal) (last : Past) → FlipsAs laid (Ok n) last →
    n ≤ greatest_told last
flip_told n (Ok done) last flips = subst (λ p. n ≤ greatest_told p) (sym flips) (omega arith)
flip_told n (Err e) last flips = absurd (no_error n e flips.0)

finish_told : (n k : ℕ) (begun : Result (Unit {0}) Refusal) (last : Past) →
    FinishesAs k begun (Ok n) last → n ≤ greatest_told last
finish_told n k (Ok done) last finishes =
    let flip = flip_told n finishes.0 finishes.2 finishes.4 in
    let more = told_behind finishes.1 finishes.2 in
    subst (λ p. n ≤ greatest_told p) (sym finishes.5) (omega (arith, flip, more))
finish_told n k (Err e) last finishes = absurd (no_error n e finishes.0)

-- whether a ticket is said to be kept
abbrev is_kept : Result Response Refusal → Bool
is_kept (Ok Response.Kept) = true
is_kept r = false

look_told : (ticket place : ℕ) (kept : Bool) (steps : Past) → kept ≡ true →
    Looks (Some ticket) (Some kept) steps → ticket ≡ place → place ≤ greatest_told steps
look_told ticket place kept steps so looks is =
    let below : ticket ≤ looks.0 = looks.2.0 so in
    subst (λ p. place ≤ greatest_told p) (sym looks.1) (omega (arith, below, is))

kept_told : (ticket : Option ℕ) (kept : Option Bool) (steps : Past) (place : ℕ) →
    ◌≡◌ {A = Result Response Refusal} (Ok Response.Kept) (Ok (response_kept kept)) →
    ticket ≡ Some place → Looks ticket kept steps →
    place ≤ greatest_told steps
kept_told None kept steps place said is looks = absurd (none-some place is)
kept_told (Some ticket) None steps place said is looks = absurd looks
kept_told (Some ticket) (Some true) steps place said is looks =
    look_told ticket place true steps refl looks (same_Some ticket place is)
kept_told (Some ticket) (Some false) steps place said is looks =
    absurd (true≢false (ap is_kept said))

-- ---- lines

-- the first of some lines, and the others
abbrev first_of : Line → List Line → Line
first_of x [] = x
first_of x (y ∷ lines) = y

abbrev others_of : List Line → List Line
others_of [] = []
others_of (y ∷ lines) = lines

module _ {D : Type 0} (g : Ghosts D) where
  -- steps of a line, which tell what its answer does
  record Took (ks : List Client) (old : Whole D) (action : Action) (response : Response)
      (new : Whole D) : Type 0 where
    steps : Past
    led : Plays g old steps new
    told : (place : ℕ) → TellsKept ks action response place → place ≤ greatest_told steps

  -- so many tell nothing
  quiet : (ks : List Client) (old : Whole D) (action : Action) (response : Response)
      (new : Whole D) → IsPlayed g old new →
      ((place : ℕ) → TellsKept ks action response place → ⊥) →
      Took ks old action response new
  quiet ks old action response new played none = record {
    steps = played.0;
    led = played.1;
    told = λ place tells. absurd (none place tells);
  }

  took : (ks ls : List Client) (old new : Whole D) (action : Action) (r : Result Response Refusal) →
      Acts g ks old action r ls new → Took ks old action (saying r) new
  took ks ls old new Action.Turn (Ok (Response.Turned (Turn.Kept n))) acts =
      let run = acts.3 in
      record {
        steps = run.0;
        led = run.2;
        told = λ place tells. subst (λ m. m ≤ greatest_told run.0) (sym tells)
            (turn_told n _ run.1.1 run.1.2 run.1.3 run.0
            (was_turned n _ run.1.1 (sym (is_turned n acts.0 acts.1) ∙ run.1.6))
            run.1.4 run.1.5 run.1.7);
      }
  took ks ls old new Action.Checkpoint (Ok (Response.Flipped n)) acts =
      let made = acts.3 in
      record {
        steps = made.first ++ made.last;
        led = made.whole;
        told = λ place tells. subst (λ m. m ≤ greatest_told (made.first ++ made.last)) (sym tells)
            (let left : ℕ = unwrap_or (left_in made.mid) 0 in
            let last : n ≤ greatest_told made.last = finish_told n left made.begun made.last
            (subst (λ r. FinishesAs left made.begun r made.last) (is_flipped n acts.0 acts.1)
            made.finishes) in
            let more = told_behind made.first made.last in omega (arith, last, more));
      }
  took ks ls old new (Action.Client n Request.Kept) (Ok Response.Kept) acts =
      let run = acts.2.3 in
      record {
        steps = run.0;
        led = run.2;
        told = λ place tells.
            kept_told (get_or ks (n % 64) nobody).ticket acts.2.0 run.0 place acts.2.1 tells run.1;
      }
  took ks ls old new action r acts =
      quiet ks old action (saying r) new (acts_plays g ks ls old new action r acts)
      (λ place tells. tells)

  took_answered : (ks ls : List Client) (old new : Whole D) (action : Action)
      (response : Response) → Answers g ks old action response ls new →
      Took ks old action response new
  took_answered ks ls old new action response answers =
      subst (λ a. Took ks old action a new) (sym answers.1)
      (took ks ls old new action answers.0 answers.2)

  -- a line within others, and the steps of all
  record IsWithin (ks : List Client) (w : Whole D) (first : List Line) (line : Line)
      (last : List Line) (ls : List Client) (v : Whole D) (steps : Past) : Type 0 where
    before : List Client
    there : Whole D
    carried : CarriesOut g ks w first before there
    response : Response
    behind : List Client
    here : Whole D
    answered : Answers g before there line.what response behind here
    goes_on : CarriesOut g behind here last ls v
    sooner : Past
    own : Past
    later : Past
    led : Plays g w sooner there
    takes : Plays g there own here
    leads : Plays g here later v
    told : (place : ℕ) → TellsKept before line.what response place → place ≤ greatest_told own
    are : sooner ++ (own ++ later) ≡ steps

  -- the steps of lines, with each line
  record AreSteps (ks : List Client) (w : Whole D) (lines : List Line) (ls : List Client)
      (v : Whole D) : Type 0 where
    steps : Past
    led : Plays g w steps v
    each : (first : List Line) (line : Line) (last : List Line) → lines ≡ first ++ line ∷ last →
        IsWithin ks w first line last ls v steps

  none_within : (first : List Line) (line : Line) (last : List Line) →
      ◌≡◌ {A = List Line} [] (first ++ line ∷ last) → ⊥
  none_within first line last same =
      omega (arith, ap length same, length-append first (line ∷ last))

  module _ (ks ms ls : List Client) (w mid v : Whole D) (x : Line) (xs : List Line)
      (response : Response) (answers : Answers g ks w x.what response ms mid)
      (carried : CarriesOut g ms mid xs ls v) (one : Took ks w x.what response mid)
      (rest : AreSteps ms mid xs ls v) where
    abbrev all_steps : Past
    all_steps = one.steps ++ rest.steps

    -- the first line, and another one
    it_is : IsWithin ks w [] x xs ls v all_steps
    it_is = record {
      before = ks;
      there = w;
      carried = (refl, refl);
      response = response;
      behind = ms;
      here = mid;
      answered = answers;
      goes_on = carried;
      sooner = [];
      own = one.steps;
      later = rest.steps;
      led = refl;
      takes = one.led;
      leads = rest.led;
      told = one.told;
      are = refl;
    }

    is_behind : (first : List Line) (line : Line) (last : List Line) →
        IsWithin ms mid first line last ls v rest.steps →
        IsWithin ks w (x ∷ first) line last ls v all_steps
    is_behind first line last within = record {
      before = within.before;
      there = within.there;
      carried = (response, ms, mid, answers, within.carried);
      response = within.response;
      behind = within.behind;
      here = within.here;
      answered = within.answered;
      goes_on = within.goes_on;
      sooner = one.steps ++ within.sooner;
      own = within.own;
      later = within.later;
      led = plays_append g w mid within.there one.steps within.sooner one.led within.led;
      takes = within.takes;
      leads = within.leads;
      told = within.told;
      are = append_assoc one.steps within.sooner (within.own ++ within.later)
          ∙ ap (λ l. one.steps ++ l) within.are;
    }

    is_within : (first : List Line) (line : Line) (last : List Line) →
        x ∷ xs ≡ first ++ line ∷ last → IsWithin ks w first line last ls v all_steps
    is_within [] line last same =
        subst (λ y. IsWithin ks w [] y last ls v all_steps) (ap (first_of x) same)
        (subst (λ l. IsWithin ks w [] x l ls v all_steps) (ap others_of same) it_is)
    is_within (y ∷ first) line last same =
        subst (λ z. IsWithin ks w (z ∷ first) line last ls v all_steps) (ap (first_of x) same)
        (is_behind first line last (rest.each first line last (ap others_of same)))

  steps_of : (lines : List Line) (ks ls : List Client) (w v : Whole D) →
      CarriesOut g ks w lines ls v → AreSteps ks w lines ls v
  steps_of [] ks ls w v carried = record {
    steps = [];
    led = sym carried.1;
    each = λ first line last same. absurd (none_within first line last same);
  }
  steps_of (x ∷ xs) ks ls w v carried =
      let one = took_answered ks carried.1 w carried.2 x.what carried.0 carried.3 in
      let rest = steps_of xs carried.1 ls carried.2 v carried.4 in record {
        steps = one.steps ++ rest.steps;
        led = plays_append g w carried.2 v one.steps rest.steps one.led rest.led;
        each = is_within ks carried.1 ls w carried.2 v x xs carried.0 carried.3 carried.4 one rest;
      }

  -- ---- what a stop leaves

  module _ (only_now : (d : D) (c : List ℕ) → g.left_since d (g.moment d) c → g.may_leave d c)
      (counts_now : (d : D) (t : ℕ) (c : List ℕ) → t ≤ g.moment d → g.may_leave d c →
      g.left_since d t c) (content : List Collection) (w v : Whole D)
      (had : HasPast g.seen g.may_leave content [] (parts w)) where
    -- from a moment on at which steps had told of a place
    kept_since : (place : ℕ) (taken later : Past) (here : Whole D) → Plays g w taken here →
        Plays g here later v → place ≤ greatest_told taken →
        LeavesOnly g.moment g.left_since here.keeper.disk v.keeper.disk
        (Yields content (committed_in (taken ++ later))
        (take place (committed_in (taken ++ later))))
    kept_since place taken later here led leads told =
        let there = past_goes_on g content [] taken w here led had in
        let all : List Transaction = committed_in (taken ++ later) in
        let few : place ≤ length (committed_in taken) =
        omega (
          arith,
          told,
          there.told,
          few_marked g.seen g.may_leave content taken (parts here) there,
        )
        in
        let same : take place all ≡ take place (committed_in taken) =
        take_longer (committed_in taken) all place (committed_in-append taken later) few in
        weaker g.moment g.left_since here.keeper.disk v.keeper.disk
        (Yields content all (acknowledged taken)) (Yields content all (take place all))
        (moments_of g only_now content taken later here v leads there)
        (λ c y. yields_fewer content all (acknowledged taken) (take place all) c
        (subst (λ l. IsPrefix l (acknowledged taken)) (sym same)
        (prefix_take (committed_in taken) place (greatest_told taken) told)) y)

    line_of : (first : List Line) (line : Line) (last : List Line) (steps : Past)
        (ls : List Client) → IsWithin (replicate 64 nobody) w first line last ls v steps →
        IsLineOf g content w first line last steps ls v
    line_of first line last steps ls within =
        let taken : Past = within.sooner ++ within.own in
        let are : taken ++ within.later ≡ steps =
        append_assoc within.sooner within.own within.later ∙ within.are in
        let led = plays_append g w within.there within.here within.sooner within.own within.led
        within.takes in record {
          before = within.before;
          there = within.there;
          carried = within.carried;
          response = within.response;
          behind = within.behind;
          here = within.here;
          answered = within.answered;
          goes_on = within.goes_on;
          taken = taken;
          begins = (within.later, are);
          led = led;
          told = λ place tells.
              let told = within.told place tells in
              let more = told_behind within.sooner within.own in
              subst (λ p. LeavesOnly g.moment g.left_since within.here.keeper.disk v.keeper.disk
              (Yields content (committed_in p) (take place (committed_in p)))) are
              (kept_since place taken within.later within.here led within.leads
              (omega (arith, told, more)));
        }

    pub was_played : (old : D) (lines : List Line) (ls : List Client) →
        CarriesOut g (replicate 64 nobody) w lines ls v →
        LeavesOnly g.moment g.left_since old w.keeper.disk (Yields content (committed_in []) []) →
        WasPlayed g content lines old w ls v
    was_played old lines ls carried opening =
        let all = steps_of lines (replicate 64 nobody) ls w v carried in
        let has = past_goes_on g content [] all.steps w v all.led had in
        let P : List ℕ → Type 0 = Yields content (committed_in all.steps) [] in
        record {
          steps = all.steps;
          own = answered_of g all.steps w v all.led;
          led = all.led;
          any_moment = and_then g.moment g.left_since old w.keeper.disk v.keeper.disk P P
              (weaker g.moment g.left_since old w.keeper.disk
              (Yields content (committed_in []) []) P opening
              (λ c y. yields_on content [] all.steps [] c y))
              (moments_of g only_now content [] all.steps w v all.led had) (λ c y. y);
          each_line = λ first line last same.
              line_of first line last all.steps ls (all.each first line last same);
          marked = has.told;
          stop = λ c may.
              (rests g.seen g.may_leave content all.steps (parts v) has g.moment g.left_since
              (only_now v.keeper.disk)).each c
              (counts_now v.keeper.disk (g.moment v.keeper.disk) c (omega arith) may);
        }
