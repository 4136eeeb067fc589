-- Requests that are carried out one after another, and lines that are answered so.
use Rattle.std.proofs.Common.{◌≡◌, ℕ, ◌+◌, ◌<◌, List, [], ◌∷◌, ◌++◌, take, drop, refl, sym, ap}
use Rattle.std.proofs.Common.{subst}
use Rattle.std.proofs.Common.{◌∙◌, Option, None, Some, append_assoc, take-append-drop, get_or}
use Rattle.std.proofs.Common.{length, inl, inr, Bool, true, false, true≢false}
use Rattle.std.proofs.lemmas.List.{append-nil, take_more}
use Rattle.script.specs.declared.action.Request.{Request}
use Rattle.talks.specs.declared.speaking.Speaker.{Ghosts}
use Rattle.talks.specs.declared.told.Told.{Told}
use Rattle.talks.specs.declared.why.Why.{Why}
use Rattle.std.specs.Io.KnownBytes.{Consumes}
use Rattle.std.specs.Prelude.{IsSomeAnd, ◌≢◌, IsTrue, ◌↔◌, not}
use Rattle.std.proofs.lemmas.List.Elements.{All-nil}
use Rattle.talks.specs.declared.lines.Found.{Found}
use Rattle.talks.specs.Lines.{Begins, Finds}
use Rattle.std.proofs.KnownBytes.{Consumes-trans}
use Rattle.talks.specs.Hearing.{Hears, IsHeard, IsBreak, tolds_of}
use Rattle.talks.specs.Talks.{AreTried, RunsCalls, IsRound, AreRounds, IsLast, TalksOn, bytes_of}
use Rattle.talks.specs.Talks.{told_of, IsAnswered, IsSettled, BreaksOff, Turns}

pub hears_none : {A : Type 0} (h : Option (List (Told A))) → Hears h h []
hears_none None = tt
hears_none (Some xs) = sym (append-nil xs)

pub hears_more : {A : Type 0} (h i k : Option (List (Told A))) (xs ys : List (Told A)) →
    Hears h i xs → Hears i k ys → Hears h k (xs ++ ys)
hears_more None i k xs ys first second = tt
hears_more (Some h) None k xs ys first second = absurd first
hears_more (Some h) (Some i) None xs ys first second = absurd second
hears_more (Some h) (Some i) (Some k) xs ys first second =
    second ∙ ap (λ l. l ++ ys) first ∙ append_assoc h xs ys

module _ {S A : Type 0} (s : Ghosts S A) where
  -- a try more
  pub tried_on : (old mid new : S) (responses : List A) (response : A) →
      AreTried s old responses mid →
      s.says mid Request.Abort response new → AreTried s old (responses ++ response ∷ []) new
  tried_on old mid new [] response tried says =
      (new, subst (λ m. s.says m Request.Abort response new) tried says, refl)
  tried_on old mid new (first ∷ responses) response tried says =
      (tried.0, tried.1, tried_on tried.0 mid new responses response tried.2 says)

  -- whether none is open behind so many tries
  pub settled : (tries : ℕ) (new : S) (opened : Bool) → IsTrue opened ↔ s.is_open new →
      tries ≡ 100000 → IsSettled s tries (not opened) new
  settled tries new true is all = (is.0 refl, all)
  settled tries new false is all = λ opened. true≢false (sym (is.1 opened))

  -- a call more
  pub runs_on : (old mid new : S) (rs : List Request) (r : Request) (responses : List A)
      (response : A) →
      RunsCalls s old rs responses mid → s.says mid r response new → (s.refuses response → ⊥) →
      RunsCalls s old (rs ++ r ∷ []) (responses ++ response ∷ []) new
  runs_on old mid new [] r responses response ran says accepted = (
    response,
    [],
    new,
    ap (λ l. l ++ response ∷ []) ran.0,
    subst (λ m. s.says m r response new) ran.1 says,
    accepted,
    (refl, refl),
  )
  runs_on old mid new (q ∷ rs) r responses response ran says accepted = (
    ran.0,
    ran.1 ++ response ∷ [],
    ran.2,
    ap (λ l. l ++ response ∷ []) ran.3,
    ran.4,
    ran.5,
    runs_on ran.2 mid new rs r ran.1 response ran.6 says accepted,
  )

  pub parts_at : (rs : List Request) (i : ℕ) (r : Request) → i < length rs → r ≡ get_or rs i r →
      rs ≡ take i rs ++ r ∷ drop (i + 1) rs
  parts_at rs i r inside is =
      sym (take-append-drop (i + 1) rs) ∙ ap (λ l. l ++ drop (i + 1) rs) (take_more rs i r inside
      ∙ ap (λ x. take i rs ++ x ∷ []) (sym is)) ∙
      append_assoc (take i rs) (r ∷ []) (drop (i + 1) rs)

  -- a round more
  pub rounds_on : (old mid new : S) (undone between after : Bool)
      (rounds : List (List ℕ × Option (Told A))) (bs : List ℕ) (told : Option (Told A)) →
      AreRounds s old undone rounds mid between → IsRound s mid between bs told None new after →
      AreRounds s old undone (rounds ++ (bs, told) ∷ []) new after
  rounds_on old mid new undone between after [] bs told were is = (
    new,
    after,
    subst (λ b. IsRound s old b bs told None new after) were.1
        (subst (λ m. IsRound s m between bs told None new after) were.0 is),
    (refl, refl),
  )
  rounds_on old mid new undone between after (round ∷ rounds) bs told were is = (
    were.0,
    were.1,
    were.2,
    rounds_on were.0 mid new were.1 between after rounds bs told were.3 is,
  )

  pub bytes_on : (rounds : List (List ℕ × Option (Told A))) (bs : List ℕ) (told : Option (Told A)) →
      bytes_of s (rounds ++ (bs, told) ∷ []) ≡ bytes_of s rounds ++ bs
  bytes_on [] bs told = append-nil bs
  bytes_on (round ∷ rounds) bs told =
      ap (λ l. round.0 ++ l) (bytes_on rounds bs told) ∙
      sym (append_assoc round.0 (bytes_of s rounds) bs)

  pub told_on : (rounds : List (List ℕ × Option (Told A))) (bs : List ℕ) (told : Option (Told A)) →
      told_of s (rounds ++ (bs, told) ∷ []) ≡ told_of s rounds ++ tolds_of told
  told_on [] bs told = append-nil (tolds_of told)
  told_on (round ∷ rounds) bs told =
      ap (λ l. tolds_of round.1 ++ l) (told_on rounds bs told)
      ∙ sym (append_assoc (tolds_of round.1) (told_of s rounds) (tolds_of told))

-- what is heard behind nothing
pub heard_behind : {A : Type 0} (h i k : Option (List (Told A))) (told : Option (Told A))
    (next result : Option Why) → Hears h i [] → IsHeard i k told next result →
    IsHeard h k told next result
heard_behind h i k told next result none heard =
    (hears_more h i k [] (tolds_of told) none heard.0, heard.1)

-- what is heard before nothing
heard_before : {A : Type 0} (h k l : Option (List (Told A))) (xs : List (Told A)) →
    Hears h k xs → Hears k l [] → Hears h l xs
heard_before h k l xs heard none =
    subst (Hears h l) (append-nil xs) (hears_more h k l xs [] heard none)

module _ {S A : Type 0} (s : Ghosts S A) where
  -- what a turn is that was broken off behind a round
  turn_broken : (r t : Option (List ℕ)) (h k : Option (List (Told A))) (begun : List ℕ)
      (old new : S) (undone after : Bool) (bs : List ℕ) (told : Option (Told A))
      (next result : Option Why) (kept : List ℕ) → IsRound s old undone bs told next new after →
      Hears h k (tolds_of told) → IsSomeAnd result IsBreak →
      Turns s r t h k begun old undone result new after kept
  turn_broken r t h k begun old new undone after bs told next (Some Why.Broken) kept is heard
      broken =
      inr (bs, told, next, after, is, heard)
  turn_broken r t h k begun old new undone after bs told next (Some Why.NoMemory) kept is heard
      broken =
      inr (bs, told, next, after, is, heard)
  turn_broken r t h k begun old new undone after bs told next (Some why) kept is heard broken =
      absurd broken
  turn_broken r t h k begun old new undone after bs told next None kept is heard broken =
      absurd broken

  -- what a turn is in which a line was read to its end and answered
  turn_line : (r t : Option (List ℕ)) (h k : Option (List (Told A))) (begun : List ℕ)
      (old new : S) (undone after : Bool) (bs : List ℕ) (told : Option (Told A))
      (next : Option Why) (kept : List ℕ) →
      IsRound s old undone (begun ++ bs) told next new after → Consumes r t bs →
      Hears h k (tolds_of told) → kept ≡ [] →
      Turns s r t h k begun old undone next new after kept
  turn_line r t h k begun old new undone after bs told None kept is took heard none =
      (bs, told, took, heard, inl (is, none))
  turn_line r t h k begun old new undone after bs told (Some Why.Broken) kept is took heard none =
      inr (begun ++ bs, told, Some Why.Broken, after, is, heard)
  turn_line r t h k begun old new undone after bs told (Some Why.NoMemory) kept is took heard none =
      inr (begun ++ bs, told, Some Why.NoMemory, after, is, heard)
  turn_line r t h k begun old new undone after bs told (Some Why.Bye) kept is took heard none =
      (bs, told, after, is, took, heard)
  turn_line r t h k begun old new undone after bs told (Some Why.Gone) kept is took heard none =
      (bs, told, after, is, took, heard)
  turn_line r t h k begun old new undone after bs told (Some Why.Lost) kept is took heard none =
      (bs, told, after, is, took, heard)

  pub turned : (r t : Option (List ℕ)) (h i k : Option (List (Told A))) (begun : List ℕ)
      (old new : S) (undone after : Bool) (found : Found) (line kept : List ℕ)
      (told : Option (Told A)) (next result : Option Why) → kept ≡ [] →
      Finds 4095 begun r t found line →
      IsAnswered s found old undone line told next new after → Hears h i [] →
      IsHeard i k told next result → Turns s r t h k begun old undone result new after kept
  turned r t h i k begun old new undone after found line kept told next result none finds
      answered sent heard =
      let more = hears_more h i k [] (tolds_of told) sent heard.0 in
      elim heard.1 [
        | inl same ↦
            subst (λ w. Turns s r t h k begun old undone w new after kept) (sym same)
            (turn_line r t h k begun old new undone after finds.0 told next kept
            (found, line, finds.2, answered) finds.1 more none)
        | inr broken ↦
            turn_broken r t h k begun old new undone after (begun ++ finds.0) told next result kept
            (found, line, finds.2, answered) more broken
      ]

  pub turned_silent : (r t : Option (List ℕ)) (h i k : Option (List (Told A))) (begun : List ℕ)
      (old new : S) (undone after : Bool) (line kept : List ℕ)
      (told : Option (Told A)) (next result : Option Why) → kept ≡ line →
      Finds 4095 begun r t Found.Silence line →
      IsAnswered s Found.Silence old undone line told next new after → Hears h i [] →
      IsHeard i k told next result → Turns s r t h k begun old undone result new after kept
  turned_silent r t h i k begun old new undone after line kept told next result is finds
      answered sent heard =
      let more = hears_more h i k [] (tolds_of told) sent heard.0 in
      elim heard.1 [
        | inl same ↦
            subst (λ w. Turns s r t h k begun old undone w new after kept)
            (sym (same ∙ answered.1)) (
              finds.0,
              told,
              finds.1,
              more,
              inr (
                (Found.Silence, [], (All-nil (λ b. b ≢ 10), refl), (answered.0, refl, answered.2)),
                (finds.2.0, is ∙ finds.2.1),
              ),
            )
        | inr broken ↦
            turn_broken r t h k begun old new undone after [] told next result kept
            (Found.Silence, [], (All-nil (λ b. b ≢ 10), refl), answered) more broken
      ]

module _ {S A : Type 0} (s : Ghosts S A) where
  -- what a talk is so far: the rounds, and what the next line begins with
  abbrev pub IsSoFar : (r q : Option (List ℕ)) → (h i : Option (List (Told A))) → S → S → Bool →
      List ℕ → Type 0
  IsSoFar r q h i old mid undone kept =
      (rounds : List (List ℕ × Option (Told A))) × (begun : List ℕ) ×
      AreRounds s old false rounds mid undone × Consumes r q (bytes_of s rounds ++ begun) ×
      Hears h i (told_of s rounds) × Begins 4095 begun kept

  -- a turn more
  pub went_on : (r q t : Option (List ℕ)) (h i k : Option (List (Told A))) (old mid new : S)
      (undone after : Bool) (line kept : List ℕ) (so_far : IsSoFar r q h i old mid undone line) →
      Turns s q t i k so_far.1 mid undone None new after kept → IsSoFar r t h k old new after kept
  went_on r q t h i k old mid new undone after line kept were (bs, told, took, heard, inl is) = (
    were.0 ++ (were.1 ++ bs, told) ∷ [],
    [],
    rounds_on s old mid new false undone after were.0 (were.1 ++ bs) told were.2 is.0,
    subst (Consumes r t) (append_assoc (bytes_of s were.0) were.1 bs
        ∙ sym (bytes_on s were.0 (were.1 ++ bs) told)
        ∙ sym (append-nil (bytes_of s (were.0 ++ (were.1 ++ bs, told) ∷ []))))
        (Consumes-trans r q t (bytes_of s were.0 ++ were.1) bs were.3 took),
    subst (Hears h k) (sym (told_on s were.0 (were.1 ++ bs) told))
        (hears_more h i k (told_of s were.0) (tolds_of told) were.4 heard),
    (All-nil (λ b. b ≢ 10), is.1),
  )
  went_on r q t h i k old mid new undone after line kept were (bs, told, took, heard, inr is) = (
    were.0 ++ ([], told) ∷ [],
    were.1 ++ bs,
    rounds_on s old mid new false undone after were.0 [] told were.2 is.0,
    subst (Consumes r t) (append_assoc (bytes_of s were.0) were.1 bs
        ∙ ap (λ l. l ++ (were.1 ++ bs)) (sym (bytes_on s were.0 [] told
        ∙ append-nil (bytes_of s were.0))))
        (Consumes-trans r q t (bytes_of s were.0 ++ were.1) bs were.3 took),
    subst (Hears h k) (sym (told_on s were.0 [] told))
        (hears_more h i k (told_of s were.0) (tolds_of told) were.4 heard),
    is.1,
  )

module _ {S A : Type 0} (s : Ghosts S A) where
  break_sent : (h k l : Option (List (Told A))) (old new : S) (undone : Bool) →
      BreaksOff s h k old undone new → Hears k l [] → BreaksOff s h l old undone new
  break_sent h k l old new undone (inl (same, heard)) sent =
      inl (same, heard_before h k l [] heard sent)
  break_sent h k l old new undone (inr (bs, told, next, after, is, heard)) sent =
      inr (bs, told, next, after, is, heard_before h k l (tolds_of told) heard sent)

  last_sent : (r t : Option (List ℕ)) (h k l : Option (List (Told A))) (begun : List ℕ)
      (old new : S)
      (undone : Bool) (why : Why) → IsLast s r t h k begun old undone why new → Hears k l [] →
      IsLast s r t h l begun old undone why new
  last_sent r t h k l begun old new undone Why.Broken last sent =
      break_sent h k l old new undone last sent
  last_sent r t h k l begun old new undone Why.NoMemory last sent =
      break_sent h k l old new undone last sent
  last_sent r t h k l begun old new undone Why.Bye last sent =
      (last.0, last.1, last.2, last.3, last.4, heard_before h k l (tolds_of last.1) last.5 sent)
  last_sent r t h k l begun old new undone Why.Gone last sent =
      (last.0, last.1, last.2, last.3, last.4, heard_before h k l (tolds_of last.1) last.5 sent)
  last_sent r t h k l begun old new undone Why.Lost last sent =
      (last.0, last.1, last.2, last.3, last.4, heard_before h k l (tolds_of last.1) last.5 sent)

  -- what was told is sent on behind a talk
  pub talk_sent : (r t : Option (List ℕ)) (h k l : Option (List (Told A))) (old new : S)
      (why : Why) → TalksOn s r t h k old why new → Hears k l [] → TalksOn s r t h l old why new
  talk_sent r t h k l old new why talked sent = (
    talked.0,
    talked.1,
    talked.2,
    talked.3,
    talked.4,
    talked.5,
    talked.6,
    talked.7,
    talked.8,
    last_sent talked.2 t talked.3 k l talked.1 talked.4 new talked.5 why talked.9 sent,
  )

-- ---- what was heard of one talk alone

module _ {S A : Type 0} (s : Ghosts S A) where
  -- what is heard from here on is the same, whatever was heard before
  break_alone : (first all other : List (Told A)) (old new : S) (undone : Bool) →
      BreaksOff s (Some first) (Some all) old undone new →
      (last : List (Told A)) × BreaksOff s (Some other) (Some (other ++ last)) old undone new ×
      (all ≡ first ++ last)
  break_alone first all other old new undone (inl (same, heard)) =
      ([], inl (same, refl), heard)
  break_alone first all other old new undone (inr (bs, told, next, after, is, heard)) =
      (tolds_of told, inr (bs, told, next, after, is, refl), heard)

  last_alone : (r t : Option (List ℕ)) (first all other : List (Told A)) (begun : List ℕ)
      (old new : S) (undone : Bool) (why : Why) →
      IsLast s r t (Some first) (Some all) begun old undone why new →
      (last : List (Told A)) × IsLast s r t (Some other) (Some (other ++ last)) begun old undone
      why new × (all ≡ first ++ last)
  last_alone r t first all other begun old new undone Why.Broken last =
      break_alone first all other old new undone last
  last_alone r t first all other begun old new undone Why.NoMemory last =
      break_alone first all other old new undone last
  last_alone r t first all other begun old new undone Why.Bye
      (bs, told, after, is, took, heard) =
      (tolds_of told, (bs, told, after, is, took, refl), heard)
  last_alone r t first all other begun old new undone Why.Gone
      (bs, told, after, is, took, heard) =
      (tolds_of told, (bs, told, after, is, took, refl), heard)
  last_alone r t first all other begun old new undone Why.Lost
      (bs, told, after, is, took, heard) =
      (tolds_of told, (bs, told, after, is, took, refl), heard)

  -- what was heard of a talk, where something was heard before
  pub record HeardAlone (r t : Option (List ℕ)) (before all : List (Told A)) (old : S) (why : Why)
      (new : S) : Type 0 where
    pub told : List (Told A)
    pub talked : TalksOn s r t (Some []) (Some told) old why new
    pub whole : all ≡ before ++ told

  pub talk_alone : (r t : Option (List ℕ)) (before all : List (Told A)) (old new : S)
      (why : Why) → TalksOn s r t (Some before) (Some all) old why new →
      HeardAlone r t before all old why new
  talk_alone r t before all old new why
      (rounds, begun, q, None, mid, undone, are, took, heard, last) = absurd heard
  talk_alone r t before all old new why
      (rounds, begun, q, Some i, mid, undone, are, took, heard, last) =
      let rest = last_alone q t i all (told_of s rounds) begun mid new undone why last in record {
        told = told_of s rounds ++ rest.0;
        talked = (
          rounds,
          begun,
          q,
          Some (told_of s rounds),
          mid,
          undone,
          are,
          took,
          refl,
          rest.1,
        );
        whole = rest.2 ∙ ap (λ l. l ++ rest.0) heard ∙
            append_assoc before (told_of s rounds) rest.0;
      }
