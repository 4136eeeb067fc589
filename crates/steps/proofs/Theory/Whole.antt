-- The whole, from its parts.
use Rattle.std.proofs.Common.{◌≡◌, [], ◌++◌, refl, sym, ◌∙◌, ap, subst, append_assoc}
use Rattle.steps.specs.Theory.Rules.{Rules, RuleLaws}
use Rattle.steps.specs.Theory.Journal.{RunsWhole, Serial, committed, gathered}
use Rattle.steps.specs.Theory.Machine.{IsSound, Steps, Repeats, Tells}
use Rattle.steps.specs.Theory.Theorems.{idle}
use Rattle.steps.specs.Theory.Images.{records, image_of}
use Rattle.steps.specs.Theory.Crash.{CrashYields, GoesOn}
use Rattle.boosted.proofs.Runs.{Leads-append}
use Rattle.steps.proofs.Theory.Serial.{beginnings_commit}
use Rattle.steps.proofs.Theory.Open.{open_yields}
use Rattle.steps.proofs.Theory.Stands.{committed_same, book_is_serial, image_stands}
use Rattle.steps.proofs.Theory.Stands.{image_repeats, split_plays}
use Rattle.steps.proofs.Theory.Loading.{image_loads}

module _ {S E M N : Type 0} {rules : Rules S E M N} (laws : RuleLaws rules) where
  pub idle_sound : (c : S) → IsSound rules (idle {E = E} {N = N} c)
  idle_sound c = record {
    held = tt;
    alive = tt;
    apart = tt;
    asked = tt;
    put = tt;
    once = λ n. tt;
    holders = tt;
    fallers = tt;
  }

  pub crash_yields : CrashYields rules
  crash_yields before after rs more t u c run next is =
      let none : Tells rules.owner [] (idle {N = N} c) = λ n live go. refl in
      let sound_t = (book_is_serial laws before [] (idle c) t c (idle_sound c) none refl run).0 in
      let stands = image_stands laws before after rs more [] (idle c) t u c (idle_sound c) none refl
      run next is in
      let front = split_plays rules after rs more t u next is in
      let again = image_repeats laws front.0 t front.1 sound_t front.2 in
      let runs : Repeats rules rs (image_of rules t) again.1.0 =
      subst (λ l. Repeats rules l (image_of rules t) again.1.0) front.3 again.1.1 in
      record {
        content = stands.0;
        serial = stands.2;
        rest = committed rules.owner (gathered rules.owner [] (records before ++ rs)) more;
        begins = ap (λ l. committed rules.owner [] (records before ++ l)) is ∙
            ap (committed rules.owner []) (sym (append_assoc (records before) rs more)) ∙
            beginnings_commit rules (records before ++ rs) more [];
        loads = image_loads laws t sound_t;
        state = again.1.0;
        repeats = runs;
        undone = λ ns differ in_live all. open_yields laws (image_of rules t) again.1.0 rs stands.0
            ns again.0 stands.1 runs differ in_live all;
      }

  pub goes_on : GoesOn rules
  goes_on s u old rs more after c sound stands run next is =
      let none : Tells rules.owner [] (idle {N = N} c) = λ n live go. refl in
      let gone = gathered rules.owner s.entries old in
      let front = split_plays rules after rs more (idle c) u next is in
      let book = book_is_serial laws front.0 [] (idle c) front.1 c (idle_sound c) none refl
      front.2 in
      let again = image_repeats laws front.0 (idle c) front.1 (idle_sound c) front.2 in
      let serial : Serial rules (committed rules.owner [] rs) c book.1.0 =
      subst (λ l. Serial rules (committed rules.owner [] l) c book.1.0) front.3 book.1.1 in
      let same : committed rules.owner [] rs ≡ committed rules.owner gone rs =
      subst (λ l. committed rules.owner [] l ≡ committed rules.owner gone l) front.3
      (committed_same laws front.0 [] gone (idle c) front.1 (idle_sound c) none
      (λ n live go. absurd live) front.2) in (
        book.1.0,
        serial,
        (
          stands.0,
          stands.1,
          subst (λ l. Serial rules l stands.0 book.1.0)
              (sym (beginnings_commit rules old rs s.entries))
              (Leads-append (RunsWhole rules) (committed rules.owner s.entries old)
              (committed rules.owner gone rs) stands.0 c book.1.0 stands.2
              (subst (λ l. Serial rules l c book.1.0) same serial)),
        ),
        (
          again.1.0,
          Leads-append (Steps rules) old rs s (idle c) again.1.0 run
              (subst (λ l. Repeats rules l (idle c) again.1.0) front.3 again.1.1),
        ),
      )
