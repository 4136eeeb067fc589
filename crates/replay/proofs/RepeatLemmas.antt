-- Records that are read: the progress that they lead to is the only one but for the order of the
-- needs, and a refusal comes only where they lead nowhere.
use Rattle.std.proofs.Common.{◌≡◌, ℕ, ◌+◌, ◌<◌, ◌≤◌, List, [], ◌∷◌, ◌++◌, length, append_assoc}
use Rattle.std.proofs.Common.{length-append, refl, sym, ◌∙◌, ap, subst, arith, Result, Ok, Err}
use Rattle.std.proofs.Common.{IfOk, IfErr, Option, None}
use Rattle.calls.specs.declared.format.Format.{Format}
use Rattle.calls.specs.declared.kind.Kind.{Kind}
use Rattle.calls.specs.declared.refusal.Refusal.{Refusal}
use Rattle.calls.specs.Transactions.{Leads}
use Rattle.records.specs.declared.record.Record.{Record}
use Rattle.records.specs.Records.{spelled, spelling, IsRecord, AreRecords, named_by, Begins}
use Rattle.records.specs.Records.{IsWhy}
use Rattle.records.proofs.RecordLaws.{one_spelling_of}
use Rattle.records.proofs.RecordLengths.{spelled-positive}
use Rattle.std.proofs.lemmas.List.{append-nil}
use Rattle.replay.specs.declared.stage.Stage.{Stage}
use Rattle.replay.specs.Reading.{Progress, Unread, Reads, last_named}
use Rattle.replay.specs.Repetitions.{AlikeProgress, LeadsTo, Takes, IsStuck, IsFit, IsDamageOr}
use Rattle.replay.specs.Repetitions.{AreRead, progress_of, count_of}
use Rattle.replay.proofs.Grammar.{not_empty}
use Rattle.replay.proofs.Lists.{leads_push, leads_split, flat_map-append}

pub leads_to_nothing : (version : Format) → LeadsTo version [] (Unread version)
leads_to_nothing version = record {
  leads = refl;
  only = λ q run. subst (λ v. AlikeProgress v (Unread version)) run refl;
}

-- one record more
pub leads_to_more : (version : Format) (rs : List Record) (r : Record) (p q : Progress) →
    LeadsTo version rs p → Takes p r q →
    LeadsTo version (rs ++ r ∷ []) q
leads_to_more version rs r p q so_far takes = record {
  leads = leads_push Reads rs r (Unread version) p q so_far.leads takes.reads;
  only = λ v run.
      let split = leads_split Reads rs (r ∷ []) (Unread version) v run in
      subst (λ w. AlikeProgress w q) split.2.2
      (takes.alike split.0 split.2.0 (so_far.only split.0 split.1) split.2.1);
}

-- records that lead nowhere
pub stuck_is_refused : (version : Format) (rs more : List Record) (r : Record) (p q : Progress) →
    LeadsTo version rs p →
    IsStuck p r → Leads Reads (rs ++ r ∷ more) (Unread version) q → ⊥
stuck_is_refused version rs more r p q so_far stuck run =
    let split = leads_split Reads rs (r ∷ more) (Unread version) q run in
    stuck split.0 split.2.0 (so_far.only split.0 split.1) split.2.1

-- refusals

pub damage_weaker : (place : ℕ) (e : Refusal) (A B : Type 0) → (A → B) → IsDamageOr place A e →
    IsDamageOr place B e
damage_weaker place Refusal.NoMemory A B f d = tt
damage_weaker place (Refusal.Damaged p) A B f d = (d.0, f d.1)
damage_weaker place e A B f d = absurd d

pub err_weaker : {T : Type 0} (r : Result T Refusal) (place : ℕ) (A B : Type 0) → (A → B) →
    IfErr r (IsDamageOr place A) → IfErr r (IsDamageOr place B)
err_weaker (Ok x) place A B f d = tt
err_weaker (Err e) place A B f d = damage_weaker place e A B f d

pub ok_weaker : {T : Type 0} (r : Result T Refusal) (P Q : T → Type 0) → ((x : T) → P x → Q x) →
    IfOk r P → IfOk r Q
ok_weaker (Ok x) P Q f p = f x p
ok_weaker (Err e) P Q f p = tt

-- why a record could not be read
pub unread_damage : (last : Option Kind) (place : ℕ) (bytes : List ℕ) (e : Refusal) (B : Type 0) →
    IsWhy last place bytes e → (((r : Record) (behind : List ℕ) → Begins last bytes r behind → ⊥) →
    B) → IsDamageOr place B e
unread_damage last place bytes Refusal.NoMemory B why f = tt
unread_damage last place bytes (Refusal.Damaged p) B why f = (why.0, f why.1)
unread_damage last place bytes e B why f = absurd why

-- ---- records one after another, each of a kind that was named

pub last_named-append : (last : Option Kind) (xs ys : List Record) →
    last_named last (xs ++ ys) ≡ last_named (last_named last xs) ys
last_named-append last [] ys = refl
last_named-append last (x ∷ xs) ys = last_named-append (named_by last x) xs ys

pub records_append : (last : Option Kind) (xs ys : List Record) → AreRecords last xs →
    AreRecords (last_named last xs) ys → AreRecords last (xs ++ ys)
records_append last [] ys a b = b
records_append last (x ∷ xs) ys a b = (a.0, records_append (named_by last x) xs ys a.1 b)

pub records_front : (last : Option Kind) (xs ys : List Record) → AreRecords last (xs ++ ys) →
    AreRecords last xs
records_front last [] ys a = tt
records_front last (x ∷ xs) ys a = (a.0, records_front (named_by last x) xs ys a.1)

pub records_back : (last : Option Kind) (xs ys : List Record) → AreRecords last (xs ++ ys) →
    AreRecords (last_named last xs) ys
records_back last [] ys a = a
records_back last (x ∷ xs) ys a = records_back (named_by last x) xs ys a.1

-- a record that may stand where no kind was named may stand anywhere
anywhere : (last : Option Kind) (r : Record) → IsRecord None r → IsRecord last r
anywhere last (Record.Item i) is = absurd is.suits
anywhere last r is = record { fits = is.fits; suits = tt; sound = is.sound }

pub read_records : (last : Option Kind) (rs : List Record) → AreRead rs → AreRecords last rs
read_records last [] all = tt
read_records last (r ∷ rs) all = (anywhere last r all.0, read_records (named_by last r) rs all.1)

-- records that are read one behind another are a beginning of those that the bytes spell
pub read_front : (last : Option Kind) (done group : List Record) (rest : List ℕ) →
    AreRecords last done → AreRecords last group → spelling group ≡ spelling done ++ rest
    → (tail : List Record) × (group ≡ done ++ tail) × (spelling tail ≡ rest) ×
    AreRecords (last_named last done) tail
read_front last [] group rest ds gs e = (group, refl, e, gs)
read_front last (d ∷ done) [] rest ds gs e =
    absurd (omega (
      arith,
      ap length e,
      length-append (spelled d ++ spelling done) rest,
      length-append (spelled d) (spelling done),
      spelled-positive d,
    ))
read_front last (d ∷ done) (g ∷ group) rest ds gs e =
    let both = one_spelling_of last g d (spelling group) (spelling done ++ rest) gs.0 ds.0
    (e ∙ append_assoc (spelled d) (spelling done) rest) in
    let tail : AreRecords (named_by last d) group =
    subst (λ (x : Record). AreRecords (named_by last x) group) both.0 gs.1 in
    let next = read_front (named_by last d) done group rest ds.1 tail both.1 in
    (next.0, (λ i. both.0 i ∷ next.1 i), next.2, next.3)

no_records : (rs : List Record) → spelling rs ≡ [] → rs ≡ []
no_records [] e = refl
no_records (r ∷ rs) e = absurd (not_empty r rs e)

-- records of one spelling are the same
pub one_group : (last : Option Kind) (group other : List Record) → AreRecords last group →
    AreRecords last other → spelling group ≡ spelling other → group ≡ other
one_group last group other read also e =
    let front = read_front last other group [] also read (e ∙ sym (append-nil (spelling other))) in
    front.1 ∙ ap (λ l. other ++ l) (no_records front.0 front.2) ∙ append-nil other

no_tail : (last : Option Kind) (tail : List Record) (rest : List ℕ) → 0 < length rest →
    spelling tail ≡ rest → AreRecords last tail →
    ((r : Record) (behind : List ℕ) → Begins last rest r behind → ⊥) → ⊥
no_tail last [] rest some is read none = absurd (omega (arith, some, ap length is))
no_tail last (r ∷ tail) rest some is read none =
    none r (spelling tail) (record { parts = sym is; is = read.0 })

-- ---- the records of a body so far, and the bytes behind them

pub record IsReading (body rest : List ℕ) (first : Option Kind) (a : Stage) (above : ℕ)
    (kind : Option Kind) (b : Stage) (next : ℕ) : Type 0 where
  pub done : List Record
  pub good : AreRecords first done
  pub is : body ≡ spelling done ++ rest
  pub named : kind ≡ last_named first done
  pub reaches : (version : Format) (rs : List Record) → LeadsTo version rs (progress_of a above) →
      LeadsTo version (rs ++ done) (progress_of b next)
  pub fit : IsFit b
  pub few : count_of b + length rest ≤ count_of a + length body

pub reading_starts : (body : List ℕ) (first : Option Kind) (a : Stage) (above : ℕ) → IsFit a →
    IsReading body body first a above first a above
reading_starts body first a above fit = record {
  done = [];
  good = tt;
  is = refl;
  named = refl;
  reaches = λ version rs reached. subst (λ l. LeadsTo version l (progress_of a above))
      (sym (append-nil rs))
      reached;
  fit = fit;
  few = omega arith;
}

module _ (body rest : List ℕ) (first : Option Kind) (a : Stage) (above : ℕ) (kind : Option Kind)
    (b : Stage) (next : ℕ) (so_far : IsReading body rest first a above kind b next) where
  pub reading_goes_on : (behind : List ℕ) (r : Record) (c : Stage) (after : ℕ)
      (later : Option Kind) → Begins kind rest r behind →
      Takes (progress_of b next) r (progress_of c after) → later ≡ named_by kind r → IsFit c →
      count_of c ≤ count_of b + 1
      → IsReading body behind first a above later c after
  reading_goes_on behind r c after later begins takes named fit one = record {
    done = so_far.done ++ r ∷ [];
    good = records_append first so_far.done (r ∷ []) so_far.good
        (subst (λ k. AreRecords k (r ∷ [])) so_far.named (begins.is, tt));
    is =
        so_far.is ∙ ap (λ l. spelling so_far.done ++ l) begins.parts ∙
        sym (append_assoc (spelling so_far.done) (spelled r) behind)
        ∙ ap (λ l. l ++ behind) (sym (flat_map-append spelled so_far.done (r ∷ []) ∙
        ap (λ l. spelling so_far.done ++ l) (append-nil (spelled r))));
    named = named ∙ ap (λ k. named_by k r) so_far.named ∙
        sym (last_named-append first so_far.done (r ∷ []));
    reaches = λ version rs reached. subst (λ l. LeadsTo version l (progress_of c after))
        (append_assoc rs so_far.done (r ∷ []))
        (leads_to_more version (rs ++ so_far.done) r (progress_of b next) (progress_of c after)
        (so_far.reaches version rs reached) takes);
    fit = fit;
    few = omega (
      arith,
      so_far.few,
      one,
      ap length begins.parts,
      length-append (spelled r) behind,
      spelled-positive r,
    );
  }

  -- what is left of a body with the same bytes
  left : (group : List Record) → AreRecords first group → body ≡ spelling group →
      (tail : List Record) × (group ≡ so_far.done ++ tail) × (spelling tail ≡ rest) ×
      AreRecords kind tail
  left group good is =
      let front = read_front first so_far.done group rest so_far.good good (sym is ∙ so_far.is) in
      (front.0, front.1, front.2, subst (λ k. AreRecords k front.0) (sym so_far.named) front.3)

  -- bytes of which no record begins what is left spell no records
  pub unread_is_refused : 0 < length rest →
      ((r : Record) (behind : List ℕ) → Begins kind rest r behind → ⊥) → (group : List Record) →
      AreRecords first group → body ≡ spelling group → ⊥
  unread_is_refused some none group good is = let tail = left group good is in
      no_tail kind tail.0 rest some tail.2 tail.3 none

  pub stuck_body : (behind : List ℕ) (r : Record) → Begins kind rest r behind →
      IsStuck (progress_of b next) r → (version : Format) (rs group : List Record) →
      LeadsTo version rs (progress_of a above) →
      AreRecords first group → body ≡ spelling group
      → (q : Progress) → Leads Reads (rs ++ group) (Unread version) q → ⊥
  stuck_body behind r begins stuck version rs group reached good is q run =
      let tail = left group good is in
      let more = read_front kind (r ∷ []) tail.0 behind (begins.is, tt) tail.3
      (tail.2 ∙ begins.parts ∙ ap (λ l. l ++ behind) (sym (append-nil (spelled r)))) in
      let parts : rs ++ group ≡ (rs ++ so_far.done) ++ r ∷ more.0 =
      ap (λ g. rs ++ g) (tail.1 ∙ ap (λ l. so_far.done ++ l) more.1) ∙
      sym (append_assoc rs so_far.done (r ∷ more.0)) in
      stuck_is_refused version (rs ++ so_far.done) more.0 r (progress_of b next) q
      (so_far.reaches version rs reached) stuck
      (subst (λ l. Leads Reads l (Unread version) q) parts run)
