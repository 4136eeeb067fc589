-- An area that is loaded, block by block.
use Rattle.std.proofs.Common.{◌≡◌, ◌≢◌, ℕ, ◌+◌, ◌<◌, ◌≤◌, List, [], ◌∷◌, ◌++◌, length, drop, get_or}
use Rattle.std.proofs.Common.{map, refl, sym, ◌∙◌, ap, subst, arith, append_assoc, length-drop}
use Rattle.std.proofs.Common.{take-append-drop, Bool, true, false, true≢false, Option, None, Some}
use Rattle.std.proofs.Common.{Err}
use Rattle.std.proofs.Common.{MatchOption, Vec}
use Rattle.std.specs.declared.alloc.Global.{Global}
use Rattle.calls.specs.declared.format.Format.{Format}
use Rattle.calls.specs.declared.kind.Kind.{Kind}
use Rattle.calls.specs.declared.refusal.Refusal.{Refusal}
use Rattle.calls.specs.Transactions.{Leads}
use Rattle.std.proofs.lemmas.List.{append-nil, drop-drop, map-append, length-take-le, at_drop_more}
use Rattle.std.proofs.lemmas.List.{get_or-take, get_or-drop}
use Rattle.std.specs.List.{AllByRecursion}
use Rattle.disk_model.specs.Disk.{ReadsOnly, Rises}
use Rattle.disk_model.proofs.Walk.{started, reads_on as read_twice}
use Rattle.gate_block.specs.Row.{block, row, IsBody, IsRow, StandsAt, IsBroken, Finds, part}
use Rattle.gate_block.specs.Answers.{IsNextAnswer}
use Rattle.gate_block.proofs.Facts.{length-row_add, row-append, next_is, none_is_next, not_broken}
use Rattle.gate_block.proofs.Unique.{first_block}
use Rattle.gate_block.specs.declared.area.Area.{Area}
use Rattle.gate_block.specs.Area.{base_of, size_of, offset_of, has_failed, bytes_of, body_in}
use Rattle.gate_block.specs.Area.{IsDamage}
use Rattle.records.specs.declared.record.Record.{Record}
use Rattle.records.specs.Records.{spelling, AreRecords}
use Rattle.replay.specs.declared.stage.Stage.{Stage}
use Rattle.replay.specs.Journals.{records_in}
use Rattle.replay.specs.Steps.{State}
use Rattle.replay.specs.Reading.{Progress, Unread, InCollections, InNumbers, InCalls}
use Rattle.replay.specs.Reading.{InJournal, Reads, AreAccepted, last_named}
use Rattle.replay.specs.Repetitions.{LeadsTo, IsFit, IsDamageOr, progress_of, count_of}
use Rattle.replay.specs.Repetitions.{AlikeProgress}
use Rattle.recovery.specs.Openings.{AreSound, IsFirstFault, IsSpoilt, IsLoadRefusal}
use Rattle.recovery.specs.Loading.{IsLoaded, StartsWithImage, IsImagePart, is_imaging, image_behind}
use Rattle.replay.proofs.Lists.{flat_map-append, leads_split}
use Rattle.boosted.proofs.Each.{each_append}
use Rattle.replay.proofs.RepeatLemmas.{leads_to_nothing, one_group, last_named-append}
use Rattle.replay.proofs.RepeatLemmas.{records_append, records_front, records_back}
use Rattle.replay.proofs.Walks.{rises_before}

-- What was read of the area's bytes, up to its next gate, on a disk of the version.
pub record HasRead (version : Format) (bytes : List ℕ) (offset : ℕ) (kind : Option Kind)
    (stage : Stage)
    (next : ℕ) : Type 0 where
  pub blocks : List (List Record)
  pub good : AreRecords None (records_in blocks)
  pub named : kind ≡ last_named None (records_in blocks)
  pub reached : LeadsTo version (records_in blocks) (progress_of stage next)
  pub offset_is : offset ≡ length (row (map spelling blocks))
  pub stood : bytes ≡ row (map spelling blocks) ++ drop offset bytes
  pub bodies : AllByRecursion IsBody (map spelling blocks)
  pub only : (others : List (List Record)) → AreRecords None (records_in others) →
      IsRow (map spelling others) bytes → (rest : List (List Record)) × (others ≡ blocks ++ rest)

pub nothing_read : (version : Format) (bytes : List ℕ) (offset : ℕ) (kind : Option Kind)
    (stage : Stage) (next : ℕ) →
    offset ≡ 0 → kind ≡ None → stage ≡ Stage.Unread version →
    HasRead version bytes offset kind stage next
nothing_read version bytes offset kind stage next none unnamed unread = record {
  blocks = [];
  good = tt;
  named = unnamed;
  reached = subst (λ s. LeadsTo version [] (progress_of s next)) (sym unread)
      (leads_to_nothing version);
  offset_is = none;
  stood = ap (λ n. drop n bytes) (sym none);
  bodies = tt;
  only = λ others read is. (others, refl);
}

pub records_in-append : (front back : List (List Record)) →
    records_in (front ++ back) ≡ records_in front ++ records_in back
records_in-append front back = flat_map-append (λ rs. rs) front back

-- the first of the blocks that are left, where its body is known
first_left : (last : Option Kind) (rest : List (List Record)) (body : List ℕ)
    (more : List (List ℕ)) → AreRecords last (records_in rest) → map spelling rest ≡ body ∷ more
    → (g : List Record) × (others : List (List Record)) × (rest ≡ g ∷ others) ×
    (spelling g ≡ body) × AreRecords last g
first_left last [] body more good e = absurd cc
first_left last (g ∷ rest) body more good e =
    (g, rest, refl, cc, records_front last g (records_in rest) good)

-- the block that stands behind those that were read, of all that are there
pub next_group : (blocks others : List (List Record)) (bytes body : List ℕ) (offset : ℕ) →
    offset ≡ length (row (map spelling blocks)) → AreRecords None (records_in others) →
    IsRow (map spelling others) bytes
    → (rest : List (List Record)) → others ≡ blocks ++ rest → StandsAt bytes offset body
    → (g : List Record) × (more : List (List Record)) × (rest ≡ g ∷ more) × (spelling g ≡ body) ×
    AreRecords (last_named None (records_in blocks)) g
next_group blocks others bytes body offset here good is rest split stands =
    let parts : map spelling others ≡ map spelling blocks ++ map spelling rest =
    ap (map spelling) split ∙ map-append spelling blocks rest in
    let next = next_is (map spelling blocks) (map spelling rest) bytes offset body here
    (subst (λ l. IsRow l bytes) parts is) stands in
    let records : records_in others ≡ records_in blocks ++ records_in rest =
    ap records_in split ∙ records_in-append blocks rest in
    first_left (last_named None (records_in blocks)) rest body next.0
    (records_back None (records_in blocks) (records_in rest)
    (subst (AreRecords None) records good)) next.1

-- Records of a body lead on from where the reading stands.
abbrev pub ReadsOn : Option Kind → Stage → ℕ → List ℕ → Option Kind → Stage → ℕ → Type 0
ReadsOn kind stage next body later now above =
    (version : Format) (rs : List Record) → LeadsTo version rs (progress_of stage next) →
    (group : List Record) × AreRecords kind group × (body ≡ spelling group) ×
    (later ≡ last_named kind group) × LeadsTo version (rs ++ group) (progress_of now above)

-- No records of the body lead on.
abbrev pub ReadsNowhere : Option Kind → Stage → ℕ → List ℕ → Type 0
ReadsNowhere kind stage next body =
    (version : Format) (rs group : List Record) → LeadsTo version rs (progress_of stage next) →
    AreRecords kind group →
    body ≡ spelling group → (q : Progress) → Leads Reads (rs ++ group) (Unread version) q → ⊥

-- The image has not ended.
abbrev pub EndsNowhere : Stage → ℕ → Type 0
EndsNowhere stage next = (version : Format) (rs : List Record) →
    LeadsTo version rs (progress_of stage next) →
    (n : ℕ) (s : State) (count : ℕ) → AreAccepted version rs n s count → ⊥

-- one block more
pub reads_on : (version : Format) (bytes body : List ℕ) (offset after : ℕ)
    (kind later : Option Kind)
    (stage now : Stage) (next above : ℕ) → HasRead version bytes offset kind stage next →
    StandsAt bytes offset body → after ≡ offset + 5 + length body
    → ReadsOn kind stage next body later now above → HasRead version bytes after later now above
reads_on version bytes body offset after kind later stage now next above so_far stands after_is
    repeats =
    let found = repeats version (records_in so_far.blocks) so_far.reached in
    let group : List Record = found.0 in
    let spelled_is : spelling group ≡ body = sym found.2 in
    let blocks : List (List Record) = so_far.blocks ++ group ∷ [] in
    let records : records_in so_far.blocks ++ group ≡ records_in blocks =
    sym (records_in-append so_far.blocks (group ∷ []) ∙
    ap (λ l. records_in so_far.blocks ++ l) (append-nil group)) in
    let good : AreRecords (last_named None (records_in so_far.blocks)) group =
    subst (λ k. AreRecords k group) so_far.named found.1 in
    let mapped : map spelling blocks ≡ map spelling so_far.blocks ++ body ∷ [] =
    map-append spelling so_far.blocks (group ∷ []) ∙
    ap (λ b. map spelling so_far.blocks ++ b ∷ []) spelled_is in
    let rows : row (map spelling blocks) ≡ row (map spelling so_far.blocks) ++ block body =
    ap row mapped ∙ row-append (map spelling so_far.blocks) (body ∷ []) ∙
    ap (λ l. row (map spelling so_far.blocks) ++ l) (append-nil (block body)) in
    let size : ℕ = 5 + length body in
    let behind : drop offset bytes ≡ block body ++ drop after bytes =
    sym (take-append-drop size (drop offset bytes)) ∙
    ap (λ l. l ++ drop size (drop offset bytes)) stands.is
    ∙ ap (λ l. block body ++ l) (drop-drop size offset bytes ∙
    ap (λ n. drop n bytes) (omega (arith, after_is))) in
    record {
      blocks = blocks;
      good = subst (AreRecords None) records
          (records_append None (records_in so_far.blocks) group so_far.good good);
      named = found.3 ∙ ap (λ k. last_named k group) so_far.named ∙
          sym (last_named-append None (records_in so_far.blocks) group) ∙
          ap (last_named None) records;
      reached = subst (λ l. LeadsTo version l (progress_of now above)) records found.4;
      offset_is = omega (
        arith,
        after_is,
        so_far.offset_is,
        length-row_add (map spelling so_far.blocks) body,
        ap (λ l. length (row l)) mapped,
      );
      stood = so_far.stood ∙ ap (λ l. row (map spelling so_far.blocks) ++ l) behind ∙
          sym (append_assoc (row (map spelling so_far.blocks)) (block body) (drop after bytes)) ∙
          ap (λ l. l ++ drop after bytes) (sym rows);
      bodies = subst (AllByRecursion IsBody) (sym mapped)
          (each_append IsBody (map spelling so_far.blocks) (body ∷ []) so_far.bodies
          (stands.fits, tt));
      only = λ others read is.
          let rest = so_far.only others read is in
          let g = next_group so_far.blocks others bytes body offset so_far.offset_is read is
          rest.0 rest.1 stands in
          let same : g.0 ≡ group = one_group (last_named None (records_in so_far.blocks)) g.0 group
          g.4 good (g.3 ∙ sym spelled_is) in (
            g.1,
            rest.1 ∙ ap (λ l. so_far.blocks ++ l) (g.2 ∙ ap (λ x. x ∷ g.1) same) ∙
                sym (append_assoc so_far.blocks (group ∷ []) g.1),
          );
    }

-- ---- the image

-- The image has not ended, or it is the first of these blocks.
abbrev pub HasImageSoFar : (imaging : Bool) → Format → List (List Record) → (offset image : ℕ) →
    Type 0
HasImageSoFar true version blocks offset image = image ≡ offset
HasImageSoFar false version blocks offset image = IsImagePart version blocks image

-- behind the end of an image only records of the journal are read
stays_journal : (rs : List Record) (n : ℕ) (s : State) (k : ℕ) (stage : Stage) (next : ℕ) →
    Leads Reads rs (InJournal n s k) (progress_of stage next) → is_imaging stage ≡ false
stays_journal [] n s k (Stage.Unread v) next leads = absurd cc
stays_journal [] n s k (Stage.Collections x) next leads = absurd cc
stays_journal [] n s k (Stage.Numbers x) next leads = absurd cc
stays_journal [] n s k (Stage.Calls x) next leads = absurd cc
stays_journal [] n s k (Stage.Journal x c) next leads = refl
stays_journal (r ∷ rs) n s k stage next leads =
    stays_journal rs _ leads.1.0 (k + 1) stage next
    (subst (λ p. Leads Reads rs p (progress_of stage next)) leads.1.2 leads.2)

-- what no image leads to is no journal
no_image_yet : (version : Format) (rs : List Record) (stage : Stage) (next : ℕ) →
    is_imaging stage ≡ true →
    LeadsTo version rs (progress_of stage next) → (n : ℕ) (s : State) (k : ℕ) →
    AreAccepted version rs n s k → ⊥
no_image_yet version rs (Stage.Unread v) next imaging reached n s k accepted =
    reached.only _ accepted
no_image_yet version rs (Stage.Collections x) next imaging reached n s k accepted =
    reached.only _ accepted
no_image_yet version rs (Stage.Numbers x) next imaging reached n s k accepted =
    reached.only _ accepted
no_image_yet version rs (Stage.Calls x) next imaging reached n s k accepted =
    reached.only _ accepted
no_image_yet version rs (Stage.Journal x c) next imaging reached n s k accepted =
    absurd (true≢false (sym imaging))

-- so it is behind a journal
in_journal : (group : List Record) (t : Progress) (now : Stage) (above n : ℕ) (s : State) (k : ℕ) →
    AlikeProgress t (InJournal n s k) → Leads Reads group t (progress_of now above) →
    is_imaging now ≡ false
in_journal group (Unread v) now above n s k alike leads = absurd alike
in_journal group (InCollections m u x) now above n s k alike leads = absurd alike
in_journal group (InNumbers m u) now above n s k alike leads = absurd alike
in_journal group (InCalls m u) now above n s k alike leads = absurd alike
in_journal group (InJournal m u j) now above n s k alike leads =
    stays_journal group m u j now above leads

stays_ended : (version : Format) (rs group : List Record) (stage now : Stage) (next above : ℕ) →
    LeadsTo version rs (progress_of stage next) →
    Leads Reads (rs ++ group) (Unread version) (progress_of now above) →
    is_imaging stage ≡ false → is_imaging now ≡ false
stays_ended version rs group (Stage.Unread v) now next above reached leads is =
    absurd (true≢false is)
stays_ended version rs group (Stage.Collections x) now next above reached leads is =
    absurd (true≢false is)
stays_ended version rs group (Stage.Numbers x) now next above reached leads is =
    absurd (true≢false is)
stays_ended version rs group (Stage.Calls x) now next above reached leads is =
    absurd (true≢false is)
stays_ended version rs group (Stage.Journal x c) now next above reached leads is =
    let split = leads_split Reads rs group (Unread version) (progress_of now above) leads in
    in_journal group split.0 now above next x c (reached.only split.0 split.1) split.2

-- an image that has ended is accepted
is_accepted : (version : Format) (rs : List Record) (stage : Stage) (next : ℕ) →
    LeadsTo version rs (progress_of stage next) →
    is_imaging stage ≡ false → (n : ℕ) × (s : State) × (k : ℕ) × AreAccepted version rs n s k
is_accepted version rs (Stage.Unread v) next reached is = absurd (true≢false is)
is_accepted version rs (Stage.Collections x) next reached is = absurd (true≢false is)
is_accepted version rs (Stage.Numbers x) next reached is = absurd (true≢false is)
is_accepted version rs (Stage.Calls x) next reached is = absurd (true≢false is)
is_accepted version rs (Stage.Journal x c) next reached is = (next, x, c, reached.leads)

ended_at : (stage : Stage) (next n : ℕ) (s : State) (k : ℕ) →
    progress_of stage next ≡ InJournal n s k → is_imaging stage ≡ false
ended_at (Stage.Unread v) next n s k is = absurd cc
ended_at (Stage.Collections x) next n s k is = absurd cc
ended_at (Stage.Numbers x) next n s k is = absurd cc
ended_at (Stage.Calls x) next n s k is = absurd cc
ended_at (Stage.Journal x c) next n s k is = refl

image_step : (version : Format) (was now : Bool) (blocks : List (List Record)) (group : List Record)
    (offset after image : ℕ) → after ≡ length (row (map spelling (blocks ++ group ∷ [])))
    → (was ≡ false → now ≡ false)
    → (was ≡ true → (n : ℕ) (s : State) (k : ℕ) → AreAccepted version (records_in blocks) n s k → ⊥)
    → (now ≡ false →
    (n : ℕ) × (s : State) × (k : ℕ) × AreAccepted version (records_in (blocks ++ group ∷ [])) n s k)
    → HasImageSoFar was version blocks offset image →
    HasImageSoFar now version (blocks ++ group ∷ []) after (image_behind was image after)
image_step version true true blocks group offset after image at stays fresh ended so_far = refl
image_step version true false blocks group offset after image at stays fresh ended so_far =
    let end = ended refl in record {
      before = blocks;
      last = group;
      journal = [];
      are = refl;
      next = end.0;
      state = end.1;
      count = end.2;
      ended = end.3;
      not_before = fresh refl;
      len_is = at;
    }
image_step version false true blocks group offset after image at stays fresh ended so_far =
    absurd (true≢false (stays refl))
image_step version false false blocks group offset after image at stays fresh ended so_far =
    record {
      before = so_far.before;
      last = so_far.last;
      journal = so_far.journal ++ group ∷ [];
      are = ap (λ l. l ++ group ∷ []) so_far.are ∙
          append_assoc so_far.before (so_far.last ∷ so_far.journal) (group ∷ []);
      next = so_far.next;
      state = so_far.state;
      count = so_far.count;
      ended = so_far.ended;
      not_before = so_far.not_before;
      len_is = so_far.len_is;
    }

-- one block more
pub image_on : (version : Format) (bytes body : List ℕ) (offset after : ℕ)
    (kind later : Option Kind)
    (stage now : Stage) (next above image : ℕ)
    (so_far : HasRead version bytes offset kind stage next)
    (stands : StandsAt bytes offset body) (after_is : after ≡ offset + 5 + length body)
    (repeats : ReadsOn kind stage next body later now above)
    → HasImageSoFar (is_imaging stage) version so_far.blocks offset image
    → HasImageSoFar (is_imaging now) version
    (reads_on version bytes body offset after kind later stage now next above so_far stands
    after_is
    repeats).blocks after (image_behind (is_imaging stage) image after)
unfolding reads_on
image_on version bytes body offset after kind later stage now next above image so_far stands
    after_is
    repeats has =
    let found = repeats version (records_in so_far.blocks) so_far.reached in
    let new = reads_on version bytes body offset after kind later stage now next above so_far
    stands
    after_is repeats in
    image_step version (is_imaging stage) (is_imaging now) so_far.blocks found.0 offset after
    image
    new.offset_is
    (stays_ended version (records_in so_far.blocks) found.0 stage now next above so_far.reached
    found.4.leads)
    (λ is. no_image_yet version (records_in so_far.blocks) stage next is so_far.reached)
    (λ is. is_accepted version (records_in (so_far.blocks ++ found.0 ∷ [])) now above new.reached
    is) has

behind_inside : (imaging : Bool) (image offset after : ℕ) → image ≤ offset → offset ≤ after →
    image_behind imaging image after ≤ after
behind_inside true image offset after inside on = omega arith
behind_inside false image offset after inside on = omega (arith, inside, on)

-- ---- the first fault

-- where a block stands, the gate is open
gate_open : (bytes body : List ℕ) (p : ℕ) → StandsAt bytes p body → get_or bytes p 0 ≡ 167
gate_open bytes body p stands =
    ap (λ n. get_or bytes n 0) (omega arith) ∙ sym (get_or-drop p bytes 0 0) ∙
    sym (get_or-take (5 + length body) (drop p bytes) 0 0 (omega arith)) ∙
    ap (λ l. get_or l 0 0) stands.is

-- one block at most stands at a place
one_body : (bytes b c : List ℕ) (p : ℕ) → StandsAt bytes p b → StandsAt bytes p c → b ≡ c
one_body bytes b c p first second =
    let split : (body : List ℕ) → StandsAt bytes p body →
    drop p bytes ≡ block body ++ drop (5 + length body) (drop p bytes) =
    λ body stands. sym (take-append-drop (5 + length body) (drop p bytes)) ∙
    ap (λ l. l ++ drop (5 + length body) (drop p bytes)) stands.is in
    (first_block b c (drop (5 + length b) (drop p bytes)) (drop (5 + length c) (drop p bytes))
    first.fits second.fits (sym (split b first) ∙ split c second)).0

-- the first fault, where no block goes on and no end is right
first_fault : (version : Format) (base : ℕ) (bytes : List ℕ) (offset place : ℕ)
    (kind : Option Kind) (stage : Stage)
    (next : ℕ) → HasRead version bytes offset kind stage next → place ≡ base + offset
    → ((group : List Record) → StandsAt bytes offset (spelling group) →
    ReadsNowhere kind stage next (spelling group))
    → (get_or bytes offset 0 ≢ 167 → EndsNowhere stage next) →
    IsFirstFault version base bytes place
first_fault version base bytes offset place kind stage next so_far place_is no_block no_end =
    record {
      blocks = so_far.blocks;
      good = so_far.good;
      offset = offset;
      behind = so_far.offset_is;
      stood = so_far.stood;
      place_is = place_is;
      begins = (progress_of stage next, so_far.reached.leads);
      no_block = λ group good stands q run. no_block group stands version (records_in so_far.blocks)
          group
          so_far.reached (subst (λ k. AreRecords k group) (sym so_far.named) good) refl q run;
      no_end = λ closed n s count accepted. no_end closed version (records_in so_far.blocks)
          so_far.reached n s
          count accepted;
    }

-- ---- refusals

-- a broken gate stands behind no beginning of sound blocks
pub broken_is_refused : (version : Format) (base size : ℕ) (disk : List ℕ) (offset : ℕ)
    (kind : Option Kind)
    (stage : Stage) (next : ℕ) → HasRead version (part base size disk) offset kind stage next →
    IsBroken (part base size disk) offset
    → (others : List (List Record)) → AreSound version base size disk others → ⊥
broken_is_refused version base size disk offset kind stage next so_far broken others sound =
    let rest = so_far.only others sound.is_read.good sound.is_read.row_is in
    let parts : map spelling others ≡ map spelling so_far.blocks ++ map spelling rest.0 =
    ap (map spelling) rest.1 ∙ map-append spelling so_far.blocks rest.0 in
    not_broken (map spelling so_far.blocks) (map spelling rest.0) (part base size disk) offset
    so_far.offset_is (subst (λ l. IsRow l (part base size disk)) parts sound.is_read.row_is)
    broken

-- a body that is refused is that of no sound block
pub refused_body : (version : Format) (base size : ℕ) (disk body : List ℕ) (offset : ℕ)
    (kind : Option Kind)
    (stage : Stage) (next : ℕ) → HasRead version (part base size disk) offset kind stage next →
    StandsAt (part base size disk) offset body
    → ReadsNowhere kind stage next body → (others : List (List Record)) →
    AreSound version base size disk others → ⊥
refused_body version base size disk body offset kind stage next so_far stands refuses others
    sound =
    let rest = so_far.only others sound.is_read.good sound.is_read.row_is in
    let g = next_group so_far.blocks others (part base size disk) body offset so_far.offset_is
    sound.is_read.good sound.is_read.row_is rest.0 rest.1 stands in
    let parts : records_in others ≡ (records_in so_far.blocks ++ g.0) ++ records_in g.1 =
    ap records_in rest.1 ∙ records_in-append so_far.blocks rest.0 ∙
    ap (λ l. records_in so_far.blocks ++ records_in l) g.2 ∙
    sym (append_assoc (records_in so_far.blocks) g.0 (records_in g.1)) in
    let end : Progress = InJournal sound.next sound.end sound.count in
    let split = leads_split Reads (records_in so_far.blocks ++ g.0) (records_in g.1)
    (Unread version) end
    (subst (λ l. Leads Reads l (Unread version) end) parts sound.is_read.accepted) in
    refuses version (records_in so_far.blocks) g.0 so_far.reached
    (subst (λ k. AreRecords k g.0) (sym so_far.named) g.4) (sym g.3) split.0 split.1

no_left : (rest : List (List Record)) → map spelling rest ≡ [] → rest ≡ []
no_left [] e = refl
no_left (r ∷ rest) e = absurd cc

-- nor is an end that is refused the end of sound blocks
pub refused_end : (version : Format) (base size : ℕ) (disk : List ℕ) (offset : ℕ)
    (kind : Option Kind)
    (stage : Stage) (next : ℕ) → HasRead version (part base size disk) offset kind stage next →
    get_or (part base size disk) offset 0 ≢ 167
    → EndsNowhere stage next → (others : List (List Record)) →
    AreSound version base size disk others → ⊥
refused_end version base size disk offset kind stage next so_far closed refuses others sound =
    let rest = so_far.only others sound.is_read.good sound.is_read.row_is in
    let parts : map spelling others ≡ map spelling so_far.blocks ++ map spelling rest.0 =
    ap (map spelling) rest.1 ∙ map-append spelling so_far.blocks rest.0 in
    let none : rest.0 ≡ [] = no_left rest.0
    (none_is_next (map spelling so_far.blocks) (map spelling rest.0) (part base size disk)
    offset so_far.offset_is (subst (λ l. IsRow l (part base size disk)) parts
    sound.is_read.row_is) closed) in
    let same : others ≡ so_far.blocks =
    rest.1 ∙ ap (λ l. so_far.blocks ++ l) none ∙ append-nil so_far.blocks in
    refuses version (records_in so_far.blocks) so_far.reached sound.next sound.end sound.count
    (subst (λ l. AreAccepted version (records_in l) sound.next sound.end sound.count) same
    sound.is_read.accepted)

-- ---- the end

-- all was read where the gate behind it is closed
pub row_read : (version : Format) (bytes : List ℕ) (offset : ℕ) (kind : Option Kind)
    (stage : Stage) (next : ℕ)
    (so_far : HasRead version bytes offset kind stage next) → offset < length bytes →
    get_or bytes offset 0 ≢ 167 → IsRow (map spelling so_far.blocks) bytes
row_read version bytes offset kind stage next so_far inside closed = record {
  gate = get_or bytes offset 0;
  rest = drop (offset + 1) bytes;
  is = so_far.stood ∙ at_drop_more (λ l. row (map spelling so_far.blocks) ++ l) bytes offset 0
      inside;
  closed = closed;
  all_fit = so_far.bodies;
}

pub length-part : (base size : ℕ) (disk : List ℕ) → base + size ≤ length disk →
    length (part base size disk) ≡ size
length-part base size disk inside =
    length-take-le size (drop base disk) (omega (arith, length-drop base disk))

-- ---- the loop

-- The disk was only read; the place is that of the area's next gate; and where the disk read true,
-- the area's bytes up to it were read.
pub record IsLoading {D : Type 0} (seen : D → List ℕ) (may_leave : D → List ℕ → Type 0)
    (moment : D → ℕ) (left_since : D → ℕ → List ℕ → Type 0) (is_honest : D → Type 0)
    (fault_count : D → ℕ) (old new : D) (version : Format) (base size : ℕ) (area : Area)
    (kind : Option Kind)
    (stage : Stage) (next place image : ℕ) : Type 0 where
  -- what the device tells
  pub reads : ReadsOnly seen may_leave moment left_since old new
  pub honest : is_honest new → is_honest old
  pub faults : fault_count old ≤ fault_count new
  -- where the area is
  pub base_is : base_of area ≡ base
  pub size_is : size_of area ≡ size
  pub fine : has_failed area ≡ false
  pub place_is : place ≡ base + offset_of area
  -- what was read
  pub fit : IsFit stage
  pub few : count_of stage ≤ offset_of area
  pub has_read : is_honest new → HasRead version (part base size (seen old)) (offset_of area) kind
      stage
      next
  -- what of it is the image
  pub inside : image ≤ offset_of area
  pub image_is : (true_read : is_honest new) →
      HasImageSoFar (is_imaging stage) version (has_read true_read).blocks (offset_of area) image

-- before the first block
pub loading_starts : {D : Type 0} (seen : D → List ℕ) (may_leave : D → List ℕ → Type 0)
    (moment : D → ℕ) (left_since : D → ℕ → List ℕ → Type 0) (is_honest : D → Type 0)
    (fault_count : D → ℕ) (disk : D) (version : Format) (base size : ℕ) (area : Area)
    (kind : Option Kind)
    (stage : Stage) (next : ℕ)
    → ((c : List ℕ) → left_since disk (moment disk) c → may_leave disk c) → base_of area ≡ base →
    size_of area ≡ size → offset_of area ≡ 0 → has_failed area ≡ false → kind ≡ None →
    stage ≡ Stage.Unread version
    → IsLoading seen may_leave moment left_since is_honest fault_count disk disk version base size
    area kind
    stage next base 0
loading_starts seen may_leave moment left_since is_honest fault_count disk version base size area
    kind stage
    next only_now base_is size_is none fine unnamed unread = record {
      reads = record {
        same = refl;
        stop = λ c left. left;
        any_moment = started moment left_since disk (may_leave disk) only_now;
      };
      honest = λ true_read. true_read;
      faults = omega arith;
      base_is = base_is;
      size_is = size_is;
      fine = fine;
      place_is = omega (arith, none);
      fit = subst IsFit (sym unread) tt;
      few = let zero_count : count_of stage ≡ 0 = ap count_of unread in omega (arith, zero_count);
      has_read = λ true_read. nothing_read version (part base size (seen disk)) (offset_of area)
          kind
          stage
          next none unnamed unread;
      inside = omega arith;
      image_is = λ true_read.
          let blocks = (nothing_read version (part base size (seen disk)) (offset_of area) kind
          stage next
          none unnamed unread).blocks in
          subst (λ s. HasImageSoFar (is_imaging s) version blocks (offset_of area) 0) (sym unread)
          (sym none);
    }

next_refusal : (T : Type 0) (before after : Bool) (risen rises : Type 0)
    (is_damaged spoils : ℕ → Type 0) (e : Refusal) → before ≡ false → (risen → rises) →
    ((place : ℕ) → is_damaged place → spoils place)
    → IsNextAnswer {T = T} before after risen is_damaged (Err e) → IsLoadRefusal rises spoils e
next_refusal T before after risen rises is_damaged spoils Refusal.NoMemory fine f g answer = tt
next_refusal T before after risen rises is_damaged spoils Refusal.Fault fine f g answer = f answer.2
next_refusal T before after risen rises is_damaged spoils (Refusal.Damaged place) fine f g answer =
    g place answer.2
next_refusal T before after risen rises is_damaged spoils Refusal.Failed fine f g answer =
    absurd (true≢false (sym answer.0 ∙ fine))
next_refusal T before after risen rises is_damaged spoils e fine f g answer = absurd answer

damage_refusal : (place : ℕ) (damaged rises : Type 0) (spoils : ℕ → Type 0) (e : Refusal) →
    (damaged → spoils place) → IsDamageOr place damaged e → IsLoadRefusal rises spoils e
damage_refusal place damaged rises spoils Refusal.NoMemory f d = tt
damage_refusal place damaged rises spoils (Refusal.Damaged p) f d = subst spoils (sym d.0) (f d.1)
damage_refusal place damaged rises spoils e f d = absurd d

-- Where the disk read true, the area is spoilt at that place.
abbrev pub Spoils : Type 0 → Format → ℕ → ℕ → List ℕ → ℕ → Type 0
Spoils is_honest version base size bytes place = is_honest → IsSpoilt version base size bytes place

-- a closed gate, where no block was found
closed_gate : (found : Option (Vec ℕ Global)) (bytes : List ℕ) (p : ℕ) →
    ((v : Vec ℕ Global) → found ≡ Some v → ⊥) → Finds bytes p (body_in found) →
    get_or bytes p 0 ≢ 167
closed_gate None bytes p none finds = finds
closed_gate (Some v) bytes p none finds = absurd (none v refl)

pub same_place : (found : Option (Vec ℕ Global)) (was now : ℕ) →
    ((v : Vec ℕ Global) → found ≡ Some v → ⊥) →
    MatchOption found (now ≡ was) (λ body. now ≡ was + 5 + length body.items) → now ≡ was
same_place None was now none found = found
same_place (Some v) was now none found = absurd (none v refl)

-- one call for the next block, on a disk that was read so far
module _ {D : Type 0} {seen : D → List ℕ} {may_leave : D → List ℕ → Type 0} {moment : D → ℕ}
    {left_since : D → ℕ → List ℕ → Type 0} {is_honest : D → Type 0} {fault_count : D → ℕ}
    {old mid : D} {version : Format} {base size : ℕ} {area : Area} {kind : Option Kind}
    {stage : Stage}
    {next place image : ℕ}
    (l : IsLoading seen may_leave moment left_since is_honest fault_count old mid version base size
    area
    kind stage next place image) (new : D)
    (reads : ReadsOnly seen may_leave moment left_since mid new)
    (honest : is_honest new → is_honest mid) (faults : fault_count mid ≤ fault_count new) where
  bytes_same : bytes_of area (seen mid) ≡ part base size (seen old)
  bytes_same = ap (λ b. part b (size_of area) (seen mid)) l.base_is ∙
      ap (λ n. part base n (seen mid)) l.size_is ∙ ap (part base size) l.reads.same

  -- of what was read, where the disk reads true to the end
  so_far : is_honest new → HasRead version (part base size (seen old)) (offset_of area) kind stage
      next
  so_far true_read = l.has_read (honest true_read)

  pub gate_refused : (T : Type 0) (after : Bool) (e : Refusal) →
      IsNextAnswer {T = T} (has_failed area) after (Rises (fault_count mid) (fault_count new))
      (IsDamage (is_honest new) area (seen mid)) (Err e)
      → IsLoadRefusal (Rises (fault_count old) (fault_count new))
      (Spoils (is_honest new) version base size (seen old)) e
  gate_refused T after e answer =
      next_refusal T (has_failed area) after _ _ (IsDamage (is_honest new) area (seen mid)) _ e
      l.fine (rises_before (fault_count old) (fault_count mid) (fault_count new) l.faults
      faults)
      (λ p damage true_read.
      let broken : IsBroken (part base size (seen old)) (offset_of area) =
      subst (λ b. IsBroken b (offset_of area)) bytes_same (damage.broken true_read) in
      record {
        fault = first_fault version base (part base size (seen old)) (offset_of area) p kind stage
            next
            (so_far true_read) (damage.here ∙ ap (λ b. b + offset_of area) l.base_is)
            (λ group stands v rs other reached good is q run. broken.no_block (spelling group)
            stands)
            (λ closed v rs reached n s count accepted. closed broken.opened);
        unsound = λ blocks sound. broken_is_refused _ _ _ _ _ _ _ _ (so_far true_read) broken blocks
            sound;
      })
      answer

  pub body_refused : (body : List ℕ) (e : Refusal) →
      (is_honest new → StandsAt (bytes_of area (seen mid)) (offset_of area) body)
      → IsDamageOr place (ReadsNowhere kind stage next body) e
      → IsLoadRefusal (Rises (fault_count old) (fault_count new))
      (Spoils (is_honest new) version base size (seen old)) e
  body_refused body e stands damage =
      damage_refusal place _ _ (Spoils (is_honest new) version base size (seen old)) e
      (λ refuses true_read.
      let stood : StandsAt (part base size (seen old)) (offset_of area) body =
      subst (λ b. StandsAt b (offset_of area) body) bytes_same (stands true_read) in
      record {
        fault = first_fault version base (part base size (seen old)) (offset_of area) place kind
            stage
            next (so_far true_read) l.place_is
            (λ group there v rs other reached good is q run. refuses v rs other reached good
            (one_body _ body (spelling group) (offset_of area) stood there ∙ is) q run)
            (λ closed v rs reached n s count accepted. closed
            (gate_open _ body (offset_of area) stood));
        unsound = λ blocks sound. refused_body version base size (seen old) body (offset_of area)
            kind
            stage next (so_far true_read) stood refuses blocks sound;
      })
      damage

  pub loads_on : (after : Area) (body : List ℕ) (later : Option Kind) (now : Stage)
      (above later_place later_image : ℕ) → (is_honest new →
      StandsAt (bytes_of area (seen mid)) (offset_of area) body)
      → base_of after ≡ base_of area → size_of after ≡ size_of area → has_failed after ≡ false →
      offset_of after ≡ offset_of area + 5 + length body →
      later_place ≡ place + (5 + length body)
      → later_image ≡ image_behind (is_imaging stage) image (offset_of after)
      → ReadsOn kind stage next body later now above → IsFit now →
      count_of now ≤ count_of stage + length body
      → IsLoading seen may_leave moment left_since is_honest fault_count old new version base size
      after
      later now above later_place later_image
  loads_on after body later now above later_place later_image stands base_is size_is fine
      offset_is later_is image_is repeats fit few = record {
        reads = read_twice seen may_leave moment left_since old mid new l.reads reads;
        honest = λ true_read. l.honest (honest true_read);
        faults = omega (arith, l.faults, faults);
        base_is = base_is ∙ l.base_is;
        size_is = size_is ∙ l.size_is;
        fine = fine;
        place_is = omega (arith, later_is, l.place_is, offset_is);
        fit = fit;
        few = omega (arith, few, l.few, offset_is);
        has_read = λ true_read. reads_on version (part base size (seen old)) body (offset_of area)
            (offset_of after) kind later stage now next above (l.has_read (honest true_read))
            (subst (λ b. StandsAt b (offset_of area) body) bytes_same (stands true_read))
            offset_is
            repeats;
        inside = rw image_is (behind_inside (is_imaging stage) image (offset_of area)
            (offset_of after) l.inside (omega (arith, offset_is)));
        image_is = λ true_read. rw image_is
            (image_on version (part base size (seen old)) body (offset_of area)
            (offset_of after) kind
            later stage now next above image (l.has_read (honest true_read))
            (subst (λ b. StandsAt b (offset_of area) body) bytes_same (stands true_read))
            offset_is repeats (l.image_is (honest true_read)));
      }

  pub end_refused : (found : Option (Vec ℕ Global)) (e : Refusal) →
      ((v : Vec ℕ Global) → found ≡ Some v → ⊥) →
      (is_honest new → Finds (bytes_of area (seen mid)) (offset_of area) (body_in found))
      → IsDamageOr place (EndsNowhere stage next) e
      → IsLoadRefusal (Rises (fault_count old) (fault_count new))
      (Spoils (is_honest new) version base size (seen old)) e
  end_refused found e none finds damage =
      damage_refusal place _ _ (Spoils (is_honest new) version base size (seen old)) e
      (λ refuses true_read.
      let closed : get_or (part base size (seen old)) (offset_of area) 0 ≢ 167 =
      subst (λ b. get_or b (offset_of area) 0 ≢ 167) bytes_same
      (closed_gate found (bytes_of area (seen mid)) (offset_of area) none
      (finds true_read)) in
      record {
        fault = first_fault version base (part base size (seen old)) (offset_of area) place kind
            stage
            next (so_far true_read) l.place_is
            (λ group there v rs other reached good is q run. closed
            (gate_open _ (spelling group) (offset_of area) there))
            (λ shut v rs reached n s count accepted. refuses v rs reached n s count accepted);
        unsound = λ blocks sound. refused_end version base size (seen old) (offset_of area) kind
            stage
            next (so_far true_read) closed refuses blocks sound;
      })
      damage

  pub loads : (after : Area) (found : Option (Vec ℕ Global)) →
      ((v : Vec ℕ Global) → found ≡ Some v → ⊥) →
      (is_honest new → Finds (bytes_of area (seen mid)) (offset_of area) (body_in found))
      → base + size ≤ length (seen old) → offset_of after < size
      → MatchOption found (offset_of after ≡ offset_of area)
      (λ body. offset_of after ≡ offset_of area + 5 + length body.items)
      → (n : ℕ) (s : State) (count : ℕ) → progress_of stage next ≡ InJournal n s count →
      is_honest new → IsLoaded version base size (seen old) s n count (offset_of after)
  loads after found none finds inside under offset_is n s count journal true_read =
      let p : offset_of after ≡ offset_of area =
      same_place found (offset_of area) (offset_of after) none offset_is in
      let read = l.has_read (honest true_read) in
      let closed : get_or (part base size (seen old)) (offset_of area) 0 ≢ 167 =
      subst (λ x. get_or x (offset_of area) 0 ≢ 167) bytes_same
      (closed_gate found (bytes_of area (seen mid)) (offset_of area) none
      (finds true_read)) in
      record {
        blocks = read.blocks;
        is_read = record {
          good = read.good;
          row_is = row_read version (part base size (seen old)) (offset_of area) kind stage next
              read
              (omega (arith, under, p, length-part base size (seen old) inside)) closed;
          accepted = subst (λ q. Leads Reads (records_in read.blocks) (Unread version) q) journal
              read.reached.leads;
        };
        offset = p ∙ read.offset_is;
      }

  pub ends_image : (after : Area) (found : Option (Vec ℕ Global)) →
      ((v : Vec ℕ Global) → found ≡ Some v → ⊥) →
      (is_honest new → Finds (bytes_of area (seen mid)) (offset_of area) (body_in found))
      → base + size ≤ length (seen old) → offset_of after < size
      → MatchOption found (offset_of after ≡ offset_of area)
      (λ body. offset_of after ≡ offset_of area + 5 + length body.items)
      → (n : ℕ) (s : State) (count : ℕ) → progress_of stage next ≡ InJournal n s count →
      is_honest new → StartsWithImage version base size (seen old) image
  unfolding loads
  ends_image after found none finds inside under offset_is n s count journal true_read =
      let read = l.has_read (honest true_read) in record {
        blocks = read.blocks;
        good = read.good;
        row_is = (loads after found none finds inside under offset_is n s count journal
            true_read).is_read.row_is;
        image = subst (λ b. HasImageSoFar b version read.blocks (offset_of area) image)
            (ended_at stage next n s count journal) (l.image_is (honest true_read));
      }
