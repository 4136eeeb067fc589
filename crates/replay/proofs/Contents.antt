-- What an image and a journal stand for that are read.
use Rattle.std.proofs.Common.{◌≡◌, ℕ, List, [], ◌∷◌, ◌++◌, map, refl, sym, ◌∙◌, ap, subst}
use Rattle.std.proofs.Common.{append_assoc, append-nil}
use Rattle.std.specs.List.{AllByRecursion}
use Rattle.std.specs.FinMap as maps
use Rattle.calls.specs.declared.format.Format.{Format}
use Rattle.calls.specs.Contents.{Collection}
use Rattle.calls.specs.Transactions.{Transaction, Whole, Made, Event, Entry, Leads, Does}
use Rattle.calls.specs.Transactions.{RunsWhole, Serial, calls_of, laters_of, own, committed}
use Rattle.calls.specs.Transactions.{committed_after}
use Rattle.records.specs.declared.record.Record.{Record}
use Rattle.records.specs.Short.{IsOf}
use Rattle.records.specs.Acts.{acts_of, acts_of_record}
use Rattle.records.specs.Images.{TellOf, IsLiveRecord, IsImage, owned_entries}
use Rattle.steps.specs.Machine.{IsSettled}
use Rattle.steps.specs.Sound as txn
use Rattle.steps.proofs.RecordRuns as played
use Rattle.steps.proofs.RecordRuns.{gathered, gathered_append, committed_append}
use Rattle.steps.proofs.Steps as steps
use Rattle.steps.proofs.NamedContents.{serial_told}
use Rattle.replay.specs.Journals.{Holds, StandsFor, records_in}
use Rattle.replay.specs.Steps.{State, Steps, Repeats}
use Rattle.replay.specs.Reading.{AreAccepted}
use Rattle.replay.proofs.CatalogLaws.{laws}
use Rattle.replay.proofs.Lists.{leads_append, leads_exact, flat_map-append}
use Rattle.replay.proofs.Loaded.{loaded_sound, loaded_entries}
use Rattle.replay.proofs.OneImage.{one_image}
use Rattle.replay.proofs.Parts.{IsParts, parts_of, repeats_journal}
use Rattle.catalog.specs.Meaning.{catalog_meaning, catalog_making}

-- ---- transactions run whole have one end

call_exact : (e : Event) (s t u : List Collection) → Does s e t → Does s e u → t ≡ u
call_exact e s t u a b = a.1 ∙ sym b.1

whole_exact : (x : Transaction) (s t u : List Collection) → RunsWhole s x t → RunsWhole s x u →
    t ≡ u
whole_exact (Whole es) s t u a b =
    let middle : b.0 ≡ a.0 = leads_exact Does call_exact (calls_of es) s b.0 a.0 b.1 a.1 in
    leads_exact Does call_exact (laters_of es) a.0 t u a.2
    (subst (λ m. Leads Does (laters_of es) m u) middle b.2)
whole_exact (Made name kind) s t u a b = a.is ∙ sym b.is

serial_exact : (xs : List Transaction) (s t u : List Collection) → Serial xs s t → Serial xs s u →
    t ≡ u
serial_exact xs s t u = leads_exact RunsWhole whole_exact xs s t u

-- ---- what an image says of transactions: who had asked for what, and no commit

pub acts_of-append : (xs ys : List Record) → acts_of (xs ++ ys) ≡ acts_of xs ++ acts_of ys
acts_of-append xs ys = flat_map-append acts_of_record xs ys

told_quiet : (xs : List Collection) (rs : List Record) → TellOf xs rs → acts_of rs ≡ []
told_quiet [] rs t = ap acts_of t
told_quiet (x ∷ xs) rs t =
    ap acts_of t.2 ∙ acts_of-append t.0 t.1 ∙ ap (λ l. acts_of l ++ acts_of t.1) t.3.is ∙
    ap (λ l. l ++ acts_of t.1) (items_quiet t.3.items) ∙ told_quiet xs t.1 t.4
  where
    items_quiet : (items : List _) → acts_of (map Record.Item items) ≡ []
    items_quiet [] = refl
    items_quiet (i ∷ items) = items_quiet items

begins_quiet : (ns : List ℕ) → (gathered [] (acts_of (map Record.Begin ns)) ≡ []) ×
    (committed_after [] (acts_of (map Record.Begin ns)) ≡ [])
begins_quiet [] = (refl, refl)
begins_quiet (n ∷ ns) = begins_quiet ns

live_told : (live : List Record) (es : List (ℕ × Entry)) → AllByRecursion IsLiveRecord live →
    (gathered es (acts_of live) ≡ es ++ owned_entries live) ×
    (committed_after es (acts_of live) ≡ [])
live_told [] es all = (sym (append-nil es), refl)
live_told (Record.LiveCall c ∷ live) es all =
    let first = owned_entries (Record.LiveCall c ∷ []) in
    let rest = live_told live (es ++ first) all.1 in
    (rest.0 ∙ append_assoc es first (owned_entries live), rest.1)
live_told (Record.LiveLater l ∷ live) es all =
    let first = owned_entries (Record.LiveLater l ∷ []) in
    let rest = live_told live (es ++ first) all.1 in
    (rest.0 ∙ append_assoc es first (owned_entries live), rest.1)
live_told (r ∷ live) es all = absurd all.0

image_told : (f : Format) (n w : ℕ) (shown : List Collection) (ns : List ℕ)
    (live image : List Record) →
    IsImage f n w shown ns live image →
    (gathered [] (acts_of image) ≡ owned_entries live) × (committed (acts_of image) ≡ [])
image_told f n w shown ns live image is =
    let begins : List Record = map Record.Begin ns in
    let acts : acts_of image ≡ acts_of begins ++ acts_of live =
    ap acts_of is.is ∙ acts_of-append is.told (begins ++ (live ++ Record.ImageEnd ∷ [])) ∙
    ap (λ l. l ++ acts_of (begins ++ (live ++ Record.ImageEnd ∷ [])))
    (told_quiet shown is.told is.tells)
    ∙ acts_of-append begins (live ++ Record.ImageEnd ∷ []) ∙
    ap (λ l. acts_of begins ++ l) (acts_of-append live (Record.ImageEnd ∷ []) ∙
    append-nil (acts_of live)) in
    let quiet = begins_quiet ns in
    let said = live_told live [] is.all_live in (
      ap (gathered []) acts ∙ gathered_append (acts_of begins) (acts_of live) [] ∙
          ap (λ es. gathered es (acts_of live)) quiet.0 ∙ said.0,
      ap committed acts ∙ committed_append (acts_of begins) (acts_of live) [] ∙
          ap (λ l. l ++ committed_after (gathered [] (acts_of begins)) (acts_of live)) quiet.1
          ∙ ap (λ es. committed_after es (acts_of live)) quiet.0 ∙ said.1,
    )

owned_begins : (ns : List ℕ) (live : List Record) →
    owned_entries (map Record.Begin ns ++ live) ≡ owned_entries live
owned_begins [] live = refl
owned_begins (n ∷ ns) live = owned_begins ns live

-- ---- from the image on

module _ (rs : List Record) (s : State) (p : IsParts rs s) where
  abbrev held : List Record
  held = map Record.Begin p.numbers ++ p.live

  abbrev start : List Collection
  start = p.settles.0

  pub first_sound : txn.IsSound catalog_meaning catalog_making p.first
  first_sound = loaded_sound catalog_meaning catalog_making laws.rules held p.format p.shown p.wear
      p.first
      start p.leads p.settles.1

  pub entries_are : p.first.entries ≡ owned_entries p.live
  entries_are = (loaded_entries catalog_meaning held p.format p.shown p.wear p.first
      p.leads).entries ∙
      owned_begins p.numbers p.live

  now_is : p.first.now ≡ p.shown
  now_is = (loaded_entries catalog_meaning held p.format p.shown p.wear p.first p.leads).now

  -- From a content of which the live calls lead to what the image shows, they lead to the first
  -- state, and the other way round.
  abbrev Shows : List Collection → Type 0
  Shows c = Leads Does (calls_of (map (λ e. e.1) (owned_entries p.live))) c p.shown

  pub shows_start : Shows start
  shows_start = subst (λ es. Leads Does (calls_of (map (λ e. e.1) es)) start p.shown) entries_are
      (subst (Leads Does (calls_of (map (λ e. e.1) p.first.entries)) start) now_is p.settles.1)

  one_start : (c : List Collection) → Shows c → c ≡ start
  one_start c shows =
      steps.settles_once catalog_meaning catalog_making laws.rules p.first c start first_sound
      (subst (Leads Does (calls_of (map (λ e. e.1) p.first.entries)) c) (sym now_is)
      (subst (λ es. Leads Does (calls_of (map (λ e. e.1) es)) c p.shown) (sym entries_are)
      shows)) p.settles.1

  -- Records that lead on from the first state lead on by what they commit.
  module _ (js : List Record) (t : State) (run : Repeats js p.first t) where
    abbrev comes : played.IsPlayed catalog_meaning catalog_making laws.rules (owned_entries p.live)
        (acts_of js) start t
    comes = played.all_repeated catalog_meaning catalog_making laws.rules js (owned_entries p.live)
        p.first t start first_sound
        (λ n running. ap (own n) (sym entries_are)) p.settles.1 run

    abbrev pub content : List Collection
    content = comes.content

    pub end_sound : txn.IsSound catalog_meaning catalog_making t
    end_sound = comes.sound

    pub end_settled : IsSettled catalog_meaning t content
    end_settled = comes.settled

    behind : committed (acts_of (p.image ++ js)) ≡
        committed_after (owned_entries p.live) (acts_of js)
    behind =
        let said = image_told p.format p.next p.wear p.shown p.numbers p.live p.image p.is_image in
        ap committed (acts_of-append p.image js) ∙
        committed_append (acts_of p.image) (acts_of js) [] ∙
        ap (λ l. l ++ committed_after (gathered [] (acts_of p.image)) (acts_of js)) said.1
        ∙ ap (λ es. committed_after es (acts_of js)) said.0

    pub serial : Serial (committed (acts_of (p.image ++ js))) start content
    serial =
        subst (λ ts. Serial ts start content) (sym behind)
        (serial_told catalog_meaning catalog_making (λ (v : List Collection). v) (λ v at c r h. h)
        (λ v at c r h. refl) (λ u v name kind m. m)
        (committed_after (owned_entries p.live) (acts_of js)) start content comes.runs)

    -- Where no transaction is live at their end, that is the content there.
    pub content_now : t.live ≡ maps.empty → content ≡ t.now
    content_now over = (steps.none_live catalog_meaning catalog_making laws.rules t comes.sound
        content over comes.settled).1

    -- bytes that hold image and journal stand for it
    pub stands_for : (bytes : List ℕ) (blocks : List (List Record)) → Holds bytes blocks →
        records_in blocks ≡ p.image ++ js → StandsFor bytes content
    stands_for bytes blocks holds split = record {
      blocks = blocks;
      holds = holds;
      image = p.image;
      journal = js;
      split = split;
      all_journal = repeats_journal js p.first t run;
      next = p.next;
      wear = p.wear;
      shown = p.shown;
      numbers = p.numbers;
      live = p.live;
      is_image = subst (λ f. IsImage f p.next p.wear p.shown p.numbers p.live p.image)
          (subst (AllByRecursion (IsOf holds.format)) (split ∙ ap (λ l. l ++ js) p.is_image.is)
          holds.of_format).0 p.is_image;
      start = start;
      leads = shows_start;
      serial = subst (λ l. Serial (committed (acts_of l)) start content) (sym split) serial;
    }

    -- and for no other
    pub only_content : (bytes : List ℕ) (other : List Collection) (stands : StandsFor bytes other) →
        acts_of (records_in stands.blocks) ≡ acts_of (p.image ++ js) →
        p.image ++ p.journal ≡ stands.image ++ stands.journal → content ≡ other
    only_content bytes other stands acts parts =
        let same = one_image p.format stands.holds.format p.next stands.next p.wear stands.wear
        p.shown stands.shown p.numbers
        stands.numbers p.live stands.live p.image stands.image p.journal stands.journal
        p.is_image stands.is_image parts in
        let shows : Shows stands.start =
        subst (Leads Does (calls_of (map (λ e. e.1) (owned_entries p.live))) stands.start)
        (sym same.shown_is) (subst (λ l. Leads Does
        (calls_of (map (λ e. e.1) (owned_entries l))) stands.start stands.shown)
        (sym same.live_is) stands.leads) in
        let stood : Serial (committed (acts_of (p.image ++ js))) start other =
        subst (λ c. Serial (committed (acts_of (p.image ++ js))) c other)
        (one_start stands.start shows) (subst (λ l. Serial (committed l) stands.start other)
        acts stands.serial) in
        serial_exact (committed (acts_of (p.image ++ js))) start content other serial stood

-- ---- an accepted image and journal

module _ (version : Format) (rs : List Record) (n : ℕ) (s : State) (k : ℕ)
    (accepted : AreAccepted version rs n s k) where
  abbrev pub parts : IsParts rs s
  parts = parts_of version rs n s k accepted

  -- Records behind it lead on from its first state too.
  pub on_from_first : (more : List Record) (t : State) → Repeats more s t →
      Repeats (parts.journal ++ more) parts.first t
  on_from_first more t run = leads_append Steps parts.journal more parts.first s t parts.repeats run

  pub sound_behind : (more : List Record) (t : State) → Repeats more s t →
      txn.IsSound catalog_meaning catalog_making t
  sound_behind more t run = end_sound rs s parts (parts.journal ++ more) t
      (on_from_first more t run)

  -- With records behind it that commit nothing and lead to a state where no transaction is live, it
  -- stands for what is there then.
  pub content_behind : (more : List Record) (t : State) → Repeats more s t → t.live ≡ maps.empty →
      acts_of more ≡ [] → (bytes : List ℕ) (other : List Collection)
      (stands : StandsFor bytes other) → rs ≡ records_in stands.blocks → t.now ≡ other
  content_behind more t run over quiet bytes other stands same =
      let js : List Record = parts.journal ++ more in
      let on : Repeats js parts.first t = on_from_first more t run in
      let acts : acts_of rs ≡ acts_of (parts.image ++ js) =
      ap acts_of parts.is ∙ sym (append-nil (acts_of (parts.image ++ parts.journal))) ∙
      ap (λ l. acts_of (parts.image ++ parts.journal) ++ l) (sym quiet) ∙
      sym (acts_of-append (parts.image ++ parts.journal) more)
      ∙ ap acts_of (append_assoc parts.image parts.journal more) in
      sym (content_now rs s parts js t on over) ∙
      only_content rs s parts js t on bytes other stands (ap acts_of (sym same) ∙ acts)
      (sym parts.is ∙ same ∙ stands.split)
