-- What a history of records, and a recovery, come to.
use Rattle.std.specs.Prelude.{◌≡◌, ℕ, suc, List, [], ◌∷◌, ◌++◌, map, length}
use Rattle.calls.specs.Transactions.{Leads}
use Rattle.boosted.specs.Runs.{own, others}
use Rattle.steps.specs.Theory.Rules.{Rules, Has, Lacks, AllDiffer}
use Rattle.steps.specs.Theory.Journal.{Entry, asker, calls, Record, Make, Commit, Back, Ended}
use Rattle.steps.specs.Theory.Journal.{Serial, commits, committed, gathered}
use Rattle.steps.specs.Theory.Machine.{State, Steps, Repeats, IsSettled, IsSound, Tells}

-- Each step leads the settled content on by the transaction that it commits, run whole, if there is
-- one.
abbrev pub StepSettles : {S E M N : Type 0} → Rules S E M N → Type 0
StepSettles {S} {E} {M} {N} rules =
    (r : Record E M) (s t : State S E N) (c : S) → IsSound rules s → IsSettled rules s c →
    Steps rules s r t →
    IsSound rules t × ((d : S) × Serial rules (commits rules.owner s.entries r) c d ×
    IsSettled rules t d)

-- There is at most one content that a state settles at.
abbrev pub SettlesOnce : {S E M N : Type 0} → Rules S E M N → Type 0
SettlesOnce {S} {E} {M} {N} rules =
    (s : State S E N) (c d : S) → IsSound rules s → IsSettled rules s c → IsSettled rules s d →
    c ≡ d

-- The records lead the settled content on by the transactions that they commit, each run whole, one
-- after another.
abbrev pub HistoryIsSerial : {S E M N : Type 0} → Rules S E M N → Type 0
HistoryIsSerial {S} {E} {M} {N} rules =
    (rs : List (Record E M)) (es : List (Entry E)) (s t : State S E N) (c : S) → IsSound rules s →
    Tells rules.owner es s → IsSettled rules s c → Repeats rules rs s t →
    IsSound rules t × Tells rules.owner (gathered rules.owner es rs) t ×
    ((d : S) × Serial rules (committed rules.owner es rs) c d × IsSettled rules t d)

-- What an image with the content m and the entries es, followed by the records rs, stands for.
abbrev pub StandsFor : {S E M N : Type 0} → Rules S E M N → S → List (Entry E) → List (Record E M) →
    S → Type 0
StandsFor {S} rules m es rs c =
    (start : S) × Leads rules.does (calls es) start m ×
    Serial rules (committed rules.owner es rs) start c

-- An image stands for at most one content, and the machine that repeats the records from the image
-- settles there.
abbrev pub StandsForOne : {S E M N : Type 0} → Rules S E M N → Type 0
StandsForOne {S} {E} {M} {N} rules =
    (s t : State S E N) (rs : List (Record E M)) → IsSound rules s →
    ((c : S) × IsSettled rules s c) → Repeats rules rs s t →
    (c : S) × StandsFor rules s.now s.entries rs c × IsSettled rules t c ×
    ((d : S) → StandsFor rules s.now s.entries rs d → d ≡ c)

-- A beginning of the records commits a beginning of the transactions.
abbrev pub BeginningsCommit : {S E M N : Type 0} → Rules S E M N → Type 0
BeginningsCommit {S} {E} {M} {N} rules = (rs more : List (Record E M)) (es : List (Entry E)) →
    committed rules.owner es (rs ++ more) ≡ committed rules.owner es rs ++
    committed rules.owner (gathered rules.owner es rs) more

-- How many of the records commit something.
abbrev pub places : {E M : Type 0} → List (Record E M) → ℕ
places [] = 0
places (Make k ∷ rs) = suc (places rs)
places (Commit n ∷ rs) = suc (places rs)
places (r ∷ rs) = places rs

-- So many transactions are committed.
abbrev pub PlacesCount : {S E M N : Type 0} → Rules S E M N → Type 0
PlacesCount {S} {E} {M} {N} rules =
    (rs : List (Record E M)) (es : List (Entry E)) →
    length (committed rules.owner es rs) ≡ places rs

-- One Back for each call of the number, and its Ended.
abbrev pub undo_one : {E M : Type 0} → (E → ℕ) → ℕ → List (Entry E) → List (Record E M)
undo_one owner n es = map (λ a. Back n) (own owner n (calls es)) ++ Ended n ∷ []

-- What undoes the numbers, one after another.
abbrev pub undo_records : {E M : Type 0} → (E → ℕ) → List ℕ → List (Entry E) → List (Record E M)
undo_records owner [] es = []
undo_records owner (n ∷ ns) es =
    undo_one owner n es ++ undo_records owner ns (others (asker owner) n es)

-- the content c, and no live transaction
abbrev pub idle : {S E N : Type 0} → S → State S E N
idle c = record { now = c; entries = []; live = []; falling = []; needs = [] }

-- The transactions that are live can always be undone, in any order of their numbers. What is left
-- then is the settled content.
abbrev pub UndoSettles : {S E M N : Type 0} → Rules S E M N → Type 0
UndoSettles {S} {E} {M} {N} rules =
    (s : State S E N) (c : S) (ns : List ℕ) → IsSound rules s → IsSettled rules s c → AllDiffer ns →
    ((n : ℕ) → Has ns n → Has s.live n) → ((n : ℕ) → Has s.live n → Has ns n) →
    Repeats {M = M} rules (undo_records rules.owner ns s.entries) s (idle c)

-- What a transaction deferred can always run at its commit.
abbrev pub CommitsRun : {S E M N : Type 0} → Rules S E M N → Type 0
CommitsRun {S} {E} {M} {N} rules =
    (s : State S E N) (c : S) (n : ℕ) → IsSound rules s → IsSettled rules s c → Has s.live n →
    Lacks s.falling n →
    (t : State S E N) × Steps {M = M} rules s (Commit n) t

-- Opening: the records repeated from the image, and then the losers undone, give the one content
-- that image and records stand for.
-- However much of the undoing has been journalled by a stop, it stands for that content still.
abbrev pub OpenYields : {S E M N : Type 0} → Rules S E M N → Type 0
OpenYields {S} {E} {M} {N} rules =
    (s t : State S E N) (rs : List (Record E M)) (c : S) (ns : List ℕ) → IsSound rules s →
    StandsFor rules s.now s.entries rs c → Repeats rules rs s t →
    AllDiffer ns → ((n : ℕ) → Has ns n → Has t.live n) → ((n : ℕ) → Has t.live n → Has ns n) →
    Repeats rules (rs ++ undo_records rules.owner ns t.entries) s (idle c) ×
    ((us more : List (Record E M)) → undo_records rules.owner ns t.entries ≡ us ++ more →
    StandsFor rules s.now s.entries (rs ++ us) c)
