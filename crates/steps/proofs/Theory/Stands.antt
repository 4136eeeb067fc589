-- What an image stands for, with a beginning of the records behind it.
use Rattle.std.proofs.Common.{◌≡◌, ℕ, Bool, true, false, not, cond, ◌&&◌, inl, inr, ⊎_elim, List}
use Rattle.std.proofs.Common.{[], ◌∷◌, ◌++◌, map, refl, sym, ◌∙◌, ap, subst}
use Rattle.std.specs.List.{filter, AllByRecursion}
use Rattle.calls.specs.Transactions.{Leads}
use Rattle.boosted.specs.Runs.{own}
use Rattle.boosted.proofs.Runs.{Leads-append}
use Rattle.boosted.proofs.Each.{weaker, each_append, each_filter}
use Rattle.boosted.proofs.Owners.{AllApart-filter}
use Rattle.steps.specs.Theory.Rules.{Rules, RuleLaws, Has, AllDiffer}
use Rattle.steps.specs.Theory.Journal.{Entry, Asked, Deferred, event, asker, Record, RunsWhole}
use Rattle.steps.specs.Theory.Journal.{Serial, gather, commits, committed, gathered}
use Rattle.steps.specs.Theory.Machine.{State, puts, IsSound, IsSettled, Tells, lefts}
use Rattle.steps.specs.Theory.Images.{Move, Kept, Falls, Holds, FallsRow, HoldsRow, Plays}
use Rattle.steps.specs.Theory.Images.{records, is_put, member}
use Rattle.steps.specs.Theory.Images.{shown, image_of, ImageRepeats, ImageStands, BookIsSerial}
use Rattle.steps.proofs.Theory.Lists.{each_map, every, has_left}
use Rattle.steps.proofs.Theory.Serial.{step_settles, step_tells, step_commits, beginnings_commit}
use Rattle.steps.proofs.Theory.Sound.{step_sound}
use Rattle.steps.proofs.Theory.Thin.{calls_shown, own_shown, IsThin, follow_all}

has_map : {X Y : Type 0} (f : X → Y) (xs : List X) (x : X) → Has xs x → Has (map f xs) (f x)
has_map f [] x h = absurd h
has_map f (y ∷ xs) x h = ⊎_elim (λ e. inl (ap f e)) (λ k. inr (has_map f xs x k)) h

from_map : {X Y : Type 0} (f : X → Y) (P : Y → Type 0) (xs : List X) (y : Y) →
    AllByRecursion (λ x. P (f x)) xs → Has (map f xs) y → P y
from_map f P [] y a h = absurd h
from_map f P (x ∷ xs) y a h = ⊎_elim (λ e. subst P e a.0) (λ k. from_map f P xs y a.1 k) h

module _ {E : Type 0} (test : Entry E → Bool) where
  asked_put : (P : E → Type 0) (b : Bool) (a : E) (r : List (Entry E)) → AllByRecursion P (puts r) →
      AllByRecursion P (puts (cond b (Asked a ∷ r) r))
  asked_put P true a r h = h
  asked_put P false a r h = h

  put_put : (P : E → Type 0) (b : Bool) (d : E) (r : List (Entry E)) → P d →
      AllByRecursion P (puts r) → AllByRecursion P (puts (cond b (Deferred d ∷ r) r))
  put_put P true d r p h = (p, h)
  put_put P false d r p h = h

  pub each_put : (P : E → Type 0) (es : List (Entry E)) → AllByRecursion P (puts es) →
      AllByRecursion P (puts (filter test es))
  each_put P [] h = tt
  each_put P (Asked a ∷ es) h = asked_put P (test (Asked a)) a (filter test es) (each_put P es h)
  each_put P (Deferred d ∷ es) h = put_put P (test (Deferred d)) d (filter test es) h.0
      (each_put P es h.1)

pub split_plays : {S E M N : Type 0} (rules : Rules S E M N) (ms : List (Move E M))
    (rs more : List (Record E M)) (s t : State S E N) → Plays rules ms s t →
    records ms ≡ rs ++ more →
    (front : List (Move E M)) × (m : State S E N) × Plays rules front s m × (records front ≡ rs)
split_plays rules ms [] more s t w e = ([], s, refl, refl)
split_plays rules [] (r ∷ rs) more s t w e = cc
split_plays rules (Kept q ∷ ms) (r ∷ rs) more s t w e =
    let rest : records ms ≡ rs ++ more = cc in
    let same : q ≡ r = cc in
    let k = split_plays rules ms rs more w.0 t w.2 rest in
    (Kept q ∷ k.0, k.1, (w.0, w.1, k.2), ap (λ l. q ∷ l) k.3 ∙ ap (λ x. x ∷ rs) same)
split_plays rules (Falls n ∷ ms) (r ∷ rs) more s t w e =
    let k = split_plays rules ms (r ∷ rs) more w.0 t w.2 e in
    (Falls n ∷ k.0, k.1, (w.0, w.1, k.2), k.3)
split_plays rules (Holds x ∷ ms) (r ∷ rs) more s t w e =
    let k = split_plays rules ms (r ∷ rs) more w.0 t w.2 e in
    (Holds x ∷ k.0, k.1, (w.0, w.1, k.2), k.3)

module _ {S E M N : Type 0} {rules : Rules S E M N} (laws : RuleLaws rules) where
  pub falls_sound : (s : State S E N) (n : ℕ) (t : State S E N) → IsSound rules s →
      FallsRow rules s n t → IsSound rules t
  falls_sound s n t sound row = subst (IsSound rules) (sym row.is)
      (record {
        held = sound.held;
        alive = sound.alive;
        apart = sound.apart;
        asked = sound.asked;
        put = sound.put;
        once = sound.once;
        holders = sound.holders;
        fallers = (row.live, sound.fallers);
      })

  falls_tells : (es : List (Entry E)) (s : State S E N) (n : ℕ) (t : State S E N) →
      Tells rules.owner es s → FallsRow rules s n t → Tells rules.owner es t
  falls_tells es s n t tells row =
      subst (Tells rules.owner es) (sym row.is) (λ k live run. tells k live (λ f. run (inr f)))

  holds_sound : (s : State S E N) (x : E) (t : State S E N) → IsSound rules s →
      HoldsRow rules s x t → IsSound rules t
  holds_sound s x t sound row = subst (IsSound rules) (sym row.is)
      (record {
        held = weaker _ _ (λ e h. has_left s.needs (rules.need x ∷ []) (rules.need (event e)) h)
            s.entries sound.held;
        alive = sound.alive;
        apart = sound.apart;
        asked = sound.asked;
        put = sound.put;
        once = sound.once;
        holders = each_append (λ k. Has s.live (rules.holder k)) s.needs (rules.need x ∷ [])
            sound.holders (subst (Has s.live) (sym (laws.held x)) row.live, tt);
        fallers = sound.fallers;
      })

  holds_tells : (es : List (Entry E)) (s : State S E N) (x : E) (t : State S E N) →
      Tells rules.owner es s → HoldsRow rules s x t → Tells rules.owner es t
  holds_tells es s x t tells row = subst (Tells rules.owner es) (sym row.is) tells

  -- what a book plays: the state that it comes to, and what it commits
  record IsPlayed (ms : List (Move E M)) (es : List (Entry E)) (t : State S E N) (c : S) : Type
      0 where
    sound : IsSound rules t
    tells : Tells rules.owner (gathered rules.owner es (records ms)) t
    content : S
    serial : Serial rules (committed rules.owner es (records ms)) c content
    settled : IsSettled rules t content

  played : (ms : List (Move E M)) (es : List (Entry E)) (s t : State S E N) (c : S) →
      IsSound rules s → Tells rules.owner es s → IsSettled rules s c → Plays rules ms s t →
      IsPlayed ms es t c
  played [] es s t c sound tells w run = record {
    sound = subst (IsSound rules) run sound;
    tells = subst (Tells rules.owner es) run tells;
    content = c;
    serial = refl;
    settled = subst (λ v. IsSettled rules v c) run w;
  }
  played (Kept r ∷ ms) es s t c sound tells w run =
      let one = step_settles laws r s run.0 c sound w run.1 in
      let more = played ms (gather rules.owner es r) run.0 t one.1.0 one.0
      (step_tells laws r es s run.0 sound tells run.1) one.1.2 run.2 in
      record {
        sound = more.sound;
        tells = more.tells;
        content = more.content;
        serial = Leads-append (RunsWhole rules) (commits rules.owner es r)
            (committed rules.owner (gather rules.owner es r) (records ms)) c one.1.0 more.content
            (subst (λ l. Serial rules l c one.1.0) (step_commits laws r es s run.0 tells run.1)
            one.1.1) more.serial;
        settled = more.settled;
      }
  played (Falls n ∷ ms) es s t c sound tells w run =
      let more = played ms es run.0 t c (falls_sound s n run.0 sound run.1)
      (falls_tells es s n run.0 tells run.1) (subst (λ v. IsSettled rules v c) (sym run.1.is) w)
      run.2 in
      record {
        sound = more.sound;
        tells = more.tells;
        content = more.content;
        serial = more.serial;
        settled = more.settled;
      }
  played (Holds x ∷ ms) es s t c sound tells w run =
      let more = played ms es run.0 t c (holds_sound s x run.0 sound run.1)
      (holds_tells es s x run.0 tells run.1) (subst (λ v. IsSettled rules v c) (sym run.1.is) w)
      run.2 in
      record {
        sound = more.sound;
        tells = more.tells;
        content = more.content;
        serial = more.serial;
        settled = more.settled;
      }

  pub book_is_serial : BookIsSerial rules
  book_is_serial ms es s t c sound tells w run = let p = played ms es s t c sound tells w run in
      (p.sound, (p.content, p.serial, p.settled))

  -- what is committed depends only on what is known of who runs
  pub committed_same : (ms : List (Move E M)) (es fs : List (Entry E)) (s t : State S E N) →
      IsSound rules s → Tells rules.owner es s → Tells rules.owner fs s → Plays rules ms s t →
      committed rules.owner es (records ms) ≡ committed rules.owner fs (records ms)
  committed_same [] es fs s t sound a b run = refl
  committed_same (Kept r ∷ ms) es fs s t sound a b run =
      ap (λ l. l ++ committed rules.owner (gather rules.owner es r) (records ms))
      (sym (step_commits laws r es s run.0 a run.1) ∙ step_commits laws r fs s run.0 b run.1)
      ∙ ap (λ l. commits rules.owner fs r ++ l)
      (committed_same ms (gather rules.owner es r) (gather rules.owner fs r) run.0 t
      (step_sound laws r s run.0 sound run.1) (step_tells laws r es s run.0 sound a run.1)
      (step_tells laws r fs s run.0 sound b run.1) run.2)
  committed_same (Falls n ∷ ms) es fs s t sound a b run =
      committed_same ms es fs run.0 t (falls_sound s n run.0 sound run.1)
      (falls_tells es s n run.0 a run.1) (falls_tells fs s n run.0 b run.1) run.2
  committed_same (Holds x ∷ ms) es fs s t sound a b run =
      committed_same ms es fs run.0 t (holds_sound s x run.0 sound run.1)
      (holds_tells es s x run.0 a run.1) (holds_tells fs s x run.0 b run.1) run.2

  pub image_sound : (s : State S E N) → IsSound rules s → IsSound rules (image_of rules s)
  image_sound s sound =
      let sees : Entry E → Bool = λ e. not (is_put e && member s.falling (asker rules.owner e)) in
      record {
        held = every _ (shown rules.owner s.falling s.entries)
            (λ e h. has_map (λ e. rules.need (event e)) (shown rules.owner s.falling s.entries) e
            h);
        alive = each_filter _ sees s.entries sound.alive;
        apart = AllApart-filter _ (asker rules.owner) sees s.entries sound.apart;
        asked = subst (AllByRecursion rules.asked)
            (sym (calls_shown rules.owner s.falling s.entries)) sound.asked;
        put = each_put sees _ s.entries sound.put;
        once = λ n. subst (λ l. AllDiffer (lefts rules.leaves (own rules.owner n l)))
            (sym (calls_shown rules.owner s.falling s.entries)) (sound.once n);
        holders = each_map (λ e. rules.need (event e)) _ (shown rules.owner s.falling s.entries)
            (each_filter _ sees s.entries (weaker _ _
            (λ e h. subst (Has s.live) (sym (laws.held (event e))) h) s.entries sound.alive));
        fallers = tt;
      }

  image_thin : (s : State S E N) → IsSound rules s →
      IsThin s s.falling [] (map (λ e. rules.need (event e))
      (shown rules.owner s.falling s.entries))
  image_thin s sound = record {
    hides = λ n h. h;
    falls = λ n h. absurd h;
    fewer = λ k h. from_map (λ e. rules.need (event e)) (Has s.needs)
        (shown rules.owner s.falling s.entries) k
        (each_filter _ (λ e. not (is_put e && member s.falling (asker rules.owner e))) s.entries
        sound.held) h;
  }

  pub image_repeats : ImageRepeats rules
  image_repeats ms s t sound run =
      let f = follow_all rules ms s t s.falling [] _ (image_thin s sound) run in
      (image_sound s sound, (_, f.run, refl, calls_shown rules.owner f.hidden' t.entries, refl))

  pub image_stands : ImageStands rules
  image_stands before after rs more es s t u c sound tells w run next is =
      let p = played before es s t c sound tells w run in
      let k = split_plays rules after rs more t u next is in
      let shows : List (Entry E) = shown rules.owner t.falling t.entries in
      let shows_tells : Tells rules.owner shows t =
      λ n live go. own_shown rules.owner t.falling n t.entries go in
      let q = played k.0 shows t k.1 p.content p.sound shows_tells p.settled k.2 in (
        q.content,
        (
          p.content,
          subst (λ l. Leads rules.does l p.content t.now)
              (sym (calls_shown rules.owner t.falling t.entries)) p.settled,
          subst (λ l. Serial rules (committed rules.owner shows l) p.content q.content) k.3
              q.serial,
        ),
        subst (λ l. Serial rules l c q.content)
            (sym (beginnings_commit rules (records before) rs es))
            (Leads-append (RunsWhole rules) (committed rules.owner es (records before))
            (committed rules.owner (gathered rules.owner es (records before)) rs) c p.content
            q.content p.serial
            (subst (λ l. Serial rules (committed rules.owner
            (gathered rules.owner es (records before)) l) p.content q.content) k.3
            (subst (λ l. Serial rules l p.content q.content)
            (committed_same k.0 shows (gathered rules.owner es (records before)) t k.1 p.sound
            shows_tells p.tells k.2) q.serial))),
      )
