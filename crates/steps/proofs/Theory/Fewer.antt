-- A sound state without some entries that leave nothing to a commit is sound.
use Rattle.std.proofs.Common.{◌≡◌, ℕ, ◌==◌, Bool, true, false, cond, List, [], ◌∷◌, ◌++◌, refl, sym}
use Rattle.std.proofs.Common.{◌∙◌, ap, subst}
use Rattle.std.specs.List.{filter, AllByRecursion}
use Rattle.boosted.specs.Runs.{own}
use Rattle.boosted.proofs.Each.{each_filter}
use Rattle.boosted.proofs.Owners.{AllApart-filter}
use Rattle.steps.specs.Theory.Rules.{Rules, AllDiffer}
use Rattle.steps.specs.Theory.Journal.{Entry, Asked, Deferred, asker, calls}
use Rattle.steps.specs.Theory.Machine.{State, IsSound, lefts}
use Rattle.steps.proofs.Theory.Stands.{each_put}

module _ {E : Type 0} (test : Entry E → Bool) where
  asked_if : (P : E → Type 0) (b : Bool) (a : E) (r : List (Entry E)) → P a →
      AllByRecursion P (calls r) → AllByRecursion P (calls (cond b (Asked a ∷ r) r))
  asked_if P true a r p h = (p, h)
  asked_if P false a r p h = h

  put_if : (P : E → Type 0) (b : Bool) (d : E) (r : List (Entry E)) →
      AllByRecursion P (calls r) → AllByRecursion P (calls (cond b (Deferred d ∷ r) r))
  put_if P true d r h = h
  put_if P false d r h = h

  each_asked : (P : E → Type 0) (es : List (Entry E)) → AllByRecursion P (calls es) →
      AllByRecursion P (calls (filter test es))
  each_asked P [] h = tt
  each_asked P (Asked a ∷ es) h = asked_if P (test (Asked a)) a (filter test es) h.0
      (each_asked P es h.1)
  each_asked P (Deferred d ∷ es) h = put_if P (test (Deferred d)) d (filter test es)
      (each_asked P es h)

  -- what is left out leaves nothing
  module _ (owner : E → ℕ) (leaves : E → List E) (n : ℕ)
      (nothing : (a : E) → test (Asked a) ≡ false → leaves a ≡ []) where
    abbrev left : List (Entry E) → List E
    left es = lefts leaves (own owner n (calls es))

    passed_over : (mine : Bool) (a : E) (r : List E) → leaves a ≡ [] →
        lefts leaves (cond mine (a ∷ r) r) ≡ lefts leaves r
    passed_over true a r none = ap (λ l. l ++ lefts leaves r) none
    passed_over false a r none = refl

    kept_on : (mine : Bool) (a : E) (r s : List E) → lefts leaves r ≡ lefts leaves s →
        lefts leaves (cond mine (a ∷ r) r) ≡ lefts leaves (cond mine (a ∷ s) s)
    kept_on true a r s same = ap (λ l. leaves a ++ l) same
    kept_on false a r s same = same

    asked_left : (b : Bool) (a : E) (r es : List (Entry E)) → (b ≡ false → leaves a ≡ []) →
        left r ≡ left es → left (cond b (Asked a ∷ r) r) ≡ left (Asked a ∷ es)
    asked_left true a r es none same =
        kept_on (owner a == n) a (own owner n (calls r)) (own owner n (calls es)) same
    asked_left false a r es none same =
        same ∙ sym (passed_over (owner a == n) a (own owner n (calls es)) (none refl))

    put_left : (b : Bool) (d : E) (r es : List (Entry E)) → left r ≡ left es →
        left (cond b (Deferred d ∷ r) r) ≡ left es
    put_left true d r es same = same
    put_left false d r es same = same

    same_left : (es : List (Entry E)) → left (filter test es) ≡ left es
    same_left [] = refl
    same_left (Asked a ∷ es) = asked_left (test (Asked a)) a (filter test es) es (nothing a)
        (same_left es)
    same_left (Deferred d ∷ es) = put_left (test (Deferred d)) d (filter test es) es (same_left es)

pub fewer_sound : {S E M N : Type 0} (rules : Rules S E M N) (test : Entry E → Bool) →
    ((a : E) → test (Asked a) ≡ false → rules.leaves a ≡ []) → (s : State S E N) →
    IsSound rules s → IsSound rules (record {
      now = s.now;
      entries = filter test s.entries;
      live = s.live;
      falling = s.falling;
      needs = s.needs;
    })
fewer_sound rules test nothing s sound = record {
  held = each_filter _ test s.entries sound.held;
  alive = each_filter _ test s.entries sound.alive;
  apart = AllApart-filter _ (asker rules.owner) test s.entries sound.apart;
  asked = each_asked test rules.asked s.entries sound.asked;
  put = each_put test _ s.entries sound.put;
  once = λ n. subst AllDiffer (sym (same_left test rules.owner rules.leaves n nothing s.entries))
      (sound.once n);
  holders = sound.holders;
  fallers = sound.fallers;
}
