-- The laws of a list of collections, by place, from those of one content.
use Rattle.std.proofs.Common.{◌≡◌, ℕ, zero, suc, ◌+◌, ◌⊎◌, Option, Some, None, List, [], ◌∷◌, refl}
use Rattle.std.proofs.Common.{sym, ap, subst}
use Rattle.std.specs.List.{AllByRecursion}
use Rattle.calls.specs.declared.call.Call.{Call}
use Rattle.calls.specs.declared.reply.Reply.{Reply}
use Rattle.calls.specs.declared.need.Mode.{Mode}
use Rattle.calls.specs.Rules.{left_by, Apart as CallsApart, inverse_of, Askable, Deferrable}
use Rattle.calls.specs.Rules.{Disposable, need_of}
use Rattle.calls.specs.Contents.{Content, Answers, after, Collection, AnswersAt, after_at, does}
use Rattle.boosted.specs.Meaning.{Apart}
use Rattle.catalog.specs.Places.{Belongs, IsWithin}
use Rattle.catalog.specs.Laws.OneContent.{part_answered, part_rests, part_wears, part_deferred}
use Rattle.catalog.specs.Laws.OneContent.{part_deferred_stays, part_leaves, part_past_call}
use Rattle.catalog.specs.Laws.OneContent.{part_past_later, part_past_inverse, By, ByOnly}
use Rattle.catalog.specs.Laws.OneContent.{whole_back, part_back, part_reads}

-- A law P of a list, at a place where the call is answered: it holds at the first place by the law
-- of one content, and goes on to the next place as it is.
module _ (c : Call) (r : Reply) (P : List Collection → ℕ → Type 0)
    (here : (x : Collection) (xs : List Collection) → Answers x.content c r → P (x ∷ xs) zero)
    (next : (x : Collection) (xs : List Collection) (at : ℕ) → P xs at → P (x ∷ xs) (suc at)) where
  pub by_place : (s : List Collection) (at : ℕ) → AnswersAt s at c r → P s at
  by_place [] at h = absurd h
  by_place (x ∷ xs) zero h = here x xs h
  by_place (x ∷ xs) (suc at) h = next x xs at (by_place xs at h)

-- A law of two places: what is answered at one stays so past a call at the other, where a law of
-- one content says so of the same place.
pub kept_at : (c : Call) (r : Reply) (d : Call) (q : Reply) (i j : ℕ) →
    (i ≡ j → (x : Content) → Answers x c r → Answers x d q → Answers (after x c r) d q) →
    (s : List Collection) → AnswersAt s i c r → AnswersAt s j d q →
    AnswersAt (after_at s i c r) j d q
kept_at c r d q i j law [] h k = absurd h
kept_at c r d q zero zero law (x ∷ xs) h k = law refl x.content h k
kept_at c r d q zero (suc j) law (x ∷ xs) h k = k
kept_at c r d q (suc i) zero law (x ∷ xs) h k = k
kept_at c r d q (suc i) (suc j) law (x ∷ xs) h k = kept_at c r d q i j (λ e. law (ap suc e)) xs h k

pub answered_belongs : (s : List Collection) (at : ℕ) (c : Call) (r : Reply) → AnswersAt s at c r →
    Belongs s at c
answered_belongs s at c r = by_place c r (λ t i. Belongs t i c)
    (λ x xs h. part_answered x.content c r h) (λ x xs i h. h) s at

pub reads_leave : (s : List Collection) (at : ℕ) (c : Call) (r : Reply) →
    (need_of c r).mode ≡ Mode.Read → AnswersAt s at c r → after_at s at c r ≡ s
reads_leave s at c r m = by_place c r (λ t i. after_at t i c r ≡ t)
    (λ x xs h. ap (λ v. record { name = x.name; content = v } ∷ xs) (part_reads x.content c r m h))
    (λ x xs i e. ap (λ l. x ∷ l) e) s at

pub leaves_ready : (s : List Collection) (at : ℕ) (c : Call) (r : Reply) → AnswersAt s at c r →
    AllByRecursion (λ d. AnswersAt (after_at s at c r) at d Reply.Done) (left_by c r)
leaves_ready s at c r = by_place c r
    (λ t i. AllByRecursion (λ d. AnswersAt (after_at t i c r) i d Reply.Done) (left_by c r))
    (λ x xs h. part_leaves x.content c r h) (λ x xs i h. h) s at

-- What so many runs can reach, more can.
pub rests : (s : List Collection) (n : ℕ) → IsWithin s n → IsWithin s (n + 1)
rests [] n w = tt
rests (x ∷ xs) n w = (part_rests x.content n w.0, rests xs n w.1)

pub wears : (s : List Collection) (n : ℕ) (at : ℕ) (c : Call) (r : Reply) → IsWithin s n →
    AnswersAt s at c r → IsWithin (after_at s at c r) (n + 1)
wears s n at c r w h =
    by_place c r (λ t i. IsWithin t n → IsWithin (after_at t i c r) (n + 1))
    (λ x xs k v. (part_wears x.content n c r v.0 k, rests xs n v.1))
    (λ x xs i k v. (part_rests x.content n v.0, k v.1))
    s at h w

-- The inverse leads back, and nowhere else.
goes_back : (s : List Collection) (at : ℕ) (c : Call) (r : Reply) → Askable c → AnswersAt s at c r →
    ByOnly (λ t. AnswersAt t at) (λ t. after_at t at) (inverse_of c r) (after_at s at c r) s
goes_back s at c r ask =
    by_place c r (λ t i. ByOnly (λ v. AnswersAt v i) (λ v. after_at v i) (inverse_of c r)
    (after_at t i c r) t)
    (λ x xs h. whole_back (λ v. record { name = x.name; content = v } ∷ xs) Answers after
    (inverse_of c r) (after x.content c r) x.content (part_back x.content c r ask h))
    (λ x xs i h. whole_back (λ v. x ∷ v) (λ v. AnswersAt v i) (λ v. after_at v i) (inverse_of c r)
    (after_at xs i c r) xs h)
    s at

pub taken_back : (s t : List Collection) (at : ℕ) (c : Call) (r : Reply) → Askable c →
    does s at c r t → By (λ v. AnswersAt v at) (λ v. after_at v at) (inverse_of c r) t s
taken_back s t at c r ask d = subst
    (λ v. By (λ v. AnswersAt v at) (λ v. after_at v at) (inverse_of c r) v s) (sym d.1)
    (goes_back s at c r ask d.0).0

pub taken_back_only : (s t u : List Collection) (at : ℕ) (c : Call) (r : Reply) → Askable c →
    does s at c r t → By (λ v. AnswersAt v at) (λ v. after_at v at) (inverse_of c r) t u → u ≡ s
taken_back_only s t u at c r ask d b =
    (goes_back s at c r ask d.0).1 u
    (subst (λ v. By (λ v. AnswersAt v at) (λ v. after_at v at) (inverse_of c r) v u) d.1 b)

pub deferred_ready : (s : List Collection) (at : ℕ) (d : Call) → Belongs s at d → Deferrable d →
    AnswersAt s at d Reply.Done
deferred_ready [] at d b l = absurd b
deferred_ready (x ∷ xs) zero d b l = part_deferred x.content d b l
deferred_ready (x ∷ xs) (suc at) d b l = deferred_ready xs at d b l

pub deferred_stays : (s : List Collection) (at bt : ℕ) (c : Call) (r : Reply) (d : Call) →
    Deferrable d → AnswersAt s at c r → AnswersAt s bt d Reply.Done →
    AnswersAt (after_at s at c r) bt d Reply.Done
deferred_stays s at bt c r d l =
    kept_at c r d Reply.Done at bt (λ e x h. part_deferred_stays x c r d l) s

pub stays_past_call : (s : List Collection) (at bt : ℕ) (c : Call) (r : Reply) (d : Call) →
    Askable c → Disposable d → AnswersAt s at c r → AnswersAt s bt d Reply.Done →
    AnswersAt (after_at s at c r) bt d Reply.Done
stays_past_call s at bt c r d ask l =
    kept_at c r d Reply.Done at bt (λ e x. part_past_call x c r d ask l) s

pub stays_past_later : (s : List Collection) (at bt : ℕ) (b d : Call) → Disposable b →
    Disposable d → (at ≡ bt → (b ≡ d → ⊥) ⊎ CallsApart b Reply.Done d Reply.Done) →
    AnswersAt s at b Reply.Done → AnswersAt s bt d Reply.Done →
    AnswersAt (after_at s at b Reply.Done) bt d Reply.Done
stays_past_later s at bt b d m l other =
    kept_at b Reply.Done d Reply.Done at bt (λ e x. part_past_later x b d m l (other e)) s

module _ (s u : List Collection) (at bt : ℕ) (c : Call) (r : Reply) (d : Call) (late : Disposable d)
    (apart : Apart at c r bt d Reply.Done) where
  by_inverse : (o : Option Call) → inverse_of c r ≡ o →
      By (λ t. AnswersAt t at) (λ t. after_at t at) o s u → AnswersAt s bt d Reply.Done →
      AnswersAt u bt d Reply.Done
  by_inverse None e h t = subst (λ v. AnswersAt v bt d Reply.Done) (sym h) t
  by_inverse (Some back) e h t =
      subst (λ v. AnswersAt v bt d Reply.Done) (sym h.1.1)
      (kept_at back h.0 d Reply.Done at bt
      (λ same x. part_past_inverse x c r back h.0 d e late (apart same)) s h.1.0 t)

  pub stays_past_undoing : By (λ t. AnswersAt t at) (λ t. after_at t at) (inverse_of c r) s u →
      AnswersAt s bt d Reply.Done → AnswersAt u bt d Reply.Done
  stays_past_undoing = by_inverse (inverse_of c r) refl
