-- What the making of a collection keeps, and what calls keep of the names.
use Rattle.std.proofs.Common.{◌≡◌, ℕ, zero, suc, List, [], ◌∷◌, ◌++◌, refl, sym, ◌∙◌, ap, subst}
use Rattle.calls.specs.declared.kind.Kind.{Kind}
use Rattle.calls.specs.declared.call.Call.{Call}
use Rattle.calls.specs.declared.reply.Reply.{Reply}
use Rattle.calls.specs.Rules.{Deferrable}
use Rattle.calls.specs.Contents.{empty, Collection, AnswersAt, after_at, does}
use Rattle.calls.specs.Transactions.{Makes}
use Rattle.catalog.specs.Making.{names_of, IsFree}
use Rattle.catalog.specs.Places.{Belongs, Reaches, IsWithin}
use Rattle.catalog.specs.Laws.OneContent.{empty_within}
use Rattle.catalog.specs.Laws.ByPlace.{by_place}

pub names_kept : (s : List Collection) (at : ℕ) (c : Call) (r : Reply) → AnswersAt s at c r →
    names_of (after_at s at c r) ≡ names_of s
names_kept s at c r = by_place c r (λ t i. names_of (after_at t i c r) ≡ names_of t)
    (λ x xs h. refl) (λ x xs i e. ap (λ l. x.name ∷ l) e) s at

-- One collection more at the end leaves the calls before it as they were.
module _ (k : Collection) where
  pub answers_more : (s : List Collection) (at : ℕ) (c : Call) (r : Reply) → AnswersAt s at c r →
      AnswersAt (s ++ k ∷ []) at c r
  answers_more s at c r = by_place c r (λ t i. AnswersAt (t ++ k ∷ []) i c r) (λ x xs h. h)
      (λ x xs i h. h) s at

  pub after_more : (s : List Collection) (at : ℕ) (c : Call) (r : Reply) → AnswersAt s at c r →
      after_at (s ++ k ∷ []) at c r ≡ after_at s at c r ++ k ∷ []
  after_more s at c r = by_place c r
      (λ t i. after_at (t ++ k ∷ []) i c r ≡ after_at t i c r ++ k ∷ []) (λ x xs h. refl)
      (λ x xs i e. ap (λ l. x ∷ l) e) s at

  pub belongs_more : (s : List Collection) (at : ℕ) (c : Call) → Belongs s at c →
      Belongs (s ++ k ∷ []) at c
  belongs_more [] at c b = absurd b
  belongs_more (x ∷ xs) zero c b = b
  belongs_more (x ∷ xs) (suc at) c b = belongs_more xs at c b

  pub within_more : (s : List Collection) (n : ℕ) → Reaches k.content n → IsWithin s n →
      IsWithin (s ++ k ∷ []) n
  within_more [] n e w = (e, tt)
  within_more (x ∷ xs) n e w = (w.0, within_more xs n e w.1)

pub names_more : (s : List Collection) (k : Collection) →
    names_of (s ++ k ∷ []) ≡ names_of s ++ k.name ∷ []
names_more [] k = refl
names_more (x ∷ xs) k = ap (λ l. x.name ∷ l) (names_more xs k)

-- A making and a call change places.
pub makes_after : (s t u : List Collection) (name : List ℕ) (kind : Kind) (at : ℕ) (c : Call)
    (r : Reply) → Makes s name kind u → does s at c r t →
    (v : List Collection) × Makes t name kind v × does u at c r v
makes_after s t u name kind at c r m d =
    let k : Collection = record { name = name; content = empty kind } in
    let names : names_of t ≡ names_of s = ap names_of d.1 ∙ names_kept s at c r d.0 in (
      t ++ k ∷ [],
      record { free = subst (λ l. IsFree l name) (sym names) m.free; is = refl },
      (
        subst (λ l. AnswersAt l at c r) (sym m.is) (answers_more k s at c r d.0),
        ap (λ l. l ++ k ∷ []) d.1 ∙ sym (after_more k s at c r d.0) ∙
            ap (λ l. after_at l at c r) (sym m.is),
      ),
    )

pub makes_before : (s t u : List Collection) (name : List ℕ) (kind : Kind) (at : ℕ) (c : Call)
    (r : Reply) → does s at c r t → Makes t name kind u →
    (v : List Collection) × Makes s name kind v × does v at c r u
makes_before s t u name kind at c r d m =
    let k : Collection = record { name = name; content = empty kind } in
    let names : names_of t ≡ names_of s = ap names_of d.1 ∙ names_kept s at c r d.0 in (
      s ++ k ∷ [],
      record { free = subst (λ l. IsFree l name) names m.free; is = refl },
      (
        answers_more k s at c r d.0,
        m.is ∙ ap (λ l. l ++ k ∷ []) d.1 ∙
            sym (after_more k s at c r d.0),
      ),
    )

pub makes_one : (s t u : List Collection) (name : List ℕ) (kind : Kind) → Makes s name kind t →
    Makes s name kind u → t ≡ u
makes_one s t u name kind m n = m.is ∙ sym n.is

pub makes_named : (s t : List Collection) (name : List ℕ) (kind : Kind) → Makes s name kind t →
    IsFree (names_of s) name × (names_of t ≡ names_of s ++ name ∷ [])
makes_named s t name kind m = (
  m.free,
  ap names_of m.is ∙ names_more s (record { name = name; content = empty kind }),
)

pub makes_keep_belonging : (s t : List Collection) (name : List ℕ) (kind : Kind) (at : ℕ)
    (c : Call) → Makes s name kind t → Belongs s at c → Belongs t at c
makes_keep_belonging s t name kind at c m b =
    subst (λ l. Belongs l at c) (sym m.is)
    (belongs_more (record { name = name; content = empty kind }) s at c b)

pub makes_keep_deferred : (s t : List Collection) (name : List ℕ) (kind : Kind) (at : ℕ)
    (d : Call) → Makes s name kind t → Deferrable d → AnswersAt s at d Reply.Done →
    AnswersAt t at d Reply.Done
makes_keep_deferred s t name kind at d m l h =
    subst (λ l. AnswersAt l at d Reply.Done) (sym m.is)
    (answers_more (record { name = name; content = empty kind }) s at d Reply.Done h)

pub makes_keep_within : (s t : List Collection) (name : List ℕ) (kind : Kind) (n : ℕ) →
    Makes s name kind t → IsWithin s n → IsWithin t n
makes_keep_within s t name kind n m w =
    subst (λ l. IsWithin l n) (sym m.is)
    (within_more (record { name = name; content = empty kind }) s n (empty_within kind n) w)
