-- The two laws: a record that is read is spelled so, and what is spelled so is read.
use Rattle.std.proofs.Common.{◌≡◌, ℕ, zero, suc, ◌^◌, ◌<◌, Bool, true, false, ℤ, pos}
use Rattle.std.proofs.Common.{negsuc, List, [], ◌∷◌}
use Rattle.std.proofs.Common.{◌++◌, Option, Some, None, refl, sym, ap, subst}
use Rattle.std.proofs.Common.{◌∙◌, arith, inl, inr}
use Rattle.std.specs.Prelude.{IsTrue, ◌↔◌}
use Rattle.std.specs.Int.{w128, cast_signed}
use Rattle.std.specs.Int.RustNames.{FitsSigned}
use Rattle.std.proofs.lemmas.Int.{to_z-of_z, of_z-to_z, ints}
use Rattle.calls.specs.declared.kind.Kind.{Kind}
use Rattle.calls.specs.declared.item.Item.{Item}
use Rattle.calls.specs.declared.format.Format.{Format}
use Rattle.calls.specs.Names.{IsName}
use Rattle.calls.specs.Contents.{IsItemOf, IsPositive}
use Rattle.records.specs.declared.record.Record.{Record}
use Rattle.records.specs.Records.{number, wide, value, named}
use Rattle.records.specs.Records.{called, deferred, item, spelled}
use Rattle.records.specs.Records.{FitsItem, Fits, IsSound}
use Rattle.records.specs.Records.{Suits, IsRecord, Begins}
use Rattle.records.specs.RecordReading.{number_in, amount_from, amount_in}
use Rattle.records.specs.RecordReading.{positive_from, positive_in, quota_in}
use Rattle.records.specs.RecordReading.{pair_in, entry_in}
use Rattle.records.specs.RecordReading.{named_in}
use Rattle.records.specs.RecordReading.{called_in, deferred_in}
use Rattle.records.specs.RecordReading.{item_in, made_named, numbered_records}
use Rattle.records.specs.RecordReading.{numbered_behind, journal_records, journal_behind}
use Rattle.records.specs.RecordReading.{image_records, record_behind, record_in}
use Rattle.records.proofs.RecordFields.{IsBytes, IsBytes-rest}
use Rattle.records.proofs.RecordFields.{which, bound, some_is, Takes}
use Rattle.records.proofs.RecordFields.{number_takes, number_again}
use Rattle.records.proofs.Readers.{IsTaken, Reads, number_reads, both_reads, made_again}
use Rattle.records.proofs.Readers.{Behind, plain_behind, made_taken, made_behind}
use Rattle.records.proofs.Readers.{read_at_behind, numbered_behind_code}
use Rattle.records.proofs.CallReads.{pair_reads, entry_reads, named_takes, named_again, wide_fits, wide_again, called_again, called_reads, deferred_again, deferred_reads}

-- ---- items

-- an item that fits and is one of the kind
abbrev FitsAsItem : Option Kind → Item → Type 0
FitsAsItem last i = FitsItem i × Suits last (Record.Item i)

number_spelt : (n : ℕ) → n < 256 ^ 16 → item (Item.Number (cast_signed w128 n)) ≡ number 16 n
number_spelt n lt = ap (number 16) (of_z-to_z w128 n lt)

-- a number of a stock: one that is not negative
abbrev FitsAmount : ℤ → Type 0
FitsAmount n = FitsSigned w128 n × IsItemOf Kind.Stock (Item.Number n)

amount_is : (n : ℤ) (rest : List ℕ) (x : ℤ × List ℕ) → amount_from n rest ≡ Some x →
    ((n, rest) ≡ x) × IsItemOf Kind.Stock (Item.Number n)
amount_is (pos n) rest x e = (some_is (pos n, rest) x e, tt)
amount_is (negsuc n) rest x e = absurd cc

amount_takes : (bytes : List ℕ) (x : ℤ × List ℕ) → IsBytes bytes → amount_in bytes ≡ Some x →
    IsTaken wide FitsAmount bytes x
unfolding amount_in
amount_takes bytes x f e =
    let n = bound (number_in 16 bytes) _ x e in
    let t = number_takes 16 bytes n.0 f n.1 in
    let is = amount_is (cast_signed w128 n.0.0) n.0.1 x n.2 in
    let whole : Takes bytes (wide (cast_signed w128 n.0.0)) n.0.1 =
    subst (λ (k : ℕ). Takes bytes (number 16 k) n.0.1) (sym (of_z-to_z w128 n.0.0 t.1)) t.0 in
    subst (IsTaken wide FitsAmount bytes) is.0 (whole, (wide_fits n.0.0 t.1, is.1))

amount_from-again : (n : ℤ) (rest : List ℕ) → IsItemOf Kind.Stock (Item.Number n) →
    amount_from n rest ≡ Some (n, rest)
amount_from-again (pos n) rest h = refl
amount_from-again (negsuc n) rest h = absurd h

amount_again : (n : ℤ) (rest : List ℕ) → FitsAmount n →
    amount_in (wide n ++ rest) ≡ Some (n, rest)
unfolding amount_in
amount_again n rest h =
    rw (wide_again n rest h.0, to_z-of_z w128 n h.0) (amount_from-again n rest h.1)

amount_reads : Reads wide FitsAmount amount_in
amount_reads = record { takes = amount_takes; again = amount_again }

-- an amount of a quota: one that is positive
abbrev FitsPositive : ℤ → Type 0
FitsPositive n = FitsSigned w128 n × IsPositive n

positive_is : (n : ℤ) (rest : List ℕ) (x : ℤ × List ℕ) → positive_from n rest ≡ Some x →
    ((n, rest) ≡ x) × IsPositive n
positive_is (pos (suc n)) rest x e = (some_is (pos (suc n), rest) x e, omega (arith, ints))
positive_is (pos zero) rest x e = absurd cc
positive_is (negsuc n) rest x e = absurd cc

positive_takes : (bytes : List ℕ) (x : ℤ × List ℕ) → IsBytes bytes → positive_in bytes ≡ Some x →
    IsTaken wide FitsPositive bytes x
unfolding positive_in
positive_takes bytes x f e =
    let n = bound (number_in 16 bytes) _ x e in
    let t = number_takes 16 bytes n.0 f n.1 in
    let is = positive_is (cast_signed w128 n.0.0) n.0.1 x n.2 in
    let whole : Takes bytes (wide (cast_signed w128 n.0.0)) n.0.1 =
    subst (λ (k : ℕ). Takes bytes (number 16 k) n.0.1) (sym (of_z-to_z w128 n.0.0 t.1)) t.0 in
    subst (IsTaken wide FitsPositive bytes) is.0 (whole, (wide_fits n.0.0 t.1, is.1))

positive_from-again : (n : ℤ) (rest : List ℕ) → IsPositive n →
    positive_from n rest ≡ Some (n, rest)
positive_from-again (pos (suc n)) rest h = refl
positive_from-again (pos zero) rest h = absurd (omega (arith, ints, h))
positive_from-again (negsuc n) rest h = absurd (omega (arith, ints, h))

positive_again : (n : ℤ) (rest : List ℕ) → FitsPositive n →
    positive_in (wide n ++ rest) ≡ Some (n, rest)
unfolding positive_in
positive_again n rest h =
    rw (wide_again n rest h.0, to_z-of_z w128 n h.0) (positive_from-again n rest h.1)

positive_reads : Reads wide FitsPositive positive_in
positive_reads = record { takes = positive_takes; again = positive_again }

quota_reads : Reads (λ (p : ℕ × ℤ). number 8 p.0 ++ wide p.1)
    (λ (p : ℕ × ℤ). (p.0 < 256 ^ 8) × FitsPositive p.1) quota_in
unfolding quota_in
quota_reads = both_reads (number 8) (λ n. n < 256 ^ 8) (number_in 8) wide FitsPositive positive_in
    (number_reads 8) positive_reads

item_takes : (last : Option Kind) (bytes : List ℕ) (x : Item × List ℕ) → IsBytes bytes →
    item_in last bytes ≡ Some x → IsTaken item (FitsAsItem last) bytes x
unfolding item_in
item_takes None bytes x f e = absurd cc
item_takes (Some Kind.Set) bytes x f e =
    made_taken _ _ _ (number_reads 8) item (FitsAsItem (Some Kind.Set)) [] Item.Element
    (λ n h. refl) (λ n h. (h, tt)) bytes x f e
item_takes (Some Kind.Map) bytes x f e =
    made_taken _ _ _ entry_reads item (FitsAsItem (Some Kind.Map)) [] (λ e. Item.Entry e.0 e.1)
    (λ e h. refl) (λ e h. (h, tt)) bytes x f e
item_takes (Some Kind.Queue) bytes x f e =
    made_taken _ _ _ pair_reads item (FitsAsItem (Some Kind.Queue)) [] (λ p. Item.Pair p.0 p.1)
    (λ p h. refl) (λ p h. (h, tt)) bytes x f e
item_takes (Some Kind.Counter) bytes x f e =
    made_taken _ _ _ (number_reads 16) item (FitsAsItem (Some Kind.Counter)) []
    (λ n. Item.Number (cast_signed w128 n)) number_spelt (λ n h. (wide_fits n h, tt)) bytes x f e
item_takes (Some Kind.Pool) bytes x f e =
    made_taken _ _ _ (number_reads 8) item (FitsAsItem (Some Kind.Pool)) [] Item.Element
    (λ n h. refl) (λ n h. (h, tt)) bytes x f e
item_takes (Some Kind.Stock) bytes x f e =
    made_taken _ _ _ amount_reads item (FitsAsItem (Some Kind.Stock)) [] Item.Number (λ n h. refl)
    (λ n h. h) bytes x f e
item_takes (Some Kind.Quotas) bytes x f e =
    made_taken _ _ _ quota_reads item (FitsAsItem (Some Kind.Quotas)) []
    (λ p. Item.Amount p.0 p.1) (λ p h. refl)
    (λ p h. ((h.0, h.1.0), h.1.1)) bytes x f e

item_again : (last : Option Kind) (i : Item) (rest : List ℕ) → FitsAsItem last i →
    item_in last (item i ++ rest) ≡ Some (i, rest)
unfolding item_in
item_again (Some Kind.Set) (Item.Element x) rest h = rw (number_again 8 x rest h.0) refl
item_again (Some Kind.Map) (Item.Entry k v) rest h =
    made_again (λ e. Item.Entry e.0 e.1) entry_in ((number 8 k ++ value v) ++ rest) (k, v) rest
    (entry_reads.again (k, v) rest h.0)
item_again (Some Kind.Queue) (Item.Pair p g) rest h =
    made_again (λ p. Item.Pair p.0 p.1) pair_in ((number 8 p ++ number 8 g) ++ rest) (p, g) rest
    (pair_reads.again (p, g) rest h.0)
item_again (Some Kind.Counter) (Item.Number n) rest h =
    rw (wide_again n rest h.0, to_z-of_z w128 n h.0) refl
item_again (Some Kind.Pool) (Item.Element x) rest h = rw (number_again 8 x rest h.0) refl
item_again (Some Kind.Stock) (Item.Number n) rest h =
    made_again Item.Number amount_in (wide n ++ rest) n rest (amount_again n rest h)
item_again (Some Kind.Quotas) (Item.Amount k n) rest h =
    made_again (λ p. Item.Amount p.0 p.1) quota_in ((number 8 k ++ wide n) ++ rest) (k, n) rest
    (quota_reads.again (k, n) rest (h.0.0, (h.0.1, h.1)))
item_again last i rest h = absurd h.1

item_reads : (last : Option Kind) → Reads item (FitsAsItem last) (item_in last)
item_reads last = record { takes = item_takes last; again = item_again last }

-- ---- the records

-- a record that fits and may stand where the kind was named last
abbrev pub FitsAt : Option Kind → Record → Type 0
FitsAt last r = Fits r × Suits last r

named_behind : (last : Option Kind) (code : ℕ) (make : Kind → List ℕ → Record) →
    ((kind : Kind) (name : List ℕ) → spelled (make kind name) ≡ code ∷ named kind name)
    → ((kind : Kind) (name : List ℕ) → IsName name → FitsAt last (make kind name)) →
    Behind spelled (FitsAt last) code (made_named make)
named_behind last code make is good bytes x f e =
    elim (which (named_in bytes)) [
      | inl h ↦ let e1 = simp h at e in absurd cc
      | inr (m, h) ↦
          let e1 = simp h at e in
          let t = named_takes bytes m f h in
          let found : Record × List ℕ = (make m.0 m.1, m.2) in
          let front = ap (λ (b : List ℕ). code ∷ b) t.0.parts in
          let whole : Takes (code ∷ bytes) (spelled (make m.0 m.1)) m.2 =
          rw (is m.0 m.1) (record { parts = front; rest_fits = t.0.rest_fits }) in
          subst (IsTaken spelled (FitsAt last) (code ∷ bytes)) (some_is found x e1)
          (whole, good m.0 m.1 t.1)
    ]

numbered_takes : (last : Option Kind) (tag : ℕ) →
    Behind spelled (FitsAt last) tag (numbered_behind tag)
unfolding numbered_behind
numbered_takes last tag =
    numbered_behind_code spelled (FitsAt last) numbered_records (
      (λ n h. (refl, (h, tt))),
      (
        (λ n h. (refl, (h, tt))),
        ((λ n h. (refl, (h, tt))), ((λ n h. (refl, (h, tt))), tt)),
      ),
    ) tag

journal_takes : (last : Option Kind) (tag : ℕ) →
    Behind spelled (FitsAt last) tag (journal_behind tag)
unfolding journal_behind
journal_takes last tag =
    read_at_behind spelled (FitsAt last) journal_records numbered_behind (
      named_behind last 1 Record.Make (λ kind name. refl) (λ kind name h. (h, tt)),
      (
        made_behind _ _ _ called_reads spelled (FitsAt last) 2 Record.Call (λ c h. refl)
            (λ c h. (h, tt)),
        (
          made_behind _ _ _ deferred_reads spelled (FitsAt last) 3 Record.Later (λ l h. refl)
              (λ l h. (h, tt)),
          tt,
        ),
      ),
    ) (numbered_takes last) tag

record_takes : (last : Option Kind) (tag : ℕ) →
    Behind spelled (FitsAt last) tag (record_behind last tag)
unfolding record_behind
record_takes last tag =
    read_at_behind spelled (FitsAt last) (image_records last) journal_behind (
      named_behind last 7 Record.Name (λ kind name. refl) (λ kind name h. (h, tt)),
      (
        made_behind _ _ _ (item_reads last) spelled (FitsAt last) 8 Record.Item (λ i h. refl)
            (λ i h. h),
        (
          made_behind _ _ _ called_reads spelled (FitsAt last) 9 Record.LiveCall (λ c h. refl)
              (λ c h. (h, tt)),
          (
            made_behind _ _ _ deferred_reads spelled (FitsAt last) 10 Record.LiveLater (λ l h. refl)
                (λ l h. (h, tt)),
            (
              made_behind _ _ _ pair_reads spelled (FitsAt last) 11
                  (λ p. Record.Marks Format.One p.0 p.1)
                  (λ p h. refl) (λ p h. (h, tt)),
              (
                plain_behind spelled (FitsAt last) 12 Record.ImageEnd refl (tt, tt),
                (
                  made_behind _ _ _ pair_reads spelled (FitsAt last) 14
                      (λ p. Record.Marks Format.Two p.0 p.1) (λ p h. refl) (λ p h. (h, tt)),
                  tt,
                ),
              ),
            ),
          ),
        ),
      ),
    ) (journal_takes last) tag

record_in_takes : (last : Option Kind) (bytes : List ℕ) (x : Record × List ℕ) → IsBytes bytes →
    record_in last bytes ≡ Some x → IsTaken spelled (FitsAt last) bytes x
unfolding record_in
record_in_takes last [] x f e = absurd cc
record_in_takes last (tag ∷ bytes) x f e =
    record_takes last tag bytes x (IsBytes-rest tag bytes f) e

make_again : (make : Kind → List ℕ → Record) (kind : Kind) (name rest : List ℕ) → IsName name →
    made_named make (named kind name ++ rest) ≡ Some (make kind name, rest)
make_again make kind name rest fits = rw (named_again kind name rest fits) refl

record_again : (last : Option Kind) (r : Record) (rest : List ℕ) → FitsAt last r →
    record_in last (spelled r ++ rest) ≡ Some (r, rest)
unfolding record_in record_behind journal_behind numbered_behind
record_again last (Record.Make kind name) rest h = make_again Record.Make kind name rest h.0
record_again last (Record.Call c) rest h =
    made_again Record.Call called_in (called c ++ rest) c rest (called_again c rest h.0)
record_again last (Record.Later l) rest h =
    made_again Record.Later deferred_in (deferred l ++ rest) l rest (deferred_again l rest h.0)
record_again last (Record.Commit n) rest h = rw (number_again 8 n rest h.0) refl
record_again last (Record.Back n) rest h = rw (number_again 8 n rest h.0) refl
record_again last (Record.Ended n) rest h = rw (number_again 8 n rest h.0) refl
record_again last (Record.Name kind name) rest h = make_again Record.Name kind name rest h.0
record_again last (Record.Item i) rest h =
    made_again Record.Item (item_in last) (item i ++ rest) i rest (item_again last i rest h)
record_again last (Record.LiveCall c) rest h =
    made_again Record.LiveCall called_in (called c ++ rest) c rest (called_again c rest h.0)
record_again last (Record.LiveLater l) rest h =
    made_again Record.LiveLater deferred_in (deferred l ++ rest) l rest (deferred_again l rest h.0)
record_again last (Record.Marks Format.One next wear) rest h =
    made_again (λ p. Record.Marks Format.One p.0 p.1) pair_in
    ((number 8 next ++ number 8 wear) ++ rest)
    (next, wear) rest (pair_reads.again (next, wear) rest h.0)
record_again last (Record.Marks Format.Two next wear) rest h =
    made_again (λ p. Record.Marks Format.Two p.0 p.1) pair_in
    ((number 8 next ++ number 8 wear) ++ rest) (next, wear) rest
    (pair_reads.again (next, wear) rest h.0)
record_again last Record.ImageEnd rest h = refl
record_again last (Record.Begin n) rest h = rw (number_again 8 n rest h.0) refl

-- ---- one spelling

-- Bytes begin with one record at most that fits and may stand there, whatever it says.
pub one_fitting : (last : Option Kind) (r s : Record) (x y : List ℕ) → FitsAt last r →
    FitsAt last s → spelled r ++ x ≡ spelled s ++ y → (r ≡ s) × (x ≡ y)
one_fitting last r s x y good_r good_s e =
    let a = record_again last r x good_r in
    let b = record_again last s y good_s in
    let same = some_is (r, x) (s, y) (sym a ∙ ap (record_in last) e ∙ b) in
    (ap (λ (p : Record × List ℕ). p.0) same, ap (λ (p : Record × List ℕ). p.1) same)

pub one_spelling_of : (last : Option Kind) (r s : Record) (x y : List ℕ) → IsRecord last r →
    IsRecord last s → spelled r ++ x ≡ spelled s ++ y → (r ≡ s) × (x ≡ y)
one_spelling_of last r s x y good_r good_s e =
    one_fitting last r s x y (good_r.fits, good_r.suits) (good_s.fits, good_s.suits) e

-- ---- what decoding answers

pub Fits-read : (last : Option Kind) (bytes : List ℕ) (r : Record) (rest : List ℕ) → IsBytes bytes →
    record_in last bytes ≡ Some (r, rest) → Fits r
Fits-read last bytes r rest f e = (record_in_takes last bytes (r, rest) f e).1.0

pub is_found : (last : Option Kind) (bytes : List ℕ) (r : Record) (rest : List ℕ) → IsBytes bytes →
    record_in last bytes ≡ Some (r, rest) → IsSound r → Begins last bytes r rest
is_found last bytes r rest f e sound =
    let t = record_in_takes last bytes (r, rest) f e in
    record { parts = t.0.parts; is = record { fits = t.1.0; suits = t.1.1; sound = sound } }

-- what begins the bytes is what is read
begins_read : (last : Option Kind) (bytes : List ℕ) (s : Record) (after : List ℕ) →
    Begins last bytes s after → record_in last bytes ≡ Some (s, after)
begins_read last bytes s after found =
    ap (record_in last) found.parts ∙ record_again last s after (found.is.fits, found.is.suits)

-- what begins the bytes is the record that is read
pub is_only : (last : Option Kind) (bytes : List ℕ) (r : Record) (rest : List ℕ) →
    record_in last bytes ≡ Some (r, rest) → (s : Record) (after : List ℕ) →
    Begins last bytes s after → (r ≡ s) × (rest ≡ after)
is_only last bytes r rest e s after found =
    let same = some_is (r, rest) (s, after) (sym e ∙ begins_read last bytes s after found) in
    (ap (λ (p : Record × List ℕ). p.0) same, ap (λ (p : Record × List ℕ). p.1) same)

-- what begins the bytes and is no sound record
pub is_unsound : (last : Option Kind) (bytes : List ℕ) (r : Record) (rest : List ℕ) →
    record_in last bytes ≡ Some (r, rest) → (IsSound r → ⊥) → (s : Record) (after : List ℕ) →
    Begins last bytes s after → ⊥
is_unsound last bytes r rest e unsound s after found =
    unsound (subst IsSound (sym (is_only last bytes r rest e s after found).0) found.is.sound)

-- bytes that begin with nothing
pub is_nothing : (last : Option Kind) (bytes : List ℕ) → record_in last bytes ≡ None →
    (s : Record) (after : List ℕ) → Begins last bytes s after → ⊥
is_nothing last bytes e s after found =
    let same = sym e ∙ begins_read last bytes s after found in
    absurd cc

pub refuted : {P : Type 0} (b : Bool) → (IsTrue b ↔ P) → b ≡ false → P → ⊥
refuted true both e p = absurd cc
refuted false both e p = let t = both.1 p in absurd cc
