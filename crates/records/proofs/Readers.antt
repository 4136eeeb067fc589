-- Readers that take what a spelling puts, and what is made of them.
use Rattle.std.proofs.Common.{◌≡◌, ℕ, ◌^◌, ◌<◌, eqb, List, [], ◌∷◌, ◌++◌, Option, Some, refl, sym}
use Rattle.std.proofs.Common.{ap, subst, ◌∙◌, append_assoc, inl, inr}
use Rattle.std.specs.List.{AllByRecursion}
use Rattle.std.proofs.lemmas.Bool.{eqb-true}
use Rattle.records.specs.Records.{number}
use Rattle.records.specs.RecordReading.{Reader, plain, made, both, entry_at, read_at}
use Rattle.records.specs.RecordReading.{number_in, numbered}
use Rattle.records.proofs.RecordFields.{IsBytes, bound, went, some_is, Takes, Takes-then}
use Rattle.records.proofs.RecordFields.{number_takes, number_again}

-- what is known of what was read
abbrev pub IsTaken : {X : Type 0} → (X → List ℕ) → (X → Type 0) → List ℕ → X × List ℕ → Type 0
IsTaken spell fits bytes y = Takes bytes (spell y.0) y.1 × fits y.0

-- what a reader gives begins the bytes, and what begins the bytes is given
pub record Reads {X : Type 0} (spell : X → List ℕ) (fits : X → Type 0)
    (read : List ℕ → Option (X × List ℕ)) : Type 0 where
  pub takes : (bytes : List ℕ) (x : X × List ℕ) → IsBytes bytes → read bytes ≡ Some x →
      IsTaken spell fits bytes x
  pub again : (x : X) (rest : List ℕ) → fits x → read (spell x ++ rest) ≡ Some (x, rest)

pub number_reads : (len : ℕ) → Reads (number len) (λ n. n < 256 ^ len) (number_in len)
number_reads len = record {
  takes = number_takes len;
  again = λ n rest lt. number_again len n rest lt;
}

both_takes : {X Y : Type 0} (sx : X → List ℕ) (fx : X → Type 0) (rx : Reader X) (sy : Y → List ℕ)
    (fy : Y → Type 0) (ry : Reader Y) → Reads sx fx rx → Reads sy fy ry
    → (bytes : List ℕ) (p : (X × Y) × List ℕ) → IsBytes bytes → both rx ry bytes ≡ Some p →
    IsTaken (λ (z : X × Y). sx z.0 ++ sy z.1) (λ (z : X × Y). fx z.0 × fy z.1) bytes p
both_takes {X} {Y} sx fx rx sy fy ry reads_x reads_y bytes p f e =
    let x = bound (rx bytes) _ p e in
    let first = reads_x.takes bytes x.0 f x.1 in
    let y = bound (ry x.0.1) _ p x.2 in
    let second = reads_y.takes x.0.1 y.0 first.0.rest_fits y.1 in
    let found : (X × Y) × List ℕ = ((x.0.0, y.0.0), y.0.1) in
    subst (IsTaken (λ (z : X × Y). sx z.0 ++ sy z.1) (λ (z : X × Y). fx z.0 × fy z.1) bytes)
    (some_is found p y.2) (Takes-then _ _ _ _ _ first.0 second.0, (first.1, second.1))

both_again : {X Y : Type 0} (sx : X → List ℕ) (fx : X → Type 0) (rx : Reader X) (sy : Y → List ℕ)
    (fy : Y → Type 0) (ry : Reader Y) → Reads sx fx rx → Reads sy fy ry
    → (z : X × Y) (rest : List ℕ) → fx z.0 × fy z.1 →
    both rx ry ((sx z.0 ++ sy z.1) ++ rest) ≡ Some (z, rest)
both_again sx fx rx sy fy ry reads_x reads_y z rest h =
    rw (
      append_assoc (sx z.0) (sy z.1) rest,
      reads_x.again z.0 (sy z.1 ++ rest) h.0,
      reads_y.again z.1 rest h.1,
    ) refl

pub both_reads : {X Y : Type 0} (sx : X → List ℕ) (fx : X → Type 0) (rx : Reader X)
    (sy : Y → List ℕ) (fy : Y → Type 0) (ry : Reader Y) → Reads sx fx rx → Reads sy fy ry
    → Reads (λ (z : X × Y). sx z.0 ++ sy z.1) (λ (z : X × Y). fx z.0 × fy z.1) (both rx ry)
both_reads sx fx rx sy fy ry reads_x reads_y =
    record {
      takes = both_takes sx fx rx sy fy ry reads_x reads_y;
      again = both_again sx fx rx sy fy ry reads_x reads_y;
    }

pub made_again : {X Y : Type 0} (make : X → Y) (read : Reader X) (bytes : List ℕ) (x : X)
    (rest : List ℕ) → read bytes ≡ Some (x, rest) → made make read bytes ≡ Some (make x, rest)
made_again make read bytes x rest e = rw e refl

-- ---- what a code leads to

-- what stands behind a code
abbrev pub Behind : {X : Type 0} → (X → List ℕ) → (X → Type 0) → ℕ → Reader X → Type 0
Behind {X} spell fits code read =
    (bytes : List ℕ) (x : X × List ℕ) → IsBytes bytes → read bytes ≡ Some x →
    IsTaken spell fits (code ∷ bytes) x

Takes-behind : (front bytes text rest : List ℕ) → Takes bytes text rest →
    Takes (front ++ bytes) (front ++ text) rest
Takes-behind front bytes text rest t =
    record {
      parts = ap (λ (b : List ℕ). front ++ b) t.parts ∙ sym (append_assoc front text rest);
      rest_fits = t.rest_fits;
    }

pub plain_behind : {X : Type 0} (spell : X → List ℕ) (fits : X → Type 0) (code : ℕ) (x : X) →
    spell x ≡ code ∷ [] → fits x → Behind spell fits code (plain x)
plain_behind {X} spell fits code x is h bytes y f e =
    let found : X × List ℕ = (x, bytes) in
    let whole : Takes (code ∷ bytes) (spell x) bytes =
    rw is (record { parts = refl; rest_fits = f }) in
    subst (IsTaken spell fits (code ∷ bytes)) (some_is found y e) (whole, h)

-- What is made of what is read, where front stands before it.
pub made_taken : {X Y : Type 0} (sx : X → List ℕ) (fx : X → Type 0) (rx : Reader X) →
    Reads sx fx rx → (spell : Y → List ℕ) (fits : Y → Type 0) (front : List ℕ) (make : X → Y)
    → ((x : X) → fx x → spell (make x) ≡ front ++ sx x) → ((x : X) → fx x → fits (make x)) →
    (bytes : List ℕ) (y : Y × List ℕ) → IsBytes bytes → made make rx bytes ≡ Some y →
    IsTaken spell fits (front ++ bytes) y
made_taken {X} {Y} sx fx rx reads spell fits front make is good bytes y f e =
    let x = bound (rx bytes) _ y e in
    let t = reads.takes bytes x.0 f x.1 in
    let found : Y × List ℕ = (make x.0.0, x.0.1) in
    let whole : Takes (front ++ bytes) (spell (make x.0.0)) x.0.1 =
    rw (is x.0.0 t.1) (Takes-behind front bytes (sx x.0.0) x.0.1 t.0) in
    subst (IsTaken spell fits (front ++ bytes)) (some_is found y x.2) (whole, good x.0.0 t.1)

pub made_behind : {X Y : Type 0} (sx : X → List ℕ) (fx : X → Type 0) (rx : Reader X) →
    Reads sx fx rx → (spell : Y → List ℕ) (fits : Y → Type 0) (code : ℕ) (make : X → Y)
    → ((x : X) → fx x → spell (make x) ≡ code ∷ sx x) → ((x : X) → fx x → fits (make x)) →
    Behind spell fits code (made make rx)
made_behind sx fx rx reads spell fits code make is good =
    made_taken sx fx rx reads spell fits (code ∷ []) make is good

-- What a table leads to stands behind its code, where each of its readers does.
pub read_at_behind : {X : Type 0} (spell : X → List ℕ) (fits : X → Type 0)
    (table : List (ℕ × Reader X)) (other : ℕ → Reader X)
    → AllByRecursion (λ (e : ℕ × Reader X). Behind spell fits e.0 e.1) table →
    ((code : ℕ) → Behind spell fits code (other code)) → (code : ℕ) →
    Behind spell fits code (read_at table other code)
read_at_behind spell fits [] other good rest code bytes x f e = rest code bytes x f e
read_at_behind spell fits (entry ∷ table) other good rest code bytes x f e =
    elim (went (eqb code entry.0)) [
      | inl is ↦
          let e1 = simp is at e in
          subst (λ (k : ℕ). IsTaken spell fits (k ∷ bytes) x) (sym (eqb-true code entry.0 is))
          (good.0 bytes x f e1)
      | inr other_code ↦ let e1 = simp other_code at e in
          read_at_behind spell fits table other good.1 rest code bytes x f e1
    ]

-- What a table makes of a number is spelled by its code and the number.
abbrev pub IsNumbered : {X : Type 0} → (X → List ℕ) → (X → Type 0) → ℕ → (ℕ → X) → Type 0
IsNumbered spell fits code make =
    (n : ℕ) → n < 256 ^ 8 → (spell (make n) ≡ code ∷ number 8 n) × fits (make n)

entry_numbered : {X : Type 0} (spell : X → List ℕ) (fits : X → Type 0)
    (table : List (ℕ × (ℕ → X))) → AllByRecursion
    (λ (e : ℕ × (ℕ → X)). IsNumbered spell fits e.0 e.1) table
    → (code : ℕ) (make : ℕ → X) → entry_at table code ≡ Some make → IsNumbered spell fits code make
entry_numbered spell fits [] good code make e = absurd cc
entry_numbered {X} spell fits (entry ∷ table) good code make e =
    elim (went (eqb code entry.0)) [
      | inl is ↦
          let e1 = simp is at e in
          let same : entry.1 ≡ make = cc in
          subst (λ (m : ℕ → X). IsNumbered spell fits code m) same
          (subst (λ (k : ℕ). IsNumbered spell fits k entry.1) (sym (eqb-true code entry.0 is))
          good.0)
      | inr other_code ↦ let e1 = simp other_code at e in
          entry_numbered spell fits table good.1 code make e1
    ]

pub numbered_behind_code : {X : Type 0} (spell : X → List ℕ) (fits : X → Type 0)
    (table : List (ℕ × (ℕ → X))) → AllByRecursion
    (λ (e : ℕ × (ℕ → X)). IsNumbered spell fits e.0 e.1) table
    → (code : ℕ) → Behind spell fits code (numbered table code)
numbered_behind_code {X} spell fits table good code bytes y f e =
    let n = bound (number_in 8 bytes) _ y e in
    let t = number_takes 8 bytes n.0 f n.1 in
    let m = bound (entry_at table code) _ y n.2 in
    let is = entry_numbered spell fits table good code m.0 m.1 n.0.0 t.1 in
    let found : X × List ℕ = (m.0 n.0.0, n.0.1) in
    let whole : Takes (code ∷ bytes) (spell (m.0 n.0.0)) n.0.1 =
    rw (is.0) (Takes-behind (code ∷ []) bytes (number 8 n.0.0) n.0.1 t.0) in
    subst (IsTaken spell fits (code ∷ bytes)) (some_is found y m.2) (whole, is.1)
