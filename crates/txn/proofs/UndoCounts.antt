-- How many calls of live transactions a journal tells of, counted number by number.
use Rattle.std.proofs.Common.{◌≡◌, ℕ, ◌+◌, ◌≤◌, ◌==◌, Bool, true, false, cond, not, leb, List}
use Rattle.std.proofs.Common.{[], ◌∷◌, length, map, refl, ◌∙◌, ap, arith}
use Rattle.std.specs.List.{AllByRecursion, filter}
use Rattle.std.proofs.lemmas.Bool.{le-leb, lt-leb, leb-true, leb-false, eq-eqb}
use Rattle.calls.specs.Reads.{reads}
use Rattle.calls.specs.Transactions.{Entry, Asked, Deferred, own, calls_of}
use Rattle.undo_log.specs.Entries.{stamped_entry}
use Rattle.undo_log.specs.Logs.{Statuses, Lives, IsNextLive}
use Rattle.undo_log.specs.declared.logged.Stamped.{Stamped}
use Rattle.steps.specs.Machine.{journalled_entries}
use Rattle.steps.proofs.Theory.Lists.{not_same}
use Rattle.records.specs.Records.{IsNumber}
use Rattle.txn.specs.Undoings.{is_journalled_call, journalled_calls}

-- how many of the entries are calls that a journal tells of
abbrev pub told : List Entry → ℕ
told xs = length (filter is_journalled_call xs)

abbrev pub entry_told : Entry → ℕ
entry_told x = cond (is_journalled_call x) 1 0

-- the same of the entries of the numbers up to one
abbrev pub told_upto : ℕ → List (ℕ × Entry) → ℕ
told_upto last [] = 0
told_upto last ((n, x) ∷ es) = cond (leb n last) (entry_told x) 0 + told_upto last es

told_cons : (x : Entry) (xs : List Entry) → told (x ∷ xs) ≡ entry_told x + told xs
told_cons x xs = either (is_journalled_call x)
  where
    either : (b : Bool) → length (cond b (x ∷ filter is_journalled_call xs)
        (filter is_journalled_call xs)) ≡ cond b 1 0 + told xs
    either true = omega arith
    either false = omega arith

-- The entries of a number, with one more in front.
own_cons : (m n : ℕ) (x : Entry) (es : List (ℕ × Entry)) (b : Bool) → (n == m) ≡ b →
    told (own m ((n, x) ∷ es)) ≡ cond b (entry_told x) 0 + told (own m es)
own_cons m n x es true is =
    ap (λ c. told (map (λ (e : ℕ × Entry). e.1) (cond c ((n, x) ∷ filter (λ e. e.0 == m) es)
    (filter (λ e. e.0 == m) es)))) is ∙ told_cons x (own m es)
own_cons m n x es false is =
    ap (λ c. told (map (λ (e : ℕ × Entry). e.1) (cond c ((n, x) ∷ filter (λ e. e.0 == m) es)
    (filter (λ e. e.0 == m) es)))) is ∙ omega arith

-- Between a number and the next one that is live nothing was asked for.
told_next : (live : Statuses) (last m : ℕ) → IsNextLive live last m → (es : List (ℕ × Entry)) →
    AllByRecursion (λ e. Lives live e.0) es →
    told_upto m es ≡ told_upto last es + told (own m es)
told_next live last m next [] owned = refl
told_next live last m next ((n, x) ∷ es) owned =
    place (told_next live last m next es owned.1) (leb n last) (leb n m) refl refl
  where
    choose : {b c : Bool} → b ≡ c → cond b (entry_told x) 0 ≡ cond c (entry_told x) 0
    choose same = ap (λ b. cond b (entry_told x) 0) same

    place : told_upto m es ≡ told_upto last es + told (own m es) → (before upto : Bool) →
        leb n last ≡ before → leb n m ≡ upto →
        told_upto m ((n, x) ∷ es) ≡ told_upto last ((n, x) ∷ es) + told (own m ((n, x) ∷ es))
    place rest true true before upto =
        let is = own_cons m n x es false (not_same n m
        (λ same. omega (arith, same, next.above, leb-true n last before))) in
        omega (arith, rest, choose before, choose upto, is)
    place rest true false before upto =
        absurd (omega (arith, next.above, leb-true n last before, leb-false n m upto))
    place rest false true before upto =
        let above = leb-false n last before in
        let is = own_cons m n x es true (eq-eqb n m
        (omega (arith, leb-true n m upto, next.least n owned.0 above))) in
        omega (arith, rest, choose before, choose upto, is)
    place rest false false before upto =
        let is = own_cons m n x es false (not_same n m
        (λ same. omega (arith, same, leb-false n m upto))) in
        omega (arith, rest, choose before, choose upto, is)

-- What is counted of the entries with their stamps.
told_stamped : (ss : List Stamped) →
    length (filter (λ s. is_journalled_call (stamped_entry s)) ss) ≡ told (map stamped_entry ss)
told_stamped [] = refl
told_stamped (s ∷ ss) = either (told_stamped ss) (is_journalled_call (stamped_entry s))
  where
    either : length (filter (λ s. is_journalled_call (stamped_entry s)) ss)
        ≡ told (map stamped_entry ss) → (b : Bool) →
        length (cond b (s ∷ filter (λ s. is_journalled_call (stamped_entry s)) ss)
        (filter (λ s. is_journalled_call (stamped_entry s)) ss))
        ≡ length (cond b (stamped_entry s ∷ filter is_journalled_call (map stamped_entry ss))
        (filter is_journalled_call (map stamped_entry ss)))
    either rest true = omega (arith, rest)
    either rest false = rest

-- Below the first number nothing was asked for,
pub told_first : (live : Statuses) → ((n : ℕ) → Lives live n → IsNumber n) →
    (es : List (ℕ × Entry)) → AllByRecursion (λ e. Lives live e.0) es → 0 ≡ told_upto 0 es
told_first live numbers [] owned = refl
told_first live numbers ((n, x) ∷ es) owned =
    let number = numbers n owned.0 in
    let none = ap (λ b. cond b (entry_told x) 0) (lt-leb n 0 (omega (arith, number.positive))) in
    omega (arith, none, told_first live numbers es owned.1)

-- one number more is counted with its entries,
pub told_more : (live : Statuses) (last m count : ℕ) → IsNextLive live last m →
    (es : List (ℕ × Entry)) → AllByRecursion (λ e. Lives live e.0) es →
    count ≡ told_upto last es → (ss : List Stamped) → map stamped_entry ss ≡ own m es →
    (more : ℕ) → more ≡ length (filter (λ s. is_journalled_call (stamped_entry s)) ss) →
    count + more ≡ told_upto m es
told_more live last m count next es owned is ss of more here =
    omega (arith, told_next live last m next es owned, is, here, told_stamped ss, ap told of)

-- and behind the last number nothing was.
pub told_last : (live : Statuses) (last : ℕ) → ((n : ℕ) → Lives live n → n ≤ last) →
    (es : List (ℕ × Entry)) → AllByRecursion (λ e. Lives live e.0) es →
    told_upto last es ≡ length (journalled_calls es)
told_last live last none [] owned = refl
told_last live last none ((n, Deferred at c) ∷ es) owned = omega (
  arith,
  ap (λ b. cond b (entry_told (Deferred at c)) 0) (le-leb n last (none n owned.0)),
  told_last live last none es owned.1,
)
told_last live last none ((n, Asked e) ∷ es) owned =
    ap (λ b. cond b (entry_told (Asked e)) 0 + told_upto last es)
    (le-leb n last (none n owned.0)) ∙
    either (told_last live last none es owned.1) (not (reads e.call e.reply))
  where
    either : told_upto last es ≡ length (journalled_calls es) → (b : Bool) →
        cond b 1 0 + told_upto last es ≡
        length (calls_of (map (λ (x : ℕ × Entry). x.1)
        (cond b ((n, Asked e) ∷ journalled_entries es) (journalled_entries es))))
    either rest true = omega (arith, rest)
    either rest false = omega (arith, rest)

-- They are no more than the entries.
pub told_few : (last : ℕ) (es : List (ℕ × Entry)) → told_upto last es ≤ length es
told_few last [] = omega arith
told_few last ((n, x) ∷ es) =
    omega (arith, told_few last es, few (leb n last) (is_journalled_call x))
  where
    few : (b c : Bool) → cond b (cond c 1 0) 0 ≤ 1
    few true true = omega arith
    few true false = omega arith
    few false c = omega arith

pub calls_few : (es : List (ℕ × Entry)) → length (journalled_calls es) ≤ length es
calls_few [] = omega arith
calls_few ((n, Deferred at c) ∷ es) = omega (arith, calls_few es)
calls_few ((n, Asked e) ∷ es) =
    omega (arith, either (calls_few es) (not (reads e.call e.reply)))
  where
    either : length (journalled_calls es) ≤ length es → (b : Bool) →
        length (calls_of (map (λ (x : ℕ × Entry). x.1)
        (cond b ((n, Asked e) ∷ journalled_entries es) (journalled_entries es)))) ≤ length es + 1
    either rest true = omega (arith, rest)
    either rest false = omega (arith, rest)
