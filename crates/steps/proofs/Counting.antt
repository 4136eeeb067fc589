-- How many entries so many live transactions have at most.
use Rattle.std.proofs.Common.{◌≡◌, ℕ, suc, ◌+◌, ◌*◌, ◌≤◌, ◌==◌, Bool, true, false, not, cond}
use Rattle.std.proofs.Common.{nat_lt, Less, Equal, Greater, ◌||◌, inl, inr, ⊎_elim, List, [], ◌∷◌}
use Rattle.std.proofs.Common.{map, length, refl, sym, ◌∙◌, ap, subst, arith, eqb-true}
use Rattle.std.specs.List.{AllByRecursion, list_any}
use Rattle.std.specs.Ordering.{is_eq, nat_cmp, eq_by_cmp}
use Rattle.std.specs.FinMap as maps
use Rattle.std.proofs.lemmas.Bool.{cases_eq}
use Rattle.std.proofs.lemmas.List.{length-map, length-append}
use Rattle.calls.specs.declared.call.Call.{Call}
use Rattle.calls.specs.declared.reply.Reply.{Reply}
use Rattle.calls.specs.Rules.{left_by}
use Rattle.calls.specs.Transactions.{Event, Entry, Asked, Deferred, own, others, laters_of}
use Rattle.calls.proofs.KindLaws.{leaves_one}
use Rattle.undo_log.specs.Logs.{Statuses, Lives}
use Rattle.boosted.specs.Runs as runs
use Rattle.boosted.proofs.Each.{weaker, differ, not_true}
use Rattle.steps.specs.Theory.Rules.{Has}
use Rattle.steps.proofs.Theory.Lists.{every, at, filter_has, own_others_same, own_others_other}

abbrev pub number : ℕ × Entry → ℕ
number e = e.0

one_more : (b : Bool) (e : ℕ × Entry) (mine theirs : List (ℕ × Entry)) →
    length (cond b (e ∷ mine) mine) + length (cond (not b) (e ∷ theirs) theirs) ≡
    suc (length mine + length theirs)
one_more true e mine theirs = omega arith
one_more false e mine theirs = omega arith

pub parted : (n : ℕ) (es : List (ℕ × Entry)) →
    length es ≡ length (runs.own number n es) + length (runs.others number n es)
parted n [] = refl
parted n (e ∷ es) = ap suc (parted n es) ∙
    sym (one_more (e.0 == n) e (runs.own number n es) (runs.others number n es))

-- how many a number has, and all others
pub own_and_others : (n : ℕ) (es : List (ℕ × Entry)) →
    length es ≡ length (own n es) + length (others n es)
own_and_others n es = let all = parted n es in
    let mine = length-map (runs.own number n es) (λ e. e.1) in omega arith

-- An entry defers one call at most.
pub few_laters : (es : List Entry) → length (laters_of es) ≤ length es
few_laters [] = omega arith
few_laters (Asked e ∷ es) =
    let later : Call → Event = λ c. record { at = e.at; call = c; reply = Reply.Done } in
    let both = length-append (map later (left_by e.call e.reply)) (laters_of es) in
    let same = length-map (left_by e.call e.reply) later in
    let one = leaves_one e.call e.reply in
    let more = few_laters es in
    omega arith
few_laters (Deferred at c ∷ es) = let more = few_laters es in omega arith

count : (ks : List ℕ) (es : List (ℕ × Entry)) → AllByRecursion (λ e. Has ks e.0) es →
    ((n : ℕ) → length (runs.own number n es) ≤ 1024) → length es ≤ length ks * 1024
count [] [] inside few = omega arith
count [] (e ∷ es) inside few = absurd inside.0
count (k ∷ ks) es inside few =
    let rest = runs.others number k es in
    let rest_inside : AllByRecursion (λ e. Has ks e.0) rest =
    every (λ e. Has ks e.0) rest (λ e h.
    let there = filter_has (λ e. not (e.0 == k)) es e h in
    ⊎_elim (λ (same : k ≡ e.0). absurd (differ e.0 k (not_true (e.0 == k) there.1) (sym same)))
    (λ (i : Has ks e.0). i) (at (λ e. Has (k ∷ ks) e.0) es e inside there.0)) in
    let rest_few : (n : ℕ) → length (runs.own number n rest) ≤ 1024 = λ n.
    ⊎_elim
    (λ (same : n ≡ k). subst (λ j. length (runs.own number j rest) ≤ 1024) (sym same)
    (subst (λ l. length l ≤ 1024) (sym (own_others_same number k es)) (omega arith)))
    (λ (other : n ≡ k → ⊥). subst (λ l. length l ≤ 1024)
    (sym (own_others_other number k n es other)) (few n))
    (cases_eq n k) in
    let fewer = count ks rest rest_inside rest_few in
    let all = parted k es in
    let mine = few k in
    omega arith

same_by : (m n : ℕ) (less same : Bool) → (m == n) ≡ same →
    is_eq (cond less Less (cond same Equal Greater)) ≡ true → m ≡ n
same_by m n true same is h = cc
same_by m n false true is h = eqb-true m n is
same_by m n false false is h = cc

has_by : (m k : ℕ) (ks : List ℕ) (b : Bool) → eq_by_cmp nat_cmp m k ≡ b →
    (list_any (eq_by_cmp nat_cmp m) ks ≡ true → Has ks m) →
    (b || list_any (eq_by_cmp nat_cmp m) ks) ≡ true → Has (k ∷ ks) m
has_by m k ks true is later h = inl (sym (same_by m k (nat_lt m k) (m == k) refl is))
has_by m k ks false is later h = inr (later h)

has_key : (m : ℕ) (ks : List ℕ) → list_any (eq_by_cmp nat_cmp m) ks ≡ true → Has ks m
has_key m [] h = cc
has_key m (k ∷ ks) h = has_by m k ks (eq_by_cmp nat_cmp m k) refl (has_key m ks) h

-- Entries of live transactions, each with at most 1024 of them.
pub few_entries : (live : Statuses) (es : List (ℕ × Entry)) →
    AllByRecursion (λ e. Lives live e.0) es → ((n : ℕ) → length (own n es) ≤ 1024) →
    length es ≤ maps.len live * 1024
few_entries live es alive few =
    subst (λ n. length es ≤ n * 1024)
    (length-map (maps.entries live) (λ p. p.0) ∙ sym (maps.len-entries live))
    (count (maps.keys live) es
    (weaker (λ e. Lives live e.0) (λ e. Has (maps.keys live) e.0)
    (λ e lives. has_key e.0 (maps.keys live) (sym (maps.contains_key-keys live e.0) ∙ lives)) es
    alive)
    (λ n. subst (λ l. l ≤ 1024) (length-map (runs.own number n es) (λ e. e.1)) (few n)))
