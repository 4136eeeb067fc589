-- Entries with their numbers, as the theory has them.
use Rattle.std.proofs.Common.{◌≡◌, ℕ, ◌==◌, Bool, true, false, not, cond, List, [], ◌∷◌, ◌++◌, map}
use Rattle.std.proofs.Common.{refl, ◌∙◌, ap}
use Rattle.std.specs.List.{filter}
use Rattle.std.proofs.lemmas.List.{map-append}
use Rattle.calls.specs.declared.call.Call.{Call}
use Rattle.calls.specs.declared.reply.Reply.{Reply}
use Rattle.calls.specs.Rules.{left_by}
use Rattle.calls.specs.Transactions as transactions
use Rattle.calls.specs.Transactions.{Leads, Event, Entry, Asked, Deferred, calls_of, laters_of, own}
use Rattle.undo_log.specs.Entries as log
use Rattle.boosted.specs.Runs as runs
use Rattle.boosted.proofs.Each.{differ}
use Rattle.steps.specs.Theory.Journal as journal
use Rattle.steps.specs.Theory.Machine as theory
use Rattle.steps.specs.Theory.Collections.{later_of}
use Rattle.steps.specs.Sound.{owned, all_owned}

abbrev pub owner : ℕ × Event → ℕ
owner e = e.0

-- Runs of events with their owners are runs of the events.
module _ {S X Y : Type 0} (f : X → Y) (does : S → Y → S → Type 0) where
  pub leads_map : (xs : List X) (s t : S) → Leads (λ s x t. does s (f x) t) xs s t →
      Leads does (map f xs) s t
  leads_map [] s t w = w
  leads_map (x ∷ xs) s t w = (w.0, w.1, leads_map xs w.0 t w.2)

  pub leads_back : (xs : List X) (s t : S) → Leads does (map f xs) s t →
      Leads (λ s x t. does s (f x) t) xs s t
  leads_back [] s t w = w
  leads_back (x ∷ xs) s t w = (w.0, w.1, leads_back xs w.0 t w.2)

-- what calls leave, with its owner
abbrev pub left : ℕ × Event → List (ℕ × Event)
left e = map (later_of e) (left_by e.1.call e.1.reply)

pub calls_are : (es : List (ℕ × Entry)) →
    map (λ e. e.1) (journal.calls (all_owned es)) ≡ calls_of (map (λ e. e.1) es)
calls_are [] = refl
calls_are ((n, Asked e) ∷ es) = ap (λ l. e ∷ l) (calls_are es)
calls_are ((n, Deferred at c) ∷ es) = calls_are es

left_are : (e : ℕ × Event) (cs : List Call) →
    map (λ e. e.1) (map (later_of e) cs) ≡
    map (λ (c : Call). let d : Event = record { at = e.1.at; call = c; reply = Reply.Done } in d) cs
left_are e [] = refl
left_are e (c ∷ cs) = ap (λ l. record { at = e.1.at; call = c; reply = Reply.Done } ∷ l)
    (left_are e cs)

pub laters_are : (es : List (ℕ × Entry)) →
    map (λ e. e.1) (journal.laters left (all_owned es)) ≡ laters_of (map (λ e. e.1) es)
laters_are [] = refl
laters_are ((n, Asked e) ∷ es) =
    map-append (λ e. e.1) (left (n, e)) (journal.laters left (all_owned es))
    ∙ ap (λ l. l ++ map (λ e. e.1) (journal.laters left (all_owned es)))
    (left_are (n, e) (left_by e.call e.reply))
    ∙ ap (λ l. map (λ (c : Call). let d : Event =
    record { at = e.at; call = c; reply = Reply.Done } in d) (left_by e.call e.reply) ++ l)
    (laters_are es)
laters_are ((n, Deferred at c) ∷ es) =
    ap (λ l. record { at = at; call = c; reply = Reply.Done } ∷ l) (laters_are es)

-- a test of the number, before and after
module _ (test : ℕ → Bool) where
  kept_owned : (b : Bool) (e : ℕ × Entry) (us : List (ℕ × Entry)) →
      cond b (owned e.0 e.1 ∷ all_owned us) (all_owned us) ≡ all_owned (cond b (e ∷ us) us)
  kept_owned true e us = refl
  kept_owned false e us = refl

  filter_owned : (es : List (ℕ × Entry)) →
      filter (λ e. test (journal.asker owner e)) (all_owned es) ≡
      all_owned (filter (λ e. test e.0) es)
  filter_owned [] = refl
  filter_owned ((n, Asked e) ∷ es) =
      ap (λ l. cond (test n) (owned n (Asked e) ∷ l) l) (filter_owned es) ∙
      kept_owned (test n) (n, Asked e) (filter (λ e. test e.0) es)
  filter_owned ((n, Deferred at c) ∷ es) =
      ap (λ l. cond (test n) (owned n (Deferred at c) ∷ l) l) (filter_owned es) ∙
      kept_owned (test n) (n, Deferred at c) (filter (λ e. test e.0) es)

-- the entries of one number, and those of all others
pub own_owned : (n : ℕ) (es : List (ℕ × Entry)) →
    runs.own (journal.asker owner) n (all_owned es) ≡ all_owned (filter (λ e. e.0 == n) es)
own_owned n es = filter_owned (λ m. m == n) es

pub others_owned : (n : ℕ) (es : List (ℕ × Entry)) →
    runs.others (journal.asker owner) n (all_owned es) ≡ all_owned (transactions.others n es)
others_owned n es = filter_owned (λ m. not (m == n)) es

-- what one number deferred
pub own_laters : (n : ℕ) (os : List (journal.Entry (ℕ × Event))) (es : List (ℕ × Entry)) →
    os ≡ all_owned es → journal.laters left (runs.own (journal.asker owner) n os) ≡
    journal.laters left (all_owned (filter (λ e. e.0 == n) es))
own_laters n os es is = ap (λ l. journal.laters left (runs.own (journal.asker owner) n l)) is ∙
    ap (journal.laters left) (own_owned n es)

-- a number without a call
none_by : (n k : ℕ) (b : Bool) (e : Event) (us : List (ℕ × Entry)) → (k == n) ≡ b →
    calls_of (map (λ e. e.1) (cond b ((k, Asked e) ∷ us) us)) ≡ [] →
    (k ≡ n → ⊥) × (calls_of (map (λ e. e.1) us) ≡ [])
none_by n k true e us is h = cc
none_by n k false e us is h = (differ k n is, h)

put_by : (b : Bool) (k at : ℕ) (c : Call) (us : List (ℕ × Entry)) →
    calls_of (map (λ e. e.1) (cond b ((k, Deferred at c) ∷ us) us)) ≡ [] →
    calls_of (map (λ e. e.1) us) ≡ []
put_by true k at c us h = h
put_by false k at c us h = h

pub no_call : (n : ℕ) (es : List (ℕ × Entry)) → log.HasNoCall n es →
    theory.HasNoCall owner n (all_owned es)
no_call n [] h = tt
no_call n ((k, Asked e) ∷ es) h =
    let r = none_by n k (k == n) e (filter (λ e. e.0 == n) es) refl h in (r.0, no_call n es r.1)
no_call n ((k, Deferred at c) ∷ es) h =
    no_call n es (put_by (k == n) k at c (filter (λ e. e.0 == n) es) h)

pub newest_call : (n : ℕ) (es : List (ℕ × Entry)) (x : Event) (rest : List (ℕ × Entry)) →
    log.IsNewestCall n es x rest → theory.IsNewestCall owner n (all_owned es) (n, x)
    (all_owned rest)
newest_call n es x rest new = record {
  before = all_owned new.before;
  after = all_owned new.after;
  is = ap all_owned new.is ∙ map-append (λ e. owned e.0 e.1) new.before ((n, Asked x) ∷ new.after);
  rest_is = ap all_owned new.rest_is ∙ map-append (λ e. owned e.0 e.1) new.before new.after;
  mine = refl;
  none_newer = no_call n new.after new.none_newer;
}
