-- What a line asks of a collection is told by its verb.
use Rattle.std.proofs.Common.{◌≡◌, ◌≢◌, ℕ, ◌<◌, ◌^◌}
use Rattle.std.proofs.Common.{List, [], ◌∷◌, ◌++◌, All, Option, Some, None, MatchOption}
use Rattle.std.proofs.Common.{IfOk, Result, Ok, Err, inl, inr, refl, sym, ◌∙◌, subst, ap}
use Rattle.std.proofs.Common.{codes, get_or, arith}
use Rattle.std.specs.Fmt.{decimal}
use Rattle.calls.specs.declared.call.Call.{Call}
use Rattle.calls.proofs.KindLaws.{whole_by_test}
use Rattle.script.specs.declared.action.Operation.{Operation}
use Rattle.script.specs.declared.operations.Verb.{Verb}
use Rattle.script.specs.ScriptTexts.{CanBeDone, verb_text, said, said_text, operation_text}
use Rattle.script.specs.ScriptTexts.{value_text, HasArguments, IsKey, IsPair, IsKeyOrPair}
use Rattle.script.proofs.ScriptWords.{not_whole, same_split, decimal_whole}

-- ---- what stands behind a verb

fits : (v w : Verb) (a b : List ℕ) →
    ◌≡◌ {A = Option (Verb × Option (List ℕ))} (Some (v, Some a)) (Some (w, Some b)) →
    HasArguments v a → HasArguments w b
fits v w a b same has =
    let pair : ◌≡◌ {A = Verb × Option (List ℕ)} (v, Some a) (w, Some b) = cc in
    let some : Some a ≡ Some b = ap (λ (x : Verb × Option (List ℕ)). x.1) pair in
    let verb : v ≡ w = ap (λ (x : Verb × Option (List ℕ)). x.0) pair in
    let behind : a ≡ b = cc in
    subst (λ u. HasArguments u b) verb (subst (HasArguments v) behind has)

one_of_two : (v w : Verb) (a : List ℕ) →
    ◌≡◌ {A = Option (Verb × Option (List ℕ))} (Some (v, None)) (Some (w, Some a)) → ⊥
one_of_two v w a same =
    let pair : ◌≡◌ {A = Verb × Option (List ℕ)} (v, None) (w, Some a) = cc in
    let none : None ≡ Some a = ap (λ (x : Verb × Option (List ℕ)). x.1) pair in
    cc

pub said_has : (o : Operation) (v : Verb) (args : List ℕ) → CanBeDone o →
    said o ≡ Some (v, Some args) → HasArguments v args
said_has (Operation.Remove k) v args can same =
    fits Verb.Remove v (decimal k) args same (k, can, refl)
said_has (Operation.Call (Call.Contains x)) v args can same =
    fits Verb.Contains v (decimal x) args same (x, can, refl)
said_has (Operation.Call (Call.SetAdd x)) v args can same =
    fits Verb.Add v (decimal x) args same (inl (x, can, refl))
said_has (Operation.Call (Call.SetRemove x)) v args can same = absurd can
said_has (Operation.Call (Call.Get k)) v args can same =
    fits Verb.Get v (decimal k) args same (k, can, refl)
said_has (Operation.Call (Call.Put k b)) v args can same =
    fits Verb.Put v (decimal k ++ 32 ∷ value_text b) args same (k, b, can.0, can.1, refl)
said_has (Operation.Call (Call.MapRemove k)) v args can same = absurd can
said_has (Operation.Call (Call.Ceiling k)) v args can same =
    fits Verb.Ceiling v (decimal k) args same (k, can, refl)
said_has (Operation.Call (Call.QueueAdd p g)) v args can same =
    fits Verb.Add v (decimal p ++ 32 ∷ decimal g) args same (inr (p, g, can.0, can.1, refl))
said_has (Operation.Call Call.Take) v args can same = absurd (one_of_two Verb.Take v args same)
said_has (Operation.Call Call.Least) v args can same = absurd (one_of_two Verb.Least v args same)
said_has (Operation.Call (Call.Pluck p g)) v args can same = absurd can
said_has (Operation.Call (Call.Bump n)) v args can same =
    fits Verb.Bump v _ args same (n, can, refl)
said_has (Operation.Call Call.Read) v args can same = absurd (one_of_two Verb.Read v args same)
said_has (Operation.Call Call.Draw) v args can same = absurd (one_of_two Verb.Draw v args same)
said_has (Operation.Call (Call.Release x)) v args can same =
    fits Verb.Release v (decimal x) args same (x, can, refl)
said_has (Operation.Call (Call.Free x)) v args can same = absurd can
said_has (Operation.Call (Call.Spend n)) v args can same =
    fits Verb.Spend v (decimal n) args same (inl (n, can, refl))
said_has (Operation.Call Call.Level) v args can same = absurd (one_of_two Verb.Level v args same)
said_has (Operation.Call (Call.Fill n)) v args can same = absurd can
said_has (Operation.Call Call.Pick) v args can same = absurd (one_of_two Verb.Pick v args same)
said_has (Operation.Call (Call.QuotaSpend k n)) v args can same =
    fits Verb.Spend v (decimal k ++ 32 ∷ decimal n) args same (inr (k, n, can.0, can.1, refl))
said_has (Operation.Call (Call.QuotaLevel k)) v args can same =
    fits Verb.Level v (decimal k) args same (k, can, refl)
said_has (Operation.Call (Call.QuotaFill k n)) v args can same =
    fits Verb.Fill v (decimal k ++ 32 ∷ decimal n) args same (k, n, can.0, can.1, refl)
said_has (Operation.Call (Call.Refund k n)) v args can same = absurd can

-- ---- one key, and two words

-- where there is no space a text is no pair, and so may be one key,
pub no_pair : (text : List ℕ) → All (λ b. b ≢ 32) text → IsPair text → ⊥
no_pair text whole has = not_whole 32 text (decimal has.0) (decimal has.1) has.4 whole

pub one_key : (text : List ℕ) → All (λ b. b ≢ 32) text → IsKeyOrPair text → IsKey text
one_key text whole (inl has) = has
one_key text whole (inr has) = absurd (no_pair text whole has)

-- and one key is no pair,
pub key_no_pair : (text : List ℕ) (k : ℕ) → k < 2 ^ 64 → text ≡ decimal k → IsPair text → ⊥
key_no_pair text k lt e = no_pair text (subst (All (λ b. b ≢ 32)) (sym e) (decimal_whole k lt))

-- and else two
pub two_keys : (text front back : List ℕ) → text ≡ front ++ 32 ∷ back → All (λ b. b ≢ 32) front →
    IsKeyOrPair text → IsKey front × IsKey back
two_keys text front back e first (inl has) =
    absurd (not_whole 32 text front back e
    (subst (All (λ b. b ≢ 32)) (sym has.2) (decimal_whole has.0 has.1)))
two_keys text front back e first (inr has) =
    let parts = same_split 32 (decimal has.0) (decimal has.1) front back (sym has.4 ∙ e)
    (decimal_whole has.0 has.2) first in
    ((has.0, has.2, sym parts.0), (has.1, has.3, sym parts.1))

pub put_pair : (text front back : List ℕ) → text ≡ front ++ 32 ∷ back → All (λ b. b ≢ 32) front →
    HasArguments Verb.Put text → IsKey front ×
    ((v : List ℕ) × All (λ b. b < 256) v × (back ≡ value_text v))
put_pair text front back e first has =
    let parts = same_split 32 (decimal has.0) (value_text has.1) front back (sym has.4 ∙ e)
    (decimal_whole has.0 has.2) first in
    ((has.0, has.2, sym parts.0), (has.1, has.3, sym parts.1))

pub put_space : (text : List ℕ) → All (λ b. b ≢ 32) text → HasArguments Verb.Put text → ⊥
put_space text whole has = not_whole 32 text (decimal has.0) (value_text has.1) has.4 whole

-- ---- the verb

pub verb_whole : (v : Verb) → All (λ b. b ≢ 32) (verb_text v)
verb_whole Verb.Contains = whole_by_test (codes "contains") refl
verb_whole Verb.Add = whole_by_test (codes "add") refl
verb_whole Verb.Remove = whole_by_test (codes "remove") refl
verb_whole Verb.Get = whole_by_test (codes "get") refl
verb_whole Verb.Put = whole_by_test (codes "put") refl
verb_whole Verb.Ceiling = whole_by_test (codes "ceiling") refl
verb_whole Verb.Take = whole_by_test (codes "take") refl
verb_whole Verb.Least = whole_by_test (codes "least") refl
verb_whole Verb.Bump = whole_by_test (codes "bump") refl
verb_whole Verb.Read = whole_by_test (codes "read") refl
verb_whole Verb.Draw = whole_by_test (codes "draw") refl
verb_whole Verb.Release = whole_by_test (codes "release") refl
verb_whole Verb.Spend = whole_by_test (codes "spend") refl
verb_whole Verb.Level = whole_by_test (codes "level") refl
verb_whole Verb.Pick = whole_by_test (codes "pick") refl
verb_whole Verb.Fill = whole_by_test (codes "fill") refl

-- each verb, in the order of the program's table
abbrev pub verbs : List Verb
verbs = Verb.Contains ∷ Verb.Add ∷ Verb.Remove ∷ Verb.Get ∷ Verb.Put ∷ Verb.Ceiling ∷
    Verb.Take ∷ Verb.Least ∷ Verb.Bump ∷ Verb.Read ∷ Verb.Draw ∷ Verb.Release ∷
    Verb.Spend ∷ Verb.Level ∷ Verb.Pick ∷ Verb.Fill ∷ []

-- a text that is none of the table's verbs is no verb
pub no_verb : (text : List ℕ) →
    ((k : ℕ) → k < 16 → text ≡ verb_text (get_or verbs k Verb.Add) → ⊥) → (v : Verb) →
    text ≡ verb_text v → ⊥
no_verb text none Verb.Contains = none 0 (omega arith)
no_verb text none Verb.Add = none 1 (omega arith)
no_verb text none Verb.Remove = none 2 (omega arith)
no_verb text none Verb.Get = none 3 (omega arith)
no_verb text none Verb.Put = none 4 (omega arith)
no_verb text none Verb.Ceiling = none 5 (omega arith)
no_verb text none Verb.Take = none 6 (omega arith)
no_verb text none Verb.Least = none 7 (omega arith)
no_verb text none Verb.Bump = none 8 (omega arith)
no_verb text none Verb.Read = none 9 (omega arith)
no_verb text none Verb.Draw = none 10 (omega arith)
no_verb text none Verb.Release = none 11 (omega arith)
no_verb text none Verb.Spend = none 12 (omega arith)
no_verb text none Verb.Level = none 13 (omega arith)
no_verb text none Verb.Pick = none 14 (omega arith)
no_verb text none Verb.Fill = none 15 (omega arith)

-- ---- operations

-- each operation that can be done is said
can_said : (o : Operation) → CanBeDone o → said o ≡ None → ⊥
can_said (Operation.Remove k) can e = cc
can_said (Operation.Call (Call.Contains x)) can e = cc
can_said (Operation.Call (Call.SetAdd x)) can e = cc
can_said (Operation.Call (Call.SetRemove x)) can e = can
can_said (Operation.Call (Call.Get k)) can e = cc
can_said (Operation.Call (Call.Put k b)) can e = cc
can_said (Operation.Call (Call.MapRemove k)) can e = can
can_said (Operation.Call (Call.Ceiling k)) can e = cc
can_said (Operation.Call (Call.QueueAdd p g)) can e = cc
can_said (Operation.Call Call.Take) can e = cc
can_said (Operation.Call Call.Least) can e = cc
can_said (Operation.Call (Call.Pluck p g)) can e = can
can_said (Operation.Call (Call.Bump n)) can e = cc
can_said (Operation.Call Call.Read) can e = cc
can_said (Operation.Call Call.Draw) can e = cc
can_said (Operation.Call (Call.Release x)) can e = cc
can_said (Operation.Call (Call.Free x)) can e = can
can_said (Operation.Call (Call.Spend n)) can e = cc
can_said (Operation.Call Call.Level) can e = cc
can_said (Operation.Call (Call.Fill n)) can e = can
can_said (Operation.Call Call.Pick) can e = cc
can_said (Operation.Call (Call.QuotaSpend k n)) can e = cc
can_said (Operation.Call (Call.QuotaLevel k)) can e = cc
can_said (Operation.Call (Call.QuotaFill k n)) can e = cc
can_said (Operation.Call (Call.Refund k n)) can e = can

nothing_else : (word rest : List ℕ) → word ++ 32 ∷ rest ≡ [] → ⊥
nothing_else [] rest e = cc
nothing_else (b ∷ word) rest e = cc

-- a text with a space says a verb and what stands behind it,
spaced : (s : Option (Verb × Option (List ℕ))) (text word rest : List ℕ) →
    text ≡ word ++ 32 ∷ rest → All (λ b. b ≢ 32) word → text ≡ said_text s →
    (v : Verb) × (s ≡ Some (v, Some rest)) × (word ≡ verb_text v)
spaced None text word rest e whole is = absurd (nothing_else word rest (sym e ∙ is))
spaced (Some (v, None)) text word rest e whole is =
    absurd (not_whole 32 text word rest e (subst (All (λ b. b ≢ 32)) (sym is) (verb_whole v)))
spaced (Some (v, Some args)) text word rest e whole is =
    let parts = same_split 32 (verb_text v) args word rest (sym is ∙ e) (verb_whole v) whole in
    (v, ap (λ t. Some (v, Some t)) parts.1, sym parts.0)

-- and one without a verb alone
unspaced : (s : Option (Verb × Option (List ℕ))) (text : List ℕ) → All (λ b. b ≢ 32) text →
    text ≡ said_text s → (s ≡ None → ⊥) → (v : Verb) × (s ≡ Some (v, None)) × (text ≡ verb_text v)
unspaced None text whole is some = absurd (some refl)
unspaced (Some (v, None)) text whole is some = (v, refl, is)
unspaced (Some (v, Some args)) text whole is some =
    absurd (not_whole 32 text (verb_text v) args is whole)

pub after_gives : {E : Type 0} (r : Result (Option Operation) E) (text word rest : List ℕ) →
    text ≡ word ++ 32 ∷ rest → All (λ b. b ≢ 32) word →
    IfOk r (λ found. MatchOption found ((v : Verb) → word ≡ verb_text v → HasArguments v rest → ⊥)
    (λ o. CanBeDone o × (operation_text o ≡ word ++ 32 ∷ rest))) →
    IfOk r (λ found. MatchOption found ((o : Operation) → CanBeDone o → text ≡ operation_text o → ⊥)
    (λ o. CanBeDone o × (text ≡ operation_text o)))
after_gives (Ok None) text word rest e whole none = λ o can is.
    let parts = spaced (said o) text word rest e whole is in
    none parts.0 parts.2 (said_has o parts.0 rest can parts.1)
after_gives (Ok (Some o)) text word rest e whole some = (some.0, e ∙ sym some.1)
after_gives (Err why) text word rest e whole h = tt

pub alone_gives : (found : Option Operation) (text : List ℕ) → All (λ b. b ≢ 32) text →
    MatchOption found ((v : Verb) (o : Operation) → text ≡ verb_text v → CanBeDone o →
    said o ≡ Some (v, None) → ⊥) (λ o. CanBeDone o × (operation_text o ≡ text)) →
    MatchOption found ((o : Operation) → CanBeDone o → text ≡ operation_text o → ⊥)
    (λ o. CanBeDone o × (text ≡ operation_text o))
alone_gives None text whole none = λ o can is.
    let parts = unspaced (said o) text whole is (can_said o can) in
    none parts.0 o parts.2 can parts.1
alone_gives (Some o) text whole some = (some.0, sym some.1)
